-- What is kept while the problems are stated. Only private clauses speak of it.
use Rattle.std.specs.Prelude.{◌≡◌, ◌<◌, ◌≤◌, ◌==◌, ℕ, Bool, true, false, not, List, [], ◌++◌, length, map, filter, Option, Some, None, IfSome, slice_get, unwrap_or, if◌then◌else◌}
use Rattle.std.specs.Option.{option_map_or}
use Rattle.std.specs.Map.{lookup}
use Rattle.std.specs.Str.{bytes_eq}
use denote.Ref.{Bor}
use Rattle.crp_plan.specs.Faults.{stated_with}
use Rattle.crp_yard.specs.Inventory.{Inventory, StackedBay, is_among, times, name_at, heights_in_bay}
use Rattle.crp_order.specs.declared.bay_problem.BayProblem.{BayProblem}
use Rattle.crp_order.specs.BayProblems.{standing, leaving, ranks_in}

-- the stacks of the bay with this number, from 0
abbrev pub stacks_numbered : Inventory → ℕ → List (List (List ℕ))
stacks_numbered yard i = option_map_or (λ bay. bay.1) (slice_get yard.bays i) []

-- the heights of its rows
abbrev pub heights_numbered : Inventory → ℕ → List ℕ
heights_numbered yard i = unwrap_or (heights_in_bay yard i) []

-- what references point to
abbrev pub pointed : {X : Type 0} → List (Bor X) → List X
pointed references = map (λ reference. reference.now) references

-- these containers leave the bay, and then come those of the bay that do not
abbrev pub names_behind : List (List ℕ) → List (List (List ℕ)) → List (List ℕ)
names_behind left stacks = left ++ filter (λ container. not (is_among left container)) (standing stacks)

-- the number that is kept of a container
abbrev pub kept_of : List (Bor (List ℕ) × ℕ) → List ℕ → Option ℕ
kept_of entries container = lookup (λ key. bytes_eq container key.now) entries

-- the number is this one
abbrev pub is_index : Option ℕ → ℕ → Bool
is_index None j = false
is_index (Some i) j = i == j

-- of each container the number is kept of the bay in which it stands, and of no other, as far as the first n bays go
pub record ArePlaced (n : ℕ) (bays : List StackedBay) (entries : List (Bor (List ℕ) × ℕ)) : Type 0 where
  pub standing_there : (container : Bor (List ℕ)) (j : ℕ) (bay : StackedBay) → j < n → slice_get bays j ≡ Some bay
      → is_among (standing bay.1) container.now ≡ is_index (kept_of entries container.now) j
  pub number_is_low : (container : Bor (List ℕ)) → IfSome (kept_of entries container.now) (λ i. i < n)

-- the number is kept of each of the containers, and of the others what was kept
abbrev pub Places : List (Bor (List ℕ) × ℕ) → List (Bor (List ℕ) × ℕ) → List (List ℕ) → ℕ → Type 0
Places old new containers i = (container : Bor (List ℕ)) → kept_of new container.now ≡ (if is_among containers container.now then Some i else kept_of old container.now)

-- for each bay the containers that leave it, as the sequence has them
pub record AreGroups (sequence : List (List ℕ)) (bays : List StackedBay) (groups : List (List (List ℕ))) : Type 0 where
  pub one_for_each : length groups ≡ length bays
  pub leaving_there : (j : ℕ) (bay : StackedBay) → slice_get bays j ≡ Some bay → slice_get groups j ≡ Some (leaving sequence bay.1)

-- these containers stand in the bay, none of them twice
pub record CanLeave (left : List (List ℕ)) (stacks : List (List (List ℕ))) : Type 0 where
  pub there : (container : List ℕ) → is_among left container ≡ true → is_among (standing stacks) container ≡ true
  pub once : (container : List ℕ) → times container left ≤ 1

-- the problem of the bay with this number, which these containers leave in this order
pub record IsStated (yard : Inventory) (i : ℕ) (left : List (List ℕ)) (made : BayProblem) : Type 0 where
  pub bay : name_at yard i ≡ Some made.bay
  pub names : made.names ≡ names_behind left (stacks_numbered yard i)
  pub problem : made.problem ≡ stated_with (heights_numbered yard i) (length left) (ranks_in (names_behind left (stacks_numbered yard i)) (stacks_numbered yard i))
