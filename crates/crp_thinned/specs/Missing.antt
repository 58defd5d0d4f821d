-- How a thinned position lies within a real one.
use Rattle.std.specs.Prelude.{◌≡◌, ℕ, ◌+◌, ◌<◌, ◌≤◌, Bool, true, false, List, [], ◌∷◌, ◌++◌, map, filter, All, Contains, ⊤}
use Rattle.std.specs.List.{list_all}
use Rattle.crp_plan.specs.Rows.{occurrences, FitRows}
use Rattle.crp_plan.specs.Bay.{Position, IsTaken}
use Rattle.crp_bounds.specs.Bounds.{holds_lower}
use Rattle.crp_thinned.specs.Thinned.{good_rows, child_at, child_without}

-- what is left of s where the containers whose ranks pass `keep` stay, and the others are missing; `next` is the rank whose turn it is then
abbrev pub left_of : (ℕ → Bool) → ℕ → Position → Position
left_of keep next s = record { heights = s.heights; ordered = s.ordered; next = next; stacks = map (filter keep) s.stacks }

-- of the containers of a list, where `under` stands below it: each that stays, and has a missing one below it, has a lower rank than every ordered
-- one below it; so it does not block
abbrev pub SitsLow : (ℕ → Bool) → ℕ → List ℕ → List ℕ → Type 0
SitsLow keep ordered under [] = ⊤
SitsLow keep ordered under (x ∷ stack) =
    (keep x ≡ true → list_all keep under ≡ false → holds_lower ordered x under ≡ false) × SitsLow keep ordered (under ++ x ∷ []) stack

-- nothing leaves by itself, though ranks may be missing: those before `next` are not there, `next` is, where it is to leave at all, and not on top
pub record IsSettled (s : Position) : Type 0 where
  pub gone : (x : ℕ) → x < s.next → occurrences x s.stacks ≡ 0
  pub there : s.next ≤ s.ordered → 1 ≤ occurrences s.next s.stacks
  pub no_take : (row : ℕ) (t : Position) → IsTaken s row t → ⊥

-- what holds in each thinned position: no stack is above its height, no rank stands in two places, and nothing leaves by itself
pub record IsSoundlyThin (s : Position) : Type 0 where
  pub stacks_fit : FitRows s.heights s.stacks
  pub once : (x : ℕ) → occurrences x s.stacks ≤ 1
  pub settled : IsSettled s

-- t is what is left of s where some containers are missing, and those that stay above a missing one block nothing; and t is settled
pub record IsThinned (s t : Position) : Type 0 where
  pub keep : ℕ → Bool
  pub is_left : t ≡ left_of keep t.next s
  pub low : All (SitsLow keep s.ordered []) s.stacks
  pub settled : IsSettled t

-- a bound that cuts below a thinned branch, or one with one tree, may rest on: over thinned positions it falls by at most what each step counts, and it is
-- 0 where nothing is left to leave
pub record FallsSlowly (bound : Position → ℕ) : Type 0 where
  pub row : (s : Position) (row : ℕ) → IsSoundlyThin s → Contains (good_rows s) row → bound s ≤ 1 + bound (child_at s row)
  pub without : (s : Position) → IsSoundlyThin s → s.next ≤ s.ordered → bound s ≤ 2 + bound (child_without s)
  pub end : (s : Position) → IsSoundlyThin s → s.ordered < s.next → bound s ≡ 0
