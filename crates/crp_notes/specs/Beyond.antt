-- The sizes of the bays of a yard, the places of the bays of one size beyond which nothing stands, and the plans that use such places.
use Rattle.std.specs.Prelude.{ℕ, suc, ◌+◌, ◌-◌, nat_lt, Bool, false, ◌==◌, ◌&&◌, ◌||◌, List, [], ◌∷◌, ◌++◌, length, map, filter, fold, count_by, slice_get, unwrap_or, Option, Some, None, if◌then◌else◌}
use Rattle.std.specs.List.{list_any}
use Rattle.std.specs.Str.{bytes_eq}
use Rattle.crp_plan.specs.declared.moves.Move.{Move}
use Rattle.crp_plan.specs.declared.moves.Move.TheVariants.{Shift, Take}
use Rattle.crp_plan.specs.Bay.{Problem}
use Rattle.crp_plan.specs.BayNames.{YardBay}
use Rattle.crp_plan.specs.Rows.{tallest}
use Rattle.crp_sizes.specs.Sizes.{heights_at}
use Rattle.crp_yard.specs.Inventory.{Inventory, StackedBay}
use Rattle.crp_notes.specs.Wording.{beyond_note}

-- the heights of the rows of a bay of the yard
abbrev pub size_of : Inventory → StackedBay → List ℕ
size_of yard bay = heights_at yard.sizes bay.0

-- with one size more, unless it is there
abbrev pub with_size : List (List ℕ) → List ℕ → List (List ℕ)
with_size sizes heights = if list_any (λ size. bytes_eq size heights) sizes then sizes else sizes ++ heights ∷ []

-- the sizes of these bays, each once, in the order in which they come first
abbrev pub sizes_of : Inventory → List StackedBay → List (List ℕ)
sizes_of yard bays = fold with_size [] (map (size_of yard) bays)

-- those of these bays that have this size
abbrev pub of_size : Inventory → List ℕ → List StackedBay → List StackedBay
of_size yard heights bays = filter (λ bay. bytes_eq (size_of yard bay) heights) bays

-- the last row in which a container stands, and the highest tier at which one does, both from 1; 0 where none stands
abbrev pub last_row : List (List (List ℕ)) → ℕ
last_row [] = 0
last_row (stack ∷ stacks) = if nat_lt 0 (last_row stacks) then suc (last_row stacks) else (if nat_lt 0 (length stack) then 1 else 0)

abbrev pub top_tier : List (List (List ℕ)) → ℕ
top_tier stacks = tallest (map length stacks)

-- the greatest of those of several bays
abbrev pub last_row_of : List StackedBay → ℕ
last_row_of bays = tallest (map (λ bay. last_row bay.1) bays)

abbrev pub top_tier_of : List StackedBay → ℕ
top_tier_of bays = tallest (map (λ bay. top_tier bay.1) bays)

-- a bay that is planned: its name, its problem, and the moves of its plan
pub record Planned : Type 0 where
  pub bay : YardBay
  pub problem : Problem
  pub moves : List Move

-- the move puts a container into this row; it lifts one from this row
abbrev pub puts_into : ℕ → Move → Bool
puts_into row (Shift from to) = to == row
puts_into row (Take from) = false

abbrev pub lifts_from : ℕ → Move → Bool
lifts_from row (Shift from to) = from == row
lifts_from row (Take from) = from == row

-- how many containers stand in a row behind these moves: those that stood there in the beginning and those that were put there, without those
-- that were lifted from there
abbrev pub standing_in : List (List ℕ) → List Move → ℕ → ℕ
standing_in stacks moves row = (length (unwrap_or (slice_get stacks (row - 1)) []) + count_by (puts_into row) moves) - count_by (lifts_from row) moves

-- behind these moves this one puts a container into a row beyond this one, or above this tier
abbrev pub lands_beyond : ℕ → ℕ → List (List ℕ) → List Move → Move → Bool
lands_beyond row tier stacks before (Shift from to) = nat_lt row to || nat_lt tier (standing_in stacks before to + 1)
lands_beyond row tier stacks before (Take from) = false

-- so does one of these moves, which are made behind those before
abbrev pub go_beyond : ℕ → ℕ → List (List ℕ) → List Move → List Move → Bool
go_beyond row tier stacks before [] = false
go_beyond row tier stacks before (m ∷ moves) = lands_beyond row tier stacks before m || go_beyond row tier stacks (before ++ m ∷ []) moves

-- those of the planned bays that have this size, and whose plans put a container into a row beyond this one, or above this tier
abbrev pub planned_beyond : List ℕ → ℕ → ℕ → List Planned → List YardBay
planned_beyond heights row tier planned =
    map (λ p. p.bay) (filter (λ p. bytes_eq p.problem.heights heights && go_beyond row tier p.problem.stacks [] p.moves) planned)

-- the note on such bays, if there are some
abbrev pub note_if_some : List ℕ → ℕ → ℕ → List YardBay → Option (List ℕ)
note_if_some heights row tier [] = None
note_if_some heights row tier (bay ∷ bays) = Some (beyond_note heights bay (length (bay ∷ bays)) row tier)

-- the note on the bays of one size of a yard when these bays were planned, if there is one
abbrev pub note_on : Inventory → List Planned → List ℕ → Option (List ℕ)
note_on yard planned heights =
    let bays = of_size yard heights yard.bays in
    note_if_some heights (last_row_of bays) (top_tier_of bays) (planned_beyond heights (last_row_of bays) (top_tier_of bays) planned)
