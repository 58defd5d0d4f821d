-- How a position that is changed in place goes back. `rows` has for each rank the row, from 0, where it stands, or stood when it left.
use Rattle.std.specs.Prelude.{ℕ, zero, suc, ◌-◌, List, [], ◌∷◌, ◌++◌, slice_set, slice_index, slice_index_or}
use Rattle.crp_plan.specs.Bay.{Position}
use Rattle.crp_bay.specs.Positions.{top, without_top, stack_at}
use Rattle.crp_bay.specs.declared.push.Push.{Push}

-- a position, and the positions before the pushes that are not undone, the latest first
pub record PlaceAndTrail : Type 0 where
  pub place : Position
  pub trail : List Position

abbrev pub place_of : List ℕ → ℕ → ℕ → List (List ℕ) → Position
place_of heights ordered next stacks = record { heights = heights; ordered = ordered; next = next; stacks = stacks }

-- the container that left last stands again where it stood
abbrev pub put_back : List ℕ → Position → Position
put_back rows s =
    record s { next = s.next - 1; stacks = slice_set s.stacks (slice_index rows (s.next - 1)) (stack_at s (slice_index rows (s.next - 1)) ++ (s.next - 1) ∷ []) }

-- so many of them do
abbrev pub all_back : List ℕ → ℕ → Position → Position
all_back rows zero s = s
all_back rows (suc n) s = put_back rows (all_back rows n s)

-- the top of one row, from 0, goes back to another
abbrev pub shift_back : ℕ → ℕ → Position → Position
shift_back from to s =
    record s {
      stacks = slice_set (slice_set s.stacks to (without_top (stack_at s to))) from
          (slice_index_or (slice_set s.stacks to (without_top (stack_at s to))) from [] ++ top (stack_at s to) ∷ []);
    }

-- before the takes that a push made
abbrev pub unsettled : List ℕ → Push → Position → Position
unsettled rows u s = all_back rows (s.next - u.next) s

-- before a push
abbrev pub undone : List ℕ → Push → Position → Position
undone rows u s = shift_back u.from u.to (unsettled rows u s)

-- the rows of the ranks before a push
abbrev pub rows_before : List ℕ → Push → Position → List ℕ
rows_before rows u s = slice_set rows (top (stack_at (unsettled rows u s) u.to)) u.from

-- the positions before each of the pushes, the latest first
abbrev pub trail_of : List Push → List ℕ → Position → List Position
trail_of [] rows s = []
trail_of (u ∷ pushes) rows s = undone rows u s ∷ trail_of pushes (rows_before rows u s) (undone rows u s)
