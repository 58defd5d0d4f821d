-- What a position that is changed in place keeps.
use Rattle.std.specs.Prelude.{◌≡◌, ℕ, ◌-◌, ◌<◌, ◌≤◌, true, List, [], ◌∷◌, length, reverse, slice_set, slice_get, slice_index, slice_index_or, Some, ⊤}
use Rattle.crp_plan.specs.Rows.{holds}
use Rattle.crp_plan.specs.Bay.{Position, IsSound}
use Rattle.crp_bay.specs.Positions.{top, source, stack_at, can_shift, child}
use Rattle.crp_bay.specs.Reached.{IsReached}
use Rattle.crp_bay.specs.declared.push.Push.{Push}

-- each rank that stands is at most 96, and its row is known
pub record IsLocated (rows : List ℕ) (s : Position) : Type 0 where
  pub sound : IsSound s
  pub row_is : (x i : ℕ) (stack : List ℕ) → slice_get s.stacks i ≡ Some stack → holds x stack ≡ true → (x ≤ 96) × (slice_index rows x ≡ i)
  pub low : (i : ℕ) (stack : List ℕ) → slice_get s.stacks i ≡ Some stack → length stack ≤ 8
  pub all_ranks : length rows ≡ 97

-- the rank that a shift moves
abbrev pub moved : Position → ℕ
moved s = top (stack_at s (source s))

-- the push led from t, where these rows were known, to s
pub record WentBy (u : Push) (rows_t rows : List ℕ) (t s : Position) : Type 0 where
  pub row : ℕ
  pub can : can_shift t row ≡ true
  pub is_child : s ≡ child t row
  pub from_is : u.from ≡ source t
  pub to_is : u.to ≡ row - 1
  pub next_is : u.next ≡ t.next
  pub rows_are : rows ≡ slice_set rows_t (moved t) (row - 1)

-- the pushes, the latest first, led here one after the other from a reached position
abbrev pub AreUndoable : List Push → List ℕ → Position → Type 0
AreUndoable [] rows s = ⊤
AreUndoable (u ∷ pushes) rows s =
    (t : Position) × (rows_t : List ℕ) × (r : IsReached t) × WentBy u rows_t rows t s × IsLocated rows_t t × (length pushes ≤ length r.path) × AreUndoable pushes rows_t t

pub record IsKeptPosition (pushes : List Push) (rows : List ℕ) (s : Position) : Type 0 where
  pub reached : IsReached s
  pub located : IsLocated rows s
  pub few : length pushes ≤ length reached.path
  pub undoable : AreUndoable (reverse pushes) rows s

-- one can go back from here by a take
pub record StepsBack (rows : List ℕ) (s : Position) : Type 0 where
  pub counts : 1 ≤ s.next
  pub rank : s.next - 1 ≤ 96
  pub there : slice_index rows (s.next - 1) < length s.stacks
  pub room : length (slice_index_or s.stacks (slice_index rows (s.next - 1)) []) < 8

-- the rows of the ranks that stand in the first stacks
abbrev pub AreRowsOf : ℕ → List (List ℕ) → List ℕ → Type 0
AreRowsOf n stacks rows = (x i : ℕ) (stack : List ℕ) → i < n → slice_get stacks i ≡ Some stack → holds x stack ≡ true → slice_index rows x ≡ i
