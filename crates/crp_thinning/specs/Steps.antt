-- The steps on the way to a thinned position, and how it goes back by them.
use Rattle.std.specs.Prelude.{◌≡◌, ℕ, suc, ◌+◌, ◌-◌, ◌<◌, ◌≤◌, Bool, true, false, List, [], ◌∷◌, ◌++◌, length, All, slice_set, slice_index_or, ⊤}
use Rattle.crp_plan.specs.Rows.{occurrences, FitRows}
use Rattle.crp_plan.specs.Bay.{Position}
use Rattle.crp_bay.specs.Positions.{without_top, stack_at}
use Rattle.crp_bay.specs.Back.{shift_back}
use Rattle.crp_bounds.specs.Bounds.{blocking}
use Rattle.crp_thinned.specs.Missing.{IsSoundlyThin}
use Rattle.crp_thinning.specs.declared.step.Step.{Step}
use Rattle.crp_thinning.specs.declared.step.Step.TheVariants.{Took, Passed, Put, Lifted}

-- a position and the steps that led to it, the latest first
pub record PlaceAndSteps : Type 0 where
  pub place : Position
  pub steps : List Step

-- before the step
abbrev pub before : Step → Position → Position
before (Took row) s = record s { next = s.next - 1; stacks = slice_set s.stacks row (stack_at s row ++ (s.next - 1) ∷ []) }
before Passed s = record s { next = s.next - 1 }
before (Put from to) s = shift_back from to s
before (Lifted from rank) s = record s { stacks = slice_set s.stacks from (stack_at s from ++ rank ∷ []) }

-- the step is a relocation or a lift
abbrev pub is_move : Step → Bool
is_move (Took row) = false
is_move Passed = false
is_move (Put from to) = true
is_move (Lifted from rank) = true

-- the positions before each relocation and each lift, the latest first
abbrev pub trail_of : List Step → Position → List Position
trail_of [] s = []
trail_of (Took row ∷ steps) s = trail_of steps (before (Took row) s)
trail_of (Passed ∷ steps) s = trail_of steps (before Passed s)
trail_of (Put from to ∷ steps) s = before (Put from to) s ∷ trail_of steps (before (Put from to) s)
trail_of (Lifted from rank ∷ steps) s = before (Lifted from rank) s ∷ trail_of steps (before (Lifted from rank) s)

-- what holds of each position on the way, after so many steps
pub record IsFine (count : ℕ) (s : Position) : Type 0 where
  pub few_rows : length s.heights ≤ 12
  pub low : All (λ height. height ≤ 8) s.heights
  pub few_ordered : s.ordered ≤ 96
  pub stacks_fit : FitRows s.heights s.stacks
  pub once : (x : ℕ) → occurrences x s.stacks ≤ 1
  pub ranks : (x : ℕ) → 1 ≤ occurrences x s.stacks → x ≤ 96
  pub gone : (x : ℕ) → x < s.next → occurrences x s.stacks ≡ 0
  pub within : s.next ≤ s.ordered + 1
  pub few : count + blocking s ≤ 96 + s.next

-- one can go back by the step
abbrev pub GoesBack : Step → Position → Type 0
GoesBack (Took row) s = (1 ≤ s.next) × (row < length s.stacks) × (length (stack_at s row) < 8)
GoesBack Passed s = 1 ≤ s.next
GoesBack (Put from to) s =
    (to < length s.stacks) × (0 < length (stack_at s to)) × (from < length s.stacks) × (length (slice_index_or (slice_set s.stacks to (without_top (stack_at s to))) from []) < 8) × IsSoundlyThin (before (Put from to) s)
GoesBack (Lifted from rank) s = (from < length s.stacks) × (length (stack_at s from) < 8) × IsSoundlyThin (before (Lifted from rank) s)

-- the steps, the latest first, led here
abbrev pub AreKept : List Step → Position → Type 0
AreKept [] s = IsFine 0 s
AreKept (step ∷ steps) s = IsFine (suc (length steps)) s × GoesBack step s × AreKept steps (before step s)

-- the blocking bounds of the positions before: each is one more than that of the position after it, the first one more than so many
abbrev pub AreFreed : ℕ → List Position → Type 0
AreFreed count [] = ⊤
AreFreed count (s ∷ trail) = (count + 1 ≡ blocking s) × (count < 96) × AreFreed (count + 1) trail

-- a thinned position between relocations, with so many of them to undo, and with this blocking bound
pub record IsThinTrack (depth count : ℕ) (track : PlaceAndSteps) : Type 0 where
  pub thin : IsSoundlyThin track.place
  pub deep : depth ≡ length (trail_of track.steps track.place)
  pub blocks : count ≡ blocking track.place
  pub few : count ≤ 96
  pub freed : AreFreed count (trail_of track.steps track.place)
