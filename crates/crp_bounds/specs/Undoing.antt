-- What a position with its bounds keeps for each push that is not undone.
use Rattle.std.specs.Prelude.{◌≤◌, ℕ, List, [], ◌∷◌, slice_set}
use Rattle.crp_plan.specs.Bay.{Position}
use Rattle.crp_bounds.specs.Leasts.{KnowsBounds}
use Rattle.crp_bounds.specs.declared.undo.Undo.{Undo}

-- the bounds are known, and so they are of each position before a push, the latest first, once what was kept of it is written back
abbrev pub KnowsAll : List Undo → List Position → List ℕ → ℕ → Position → Type 0
KnowsAll [] [] leasts count s = KnowsBounds leasts count s
KnowsAll [] (t ∷ trail) leasts count s = ⊥
KnowsAll (u ∷ undos) [] leasts count s = ⊥
KnowsAll (u ∷ undos) (t ∷ trail) leasts count s =
    KnowsBounds leasts count s × (u.rank ≤ 96) × KnowsAll undos trail (slice_set leasts u.rank u.least) u.blocking t
