-- The complete plan of the small bay.
use Rattle.std.specs.Prelude.{List, [], ◌∷◌}
use Rattle.crp_plan.specs.declared.moves.Move.{Move}
use Rattle.crp_plan.specs.declared.moves.Move.TheVariants.{Shift, Take}
use Rattle.crp_plan.specs.Bay.{Position}

-- container 3 goes onto container 2 and back, and containers 1 and 2 leave
abbrev pub small_plan : List Move
small_plan = Shift 1 2 ∷ Take 1 ∷ Shift 2 1 ∷ Take 2 ∷ []

-- where it ends: container 3 stands alone
abbrev pub small_end : Position
small_end = record { heights = 2 ∷ 2 ∷ []; ordered = 2; next = 3; stacks = (3 ∷ []) ∷ [] ∷ [] }
