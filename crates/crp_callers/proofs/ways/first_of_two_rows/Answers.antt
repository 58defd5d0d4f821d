use Rattle.std.proofs.Common.{[], ◌∷◌}
use Rattle.crp_callers.proofs.ways.first_of_two_rows.Goals as goal

pub returns : goal.returns
returns c = λ p row next t is at. c.paths_have_fronts.ensures p (row ∷ []) (next ∷ []) t is at
