use Rattle.std.proofs.Common.{[], ◌∷◌, arith}
use Rattle.crp_callers.proofs.ways.behind_the_first_row.Goals as goal

pub returns-clause-blocking : goal.returns-clause-blocking
returns-clause-blocking c = λ p row after s moves is at plan begins. omega (arith, c.plans_pass.ensures.blocking p (row ∷ []) after s moves is at plan begins)

pub returns-clause-look_ahead : goal.returns-clause-look_ahead
returns-clause-look_ahead c = λ p row after s moves is at plan begins. omega (arith, c.plans_pass.ensures.look_ahead p (row ∷ []) after s moves is at plan begins)
