use Rattle.std.proofs.Common.{[], ◌∷◌, arith}
use Rattle.std.proofs.lemmas.List.{length-append}
use Rattle.crp_callers.proofs.ways.one_row_more.Goals as goal

pub returns-clause-blocking : goal.returns-clause-blocking
returns-clause-blocking c = λ p path row s t is here there. omega (arith, c.paths_grow.ensures.blocking p path row s t is here there, length-append path (row ∷ []))

pub returns-clause-look_ahead : goal.returns-clause-look_ahead
returns-clause-look_ahead c = λ p path row s t is here there. omega (arith, c.paths_grow.ensures.look_ahead p path row s t is here there, length-append path (row ∷ []))
