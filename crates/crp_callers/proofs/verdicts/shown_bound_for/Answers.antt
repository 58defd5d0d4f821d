use Rattle.std.proofs.Common.{◌∙◌, sym}
use Rattle.crp_callers.proofs.verdicts.shown_bound_for.Goals as goal

pub returns-clause-none : goal.returns-clause-none
returns-clause-none c = λ is moves plan. c.in-Ok-check_for.ensures.none c.in-Ok.head moves c.in-Ok.ensures.found (sym c.bound.ensures ∙ is) plan
