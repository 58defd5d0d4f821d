use Rattle.std.proofs.Common.{◌∙◌, sym}
use Rattle.crp_callers.proofs.verdicts.shown_bound.Goals as goal

pub returns-clause-none : goal.returns-clause-none
returns-clause-none c =
    let head = c.in-Ok.head in (head, c.in-Ok.ensures.found, λ is moves plan. c.in-Ok-check.ensures.none head moves c.in-Ok.ensures.found (sym c.bound.ensures ∙ is) plan)
