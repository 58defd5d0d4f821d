use Rattle.std.proofs.Common.{◌≡◌, length, IfOk, IfErr, sym, ◌∙◌, subst}
use Rattle.std.specs.Result.{IsErrAnd}
use Rattle.crp_solve.specs.declared.answer.Cause.{Cause}
use Rattle.crp_solve.specs.Chosen.{is_timed}
use Rattle.crp_solve.specs.Firsts.{IsFoundFirst, IsGivenUp}
use Rattle.crp_solve.proofs.FirstAnswers.{first_is_true, stays_is_true, cause_of_time}
use Rattle.crp_solve.proofs.second.answer_with_second.Goals as goal

pub returns-in-Ok-clause-solved : goal.returns-in-Ok-clause-solved
returns-in-Ok-clause-solved c p chosen asked known found given =
    let best = c.args.best in let first = c.in-Ok.first in
    first_is_true p chosen best first.plan first.cert first.expanded (length best.plan.path) asked known
    (subst (λ o. IfOk o (λ f. IsFoundFirst p chosen.budget (length best.plan.path) f.plan f.cert f.expanded)) c.in-Ok.is found)

pub returns-in-Err-clause-solved : goal.returns-in-Err-clause-solved
returns-in-Err-clause-solved c p chosen asked known found given =
    let best = c.args.best in let end = c.in-Err.end in
    stays_is_true p chosen best end.expanded end.cause c.given_up_for.result c.given_up_for.ensures asked known
    (subst (λ o. IfErr o (λ e. IsGivenUp chosen.budget (is_timed chosen.time) e.cause e.expanded)) c.in-Err.is given)

pub returns-in-Err-clause-time : goal.returns-in-Err-clause-time
returns-in-Err-clause-time c is =
    subst (λ o. IsErrAnd o (λ e. e.cause ≡ Cause.Time)) (sym c.in-Err.is) (cause_of_time c.in-Err.end.cause (sym c.given_up_for.ensures ∙ is))
