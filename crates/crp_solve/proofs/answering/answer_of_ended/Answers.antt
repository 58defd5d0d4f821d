use Rattle.std.proofs.Common.{◌≡◌, ◌<◌, ◌≤◌, length, None, Some, sym, ap, subst, arith}
use Rattle.crp_solve.specs.declared.answer.Answer.TheVariants.{Between}
use Rattle.crp_solve.specs.Answers.{path_in, count_of, EachIsBranch, IsTrueAnswer}
use Rattle.crp_solve.specs.Searches.{IsShown}
use Rattle.crp_solve.specs.Solved.{ComesOf}
use Rattle.crp_solve.proofs.TrueAnswers.{optimal_is_true, no_plan_is_true}
use Rattle.crp_solve.proofs.SearchesEnded.{ended_is_true, between_comes, between_branches}
use Rattle.crp_solve.proofs.answering.answer_of_ended.Goals as goal

pub returns-then-lower-count_of-clause-true_answer : goal.returns-then-lower-count_of-clause-true_answer
returns-then-lower-count_of-clause-true_answer c budget expanded w =
    let below : c.args.cert.lower < count_of c.args.problem.now (path_in c.args.best) = omega (arith, c.lower-lower.ensures.value, c.count_of.ensures.value) in
    subst (λ n. IsTrueAnswer c.args.problem.now budget (Between n c.args.cert c.args.best c.cause_by.result) expanded) (sym c.lower-lower.ensures.value)
    (subst (λ why. IsTrueAnswer c.args.problem.now budget (Between c.args.cert.lower c.args.cert c.args.best why) expanded) (sym c.cause_by.ensures)
    (ended_is_true c.args.problem.now budget c.args.cert c.args.best expanded c.args.stopped w below))

pub returns-then-lower-count_of-clause-comes : goal.returns-then-lower-count_of-clause-comes
returns-then-lower-count_of-clause-comes c chosen expanded s =
    subst (λ why. ComesOf c.args.problem.now chosen (Between c.lower-lower.result c.args.cert c.args.best why) expanded c.args.stopped) (sym c.cause_by.ensures)
    (between_comes c.args.problem.now chosen c.lower-lower.result c.args.cert c.args.best expanded c.args.stopped s)

pub returns-then-lower-count_of-clause-one_search : goal.returns-then-lower-count_of-clause-one_search
returns-then-lower-count_of-clause-one_search c expanded each =
    subst (λ why. EachIsBranch (Between c.lower-lower.result c.args.cert c.args.best why) expanded) (sym c.cause_by.ensures)
    (between_branches c.lower-lower.result c.args.cert c.args.best expanded c.args.stopped each)

pub returns-in-Some-clause-true_answer : goal.returns-in-Some-clause-true_answer
returns-in-Some-clause-true_answer c budget expanded w =
    let is : c.args.best ≡ Some c.in-Some.plan = c.in-Some.is in
    let reached : length c.in-Some.plan.path ≤ c.args.cert.lower = omega (arith, c.lower-lower.ensures.value, c.count_of.ensures.value, ap (λ o. count_of c.args.problem.now (path_in o)) is) in
    optimal_is_true c.args.problem.now budget c.args.cert c.in-Some.plan expanded (subst (λ o. IsShown c.args.problem.now budget c.args.cert o expanded) is w.shown) reached

pub returns-in-None-clause-true_answer : goal.returns-in-None-clause-true_answer
returns-in-None-clause-true_answer c budget expanded w =
    let is : c.args.best ≡ None = c.in-None.is in
    let reached : count_of c.args.problem.now None ≤ c.args.cert.lower = omega (arith, c.lower-lower.ensures.value, c.count_of.ensures.value, ap (λ o. count_of c.args.problem.now (path_in o)) is) in
    no_plan_is_true c.args.problem.now budget c.args.cert expanded (subst (λ o. IsShown c.args.problem.now budget c.args.cert o expanded) is w.shown) reached
