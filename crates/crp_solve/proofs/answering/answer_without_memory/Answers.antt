use Rattle.std.proofs.Common.{sym, subst}
use Rattle.crp_solve.specs.declared.answer.Answer.TheVariants.{Between}
use Rattle.crp_solve.specs.declared.answer.Cause.TheVariants.{Memory}
use Rattle.crp_solve.specs.Answers.{IsTrueAnswer}
use Rattle.crp_solve.proofs.TrueAnswers.{cut_is_true}
use Rattle.crp_solve.proofs.answering.answer_without_memory.Goals as goal

pub returns-clause-true_answer : goal.returns-clause-true_answer
returns-clause-true_answer c budget expanded lost =
    let cert = c.in_ok-cert.cert in
    subst (λ n. IsTrueAnswer c.args.problem.now budget (Between n cert c.args.best Memory) expanded) (sym c.lower.ensures.value)
    (cut_is_true c.args.problem.now budget cert c.args.best expanded (c.in_ok-cert.ensures.shown budget expanded c.args.best lost.best_met lost.within) c.in_ok-cert.ensures.cut)
