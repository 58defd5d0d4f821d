use Rattle.std.proofs.Common.{ap, ◌∙◌, subst}
use Rattle.crp_solve.specs.Answers.{SaysTrue}
use Rattle.crp_checker.specs.Verdicts.{Says}
use Rattle.crp_c.specs.Numbers.{numbers_of}
use Rattle.crp_c.specs.Answers.{verdict_of}
use Rattle.crp_c.proofs.Told.{says_verdict}
use Rattle.crp_c.proofs.solving.crp_solve.Goals as goal

pub returns-clause-says : goal.returns-clause-says
returns-clause-says c done =
    let found = c.in-Ok-solve_alone.solved.answer in
    let same = c.in-Ok.ensures.stated.problem in
    let says : SaysTrue c.in-Ok.stated.problem found = c.in-Ok-solve_alone.ensures.solved.answer.says in
    let known = c.known_by.ensures ∙ ap numbers_of c.verdict_of.ensures in
    (verdict_of found, subst (λ p. Says p (verdict_of found)) same (says_verdict c.in-Ok.stated.problem found says), known)
