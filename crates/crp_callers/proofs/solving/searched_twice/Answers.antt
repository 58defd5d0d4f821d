use Rattle.std.proofs.Common.{subst}
use Rattle.crp_solve.specs.Answers.{IsTrueAnswer}
use Rattle.crp_callers.proofs.solving.searched_twice.Goals as goal

pub returns-clause-bounds : goal.returns-clause-bounds
returns-clause-bounds c = c.answers_agree.ensures.bounds _ _ _ _ _ _ _ c.in_ok-first.ensures.solved.answer c.in_ok-second.ensures.solved.answer

pub returns-clause-no_plan : goal.returns-clause-no_plan
returns-clause-no_plan c = λ cert is.
    c.answers_agree.ensures.no_plan _ _ _ cert _ _ _ (subst (λ answer. IsTrueAnswer c.args.problem.now c.args.one.budget answer c.in_ok-first.first.expanded) is c.in_ok-first.ensures.solved.answer) c.in_ok-second.ensures.solved.answer

pub returns-clause-one_first : goal.returns-clause-one_first
returns-clause-one_first c = λ plan plan' cert cert' is also.
    c.answers_agree.ensures.one_first _ _ _ plan plan' cert cert' _ _
    (subst (λ answer. IsTrueAnswer c.args.problem.now c.args.one.budget answer c.in_ok-first.first.expanded) is c.in_ok-first.ensures.solved.answer)
    (subst (λ answer. IsTrueAnswer c.args.problem.now c.args.other.budget answer c.in_ok-second.second.expanded) also c.in_ok-second.ensures.solved.answer)

pub returns-clause-one_count : goal.returns-clause-one_count
returns-clause-one_count c = c.answers_agree.ensures.one_count _ _ _ _ _ _ _ c.in_ok-first.ensures.solved.answer c.in_ok-second.ensures.solved.answer
