use Rattle.crp_callers.proofs.solving.some_answer.Goals as goal

pub returns : goal.returns
returns c = λ p chosen is. let (solved, so) = c.each_has_an_answer.ensures p chosen is in (solved.answer, solved.expanded, so.answer)
