use Rattle.crp_solve.proofs.Answerable.{has_answer}
use Rattle.crp_solve.proofs.laws.each_has_an_answer.Goals as goal

pub returns : goal.returns
returns c p chosen is = has_answer p chosen is
