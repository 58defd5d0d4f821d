use Rattle.crp_headline.proofs.Accepted.{answer_accepted}
use Rattle.crp_headline.proofs.laws.answers_are_accepted.Goals as goal

pub returns : goal.returns
returns c = answer_accepted
