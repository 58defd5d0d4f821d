use Rattle.crp_follow.proofs.KeptLaws.{nothing_is_lost}
use Rattle.crp_follow.proofs.laws.nothing_is_lost.Goals as goal

pub returns : goal.returns
returns c = λ heights rows after moves container leads. nothing_is_lost heights rows moves after container leads
