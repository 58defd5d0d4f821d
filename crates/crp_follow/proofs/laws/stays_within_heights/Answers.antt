use Rattle.crp_follow.proofs.KeptLaws.{stays_within_heights}
use Rattle.crp_follow.proofs.laws.stays_within_heights.Goals as goal

pub returns : goal.returns
returns c = λ heights rows after moves leads fit. stays_within_heights heights rows moves after leads fit
