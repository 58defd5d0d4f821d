use Rattle.crp_headline.proofs.Reported.{headline_holds}
use Rattle.crp_headline.proofs.laws.headline.Goals as goal

pub returns : goal.returns
returns c = headline_holds
