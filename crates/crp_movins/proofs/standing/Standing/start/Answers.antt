use Rattle.crp_movins.proofs.StandingSteps.{standing-start}
use Rattle.crp_movins.proofs.standing.Standing.start.Goals as goal

pub returns : goal.returns
returns c = standing-start
