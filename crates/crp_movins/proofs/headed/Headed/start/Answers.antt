use Rattle.crp_movins.proofs.HeadingSteps.{headed-start}
use Rattle.crp_movins.proofs.headed.Headed.start.Goals as goal

pub returns : goal.returns
returns c = headed-start
