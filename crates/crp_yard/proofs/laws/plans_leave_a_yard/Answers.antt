use Rattle.crp_yard.proofs.YardLeft.{yard_left}
use Rattle.crp_yard.proofs.laws.plans_leave_a_yard.Goals as goal

pub returns : goal.returns
returns c yard plans all = yard_left yard plans all
