use Rattle.crp_planned.proofs.Planned.{plan_leads}
use Rattle.crp_planned.proofs.laws.plans_are_followed.Goals as goal

pub returns : goal.returns
returns c = plan_leads
