use Rattle.crp_follow.proofs.Outcomes.{one_way, no_fault, one_fault}
use Rattle.crp_follow.proofs.laws.one_outcome.Goals as goal

pub returns : goal.returns
returns c = record { one = one_way; apart = no_fault; first = one_fault }
