use Rattle.crp_sizes.proofs.HeightSteps.{one_heights}
use Rattle.crp_sizes.proofs.SizeSteps.{one_sizes}
use Rattle.crp_sizes.proofs.laws.one_list.Goals as goal

pub returns : goal.returns
returns c = record { heights = one_heights; sizes = one_sizes }
