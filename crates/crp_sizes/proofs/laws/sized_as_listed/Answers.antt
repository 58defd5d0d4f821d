use Rattle.crp_sizes.proofs.SizeSteps.{stands_there, found_there}
use Rattle.crp_sizes.proofs.laws.sized_as_listed.Goals as goal

pub returns : goal.returns
returns c text sizes bay heights is = (stands_there sizes bay heights, found_there sizes bay heights is.listed.sized.once)
