use Rattle.crp_order.proofs.RankedSteps.{are_ranked}
use Rattle.crp_order.proofs.laws.ranks_by_places.Goals as goal

pub returns : goal.returns
returns c = are_ranked
