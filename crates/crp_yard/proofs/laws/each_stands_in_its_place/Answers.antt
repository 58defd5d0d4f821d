use Rattle.crp_yard.proofs.Standing.{each_stands}
use Rattle.crp_yard.proofs.laws.each_stands_in_its_place.Goals as goal

pub returns : goal.returns
returns c = each_stands
