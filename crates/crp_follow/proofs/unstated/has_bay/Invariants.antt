-- None of the bays so far has the name.
use Rattle.std.proofs.Common.{◌≡◌, map, drop}
use Rattle.crp_follow.specs.Unstated.{has_bay}
use Rattle.crp_follow.specs.Views.{bay_followed}
use Rattle.crp_follow.proofs.unstated.has_bay.Given as goal

abbrev pub invariant-loop-bay : goal.invariant-loop-bay
invariant-loop-bay l = has_bay (map bay_followed l.bays) l.name ≡ has_bay (map bay_followed (drop l.bay-index l.bays)) l.name
