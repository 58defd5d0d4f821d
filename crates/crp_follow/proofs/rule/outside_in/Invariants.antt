-- Those of the bays so far.
use Rattle.std.proofs.Common.{◌≡◌, map, take}
use Rattle.std.specs.List.{filter_map}
use Rattle.crp_follow.specs.Rule.{outside_in}
use Rattle.crp_follow.specs.Views.{bay_stated}
use Rattle.crp_follow.proofs.rule.outside_in.Given as goal

abbrev pub invariant-loop-bay : goal.invariant-loop-bay
invariant-loop-bay l = l.found.items ≡ filter_map outside_in (map bay_stated (take l.bay-index l.bays))
