-- None of the bays so far stands in the block.
use Rattle.std.proofs.Common.{◌≡◌, map, drop}
use Rattle.crp_follow.specs.Unstated.{has_block}
use Rattle.crp_follow.specs.Views.{bay_followed}
use Rattle.crp_follow.proofs.unstated.has_block.Given as goal

abbrev pub invariant-loop-bay : goal.invariant-loop-bay
invariant-loop-bay l = has_block (map bay_followed l.bays) l.block ≡ has_block (map bay_followed (drop l.bay-index l.bays)) l.block
