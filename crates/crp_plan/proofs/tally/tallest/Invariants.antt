use Rattle.std.proofs.Common.{◌≡◌, take}
use Rattle.crp_plan.specs.Rows.{tallest}
use Rattle.crp_plan.proofs.tally.tallest.Given as goal

abbrev pub invariant-loop-height : goal.invariant-loop-height
invariant-loop-height l = l.tallest ≡ tallest (take l.height-index l.heights)
