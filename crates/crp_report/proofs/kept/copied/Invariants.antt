-- The containers so far are copied.
use Rattle.std.proofs.Common.{◌≡◌, take}
use Rattle.crp_report.proofs.kept.copied.Given as goal

abbrev pub invariant-loop-container : goal.invariant-loop-container
invariant-loop-container l = l.copy.items ≡ take l.container-index l.list
