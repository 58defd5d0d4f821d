use Rattle.std.proofs.Common.{◌≡◌, length}
use Rattle.crp_thinning.specs.Branches.{behind, IsOpen}
use Rattle.crp_thinning.proofs.path.go_on.Given as goal

abbrev pub invariant-loop-frame : goal.invariant-loop-frame
invariant-loop-frame l = record {
  tasks : behind l.fn.path ≡ behind l.path;
  open_still : IsOpen l.path;
}

abbrev pub decreases-loop-frame : goal.decreases-loop-frame
decreases-loop-frame l = length l.path.frames.items
