-- The moves so far are takes.
use Rattle.std.proofs.Common.{◌≡◌, ◌+◌, drop}
use Rattle.crp_picture.specs.Frames.{takes_first}
use Rattle.crp_picture.proofs.steps.takes_first.Given as goal

abbrev pub invariant-loop-i : goal.invariant-loop-i
invariant-loop-i l = l.i + takes_first (drop l.i l.moves) ≡ takes_first l.moves
