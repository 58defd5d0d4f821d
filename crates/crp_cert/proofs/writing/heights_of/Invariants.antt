-- The heights of the rows so far.
use Rattle.std.proofs.Common.{◌≡◌, take}
use Rattle.crp_cert.proofs.writing.heights_of.Given as goal

abbrev pub invariant-loop-i : goal.invariant-loop-i
invariant-loop-i l = l.heights.items ≡ take l.i l.problem.heights
