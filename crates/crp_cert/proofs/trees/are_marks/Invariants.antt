use Rattle.std.proofs.Common.{◌≡◌, length}
use Rattle.crp_cert.specs.PartReading.{marks_test}
use Rattle.crp_cert.proofs.trees.are_marks.Given as goal

abbrev pub invariant-loop-byte : goal.invariant-loop-byte
invariant-loop-byte l = marks_test l.version l.rest ≡ marks_test l.version l.bytes

abbrev pub decreases-loop-byte : goal.decreases-loop-byte
decreases-loop-byte l = length l.rest
