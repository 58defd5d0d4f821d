use Rattle.std.proofs.Common.{◌≡◌, ◌++◌, Some, take, drop}
use Rattle.crp_cert.specs.Reading.{◌>>=◌}
use Rattle.crp_cert.specs.PartReading.{line_at}
use Rattle.crp_cert.proofs.part_fields.line_of.Given as goal

abbrev pub invariant-loop-i : goal.invariant-loop-i
invariant-loop-i l = (line_at (drop l.i l.bytes) >>= λ x. Some (take l.i l.bytes ++ x.0, x.1)) ≡ line_at l.bytes
