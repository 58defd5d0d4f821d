use Rattle.std.proofs.Common.{length}
use Rattle.crp_cert.specs.PartReading.{AreParts}
use Rattle.crp_cert.proofs.certs.all_parts.Given as goal

abbrev pub invariant-loop-after : goal.invariant-loop-after
invariant-loop-after l = AreParts l.version l.problem l.bytes l.parts.items l.rest

abbrev pub decreases-loop-after : goal.decreases-loop-after
decreases-loop-after l = length l.rest
