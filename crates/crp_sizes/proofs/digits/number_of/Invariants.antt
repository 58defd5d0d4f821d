use Rattle.std.proofs.Common.{◌≡◌, ◌<◌, ◌^◌, take}
use Rattle.crp_sizes.specs.Fields.{number_of}
use Rattle.crp_sizes.proofs.digits.number_of.Given as goal

abbrev pub invariant-loop-byte : goal.invariant-loop-byte
invariant-loop-byte l = (l.number ≡ number_of (take l.byte-index l.bytes)) × (l.number < 10 ^ l.byte-index)
