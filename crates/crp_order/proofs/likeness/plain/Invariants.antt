-- The bytes so far.
use Rattle.std.proofs.Common.{◌≡◌, take}
use Rattle.crp_order.specs.Alike.{plain}
use Rattle.crp_order.proofs.likeness.plain.Given as goal

abbrev pub invariant-loop-byte : goal.invariant-loop-byte
invariant-loop-byte l = l.text.items ≡ plain (take l.byte-index l.name)
