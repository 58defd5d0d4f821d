-- The letters so far stand at the front of the block.
use Rattle.std.proofs.Common.{◌≡◌, map, take}
use Rattle.crp_cert.specs.Letters.{letter}
use Rattle.crp_cert.proofs.letters.set_letters.Given as goal

abbrev pub invariant-loop-i : goal.invariant-loop-i
invariant-loop-i l = take l.i l.block ≡ map letter (take l.i l.kinds)
