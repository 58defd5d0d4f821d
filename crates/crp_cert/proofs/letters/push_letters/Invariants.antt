-- The letters of what is left are all that is missing.
use Rattle.std.proofs.Common.{◌≡◌, ◌++◌, map, length}
use Rattle.crp_cert.specs.Letters.{letter}
use Rattle.crp_cert.proofs.letters.push_letters.Given as goal

abbrev pub invariant-loop-rest : goal.invariant-loop-rest
invariant-loop-rest l = l.text.items ++ map letter l.rest ≡ l.initial.text.items ++ map letter l.kinds

abbrev pub decreases-loop-rest : goal.decreases-loop-rest
decreases-loop-rest l = length l.rest
