use Rattle.std.proofs.Common.{◌≡◌, ◌++◌, List, ℕ, length}
use Rattle.crp_cert.specs.LinesOfHead.{HasLines}
use Rattle.crp_cert.proofs.reading.head_and_rest.Given as goal

abbrev pub decreases-loop-read : goal.decreases-loop-read
decreases-loop-read l = length l.rest

abbrev pub invariant-loop-read : goal.invariant-loop-read
invariant-loop-read l = (before : List ℕ) × HasLines before l.lines × (l.bytes ≡ before ++ l.rest)
