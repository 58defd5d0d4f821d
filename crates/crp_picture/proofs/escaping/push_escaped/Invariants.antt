-- The pieces so far are added, and the others are left.
use Rattle.std.proofs.Common.{◌≡◌, ◌++◌, length}
use Rattle.crp_picture.specs.Names.{escaped}
use Rattle.crp_picture.proofs.escaping.push_escaped.Given as goal

abbrev pub invariant-loop-rest : goal.invariant-loop-rest
invariant-loop-rest l = l.text.items ++ escaped l.rest ≡ l.initial.text.items ++ escaped l.name

abbrev pub decreases-loop-rest : goal.decreases-loop-rest
decreases-loop-rest l = length l.rest
