use Rattle.std.proofs.Common.{All, Contains, take}
use Rattle.crp_checker.proofs.needed.first_absent.Given as goal

abbrev pub invariant-loop-i : goal.invariant-loop-i
invariant-loop-i l = All (Contains l.held) (take l.i l.wanted)
