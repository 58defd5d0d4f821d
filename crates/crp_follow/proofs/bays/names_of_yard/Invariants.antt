-- The names of the bays so far.
use Rattle.std.proofs.Common.{◌≡◌, map, take}
use Rattle.crp_follow.proofs.bays.names_of_yard.Given as goal

abbrev pub invariant-loop-i : goal.invariant-loop-i
invariant-loop-i l = l.names.keys ≡ map (λ b. b.0) (take l.i l.yard.bays)
