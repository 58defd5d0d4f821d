-- The names of the bays so far.
use Rattle.std.proofs.Common.{◌≡◌, map, take}
use Rattle.crp_follow.proofs.behind.names_of.Given as goal

abbrev pub invariant-loop-bay : goal.invariant-loop-bay
invariant-loop-bay l = l.names.keys ≡ map (λ b. b.stated.bay) (take l.bay-index l.bays)
