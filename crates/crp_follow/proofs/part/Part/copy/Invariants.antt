-- The bays so far.
use Rattle.std.proofs.Common.{◌≡◌, take}
use Rattle.crp_follow.proofs.part.Part.copy.Given as goal

abbrev pub invariant-loop-bay : goal.invariant-loop-bay
invariant-loop-bay l = l.bays.items ≡ take l.bay-index l.self.bays
