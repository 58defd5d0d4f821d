-- The containers of the bays so far are in the set.
use Rattle.std.proofs.Common.{take}
use Rattle.crp_yard.specs.Listings.{HasNames}
use Rattle.crp_yard.proofs.names.names_of.Given as goal

abbrev pub invariant-loop-i : goal.invariant-loop-i
invariant-loop-i l = HasNames (take l.i l.bays.entries) l.names.keys
