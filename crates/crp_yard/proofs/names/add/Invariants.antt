-- The containers so far are in the set.
use Rattle.std.proofs.Common.{take}
use Rattle.crp_yard.specs.Listings.{Adds}
use Rattle.crp_yard.proofs.names.add.Given as goal

abbrev pub invariant-loop-container : goal.invariant-loop-container
invariant-loop-container l = Adds l.initial.names.keys l.names.keys (take l.container-index l.stack)
