-- The containers of the stacks so far are in the set.
use Rattle.std.proofs.Common.{take, flat_map}
use Rattle.crp_yard.specs.Listings.{Adds}
use Rattle.crp_yard.proofs.names.add_all.Given as goal

abbrev pub invariant-loop-stack : goal.invariant-loop-stack
invariant-loop-stack l = Adds l.initial.names.keys l.names.keys (flat_map (λ stack. stack) (take l.stack-index l.stacks))
