-- The stacks so far are named.
use Rattle.std.proofs.Common.{◌≡◌, take}
use Rattle.crp_yard.specs.Ranks.{named}
use Rattle.crp_yard.proofs.leaving.named_stacks.Given as goal

abbrev pub invariant-loop-i : goal.invariant-loop-i
invariant-loop-i l = l.stacks.items ≡ named l.names (take l.i l.walk.stacks)
