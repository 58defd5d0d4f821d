-- Those that leave, and those that stay of the stacks so far.
use Rattle.std.proofs.Common.{◌≡◌, take}
use Rattle.crp_order.specs.Groups.{pointed, names_behind}
use Rattle.crp_order.proofs.ranks.names_by_rank.Given as goal

abbrev pub invariant-loop-stack : goal.invariant-loop-stack
invariant-loop-stack l = l.names.items ≡ names_behind (pointed l.leaving) (pointed (take l.stack-index l.stacks))
