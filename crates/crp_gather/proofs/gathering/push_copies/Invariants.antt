use Rattle.std.proofs.Common.{◌≡◌, ◌++◌, take}
use Rattle.crp_gather.proofs.gathering.push_copies.Given as goal

abbrev pub invariant-loop-name : goal.invariant-loop-name
invariant-loop-name l = l.to.items ≡ l.fn.to.items ++ take l.name-index l.names
