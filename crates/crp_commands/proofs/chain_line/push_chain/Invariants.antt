-- The ranks so far stand behind the first, each behind a point.
use Rattle.std.proofs.Common.{◌≡◌, ◌++◌, take}
use Rattle.std.specs.List.{flat_map}
use Rattle.crp_commands.proofs.LineOfChains.{behind_point}
use Rattle.crp_commands.proofs.chain_line.push_chain.Given as goal

abbrev pub invariant-loop-rank : goal.invariant-loop-rank
invariant-loop-rank l = l.text.items ≡ l.initial.text.items ++ flat_map behind_point (take l.rank-index l.others)
