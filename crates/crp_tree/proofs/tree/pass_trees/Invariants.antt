use Rattle.std.proofs.Common.{List, length}
use Rattle.crp_row.specs.Symbol.{Symbol}
use Rattle.crp_tree.specs.Symbols.{ComeFirst}
use Rattle.crp_tree.proofs.tree.pass_trees.Given as goal

abbrev pub invariant-loop-left : goal.invariant-loop-left
invariant-loop-left l = (behind : List Symbol) → ComeFirst l.count l.fn.rest behind → ComeFirst l.left l.own behind

abbrev pub decreases-loop-left : goal.decreases-loop-left
decreases-loop-left l = length l.own
