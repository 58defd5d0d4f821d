use Rattle.std.proofs.Common.{[], ◌∷◌, refl, arith}
use Rattle.crp_bay.specs.Positions.{child}
use Rattle.crp_tree.specs.Mark.{B}
use Rattle.crp_callers.specs.SmallBays.{first_of_four, two_cuts}
use Rattle.crp_callers.proofs.trees.two_cuts.Goals as goal

pub returns-clause-own : goal.returns-clause-own
returns-clause-own c = c.nodes_of_trees.ensures.own [] first_of_four two_cuts

pub returns-clause-rising : goal.returns-clause-rising
returns-clause-rising c = c.nodes_of_trees.ensures.rising [] first_of_four two_cuts

pub returns-clause-apart : goal.returns-clause-apart
returns-clause-apart c = λ node stands begins.
    c.nodes_of_trees.ensures.apart [] first_of_four two_cuts (record { path = 2 ∷ []; place = child first_of_four 2; mark = B }) node (1, omega arith, refl) stands (λ is. cc) begins
