use Rattle.std.proofs.Common.{subst}
use Rattle.std.specs.List.Sorted.{IsPermutation}
use Rattle.crp_tree.proofs.InOrder.{needed_are}
use Rattle.crp_checker.proofs.needed.needed_names.Goals as goal

pub returns-clause-all : goal.returns-clause-all
returns-clause-all c =
    needed_are c.args.given.items c.sort.new.self.items c.root.result c.root.ensures
    (subst (λ l. IsPermutation l c.sort.new.self.items) c.in_ok-push.ensures.items c.in_ok-sort.ensures.permutation)
