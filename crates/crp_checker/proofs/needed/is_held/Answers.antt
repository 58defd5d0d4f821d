use Rattle.std.proofs.Common.{Bool, IsTrue, ◌↔◌, Contains, sym, subst}
use Rattle.crp_tree.proofs.InOrder.{found_means}
use Rattle.crp_checker.proofs.needed.is_held.Goals as goal

pub returns : goal.returns
returns c =
    subst (λ (b : Bool). IsTrue b ↔ Contains c.args.held.now c.args.name.now) (sym c.is_ok.ensures.value)
    (found_means c.args.held.now c.args.name.now c.binary_search.result c.requires c.binary_search.ensures.bound c.binary_search.ensures.position)
