use Rattle.std.proofs.Common.{IsTrue, Bool, subst, sym}
use Rattle.crp_tree.specs.Names.{Precedes}
use Rattle.crp_tree.proofs.Ordered.{before_test}
use Rattle.crp_tree.proofs.name.Name.precedes.Goals as goal

pub returns : goal.returns
returns c =
    let known = before_test c.args.self.now c.args.other.now c.cmp.result c.cmp.ensures in
    subst (λ (b : Bool). (IsTrue b → Precedes c.args.self.now c.args.other.now) × (Precedes c.args.self.now c.args.other.now → IsTrue b)) (sym c.is_lt.ensures) known
