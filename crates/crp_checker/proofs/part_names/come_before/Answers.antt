use Rattle.std.proofs.Common.{◌≡◌, ◌-◌, length, Some, sym, subst, IsTrue, Bool}
use Rattle.std.specs.Prelude.{slice_get}
use Rattle.crp_tree.specs.Names.{Precedes}
use Rattle.crp_tree.proofs.Ordered.{before_test}
use Rattle.crp_checker.proofs.Rising.{after_last, before_last}
use Rattle.crp_checker.proofs.part_names.come_before.Goals as goal

pub returns-in-Some : goal.returns-in-Some
returns-in-Some c =
    let last = c.in-Some.last.now in
    let found : slice_get c.args.names.now (length c.args.names.now - 1) ≡ Some last = sym c.in-Some.ensures.value in
    let known = before_test last c.args.name.now c.cmp.result c.cmp.ensures in
    let tells = subst (λ (b : Bool). (IsTrue b → Precedes last c.args.name.now) × (Precedes last c.args.name.now → IsTrue b)) (sym c.is_lt.ensures) known in
    (λ less. after_last c.args.names.now last c.args.name.now c.requires found (tells.0 less), λ after. tells.1 (before_last c.args.names.now last c.args.name.now found after))
