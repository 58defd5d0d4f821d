use Rattle.std.proofs.Common.{◌≡◌, ◌-◌, length, slice_get, Some, sym, subst}
use Rattle.crp_tree.specs.Names.{Precedes}
use Rattle.crp_cert.proofs.NameOrder.{after_last, before_last}
use Rattle.crp_cert.proofs.certs.comes_after.Goals as goal

pub returns-in-Some : goal.returns-in-Some
returns-in-Some c =
    let last = c.in-Some.last.now in
    let found : slice_get c.args.parts.now (length c.args.parts.now - 1) ≡ Some last = sym c.in-Some.ensures.value in (
      λ less. after_last c.args.parts.now last c.args.name.now c.requires found (subst (λ n. Precedes n c.args.name.now) c.name.ensures (c.precedes.ensures.0 less)),
      λ after. c.precedes.ensures.1 (subst (λ n. Precedes n c.args.name.now) (sym c.name.ensures) (before_last c.args.parts.now last c.args.name.now found after)),
    )
