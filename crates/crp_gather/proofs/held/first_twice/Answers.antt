use Rattle.std.proofs.Common.{◌≡◌, ℕ, ◌+◌, ◌-◌, ◌≤◌, [], get_or, sym, ◌∙◌, subst, arith}
use Rattle.std.proofs.lemmas.List.{get_or_default}
use Rattle.crp_tree.proofs.Ordered.{same_rows}
use Rattle.crp_tree.specs.Claims.{times}
use Rattle.crp_tree.specs.Names.{IsFirst}
use Rattle.crp_gather.proofs.InOrder.{AreApart, twice_first, none_twice}
use Rattle.crp_gather.proofs.held.first_twice.Goals as goal

pub returns-then-eq-clause-first : goal.returns-then-eq-clause-first
returns-then-eq-clause-first c =
    let xs = c.args.names.now in
    let i : ℕ = c.loop-i.i - 1 in
    let low = c.loop-i.auto.i in
    let lt = c.loop-i-test.true in
    let next : c.loop-i.i ≡ i + 1 = omega arith in
    let a = c.index-names-i.result in
    let b = c.index-names-i-in-loop-i.result in
    let d = c.index-names-i-then-eq.result in
    let same : a ≡ b = same_rows a b (sym c.eq.ensures ∙ c.if-eq.true) in
    let at_b : get_or xs c.loop-i.i [] ≡ b = get_or_default xs c.loop-i.i [] b lt ∙ sym c.index-names-i-in-loop-i.is in
    let at_d : get_or xs c.loop-i.i [] ≡ d = get_or_default xs c.loop-i.i [] d lt ∙ sym c.index-names-i-then-eq.is in
    let at_a : get_or xs i [] ≡ a = get_or_default xs i [] a (omega arith) ∙ sym c.index-names-i.is in
    subst (IsFirst (λ n. 2 ≤ times n xs)) (sym c.copy.ensures)
    (twice_first xs i d c.requires (subst (AreApart xs) next c.loop-i.invariant) (omega arith) (at_a ∙ same ∙ sym at_b ∙ at_d) (subst (λ k. get_or xs k [] ≡ d) next at_d))

pub returns-clause-none : goal.returns-clause-none
returns-clause-none c = none_twice c.args.names.now c.loop-i.i c.requires c.loop-i.invariant c.loop-i-test.false
