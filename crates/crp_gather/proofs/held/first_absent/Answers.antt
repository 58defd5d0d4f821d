use Rattle.std.proofs.Common.{All, Contains, sym, subst}
use Rattle.std.proofs.lemmas.List.{take_all}
use Rattle.std.proofs.lemmas.List.Elements.{All-more}
use Rattle.crp_tree.specs.Names.{IsFirst}
use Rattle.crp_gather.proofs.InOrder.{absent_first}
use Rattle.crp_gather.proofs.held.first_absent.Goals as goal

pub loop-i-preserved : goal.loop-i-preserved
loop-i-preserved c =
    All-more (Contains c.args.held.now) c.args.wanted.now c.loop-i.i c.index-wanted-i.result c.loop-i-test.true c.loop-i.invariant (subst (Contains c.args.held.now) c.index-wanted-i.is (c.is_held.ensures.0 c.if-not-is_held.false))

pub returns-clause-none : goal.returns-clause-none
returns-clause-none c = subst (All (Contains c.args.held.now)) (take_all c.loop-i.i c.args.wanted.now c.loop-i-test.false) c.loop-i.invariant

pub returns-then-not-is_held-clause-first : goal.returns-then-not-is_held-clause-first
returns-then-not-is_held-clause-first c =
    let name = c.index-wanted-i.result in
    let absent : Contains c.args.held.now name → ⊥ = λ h. absurd (let t = c.is_held.ensures.1 h in let f = c.if-not-is_held.true in cc) in
    subst (IsFirst (λ n. Contains c.args.wanted.now n × (Contains c.args.held.now n → ⊥))) (sym c.copy.ensures)
    (absent_first c.args.wanted.now c.args.held.now c.loop-i.i name c.requires.wanted c.loop-i-test.true c.loop-i.invariant c.index-wanted-i.is absent)
