use Rattle.std.proofs.Common.{All, sym, subst, ◌∙◌}
use Rattle.std.proofs.lemmas.List.{take_all}
use Rattle.std.proofs.lemmas.List.Elements.{All-more}
use Rattle.crp_tree.specs.Names.{IsFirst}
use Rattle.crp_tree.specs.Parts.{IsKeptPart}
use Rattle.crp_gather.specs.Gathers.{Belongs, IsStranger}
use Rattle.crp_gather.proofs.Accepted.{stranger_first}
use Rattle.crp_gather.proofs.gathering.first_stranger.Goals as goal

pub returns-then-not-belongs-clause-first : goal.returns-then-not-belongs-clause-first
returns-then-not-belongs-clause-first c =
    let part = c.index-parts-i.result in
    let p = c.args.problem.now in
    let xs = c.args.parts.now in
    let strange : Belongs p xs part → ⊥ = λ b. absurd (let t = c.belongs.ensures.belongs.1 (b.0, (c.requires.all part.name).1 b.1) in let f = c.if-not-belongs.true in cc) in
    subst (IsFirst (IsStranger p xs)) (sym (c.copy.ensures ∙ c.name.ensures.value))
    (stranger_first p xs c.loop-i.i part c.requires.sorted c.loop-i.invariant.belong c.loop-i-test.true c.index-parts-i.is strange)

pub loop-i-preserved : goal.loop-i-preserved
loop-i-preserved c =
    let part = c.index-parts-i.result in
    let p = c.args.problem.now in
    let xs = c.args.parts.now in
    let r = c.belongs.ensures.belongs.0 c.if-not-belongs.false in
    let b : Belongs p xs part = (r.0, (c.requires.all part.name).0 r.1) in
    record {
      belong = All-more (Belongs p xs) xs c.loop-i.i part c.loop-i-test.true c.loop-i.invariant.belong (subst (Belongs p xs) c.index-parts-i.is b);
      kept = All-more IsKeptPart xs c.loop-i.i part c.loop-i-test.true c.loop-i.invariant.kept (subst IsKeptPart c.index-parts-i.is c.belongs.ensures.part);
    }

pub returns-clause-none : goal.returns-clause-none
returns-clause-none c = subst (All (Belongs c.args.problem.now c.args.parts.now)) (take_all c.loop-i.i c.args.parts.now c.loop-i-test.false) c.loop-i.invariant.belong

pub returns-clause-parts : goal.returns-clause-parts
returns-clause-parts c = subst (All IsKeptPart) (take_all c.loop-i.i c.args.parts.now c.loop-i-test.false) c.loop-i.invariant.kept
