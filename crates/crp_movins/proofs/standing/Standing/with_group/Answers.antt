use Rattle.std.proofs.Common.{◌≡◌, true, false, ap, ◌∙◌, sym, arith}
use Rattle.std.proofs.lemmas.Bool.{not-true, not-false}
use Rattle.crp_movins.specs.declared.standing.Standing.{Standing}
use Rattle.crp_movins.specs.Places.{is_loading}
use Rattle.crp_movins.proofs.StandingSteps.{after-other-slot, after-loading-slot, slot-faultless, vacant-bound}
use Rattle.crp_movins.proofs.standing.Standing.with_group.Goals as goal

pub overflow_add-result : goal.overflow_add-result
overflow_add-result c =
    let vacant = ap (λ (x : Standing). x.vacant) c.requires.here in
    omega (arith, vacant, vacant-bound c.args.at.now.segments.now c.args.at.now.loading.now c.args.at.now.number)

pub returns-then-not-self : goal.returns-then-not-self
returns-then-not-self c =
    let apart : is_loading c.args.at.now.segments.now c.args.at.now.loading.now c.args.at.now.number ≡ false = sym (ap (λ (x : Standing). x.is_loading) c.requires.here) ∙ not-true c.args.self.is_loading c.if-not-self.true in
    rw c.requires.here (after-other-slot c.args.at.now.segments.now c.args.at.now.loading.now c.args.at.now.number c.requires.kind apart)

pub returns : goal.returns
returns c =
    let loading : is_loading c.args.at.now.segments.now c.args.at.now.loading.now c.args.at.now.number ≡ true = sym (ap (λ (x : Standing). x.is_loading) c.requires.here) ∙ not-false c.args.self.is_loading c.if-not-self.false in
    let digits = slot-faultless c.args.at.now.segments.now c.args.at.now.loading.now c.args.at.now.number c.requires.faultless c.requires.kind loading in
    rw (c.slot_of.ensures, c.text.ensures, digits, c.requires.here) (after-loading-slot c.args.at.now.segments.now c.args.at.now.loading.now c.args.at.now.number c.requires.kind loading)
