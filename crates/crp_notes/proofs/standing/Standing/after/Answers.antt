use Rattle.std.proofs.Common.{◌≡◌, cond, Some, None, sym, subst, ap, ◌∙◌, inl, inr}
use Rattle.crp_movins.specs.Places.{segment_numbered}
use Rattle.crp_notes.specs.Messages.{IsSaid}
use Rattle.crp_notes.proofs.InForce.{after-header, after-handling, after-slot, after-container, after-other}
use Rattle.crp_notes.proofs.standing.Standing.after.Goals.{then-self, else-self}
use Rattle.crp_notes.proofs.standing.Standing.after.Goals as goal

pub returns-in-Begins-clause-stands : goal.returns-in-Begins-clause-stands
returns-in-Begins-clause-stands c segments i h said =
    let k = subst (IsSaid (segment_numbered segments i)) c.in-Begins.is said in
    rw c.reads.ensures (after-header segments c.args.loading.now i c.args.self h k.0 c.in-Begins.reference.now k.1)

pub returns-in-Code-clause-stands : goal.returns-in-Code-clause-stands
returns-in-Code-clause-stands c segments i h said =
    let k = subst (IsSaid (segment_numbered segments i)) c.in-Code.is said in
    after-handling segments c.args.loading.now i c.args.self h c.loads.result c.in-Code.found k.0 k.1 c.loads.ensures

pub returns-after-self-clause-stands : goal.returns-after-self-clause-stands
returns-after-self-clause-stands c segments i h said =
    let k = subst (IsSaid (segment_numbered segments i)) c.in-Slot.is said in
    let group : c.if-self.result ≡ cond c.args.self.is_loading (Some c.in-Slot.slot) None =
    elim c.if-self.branch [
      | then-self w ↦ w.result-is ∙ sym (ap (λ b. cond b (Some c.in-Slot.slot) None) w.if-self.true)
      | else-self w ↦ w.result-is ∙ sym (ap (λ b. cond b (Some c.in-Slot.slot) None) w.if-self.false)
    ] in
    rw group (after-slot segments c.args.loading.now i c.args.self h c.in-Slot.slot k.0 k.1)

pub returns-in-Container-clause-stands : goal.returns-in-Container-clause-stands
returns-in-Container-clause-stands c segments i h said = after-container segments c.args.loading.now i c.args.self h (subst (IsSaid (segment_numbered segments i)) c.in-Container.is said).0

pub returns-in-Function-clause-stands : goal.returns-in-Function-clause-stands
returns-in-Function-clause-stands c segments i h said =
    after-other segments c.args.loading.now i c.args.self h
    (elim c.in-Function.is [
      | inl e ↦ subst (IsSaid (segment_numbered segments i)) e.1 said
      | inr e ↦ subst (IsSaid (segment_numbered segments i)) e said
    ])
