use Rattle.std.proofs.Common.{◌≡◌, true, false, cond, Some, None, List, ℕ, sym, subst, ap, inl, inr, Bor}
use Rattle.std.specs.Option.{option_map}
use Rattle.crp_movins.specs.Places.{segment_numbered, text_at}
use Rattle.crp_notes.specs.Slots.{named_group}
use Rattle.crp_notes.specs.Messages.{IsSaid}
use Rattle.crp_notes.proofs.InForce.{slot-named, container-named, nothing-named}
use Rattle.crp_notes.proofs.standing.Standing.named.Goals as goal

pub returns-then-self : goal.returns-then-self
returns-then-self c segments loading i h said =
    let k = subst (IsSaid (segment_numbered segments i)) c.in-Slot.is said in
    subst (λ b. option_map (λ (t : Bor (List ℕ)). t.now) (cond b (Some c.in-Slot.slot) None) ≡ option_map (λ j. text_at segments j 2 1) (named_group segments loading i)) c.if-self.true
    (slot-named segments loading i c.args.self.now h c.in-Slot.slot k.0 k.1)

pub returns-else-self : goal.returns-else-self
returns-else-self c segments loading i h said =
    let k = subst (IsSaid (segment_numbered segments i)) c.in-Slot.is said in
    subst (λ b. option_map (λ (t : Bor (List ℕ)). t.now) (cond b (Some c.in-Slot.slot) None) ≡ option_map (λ j. text_at segments j 2 1) (named_group segments loading i)) c.if-self.false
    (slot-named segments loading i c.args.self.now h c.in-Slot.slot k.0 k.1)

pub returns-then-self-2 : goal.returns-then-self-2
returns-then-self-2 c segments loading i h said =
    subst (λ b. option_map (λ (t : Bor (List ℕ)). t.now) (cond b c.args.self.now.group None) ≡ option_map (λ j. text_at segments j 2 1) (named_group segments loading i)) c.if-self-2.true
    (container-named segments loading i c.args.self.now h (subst (IsSaid (segment_numbered segments i)) c.in-Container.is said).0)

pub returns-else-self-2 : goal.returns-else-self-2
returns-else-self-2 c segments loading i h said =
    subst (λ b. option_map (λ (t : Bor (List ℕ)). t.now) (cond b c.args.self.now.group None) ≡ option_map (λ j. text_at segments j 2 1) (named_group segments loading i)) c.if-self-2.false
    (container-named segments loading i c.args.self.now h (subst (IsSaid (segment_numbered segments i)) c.in-Container.is said).0)

pub returns-in-Begins : goal.returns-in-Begins
returns-in-Begins c segments loading i h said =
    let is = IsSaid (segment_numbered segments i) in
    let none : named_group segments loading i ≡ None =
    elim c.in-Begins.is [
      | inl e ↦ nothing-named segments loading i c.args.self.now h true false (subst is e.1 said).0
      | inr (inl e) ↦ nothing-named segments loading i c.args.self.now h false false (subst is e.1 said)
      | inr (inr (inl e)) ↦ nothing-named segments loading i c.args.self.now h false true (subst is e.1 said).0
      | inr (inr (inr e)) ↦ nothing-named segments loading i c.args.self.now h false false (subst is e said)
    ] in
    sym (ap (option_map (λ j. text_at segments j 2 1)) none)
