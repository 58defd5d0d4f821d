use Rattle.std.proofs.Common.{◌≡◌, true, false, cond, Some, None, List, ℕ, sym, subst, inl, inr, Bor}
use Rattle.std.specs.Option.{option_map}
use Rattle.crp_movins.specs.Places.{segment_numbered}
use Rattle.crp_notes.specs.Messages.{IsSaid}
use Rattle.crp_notes.specs.Unread.{order_at}
use Rattle.crp_notes.proofs.InForce.{pair, container-ordered, nothing-ordered}
use Rattle.crp_notes.proofs.standing.Standing.ordered.Goals as goal

pub returns-then-self : goal.returns-then-self
returns-then-self c segments loading i h said =
    subst (λ b. option_map (λ (t : Bor (List ℕ)). pair c.args.self.now.messages t.now) (cond b (Some c.args.self.now.code) None) ≡ order_at segments loading i) c.if-self.true
    (container-ordered segments loading i c.args.self.now h (subst (IsSaid (segment_numbered segments i)) c.in-Container.is said).0)

pub returns-else-self : goal.returns-else-self
returns-else-self c segments loading i h said =
    subst (λ b. option_map (λ (t : Bor (List ℕ)). pair c.args.self.now.messages t.now) (cond b (Some c.args.self.now.code) None) ≡ order_at segments loading i) c.if-self.false
    (container-ordered segments loading i c.args.self.now h (subst (IsSaid (segment_numbered segments i)) c.in-Container.is said).0)

pub returns-in-Begins : goal.returns-in-Begins
returns-in-Begins c segments loading i h said =
    let is = IsSaid (segment_numbered segments i) in
    elim c.in-Begins.is [
      | inl e ↦ nothing-ordered segments loading i c.args.self.now h true false false (subst is e.1 said).0
      | inr (inl e) ↦ nothing-ordered segments loading i c.args.self.now h false false false (subst is e.1 said)
      | inr (inr (inl e)) ↦ nothing-ordered segments loading i c.args.self.now h false true false (subst is e.1 said).0
      | inr (inr (inr (inl e))) ↦ nothing-ordered segments loading i c.args.self.now h false false true (subst is e.1 said).0
      | inr (inr (inr (inr e))) ↦ nothing-ordered segments loading i c.args.self.now h false false false (subst is e said)
    ]
