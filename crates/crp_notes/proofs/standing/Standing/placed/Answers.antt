use Rattle.std.proofs.Common.{◌≡◌, ◌∙◌, Option, false, true, Some, None, List, ℕ, sym, ap, subst, inl, inr, Bor}
use Rattle.std.specs.Option.{option_map}
use Rattle.crp_movins.specs.Places.{segment_numbered, text_at, ordered_group}
use Rattle.crp_notes.specs.Messages.{IsSaid, texts}
use Rattle.crp_notes.proofs.InForce.{container-placed, nothing-placed}
use Rattle.crp_notes.proofs.standing.Standing.placed.Goals as goal

pub returns-in-Some : goal.returns-in-Some
returns-in-Some c segments loading i h said =
    let k = subst (IsSaid (segment_numbered segments i)) c.in-Container.is said in
    subst (λ (o : Option (Bor (List ℕ))). option_map (λ (t : Bor (List ℕ)). texts t.now c.in-Container.name.now) o ≡ option_map (λ j. texts (text_at segments j 2 1) (text_at segments i 2 1)) (ordered_group segments loading i)) c.in-Some.is
    (container-placed segments loading i c.args.self.now h k.0 c.in-Container.name k.1)

pub returns-in-None : goal.returns-in-None
returns-in-None c segments loading i h said =
    let k = subst (IsSaid (segment_numbered segments i)) c.in-Container.is said in
    subst (λ (o : Option (Bor (List ℕ))). option_map (λ (t : Bor (List ℕ)). texts t.now c.in-Container.name.now) o ≡ option_map (λ j. texts (text_at segments j 2 1) (text_at segments i 2 1)) (ordered_group segments loading i)) c.in-None.is
    (container-placed segments loading i c.args.self.now h k.0 c.in-Container.name k.1)

pub returns-in-Begins : goal.returns-in-Begins
returns-in-Begins c segments loading i h said =
    let is = IsSaid (segment_numbered segments i) in
    let none : ordered_group segments loading i ≡ None =
    elim c.in-Begins.is [
      | inl e ↦ nothing-placed segments loading i c.args.self.now h true false false (subst is e.1 said).0
      | inr (inl e) ↦ nothing-placed segments loading i c.args.self.now h false false false (subst is e.1 said)
      | inr (inr (inl e)) ↦ nothing-placed segments loading i c.args.self.now h false true false (subst is e.1 said).0
      | inr (inr (inr (inl e))) ↦ nothing-placed segments loading i c.args.self.now h false false true (subst is e.1 said).0
      | inr (inr (inr (inr e))) ↦ nothing-placed segments loading i c.args.self.now h false false false (subst is e said)
    ] in
    sym (ap (option_map (λ j. texts (text_at segments j 2 1) (text_at segments i 2 1))) none)
