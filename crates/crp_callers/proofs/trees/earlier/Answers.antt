use Rattle.std.proofs.Common.{Bool, true, false, IsTrue, ◌↔◌, ◌⊎◌, inl, inr, refl, sym, ◌∙◌, ⊎_elim}
use Rattle.std.proofs.lemmas.Bool.{false≢true}
use Rattle.crp_callers.proofs.trees.earlier.Goals as goal

either : {A B : Type 0} (test : Bool) → (IsTrue test ↔ A) → ((A → ⊥) → B) → A ⊎ B
either true says other = inl (says.0 refl)
either false says other = inr (other (λ a. false≢true (says.1 a)))

pub returns-then-precedes-clause-first : goal.returns-then-precedes-clause-first
returns-then-precedes-clause-first c =
    let law = c.names_are_ordered.ensures in
    (λ before. law.irreflexive _ (law.transitive _ _ _ before (c.precedes.ensures.0 c.if-precedes.true)), law.irreflexive _)

pub returns-else-precedes-clause-other : goal.returns-else-precedes-clause-other
returns-else-precedes-clause-other c =
    let law = c.names_are_ordered.ensures in
    either _ (law.same c.args.one c.args.other) (λ ne. ⊎_elim
    (λ before. before)
    (λ after. absurd (false≢true (sym c.if-precedes.false ∙ c.precedes.ensures.1 after)))
    (law.total c.args.one c.args.other ne))
