use Rattle.std.proofs.Common.{◌≡◌, ℕ, List, [], ◌∷◌, ◌++◌, true, false, cond, sym, ap, ◌∙◌, Bor}
use Rattle.std.specs.List.{list_any}
use Rattle.std.proofs.lemmas.Bool.{not-true}
use Rattle.std.proofs.lemmas.List.{map_push}
use Rattle.std.specs.Str.{bytes_eq}
use Rattle.crp_notes.specs.Repeated.{kept_with}
use Rattle.crp_notes.specs.Namings.{named}
use Rattle.crp_notes.proofs.Repeating.{slots, any-push, new-kept}
use Rattle.crp_notes.proofs.slots.keep.Goals as goal

pub returns-in_ok-push : goal.returns-in_ok-push
returns-in_ok-push c all h =
    let x = named c.args.naming.now in
    let new : list_any (bytes_eq x) all ≡ false = sym (h.0 c.args.naming) ∙ not-true _ (sym c.in_ok-insert.ensures.added ∙ c.if-branch.true) in
    let last : kept_with bytes_eq all x ≡ all ++ x ∷ [] = new-kept bytes_eq all x new in (
      λ a. rw last (c.in_ok-insert.ensures.updates.0 a ∙ ap (cond (bytes_eq x (named a.now)) true) (h.0 a) ∙ any-push bytes_eq slots (named a.now) x all),
      rw (last, c.in_ok-push.ensures.items) (map_push (λ (slot : Bor (List ℕ)). slot.now) _ _ ∙ (λ i. h.1 i ++ c.deref.ensures.value i ∷ [])),
    )
