use Rattle.std.proofs.Common.{◌≡◌, ℕ, List, [], ◌∷◌, ◌++◌, true, false, cond, sym, ap, ◌∙◌}
use Rattle.std.specs.List.{list_any}
use Rattle.std.proofs.lemmas.Bool.{not-true}
use Rattle.std.proofs.lemmas.List.{map_push}
use Rattle.crp_notes.specs.Repeated.{times, kept_with}
use Rattle.crp_notes.specs.Unread.{is_same}
use Rattle.crp_notes.specs.Orders.{ordered, shown}
use Rattle.crp_notes.proofs.Repeating.{codes_of_messages, any-push, new-kept}
use Rattle.crp_notes.proofs.unread.keep.Goals as goal

pub returns-in_ok-push : goal.returns-in_ok-push
returns-in_ok-push c all before e h =
    let x = ordered c.args.of in
    let new : list_any (is_same x) before ≡ false = sym (h.0 c.args.of) ∙ not-true _ (sym c.in_ok-insert.ensures.added ∙ c.if-branch.true) in
    let last : kept_with is_same before x ≡ before ++ x ∷ [] = new-kept is_same before x new in
    let f = λ (o : ℕ × List ℕ). let q : ℕ × List ℕ × ℕ = (o.0, o.1, times is_same o all) in q in
    let n = λ (k : ℕ). let q : ℕ × List ℕ × ℕ = (c.args.of.message, c.args.of.code.now, k) in q in (
      λ a. rw last (c.in_ok-insert.ensures.updates.0 a ∙ ap (cond (is_same x (ordered a)) true) (h.0 a) ∙ any-push is_same codes_of_messages (ordered a) x before),
      rw (last, c.in_ok-push.ensures.items) (map_push shown _ _ ∙ (λ i. h.1 i ++ n (e i) ∷ []) ∙ sym (map_push f before x)),
    )
