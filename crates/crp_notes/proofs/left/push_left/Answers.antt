use Rattle.std.proofs.Common.{◌≡◌, ◌++◌, ℕ, List, map, filter, take, true, false, sym, ◌∙◌, [], ◌∷◌, ◌+◌, Bor, append_assoc}
use Rattle.std.proofs.lemmas.List.{map_push}
use Rattle.crp_notes.proofs.Leaving.{filter-with, list-more}
use Rattle.crp_notes.proofs.left.push_left.Goals.{then-has+in_ok-push, else-has}
use Rattle.crp_notes.proofs.left.push_left.Goals as goal

pub loop-container-preserved : goal.loop-container-preserved
loop-container-preserved c = λ passes h.
    let stack = c.args.stack.now in
    let i = c.loop-container.container-index in
    let x = c.container-item.result in
    let e : take (i + 1) stack ≡ take i stack ++ x ∷ [] = list-more stack i x c.loop-container-test.true c.container-item.is in
    let was = map (λ (name : Bor (List ℕ)). name.now) c.args.found.now.items in
    let is : c.has.result ≡ passes x = c.has.ensures passes h in
    elim c.if-has.branch [
      | then-has+in_ok-push w ↦
          let more = filter-with passes (take i stack) x true (sym is ∙ w.if-has.true) in
          rw (w.found-is, w.in_ok-push.ensures.items, e, more) (
          map_push (λ (name : Bor (List ℕ)). name.now) c.loop-container.found.items w.bytes.result
          ∙ (λ k. c.loop-container.invariant passes h k ++ w.bytes.ensures k ∷ [])
          ∙ append_assoc was (filter passes (take i stack)) (x ∷ [])
          )
      | else-has w ↦
          let same = filter-with passes (take i stack) x false (sym is ∙ w.if-has.false) in
          rw (w.found-is, e, same) (c.loop-container.invariant passes h)
    ]
