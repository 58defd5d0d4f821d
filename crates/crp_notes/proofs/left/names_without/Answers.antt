use Rattle.std.proofs.Common.{◌≡◌, ◌++◌, take, true, cond, refl, sym, subst, ap, ◌∙◌, [], ◌∷◌, ◌+◌}
use Rattle.std.proofs.lemmas.List.{take_all}
use Rattle.std.specs.Str.{bytes_eq}
use Rattle.crp_notes.specs.Left.{is_taken, is_left}
use Rattle.crp_notes.specs.LeftNames.{HasThose}
use Rattle.crp_notes.proofs.Leaving.{left-with, left-without, list-more}
use Rattle.crp_notes.proofs.left.names_without.Goals.{then-not-contains+in_ok-insert, else-not-contains}
use Rattle.crp_notes.proofs.left.names_without.Goals as goal

pub loop-container-preserved : goal.loop-container-preserved
loop-container-preserved c = λ moves h.
    let names = c.list-container-items.result.now in
    let i = c.loop-container.container-index in
    let x = c.container-item.result in
    let e : take (i + 1) names ≡ take i names ++ x ∷ [] = list-more names i x c.loop-container-test.true c.container-item.is in
    let is : c.contains.result ≡ is_taken moves x = c.contains.ensures ∙ h c.bytes.result ∙ ap (is_taken moves) c.bytes.ensures in
    elim c.if-not-contains.branch [
      | then-not-contains+in_ok-insert w ↦ λ q.
          let known = is_left (take i names) moves q.now in
          let more = left-with (is_taken moves) (take i names) x q.now (sym is ∙ w.if-not-contains.true) (bytes_eq x q.now) refl in
          rw (w.names-is, e) (
          w.in_ok-insert.ensures.updates.0 q ∙ ap (cond (bytes_eq w.bytes-then-not-contains.result.now q.now) true) (c.loop-container.invariant moves h q)
          ∙ ap (λ y. cond (bytes_eq y q.now) true known) w.bytes-then-not-contains.ensures ∙ sym more
          )
      | else-not-contains w ↦ λ q.
          let same = left-without (is_taken moves) (take i names) x q.now (sym is ∙ w.if-not-contains.false) (bytes_eq x q.now) refl in
          rw (w.names-is, e) (c.loop-container.invariant moves h q ∙ sym same)
    ]

pub returns : goal.returns
returns c = λ moves h.
    let all = take_all c.loop-container.container-index c.list-container-items.result.now c.loop-container-test.false in
    subst (λ names. HasThose (is_left names moves) c.loop-container.names.keys) (all ∙ c.list-container-items.ensures.value) (c.loop-container.invariant moves h)
