use Rattle.std.proofs.Common.{◌≡◌, ◌+◌, [], ◌∷◌, ◌++◌, map, take, true, cond, sym, refl, subst, ap, ◌∙◌, Bor}
use Rattle.std.proofs.lemmas.List.{take_all}
use Rattle.crp_notes.specs.declared.naming.Naming.{Naming}
use Rattle.std.specs.Prelude.{nat_lt}
use Rattle.std.specs.Str.{bytes_eq}
use Rattle.crp_notes.specs.Repeated.{times}
use Rattle.crp_notes.specs.Namings.{named, HasNamed}
use Rattle.crp_notes.proofs.Repeating.{again-more, first-more, more}
use Rattle.crp_notes.proofs.Repeating as repeating
use Rattle.crp_notes.proofs.slots.repeated.Goals.{then-contains+in_ok-insert, else-contains+in_ok-insert-2}
use Rattle.crp_notes.proofs.slots.repeated.Goals as goal

pub loop-naming-init : goal.loop-naming-init
loop-naming-init c = (λ a. rw c.new-seen.ensures.empty refl, λ a. rw c.new-again.ensures.empty refl)

pub loop-naming-preserved : goal.loop-naming-preserved
loop-naming-preserved c =
    let known = take c.loop-naming.naming-index c.args.namings.now in
    let slots = map named known in
    let x = c.naming-item.result in
    let this : Bor Naming = record { ref_ptr = (0, 0); now = x } in
    let e : map named (take (c.loop-naming.naming-index + 1) c.args.namings.now) ≡ slots ++ named x ∷ [] = more c.args.namings.now c.loop-naming.naming-index x c.loop-naming-test.true c.naming-item.is in
    let was : c.contains.result ≡ nat_lt 0 (times bytes_eq (named x) slots) = c.contains.ensures ∙ c.loop-naming.invariant.0 this in
    elim c.if-contains.branch [
      | then-contains+in_ok-insert w ↦
          let step = λ (q : Bor Naming). again-more bytes_eq repeating.slots (named q.now) (named x) slots (bytes_eq (named x) (named q.now)) refl (repeating.slots.symm (named q.now) (named x)) (sym was ∙ w.if-contains.true) in
          (λ q. rw (w.seen-is, e) (c.loop-naming.invariant.0 q ∙ (step q).0), λ q. rw (w.again-is, e) (w.in_ok-insert.ensures.updates.0 q ∙ ap (cond (bytes_eq (named x) (named q.now)) true) (c.loop-naming.invariant.1 q) ∙ (step q).1))
      | else-contains+in_ok-insert-2 w ↦
          let step = λ (q : Bor Naming). first-more bytes_eq repeating.slots (named q.now) (named x) slots (bytes_eq (named x) (named q.now)) refl (repeating.slots.symm (named q.now) (named x)) (sym was ∙ w.if-contains.false) in
          (λ q. rw (w.seen-is, e) (w.in_ok-insert-2.ensures.updates.0 q ∙ ap (cond (bytes_eq (named x) (named q.now)) true) (c.loop-naming.invariant.0 q) ∙ (step q).0), λ q. rw (w.again-is, e) (c.loop-naming.invariant.1 q ∙ (step q).1))
    ]

pub returns : goal.returns
returns c = subst (HasNamed 1 c.loop-naming.again.keys) (take_all c.loop-naming.naming-index c.args.namings.now c.loop-naming-test.false) c.loop-naming.invariant.1
