use Rattle.std.proofs.Common.{◌≡◌, ℕ, ◌+◌, List, [], ◌∷◌, ◌++◌, length, map, filter, take, refl, sym, ap, ◌∙◌, arith, Bor}
use Rattle.std.specs.Prelude.{nat_lt}
use Rattle.std.proofs.lemmas.List.{take_all}
use Rattle.crp_notes.specs.declared.naming.Naming.{Naming}
use Rattle.std.specs.Str.{bytes_eq}
use Rattle.crp_notes.specs.Repeated.{times, each_once}
use Rattle.crp_notes.specs.Namings.{named}
use Rattle.crp_notes.proofs.Repeating.{more, kept-more, kept-same}
use Rattle.crp_notes.proofs.slots.listed.Goals.{then-contains+in_ok-keep, else-contains}
use Rattle.crp_notes.proofs.slots.listed.Goals as goal

pub loop-naming-init : goal.loop-naming-init
loop-naming-init c = (omega arith, refl, (λ a. rw c.new-kept.ensures.empty refl, rw c.new-slots.ensures.items refl))

pub loop-naming-preserved : goal.loop-naming-preserved
loop-naming-preserved c =
    let slots = map named c.args.namings.now in
    let known = map named (take c.loop-naming.naming-index c.args.namings.now) in
    let x = c.naming-item.result in
    let this : Bor Naming = record { ref_ptr = (0, 0); now = x } in
    let e : map named (take (c.loop-naming.naming-index + 1) c.args.namings.now) ≡ known ++ named x ∷ [] = more c.args.namings.now c.loop-naming.naming-index x c.loop-naming-test.true c.naming-item.is in
    let is : c.contains.result ≡ nat_lt 1 (times bytes_eq (named x) slots) = c.contains.ensures ∙ c.requires this in
    let passes = λ (slot : List ℕ). nat_lt 1 (times bytes_eq slot slots) in
    elim c.if-contains.branch [
      | then-contains+in_ok-keep w ↦
          let step = kept-more bytes_eq passes (named x) known (sym is ∙ w.if-contains.true) in
          let kept = w.in_ok-keep.ensures (each_once bytes_eq (filter passes known)) c.loop-naming.invariant.2 in (
            omega (arith, w.count-is, c.loop-naming.invariant.0),
            w.count-is ∙ ap (λ n. n + 1) c.loop-naming.invariant.1 ∙ sym step.0 ∙ ap (λ ys. length (filter passes ys)) (sym e),
            rw (e, step.1, w.kept-is, w.slots-is) kept,
          )
      | else-contains w ↦
          let same = kept-same passes (named x) known (sym is ∙ w.if-contains.false) in (
            omega (arith, w.count-is, c.loop-naming.invariant.0),
            w.count-is ∙ c.loop-naming.invariant.1 ∙ ap length (sym same) ∙ ap (λ ys. length (filter passes ys)) (sym e),
            rw (e, same, w.kept-is, w.slots-is) c.loop-naming.invariant.2,
          )
    ]

pub returns-clause-count : goal.returns-clause-count
returns-clause-count c =
    let all = take_all c.loop-naming.naming-index c.args.namings.now c.loop-naming-test.false in
    let passes = λ (slot : List ℕ). nat_lt 1 (times bytes_eq slot (map named c.args.namings.now)) in
    c.loop-naming.invariant.1 ∙ ap (λ ys. length (filter passes (map named ys))) all

pub returns-clause-slots : goal.returns-clause-slots
returns-clause-slots c =
    let all = take_all c.loop-naming.naming-index c.args.namings.now c.loop-naming-test.false in
    let passes = λ (slot : List ℕ). nat_lt 1 (times bytes_eq slot (map named c.args.namings.now)) in
    c.loop-naming.invariant.2.1 ∙ ap (λ ys. each_once bytes_eq (filter passes (map named ys))) all
