use Rattle.std.proofs.Common.{◌≡◌, ◌∙◌, ◌<◌, ℕ, List, Some, length, map, ap, arith, tests, Bor}
use Rattle.crp_notes.specs.Wording.{left_note}
use Rattle.crp_notes.specs.Left.{left_in}
use Rattle.crp_notes.proofs.Placed.{name_is}
use Rattle.crp_notes.proofs.Leaving.{no-note-left, some-note-left}
use Rattle.crp_notes.proofs.left.note_on_left.Goals as goal

pub returns-then-is_empty : goal.returns-then-is_empty
returns-then-is_empty c = λ b sequence moves at h.
    let found = c.in_ok-found.found.items in
    let none : length found ≡ 0 = grind (arith, tests, c.if-is_empty.true, c.is_empty.ensures) in
    no-note-left b.0 found (left_in sequence moves b.1) (c.in_ok-found.ensures b sequence moves at h) none

pub returns : goal.returns
returns c = λ b sequence moves at h.
    let found = c.in_ok-found.found.items in
    let some : 0 < length found = grind (arith, tests, c.if-is_empty.false, c.is_empty.ensures) in
    let name = name_is c.args.yard.now c.args.bay c.name.result.now b at c.name.ensures in
    ap Some (c.in_ok-note.ensures ∙ (λ k. left_note (name k) (map (λ (n : Bor (List ℕ)). n.now) (c.deref.ensures.value k))))
    ∙ some-note-left b.0 found (left_in sequence moves b.1) (c.in_ok-found.ensures b sequence moves at h) some
