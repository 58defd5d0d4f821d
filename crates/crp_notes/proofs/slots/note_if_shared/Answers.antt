use Rattle.std.proofs.Common.{◌≡◌, ◌<◌, ◌∙◌, Some, length, map, take, ap, arith, tests}
use Rattle.std.specs.Prelude.{min, nat_lt}
use Rattle.crp_notes.specs.Wording.{slots_note}
use Rattle.crp_notes.specs.Slots.{slot_with}
use Rattle.crp_notes.specs.Namings.{container_placed}
use Rattle.crp_notes.proofs.Firsts.{said, firsts, are_more, no-note-shared, some-note-shared}
use Rattle.crp_notes.proofs.slots.note_if_shared.Goals as goal

pub returns-then-is_empty : goal.returns-then-is_empty
returns-then-is_empty c =
    let none : length c.args.slots.now ≡ 0 = grind (arith, tests, c.if-is_empty.true, c.is_empty.ensures) in
    no-note-shared (map container_placed c.args.placed.now) c.args.count c.args.slots.now none

pub returns : goal.returns
returns c =
    let names = c.args.slots.now in
    let placed = map container_placed c.args.placed.now in
    let some : 0 < length names = grind (arith, tests, c.if-is_empty.false, c.is_empty.ensures) in
    let most : c.min-most.result ≡ min 10 (length names) = omega (arith, c.min-most.ensures) in
    let words : map (λ text. text.items) c.deref.result.now ≡ map (slot_with placed) (said (take c.min-most.result names)) = ap (map (λ text. text.items)) c.deref.ensures.value ∙ c.in_ok-words.ensures in
    let note : c.in_ok-note.note.items ≡ slots_note c.args.count (map (slot_with placed) (said (take c.min-most.result names))) (nat_lt c.min-most.result (length names)) = c.in_ok-note.ensures ∙ ap (λ ws. slots_note c.args.count ws (nat_lt c.min-most.result (length names))) words in
    ap Some (rw (firsts 10 c.min-most.result names most, are_more 10 c.min-most.result names most) note) ∙ some-note-shared placed c.args.count names some
