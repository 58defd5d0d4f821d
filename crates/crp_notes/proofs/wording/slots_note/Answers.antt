use Rattle.std.proofs.Common.{◌≡◌, ◌∙◌, map}
use Rattle.std.specs.Prelude.{decimal}
use Rattle.crp_notes.specs.Wording.{joined}
use Rattle.crp_notes.proofs.wording.slots_note.Goals as goal

pub returns : goal.returns
returns c =
    let e : c.as_bytes.result.now ≡ decimal c.args.count = c.as_bytes.ensures.value ∙ c.format.ensures.text in
    let s : c.deref.result.now ≡ joined (map (λ slot. slot.items) c.args.slots.now) c.args.more = c.deref.ensures.value ∙ c.in_ok-slots.ensures in
    let note = rw c.as_slice.ensures at c.note_of.ensures in
    rw (e, s) at note
