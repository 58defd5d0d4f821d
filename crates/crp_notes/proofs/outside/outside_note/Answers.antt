use Rattle.std.proofs.Common.{◌≡◌, ◌∙◌}
use Rattle.std.specs.Prelude.{decimal}
use Rattle.crp_notes.specs.Wording.{bay_words}
use Rattle.crp_notes.proofs.outside.outside_note.Goals as goal

pub returns : goal.returns
returns c =
    let number : c.as_bytes.result.now ≡ decimal c.args.outside.now.line = c.as_bytes.ensures.value ∙ c.format.ensures.text in
    let bay : c.deref.result.now ≡ bay_words c.args.outside.now.bay = c.deref.ensures.value ∙ c.in_ok-bay.ensures in
    let note = rw c.as_slice.ensures at c.note_of.ensures in
    rw (number, bay) at note
