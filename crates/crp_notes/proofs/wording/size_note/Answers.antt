use Rattle.std.proofs.Common.{◌≡◌, ◌∙◌}
use Rattle.std.specs.Prelude.{decimal}
use Rattle.crp_notes.specs.Wording.{bay_words}
use Rattle.crp_notes.proofs.wording.size_note.Goals as goal

pub returns : goal.returns
returns c =
    let b : c.deref.result.now ≡ bay_words c.args.bay.now = c.deref.ensures.value ∙ c.in_ok-bay.ensures in
    let d : c.as_bytes.result.now ≡ decimal c.args.largest = c.as_bytes.ensures.value ∙ c.format.ensures.text in
    let note = rw c.as_slice.ensures at c.note_of.ensures in
    rw (b, d) at note
