use Rattle.std.proofs.Common.{◌≡◌, ◌∙◌}
use Rattle.crp_notes.specs.Wording.{bay_words}
use Rattle.crp_notes.proofs.wording.unknown_bay_note.Goals as goal

pub returns : goal.returns
returns c =
    let q : c.deref.result.now ≡ bay_words c.args.bay.now = c.deref.ensures.value ∙ c.in_ok-bay.ensures in
    let note = rw c.as_slice.ensures at c.note_of.ensures in
    rw q at note
