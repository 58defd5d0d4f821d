use Rattle.std.proofs.Common.{◌≡◌, ◌∙◌}
use Rattle.std.specs.Prelude.{decimal}
use Rattle.crp_notes.proofs.wording.loaded_note.Goals as goal

pub returns : goal.returns
returns c =
    let sequenced : c.as_bytes.result.now ≡ decimal c.args.sequenced = c.as_bytes.ensures.value ∙ c.format.ensures.text in
    let loaded : c.as_bytes-2.result.now ≡ decimal c.args.loaded = c.as_bytes-2.ensures.value ∙ c.format-2.ensures.text in
    let note = rw c.as_slice.ensures at c.note_of.ensures in
    rw (sequenced, loaded, c.loaded_words.ensures) at note
