use Rattle.std.proofs.Common.{◌≡◌, ◌∙◌}
use Rattle.crp_notes.specs.Wording.{quoted}
use Rattle.crp_notes.proofs.wording.unknown_message_note.Goals as goal

pub returns : goal.returns
returns c =
    let q : c.deref.result.now ≡ quoted c.args.reference.now = c.deref.ensures.value ∙ c.in_ok-reference.ensures in
    let note = rw c.as_slice.ensures at c.note_of.ensures in
    rw q at note
