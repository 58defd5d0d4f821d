use Rattle.std.proofs.Common.{◌≡◌, ◌∙◌}
use Rattle.std.specs.Prelude.{decimal}
use Rattle.crp_notes.proofs.wording.messages_note.Goals as goal

pub returns : goal.returns
returns c =
    let e : c.as_bytes.result.now ≡ decimal c.args.messages = c.as_bytes.ensures.value ∙ c.format.ensures.text in
    rw (← e) (rw c.as_slice.ensures at c.note_of.ensures)
