use Rattle.std.proofs.Common.{◌≡◌, ◌∙◌}
use Rattle.std.specs.Prelude.{decimal}
use Rattle.crp_notes.specs.Wording.{quoted}
use Rattle.crp_notes.proofs.wording.function_note.Goals as goal

pub returns : goal.returns
returns c =
    let e : c.as_bytes.result.now ≡ decimal c.args.message = c.as_bytes.ensures.value ∙ c.format.ensures.text in
    let q : c.deref.result.now ≡ quoted c.args.function.now = c.deref.ensures.value ∙ c.in_ok-function.ensures in
    let note = rw c.as_slice.ensures at c.note_of.ensures in
    rw (e, q) at note
