use Rattle.std.proofs.Common.{◌≡◌, ◌∙◌, map}
use Rattle.crp_notes.specs.Wording.{quoted, listed}
use Rattle.crp_notes.proofs.wording.codes_note.Goals as goal

pub returns : goal.returns
returns c =
    let q : c.deref.result.now ≡ quoted c.args.code.now = c.deref.ensures.value ∙ c.in_ok-code.ensures in
    let f : c.deref-2.result.now ≡ listed (map (λ name. name.now) c.args.found.now) c.args.more = c.deref-2.ensures.value ∙ c.in_ok-found.ensures in
    let note = rw c.as_slice.ensures at c.note_of.ensures in
    rw (q, f) at note
