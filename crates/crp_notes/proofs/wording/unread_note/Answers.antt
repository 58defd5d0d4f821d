use Rattle.std.proofs.Common.{◌≡◌, ◌∙◌, [], ◌++◌, cond}
use Rattle.std.specs.Prelude.{codes, decimal}
use Rattle.crp_notes.specs.Wording.{quoted}
use Rattle.crp_notes.proofs.wording.unread_note.Goals as goal

pub returns : goal.returns
returns c =
    let m : c.deref.result.now ≡ cond c.args.several (codes "message " ++ (decimal c.args.message ++ codes ": ")) [] = c.deref.ensures.value ∙ c.in_ok-message.ensures in
    let e : c.as_bytes.result.now ≡ decimal c.args.orders = c.as_bytes.ensures.value ∙ c.format.ensures.text in
    let k : c.deref-2.result.now ≡ quoted c.args.code.now = c.deref-2.ensures.value ∙ c.in_ok-code.ensures in
    let note = rw c.as_slice.ensures at c.note_of.ensures in
    rw (m, e, c.orders_words.ensures, k, c.unread_words.ensures) at note
