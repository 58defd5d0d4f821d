use Rattle.std.proofs.Common.{◌≡◌, ◌∙◌, length}
use Rattle.std.specs.Prelude.{decimal}
use Rattle.crp_notes.specs.Wording.{which_words, tiers_words}
use Rattle.crp_notes.proofs.wording.unlisted_note.Goals as goal

pub returns : goal.returns
returns c =
    let rows : c.as_bytes.result.now ≡ decimal (length c.args.heights.now) = c.as_bytes.ensures.value ∙ c.format.ensures.text in
    let which : c.deref.result.now ≡ which_words c.args.first.now c.args.bays = c.deref.ensures.value ∙ c.in_ok-which.ensures in
    let tiers : c.deref-2.result.now ≡ tiers_words c.args.heights.now = c.deref-2.ensures.value ∙ c.in_ok-tiers.ensures in
    let note = rw c.as_slice.ensures at c.note_of.ensures in
    rw (rows, which, tiers, c.unlisted_words.ensures) at note
