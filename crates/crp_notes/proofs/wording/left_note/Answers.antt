use Rattle.std.proofs.Common.{◌≡◌, ◌∙◌, length, map, take}
use Rattle.std.specs.Prelude.{decimal, nat_lt}
use Rattle.std.proofs.lemmas.List.{length-map}
use Rattle.crp_notes.specs.Wording.{bay_words, listed}
use Rattle.crp_notes.proofs.wording.left_note.Goals as goal

pub returns : goal.returns
returns c =
    let number : c.as_bytes.result.now ≡ decimal (length c.args.names.now) = c.as_bytes.ensures.value ∙ c.format.ensures.text in
    let bay : c.deref.result.now ≡ bay_words c.args.bay.now = c.deref.ensures.value ∙ c.in_ok-bay.ensures in
    let names : c.deref-2.result.now ≡ listed (take 10 (map (λ name. name.now) c.args.names.now)) (nat_lt 10 (length c.args.names.now)) = c.deref-2.ensures.value ∙ c.in_ok-listed.ensures in
    let note = rw c.as_slice.ensures at c.note_of.ensures in
    rw (length-map c.args.names.now (λ name. name.now)) (rw (number, bay, names, c.left_words.ensures) at note)
