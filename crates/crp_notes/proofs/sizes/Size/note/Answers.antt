use Rattle.std.proofs.Common.{◌≡◌, ◌∙◌, Some, length, slice_get, sym, ap}
use Rattle.std.specs.Option.{option_map}
use Rattle.crp_notes.specs.Wording.{beyond_note}
use Rattle.crp_notes.proofs.Planned.{some_note, kept_note}
use Rattle.crp_notes.proofs.sizes.Size.note.Goals as goal

pub returns : goal.returns
returns c = λ yard planned kept.
    let size = c.args.self.now in
    let at : slice_get size.beyond.items 0 ≡ Some c.in-Some.first.now = sym (ap (option_map (λ b. b.now)) (sym c.in-Some.is) ∙ c.first.ensures.value ∙ (λ k. slice_get (c.deref.ensures.value k) 0)) in
    let count : c.len-count.result ≡ length size.beyond.items = c.len-count.ensures ∙ size.beyond.ok.0 in
    ap Some (c.in_ok-note.ensures ∙ (λ k. beyond_note (c.as_slice-heights.ensures.value k) c.in-Some.first.now (count k) size.row size.tier))
    ∙ some_note size.heights.items size.row size.tier size.beyond.items c.in-Some.first.now at ∙ sym (kept_note yard planned size kept)
