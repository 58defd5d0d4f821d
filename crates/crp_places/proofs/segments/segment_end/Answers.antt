use Rattle.std.proofs.Common.{◌≡◌, ◌∙◌, ◌-◌, ℕ, List, length, drop, false, ap}
use Rattle.std.proofs.lemmas.List.{take_rest}
use Rattle.crp_places.specs.Segments.{behind_terminator}
use Rattle.crp_places.proofs.SegmentSteps.{end-is}
use Rattle.crp_places.proofs.segments.segment_end.Goals as goal

pub returns-clause-end : goal.returns-clause-end
returns-clause-end c number own of =
    let passed : c.after_segment.result.now ≡ behind_terminator c.opened.result.0 false (drop c.args.offset c.args.text.now) =
    c.after_segment.ensures.passed ∙ ap (behind_terminator c.opened.result.0 false) (take_rest c.args.text.now c.args.offset) in
    ap (λ (bytes : List ℕ). length c.args.text.now - length bytes) passed ∙ end-is c.args.text.now number c.args.offset own _ _ of c.opened.ensures.opened
