use Rattle.std.proofs.Common.{◌∙◌, ap}
use Rattle.crp_jobs.specs.Placed.{shown}
use Rattle.crp_jobs.proofs.AgainSteps.{again-line, again-no-first, again-none, ok_by}
use Rattle.crp_jobs.proofs.ordered_again.line_on_ordered_again.Goals as goal

pub returns-in_default-clause-placed : goal.returns-in_default-clause-placed
returns-in_default-clause-placed c =
    ok_by c.line_on_segment.result _ _ c.line_on_segment.ensures.placed (λ line is. again-no-first c.args.number c.args.first c.args.text.now line.items c.in_default.ensures.place is)

pub returns-in_default-segment_at-clause-placed : goal.returns-in_default-segment_at-clause-placed
returns-in_default-segment_at-clause-placed c =
    again-none c.args.number c.args.first c.args.text.now c.in_ok-said.said.items _
    c.in_ok-said.ensures
    (c.shown.ensures.shown ∙ ap shown c.as_slice.ensures.value)
    c.in_default-segment_at.ensures.place

pub returns-clause-placed : goal.returns-clause-placed
returns-clause-placed c =
    again-line c.args.number c.args.first c.in-Some-segment_at.offset c.in-Some.before c.line_at-line.result c.line_at.result c.segment_end.result c.args.text.now
    c.as_slice-2.result.now c.line_front-bytes.result.now c.in_ok-said-2.said.items _
    c.line_at-line.ensures
    c.line_at.ensures
    (c.as_slice-2.ensures.value ∙ c.in_ok-words.ensures)
    c.line_front-bytes.ensures
    c.in_ok-said-2.ensures
    (c.shown-2.ensures.shown ∙ ap shown c.as_slice-3.ensures.value)
    c.segment_end.ensures.end
    c.in-Some-segment_at.ensures.place
    c.in-Some-segment_at.ensures.none
    c.in-Some.ensures.place
