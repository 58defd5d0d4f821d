use Rattle.std.proofs.Common.{◌∙◌, ap}
use Rattle.crp_jobs.specs.Placed.{shown}
use Rattle.crp_jobs.proofs.Shown.{segment-line, segment-line-none}
use Rattle.crp_jobs.proofs.placed.line_on_segment.Goals as goal

pub returns-in_ok-said-in-Some-clause-placed : goal.returns-in_ok-said-in-Some-clause-placed
returns-in_ok-said-in-Some-clause-placed c =
    segment-line c.args.number c.in-Some.offset c.line_at.result c.segment_end.result c.args.text.now c.line_front-bytes.result.now c.in_ok-said-in-Some.said.items _
    c.line_at.ensures
    c.line_front-bytes.ensures
    c.in_ok-said-in-Some.ensures
    (c.shown.ensures.shown ∙ ap shown c.as_slice.ensures.value)
    c.segment_end.ensures.end
    c.in-Some.ensures.place
    c.in-Some.ensures.none

pub returns-in_ok-said-in-None-clause-placed : goal.returns-in_ok-said-in-None-clause-placed
returns-in_ok-said-in-None-clause-placed c =
    segment-line-none c.args.number c.args.text.now c.in_ok-said-in-None.said.items _
    c.in_ok-said-in-None.ensures
    (c.shown-in-None.ensures.shown ∙ ap shown c.as_slice-in-None.ensures.value)
    c.in-None.ensures.place
