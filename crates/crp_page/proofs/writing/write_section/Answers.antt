use Rattle.std.proofs.Common.{◌≡◌, ◌∙◌, List, ap, subst}
use Rattle.std.specs.Prelude.{flat_map, IfOk}
use Rattle.std.proofs.lemmas.Result.{err_from_is_err_and}
use Rattle.crp_follow.specs.Followed.{BayFollowed}
use Rattle.crp_follow.specs.Views.{bay_followed}
use Rattle.crp_picture.specs.Frames.{Frame, frames_of}
use Rattle.crp_page.specs.declared.grounds.Ground.{Ground}
use Rattle.crp_page.specs.Grounds.{ground_of}
use Rattle.crp_page.specs.Sections.{section, section_front, frame_figure, section_end}
use Rattle.crp_page.proofs.Writes.{stops_first, stops_before, stops_behind, writes_as, stops_as, wrote_then}
use Rattle.crp_page.proofs.writing.write_section.Goals as goal

pub returns-in_err-drawn-clause-wrote : goal.returns-in_err-drawn-clause-wrote
returns-in_err-drawn-clause-wrote g c =
    let p = err_from_is_err_and c.from_residual.result c.from_residual.ensures.1 in
    rw (p.1, p.2) (stops_first (section c.args.sizes.now c.args.ship.now c.args.number (bay_followed c.args.bay.now)) _ c.requires.passed)

pub returns-in_err-frames-clause-wrote : goal.returns-in_err-frames-clause-wrote
returns-in_err-frames-clause-wrote g c =
    let p = err_from_is_err_and c.from_residual-in_err-frames.result c.from_residual-in_err-frames.ensures.1 in
    rw (p.1, p.2) (stops_first (section c.args.sizes.now c.args.ship.now c.args.number (bay_followed c.args.bay.now)) _ c.requires.passed)

pub returns-in_err-write_made-clause-wrote : goal.returns-in_err-write_made-clause-wrote
returns-in_err-write_made-clause-wrote g c =
    let p = err_from_is_err_and c.from_residual-in_err-write_made.result c.from_residual-in_err-write_made.ensures.1 in
    let front = section_front c.args.sizes.now c.args.number (bay_followed c.args.bay.now) in
    rw (p.1, p.2) (stops_before front _ _ _ _ (c.in_err-write_made.ensures.wrote front c.section_front.ensures))

pub returns-in_err-write_frames-clause-wrote : goal.returns-in_err-write_frames-clause-wrote
returns-in_err-write_frames-clause-wrote g c =
    let p = err_from_is_err_and c.from_residual-in_err-write_frames.result c.from_residual-in_err-write_frames.ensures.1 in
    let front = section_front c.args.sizes.now c.args.number (bay_followed c.args.bay.now) in
    let bay = bay_followed c.args.bay.now in
    let figures = λ (on : Ground) (b : BayFollowed) (frames : List Frame). flat_map (frame_figure on c.args.ship.now b) frames in
    let same = ap (λ b. figures c.ground_of-on.result b c.in_ok-frames.frames) c.in_ok-drawn.ensures ∙ ap (figures c.ground_of-on.result bay) c.in_ok-frames.ensures ∙ ap (λ on. figures on bay (frames_of bay)) c.ground_of-on.ensures in
    rw (p.1, p.2) (stops_behind front _ _ _ _ _ (c.in_ok-write_made.ensures.wrote front c.section_front.ensures)
    (stops_before _ _ _ _ _ (stops_as same c.in_err-write_frames.ensures.wrote)))

pub returns-clause-wrote : goal.returns-clause-wrote
returns-clause-wrote g c =
    let front = section_front c.args.sizes.now c.args.number (bay_followed c.args.bay.now) in
    let bay = bay_followed c.args.bay.now in
    let figures = λ (on : Ground) (b : BayFollowed) (frames : List Frame). flat_map (frame_figure on c.args.ship.now b) frames in
    let same = ap (λ b. figures c.ground_of-on.result b c.in_ok-frames.frames) c.in_ok-drawn.ensures ∙ ap (figures c.ground_of-on.result bay) c.in_ok-frames.ensures ∙ ap (λ on. figures on bay (frames_of bay)) c.ground_of-on.ensures in
    let end = subst (λ on. IfOk c.section_end.result (λ text. text.items ≡ section_end on bay)) c.ground_of-on.ensures c.section_end.ensures in
    wrote_then c.write_made-2.result front _ _ _ _ (c.in_ok-write_made.ensures.wrote front c.section_front.ensures)
    (wrote_then c.write_made-2.result _ _ _ _ _ (writes_as same c.in_ok-write_frames.ensures.wrote) (c.write_made-2.ensures.wrote (section_end (ground_of c.args.sizes.now c.args.number bay.stated.bay) bay) end))
