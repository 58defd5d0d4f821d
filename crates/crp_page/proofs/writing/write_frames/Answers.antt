use Rattle.std.proofs.Common.{◌≡◌, ◌∷◌, [], refl, ap}
use Rattle.std.specs.Prelude.{flat_map}
use Rattle.std.proofs.lemmas.Result.{err_from_is_err_and}
use Rattle.crp_picture.specs.Views.{frame_as}
use Rattle.crp_page.specs.Sections.{frame_figure}
use Rattle.crp_page.proofs.Writes.{nothing_yet, one_text_more, all_written, stops_here, stops_next, at_some, at_none}
use Rattle.crp_page.proofs.writing.write_frames.Goals as goal

pub loop-frame-init : goal.loop-frame-init
loop-frame-init g c =
    let figures = flat_map (frame_figure c.args.on c.args.ship.now c.args.bay.now) c.args.frames in
    record { so = nothing_yet figures figures _ refl c.requires; passed = c.requires }

pub returns-in_err-frame-clause-wrote : goal.returns-in_err-frame-clause-wrote
returns-in_err-frame-clause-wrote g c =
    let p = err_from_is_err_and c.from_residual.result c.from_residual.ensures.1 in
    rw (p.1, p.2) (stops_here _ _ _ _ c.loop-frame.invariant.so c.loop-frame.invariant.passed)

pub returns-in_err-write_made-clause-wrote : goal.returns-in_err-write_made-clause-wrote
returns-in_err-write_made-clause-wrote g c =
    let p = err_from_is_err_and c.from_residual-in_err-write_made.result c.from_residual-in_err-write_made.ensures.1 in
    let figure = frame_figure c.args.on c.args.ship.now c.args.bay.now in
    rw (p.1, p.2) (stops_next _ _ (figure (frame_as c.in-Some.frame)) (flat_map figure c.in-Some.later) _ _ _ _ c.loop-frame.invariant.so (ap (flat_map figure) (at_some (λ x. c.loop-frame.rest ≡ frame_as x.0 ∷ x.1) c.in-Some.is c.in_ok-frame.ensures.next))
    (c.in_err-write_made.ensures.wrote (figure (frame_as c.in-Some.frame)) c.frame_text.ensures))

pub loop-frame-preserved : goal.loop-frame-preserved
loop-frame-preserved g c =
    let figure = frame_figure c.args.on c.args.ship.now c.args.bay.now in
    record {
      so = one_text_more _ _ (figure (frame_as c.in-Some.frame)) (flat_map figure c.in-Some.later) _ _ _ c.loop-frame.invariant.so (ap (flat_map figure) (at_some (λ x. c.loop-frame.rest ≡ frame_as x.0 ∷ x.1) c.in-Some.is c.in_ok-frame.ensures.next))
          (c.in_ok-write_made.ensures.wrote (figure (frame_as c.in-Some.frame)) c.frame_text.ensures);
      passed = c.in_ok-write_made.ensures.passed;
    }

pub returns-clause-wrote : goal.returns-clause-wrote
returns-clause-wrote g c =
    let figure = frame_figure c.args.on c.args.ship.now c.args.bay.now in
    all_written _ _ _ _ c.loop-frame.invariant.so (ap (flat_map figure) (at_none (c.loop-frame.rest ≡ []) c.in_default.is c.in_ok-frame.ensures.none))
