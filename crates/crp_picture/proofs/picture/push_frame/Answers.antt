use Rattle.std.proofs.Common.{◌≡◌, ◌∙◌, ℕ, List, ◌++◌, length, map, refl, ap, arith}
use Rattle.crp_follow.specs.Stated.{moves_of}
use Rattle.crp_picture.specs.Frames.{aimed_at}
use Rattle.crp_picture.specs.Pictures.{drawn, aim, first_arrow}
use Rattle.crp_picture.specs.Views.{cell_as, frame_as}
use Rattle.crp_picture.proofs.Drawing.{three, frame_same}
use Rattle.crp_picture.proofs.picture.push_frame.Goals as goal

pub returns : goal.returns
returns c =
    let tiers = c.args.tiers in
    let f = frame_as c.args.frame.now in
    let all = c.args.bay.now.stated.moves in
    let rows : c.len.result ≡ length f.before = omega arith in
    let cells = map cell_as c.deref.result.now in
    three c.args.text.now.items c.push_drawn.new.text.items c.push_aim.new.text.items c.push_first_arrow.new.text.items (drawn tiers c.len.result cells) (aim tiers (moves_of all) f (aimed_at f))
    (first_arrow tiers f.step f.moves) c.in_ok-push_drawn.ensures c.in_ok-push_aim.ensures c.in_ok-push_first_arrow.ensures
    ∙ ap (λ (l : List ℕ). c.args.text.now.items ++ l)
    (frame_same tiers c.args.bay.now f all c.len.result cells refl rows (ap (map cell_as) c.deref.ensures.value ∙ c.in_ok-cells.ensures))
