use Rattle.std.proofs.Common.{◌∙◌, ◌++◌, length, map, refl, ap}
use Rattle.crp_follow.specs.Followed.{BayFollowed}
use Rattle.crp_follow.specs.Stated.{moves_of}
use Rattle.crp_picture.specs.Cells.{cells_of}
use Rattle.crp_picture.specs.Views.{cell_as}
use Rattle.crp_picture.proofs.Drawing.{drawn_same}
use Rattle.crp_picture.proofs.picture.push_position.Goals as goal

pub returns : goal.returns
returns c =
    c.in_ok-push_drawn.ensures
    ∙ ap (λ l. c.args.text.now.items ++ l)
    (drawn_same c.args.tiers (length c.args.rows.now) (length c.args.rows.now) (map cell_as c.deref.result.now) (cells_of (moves_of c.args.bay.now.stated.moves.items) c.args.rows.now) refl
    (ap (map cell_as) c.deref.ensures.value ∙ c.in_ok-cells.ensures ∙ ap (λ (b : BayFollowed). cells_of (moves_of b.stated.moves) c.args.rows.now) c.in_ok-drawn.ensures))
