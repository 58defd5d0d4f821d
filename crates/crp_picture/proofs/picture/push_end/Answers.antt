use Rattle.std.proofs.Common.{◌∙◌, ◌++◌, refl, ap}
use Rattle.crp_picture.proofs.Drawing.{position_same}
use Rattle.crp_picture.proofs.picture.push_end.Goals as goal

pub returns : goal.returns
returns c =
    c.in_ok-push_position.ensures
    ∙ ap (λ l. c.args.text.now.items ++ l) (position_same c.args.tiers c.args.bay.now.stated.moves.items _ c.deref.result.now _ refl c.deref.ensures.value)
