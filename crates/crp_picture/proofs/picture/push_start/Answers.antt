use Rattle.std.proofs.Common.{◌∙◌, ◌++◌, ap}
use Rattle.crp_picture.proofs.Drawing.{position_same}
use Rattle.crp_picture.proofs.picture.push_start.Goals as goal

pub returns : goal.returns
returns c =
    c.in_ok-push_position.ensures
    ∙ ap (λ l. c.args.text.now.items ++ l) (position_same c.args.tiers c.deref.result.now _ c.deref-2.result.now _ c.deref.ensures.value c.deref-2.ensures.value)
