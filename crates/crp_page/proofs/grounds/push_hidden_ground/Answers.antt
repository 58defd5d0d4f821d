use Rattle.std.specs.Prelude.{codes}
use Rattle.crp_picture.specs.Pictures.{ground_picture}
use Rattle.crp_page.proofs.Chains.{regroup3}
use Rattle.crp_page.proofs.grounds.push_hidden_ground.Goals as goal

pub returns : goal.returns
returns c =
    rw (c.in_ok-extend_from_slice-2.ensures.items, c.in_ok-push_ground.ensures, c.in_ok-extend_from_slice.ensures.items)
    (regroup3 c.args.text.now.items (codes "<svg class=\"z\" aria-hidden=\"true\"><defs>") (ground_picture c.args.number c.args.heights.now) (codes "</defs></svg>\n"))
