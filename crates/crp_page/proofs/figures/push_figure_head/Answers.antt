use Rattle.std.proofs.Common.{append_assoc}
use Rattle.crp_page.proofs.figures.push_figure_head.Goals as goal

pub returns : goal.returns
returns c =
    rw (
      c.in_ok-extend_from_slice-2.ensures.items,
      c.in_ok-push_decimal-2.ensures,
      c.in_ok-push.ensures.items,
      c.in_ok-push_decimal.ensures,
      c.in_ok-extend_from_slice.ensures.items,
      c.from-2.ensures,
      c.from.ensures,
    )
    (simp append_assoc)
