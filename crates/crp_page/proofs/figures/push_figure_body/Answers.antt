use Rattle.std.proofs.Common.{append_assoc}
use Rattle.crp_page.proofs.figures.push_figure_body.Goals as goal

pub returns : goal.returns
returns c =
    rw (
      c.in_ok-extend_from_slice-6.ensures.items,
      c.in_ok-extend_from_slice-5.ensures.items,
      c.in_ok-extend_from_slice-4.ensures.items,
      c.in_ok-extend_from_slice-3.ensures.items,
      c.in_ok-extend_from_slice-2.ensures.items,
      c.in_ok-push_ground_name.ensures,
      c.in_ok-extend_from_slice.ensures.items,
    )
    (simp append_assoc)
