use Rattle.std.proofs.Common.{append_assoc}
use Rattle.crp_page.proofs.figures.push_end_caption.Goals as goal

pub returns : goal.returns
returns c =
    rw (c.in_ok-extend_from_slice-2.ensures.items, c.in_ok-push_counted.ensures, c.in_ok-extend_from_slice.ensures.items, c.standing.ensures, c.deref.ensures.value) (simp append_assoc)
