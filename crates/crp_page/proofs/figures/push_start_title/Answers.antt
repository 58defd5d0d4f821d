use Rattle.std.proofs.Common.{append_assoc}
use Rattle.crp_page.proofs.figures.push_start_title.Goals as goal

pub returns : goal.returns
returns c =
    rw (c.in_ok-push_rows.ensures, c.in_ok-extend_from_slice.ensures.items, c.in_ok-push_bay_title.ensures, c.deref.ensures.value) (simp append_assoc)
