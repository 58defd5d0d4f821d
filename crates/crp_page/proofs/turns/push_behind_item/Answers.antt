use Rattle.std.proofs.Common.{append_assoc}
use Rattle.crp_page.proofs.turns.push_behind_item.Goals as goal

pub returns : goal.returns
returns c =
    rw (c.in_ok-extend_from_slice-2.ensures.items, c.in_ok-push_bay_name.ensures, c.in_ok-extend_from_slice.ensures.items, c.in_ok-push_move_in_item.ensures) (simp append_assoc)
