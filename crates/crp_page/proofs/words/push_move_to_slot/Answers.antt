use Rattle.std.proofs.Common.{append_assoc}
use Rattle.crp_page.proofs.words.push_move_to_slot.Goals as goal

pub returns : goal.returns
returns c = rw (c.in_ok-extend_from_slice.ensures.items, c.in_ok-push_slot_words.ensures, c.in_ok-push_move_in_item.ensures, c.slot_of.ensures) (simp append_assoc)
