use Rattle.std.proofs.Common.{append_assoc}
use Rattle.crp_page.proofs.turns.push_turn.Goals as goal

pub returns : goal.returns
returns c =
    rw (
      c.in_ok-extend_from_slice-3.ensures.items,
      c.in_ok-push_turn_words.ensures,
      c.in_ok-push_code.ensures,
      c.in_ok-extend_from_slice-2.ensures.items,
      c.in_ok-push_slot.ensures,
      c.in_ok-extend_from_slice.ensures.items,
    )
    (simp append_assoc)
