use Rattle.std.proofs.Common.{append_assoc}
use Rattle.crp_page.proofs.Walking.{some_done}
use Rattle.crp_page.proofs.turns.push_turn_words.Goals as goal

pub returns : goal.returns
returns c =
    rw (
      some_done c.args.moves.now c.is_empty.result c.is_empty.ensures c.if-is_empty.false,
      c.in_ok-push_relocations_words.ensures,
      c.in_ok-extend_from_slice.ensures.items,
      c.in_ok-push_takes.ensures,
    )
    (simp append_assoc)
