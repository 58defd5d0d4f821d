use Rattle.std.proofs.Common.{append_assoc}
use Rattle.crp_page.proofs.Walking.{some_behind}
use Rattle.crp_page.proofs.turns.push_behind.Goals as goal

pub returns : goal.returns
returns c =
    rw (
      some_behind c.args.moves.now c.is_empty.result c.is_empty.ensures c.if-is_empty.false,
      c.in_ok-extend_from_slice-2.ensures.items,
      c.in_ok-push_behind_items.ensures,
      c.in_ok-extend_from_slice.ensures.items,
    )
    (simp append_assoc)
