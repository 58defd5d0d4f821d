use Rattle.std.proofs.Common.{ap, decimal, ◌∙◌, ◌++◌}
use Rattle.crp_commands.proofs.Replayed.{five_pieces}
use Rattle.crp_commands.proofs.replaying.push_count.Goals as goal

pub returns : goal.returns
returns c =
    five_pieces _ _ _ _ _ _ _ _ _ _ _
    c.in_ok-extend_from_slice.ensures.items
    c.in_ok-push_decimal.ensures
    c.in_ok-extend_from_slice-2.ensures.items
    (c.in_ok-push_decimal-2.ensures ∙ ap (λ n. c.extend_from_slice-2.new.self.items ++ decimal n) c.requires)
    c.in_ok-push.ensures.items
