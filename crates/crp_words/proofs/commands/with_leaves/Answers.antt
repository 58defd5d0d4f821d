use Rattle.std.proofs.lemmas.Result.{IfOk-weaker}
use Rattle.crp_words.specs.Commands.{bound, check}
use Rattle.crp_words.proofs.CommandLine.{more_command}
use Rattle.crp_words.proofs.commands.with_leaves.Goals as goal

pub returns : goal.returns
returns c =
    let with_bound = more_command _ _ _ _ bound c.in_ok-subcommand.ensures c.in_ok-bound.ensures (c.in_ok-line.ensures _ c.in_ok-top.ensures) in
    IfOk-weaker c.subcommand-2.result _ _ (λ line more. more_command _ _ _ _ check more c.in_ok-check.ensures with_bound) c.subcommand-2.ensures
