use Rattle.std.proofs.lemmas.Result.{IfOk-weaker}
use Rattle.crp_words.specs.Commands.{absent, audit, follow, leaves, prove, rewrite, solve}
use Rattle.crp_words.proofs.CommandLine.{more_command}
use Rattle.crp_words.proofs.commands.command_line.Goals as goal

pub returns : goal.returns
returns c =
    let with_prove = more_command _ _ _ leaves prove c.in_ok-subcommand.ensures c.in_ok-prove.ensures c.in_ok-with_leaves.ensures in
    let with_solve = more_command _ _ _ _ solve c.in_ok-subcommand-2.ensures c.in_ok-solve.ensures with_prove in
    let with_audit = more_command _ _ _ _ audit c.in_ok-subcommand-3.ensures c.in_ok-audit.ensures with_solve in
    let with_follow = more_command _ _ _ _ follow c.in_ok-subcommand-4.ensures c.in_ok-follow.ensures with_audit in
    let with_absent = more_command _ _ _ _ absent c.in_ok-subcommand-5.ensures c.in_ok-absent.ensures with_follow in
    IfOk-weaker c.subcommand-6.result _ _ (λ new adds. more_command _ _ new _ rewrite adds c.in_ok-rewrite.ensures with_absent) c.subcommand-6.ensures
