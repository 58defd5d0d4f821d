use Rattle.std.proofs.Common.{codes}
use Rattle.std.proofs.lemmas.Result.{IfOk-weaker}
use Rattle.crp_words.specs.Commands.{flag_rule, leaf, with_option, workers_rule}
use Rattle.crp_words.proofs.CommandLine.{more_arg}
use Rattle.crp_words.proofs.commands.check.Goals as goal

pub returns : goal.returns
returns c =
    let sized = with_option (flag_rule (codes "any-size")) (leaf (codes "check")) in
    let worked = more_arg _ _ _ sized workers_rule c.in_ok-worked.ensures c.workers.ensures c.in_ok-command.ensures in
    IfOk-weaker c.with_json.result _ _ (λ new more. more (with_option workers_rule sized) worked) c.with_json.ensures
