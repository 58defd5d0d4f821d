use Rattle.std.proofs.lemmas.Result.{IfOk-weaker}
use Rattle.crp_words.specs.Commands.{flag_rule, leaf}
use Rattle.crp_words.proofs.CommandLine.{more_arg}
use Rattle.crp_words.proofs.commands.leaf_with_flag.Goals as goal

pub returns : goal.returns
returns c = IfOk-weaker c.arg.result _ _ (λ new adds. more_arg _ _ new (leaf c.args.name.now) (flag_rule c.args.flagged.now) adds c.flag.ensures c.in_ok-command.ensures) c.arg.ensures
