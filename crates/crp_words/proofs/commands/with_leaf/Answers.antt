use Rattle.std.proofs.lemmas.Result.{IfOk-weaker}
use Rattle.crp_words.specs.Commands.{leaf}
use Rattle.crp_words.proofs.CommandLine.{more_command}
use Rattle.crp_words.proofs.commands.with_leaf.Goals as goal

pub returns : goal.returns
returns c = IfOk-weaker c.subcommand.result _ _ (λ new adds app is. more_command _ _ new app (leaf c.args.name.now) adds c.in_ok-leaf.ensures is) c.subcommand.ensures
