use Rattle.std.proofs.Common.{codes}
use Rattle.std.proofs.lemmas.Result.{IfOk-weaker}
use Rattle.crp_words.specs.Commands.{chains_rule, leaf, with_option}
use Rattle.crp_words.proofs.commands.bound.Goals as goal

pub returns : goal.returns
returns c = IfOk-weaker c.with_json.result _ _ (λ new more. more (with_option chains_rule (leaf (codes "bound"))) c.in_ok-command.ensures) c.with_json.ensures
