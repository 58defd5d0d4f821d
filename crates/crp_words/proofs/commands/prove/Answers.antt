use Rattle.std.proofs.Common.{codes}
use Rattle.std.proofs.lemmas.Result.{IfOk-weaker}
use Rattle.crp_words.specs.Commands.{leaf}
use Rattle.crp_words.proofs.commands.prove.Goals as goal

pub returns : goal.returns
returns c = IfOk-weaker c.with_search.result _ _ (λ new more. more (leaf (codes "prove")) c.in_ok-command.ensures) c.with_search.ensures
