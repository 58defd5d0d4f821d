use Rattle.std.proofs.Common.{codes}
use Rattle.std.proofs.lemmas.Result.{IfOk-weaker}
use Rattle.crp_words.specs.Commands.{optional_number_rule, optional_rule}
use Rattle.crp_words.proofs.CommandLine.{more_arg}
use Rattle.crp_words.proofs.options.with_after.Goals as goal

pub returns : goal.returns
returns c = IfOk-weaker c.arg-2.result _ _ (λ new adds shape is. more_arg _ _ new _ (optional_number_rule (codes "loaded")) adds c.optional_number-loaded.ensures
    (more_arg _ _ _ shape (optional_rule (codes "after")) c.in_ok-arg.ensures c.optional-after.ensures is)) c.arg-2.ensures
