use Rattle.std.proofs.Common.{codes}
use Rattle.std.proofs.lemmas.Result.{IfOk-weaker}
use Rattle.crp_words.specs.Commands.{json_rule, optional_rule, progress_rule, quiet_rule}
use Rattle.crp_words.proofs.CommandLine.{more_arg}
use Rattle.crp_words.proofs.options.with_outputs.Goals as goal

pub returns : goal.returns
returns c = IfOk-weaker c.arg-5.result _ _ (λ new adds shape is. more_arg _ _ new _ json_rule adds c.json.ensures
    (more_arg _ _ _ _ progress_rule c.in_ok-arg-4.ensures c.progress.ensures
    (more_arg _ _ _ _ quiet_rule c.in_ok-arg-3.ensures c.quiet.ensures
    (more_arg _ _ _ _ (optional_rule (codes "after")) c.in_ok-arg-2.ensures c.optional-after.ensures
    (more_arg _ _ _ shape (optional_rule (codes "cert")) c.in_ok-arg.ensures c.optional-cert.ensures is))))) c.arg-5.ensures
