use Rattle.std.proofs.Common.{codes}
use Rattle.std.proofs.lemmas.Result.{IfOk-weaker}
use Rattle.crp_words.specs.Commands.{number_rule, optional_rule, separator_rule}
use Rattle.crp_words.proofs.CommandLine.{more_arg}
use Rattle.crp_words.proofs.options.with_size.Goals as goal

pub returns : goal.returns
returns c = IfOk-weaker c.arg-5.result _ _ (λ new adds shape is. more_arg _ _ new _ separator_rule adds c.text-separator.ensures
    (more_arg _ _ _ _ (optional_rule (codes "sizes")) c.in_ok-arg-4.ensures c.optional-sizes.ensures
    (more_arg _ _ _ _ (optional_rule (codes "heights")) c.in_ok-arg-3.ensures c.optional-heights.ensures
    (more_arg _ _ _ _ (number_rule (codes "tiers") (codes "5")) c.in_ok-arg-2.ensures c.number-tiers.ensures
    (more_arg _ _ _ shape (number_rule (codes "rows") (codes "6")) c.in_ok-arg.ensures c.number-rows.ensures is))))) c.arg-5.ensures
