use Rattle.std.proofs.Common.{codes}
use Rattle.std.proofs.lemmas.Result.{IfOk-weaker}
use Rattle.crp_words.specs.Commands.{repeated_rule, text_rule}
use Rattle.crp_words.proofs.CommandLine.{more_arg}
use Rattle.crp_words.proofs.options.with_orders.Goals as goal

pub returns : goal.returns
returns c = IfOk-weaker c.arg-3.result _ _ (λ new adds shape is. more_arg _ _ new _ (repeated_rule (codes "message")) adds c.repeated-message.ensures
    (more_arg _ _ _ _ (text_rule (codes "code") (codes "LOA")) c.in_ok-arg-2.ensures c.text-code.ensures
    (more_arg _ _ _ shape (text_rule (codes "order") (codes "listed")) c.in_ok-arg.ensures c.text-order.ensures is))) c.arg-3.ensures
