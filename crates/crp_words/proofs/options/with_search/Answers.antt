use Rattle.std.proofs.lemmas.Result.{IfOk-weaker}
use Rattle.crp_words.specs.Commands.{chains_rule, seconds_rule, stop_rule, strong_rule, thin_rule}
use Rattle.crp_words.proofs.CommandLine.{more_arg}
use Rattle.crp_words.proofs.options.with_search.Goals as goal

pub returns : goal.returns
returns c = IfOk-weaker c.arg-5.result _ _ (λ new adds shape is. more_arg _ _ new _ stop_rule adds c.stop.ensures
    (more_arg _ _ _ _ seconds_rule c.in_ok-arg-4.ensures c.seconds.ensures
    (more_arg _ _ _ _ strong_rule c.in_ok-arg-3.ensures c.strong.ensures
    (more_arg _ _ _ _ chains_rule c.in_ok-arg-2.ensures c.chains.ensures
    (more_arg _ _ _ _ thin_rule c.in_ok-arg.ensures c.thin.ensures (c.in_ok-with_ways.ensures shape is)))))) c.arg-5.ensures
