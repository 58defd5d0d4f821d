use Rattle.std.proofs.lemmas.Result.{IfOk-weaker}
use Rattle.crp_words.specs.Commands.{beam_rule, budget_rule, deepen_rule, first_rule, split_rule, workers_rule}
use Rattle.crp_words.proofs.CommandLine.{more_arg}
use Rattle.crp_words.proofs.options.with_ways.Goals as goal

pub returns : goal.returns
returns c = IfOk-weaker c.arg-6.result _ _ (λ new adds shape is. more_arg _ _ new _ deepen_rule adds c.deepen.ensures
    (more_arg _ _ _ _ beam_rule c.in_ok-arg-5.ensures c.beam.ensures
    (more_arg _ _ _ _ first_rule c.in_ok-arg-4.ensures c.first.ensures
    (more_arg _ _ _ _ split_rule c.in_ok-arg-3.ensures c.split.ensures
    (more_arg _ _ _ _ budget_rule c.in_ok-arg-2.ensures c.budget.ensures (more_arg _ _ _ shape workers_rule c.in_ok-arg.ensures c.workers.ensures is)))))) c.arg-6.ensures
