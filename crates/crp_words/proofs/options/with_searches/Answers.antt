use Rattle.std.proofs.lemmas.Result.{IfOk-weaker}
use Rattle.crp_words.specs.Commands.{total_seconds_rule}
use Rattle.crp_words.proofs.CommandLine.{more_arg}
use Rattle.crp_words.proofs.options.with_searches.Goals as goal

pub returns : goal.returns
returns c = IfOk-weaker c.arg.result _ _ (λ new adds shape is. more_arg _ _ new _ total_seconds_rule adds c.total_seconds.ensures (c.in_ok-with_search.ensures shape is)) c.arg.ensures
