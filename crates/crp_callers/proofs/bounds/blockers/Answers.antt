use Rattle.std.proofs.Common.{◌∙◌}
use Rattle.crp_callers.proofs.bounds.blockers.Goals as goal

pub returns : goal.returns
returns c =
    let known = c.words_mean.ensures.blocking c.args.position.now.place in
    (known.0, known.1, c.blocking.ensures.value ∙ known.2)
