use Rattle.std.proofs.Common.{◌∙◌}
use Rattle.crp_follow.proofs.Named.{named_among}
use Rattle.crp_follow.proofs.bays.is_named.Goals as goal

pub returns : goal.returns
returns c bays are = c.contains.ensures ∙ named_among bays c.args.bay.now c.args.names.now.keys are
