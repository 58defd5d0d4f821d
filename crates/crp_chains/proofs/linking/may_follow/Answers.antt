use Rattle.crp_bay.proofs.Reaching.{reached_sound}
use Rattle.crp_chains.proofs.linking.may_follow.Goals as goal

pub is_above-requires-clause-sound : goal.is_above-requires-clause-sound
is_above-requires-clause-sound c = reached_sound c.args.position.now.place c.ordered.ensures.reached
