use Rattle.crp_bay.proofs.Reaching.{reached_sound}
use Rattle.crp_chains.proofs.linking.chain_gain_of.Goals as goal

pub chain_of-requires-clause-sound : goal.chain_of-requires-clause-sound
chain_of-requires-clause-sound c = reached_sound c.args.position.now.place c.next-next.ensures.reached
