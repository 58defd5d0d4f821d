use Rattle.std.proofs.Common.{◌-◌, drop, refl, arith}
use Rattle.std.proofs.lemmas.List.{length-drop}
use Rattle.crp_chains.proofs.Blockers.{linked_short}
use Rattle.crp_thinning.proofs.linking.are_linked.Goals as goal

pub returns : goal.returns
returns c = (
  λ h. c.loop-i.invariant.1 (linked_short c.args.track.now.place (drop (c.loop-i.i - 1) c.args.chain.now) (omega (arith, length-drop (c.loop-i.i - 1) c.args.chain.now, c.loop-i-test.false))),
  λ h. refl,
)
