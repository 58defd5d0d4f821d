use Rattle.std.proofs.Common.{◌-◌, ◌↔◌, drop}
use Rattle.crp_chains.specs.Chains.{AreLinked}
use Rattle.crp_thinning.proofs.linking.are_linked.Given as goal

abbrev pub invariant-loop-i : goal.invariant-loop-i
invariant-loop-i l = AreLinked l.track.place l.chain ↔ AreLinked l.track.place (drop (l.i - 1) l.chain)
