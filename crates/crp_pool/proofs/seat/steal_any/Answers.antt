use Rattle.std.proofs.Common.{◌<◌, rules, ◌∙◌}
use Rattle.std.proofs.lemmas.List.Elements.{All-set}
use Rattle.std.proofs.Math.Seq.{map-set_same}
use Rattle.crp_pool.specs.Deques.{Way, shape, way_hand}
use Rattle.crp_pool.proofs.Ways.{taken_set, same_length}
use Rattle.crp_pool.proofs.seat.steal_any.Goals as goal

pub returns-in-Some-clause-shape : goal.returns-in-Some-clause-shape
returns-in-Some-clause-shape c = map-set_same shape _ _ _ c.index_mut.result.now (search rules) ∙ c.loop-i.invariant.shapes

pub returns-in-Some-clause-rule : goal.returns-in-Some-clause-rule
returns-in-Some-clause-rule c = let n = same_length c.loop-i.links.items c.args.links.now.items c.loop-i.invariant.shapes in rw (← c.loop-i.invariant.hands) (taken_set way_hand c.loop-i.links.items _ c.steal.new.self c.index_mut.result.now c.in-Some.name (search rules) (search rules))

pub loop-i-preserved : goal.loop-i-preserved
loop-i-preserved c = record {
  shares = All-set (λ (w : Way). 0 < w.hand.shares) _ _ _ (search rules) c.loop-i.invariant.shares;
  shapes = map-set_same shape _ _ _ c.index_mut.result.now (search rules) ∙ c.loop-i.invariant.shapes;
  hands = map-set_same way_hand _ _ _ c.index_mut.result.now (search rules) ∙ c.loop-i.invariant.hands;
}
