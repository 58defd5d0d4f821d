use Rattle.std.proofs.Common.{◌<◌, rules, arith, ◌∙◌, below_more}
use Rattle.std.proofs.lemmas.List.Elements.{All-set}
use Rattle.std.proofs.Math.Seq.{map-set_same}
use Rattle.crp_pool.specs.Deques.{Own, own_kept, own_hand}
use Rattle.crp_pool.proofs.Ways.{taken_set}
use Rattle.crp_pool.proofs.Owns.{found_here, kept_shares}
use Rattle.crp_pool.proofs.rest.take_any.Goals as goal

pub returns-in-Some-clause-kept : goal.returns-in-Some-clause-kept
returns-in-Some-clause-kept c = map-set_same own_kept _ _ _ c.index_mut.result.now (search rules) ∙ c.loop-i.invariant.kept

pub returns-in-Some-clause-rule : goal.returns-in-Some-clause-rule
returns-in-Some-clause-rule c =
    let n = (kept_shares c.loop-i.owners.items c.args.owners.now.items c.loop-i.invariant.kept).1 in
    rw (← c.loop-i.invariant.hands) (taken_set own_hand c.loop-i.owners.items c.loop-i.i c.take_left.new.self c.index_mut.result.now c.in-Some.name (omega arith) (search rules))

pub loop-i-preserved : goal.loop-i-preserved
loop-i-preserved c =
    let n = (kept_shares c.loop-i.owners.items c.args.owners.now.items c.loop-i.invariant.kept).1 in record {
      shares = All-set (λ (o : Own). 0 < o.hand.shares) _ _ _ (search rules) c.loop-i.invariant.shares;
      hands = map-set_same own_hand _ _ _ c.index_mut.result.now (search rules) ∙ c.loop-i.invariant.hands;
      kept = map-set_same own_kept _ _ _ c.index_mut.result.now (search rules) ∙ c.loop-i.invariant.kept;
      empty = λ d. below_more _ _ (c.loop-i.invariant.empty d) (rw (← c.loop-i.invariant.hands) (found_here c.loop-i.owners.items c.loop-i.i c.index_mut.result.now d (omega arith) (search rules) c.in_default.ensures.rule.1));
    }
