use Rattle.std.proofs.Common.{◌≡◌, ◌<◌, ◌≢◌, length, arith, ap, ◌∙◌, get_or, get_or-set_other}
use Rattle.std.proofs.Math.Seq.{map-set_same}
use Rattle.crp_pool.specs.Deques.{own_deque}
use Rattle.crp_pool.proofs.Pools.{row_step, given_step, same_count}
use Rattle.crp_pool.proofs.pool.link_row.Goals as goal

pub loop-i-preserved : goal.loop-i-preserved
loop-i-preserved c =
    let o = c.index_mut.result.now in
    let owns = c.loop-i.owners.items in
    let is : o ≡ get_or owns c.loop-i.i o = c.index_mut.ensures.value in
    let n = same_count owns c.args.owners.now.items c.loop-i.invariant.deques in
    let lt : c.loop-i.i < length owns = omega arith in
    let rule = c.in_ok-link.ensures.rule in
    let same = c.in_ok-link.ensures.same in
    record {
      deques = map-set_same own_deque _ _ _ o (same.0 ∙ ap own_deque is) ∙ c.loop-i.invariant.deques;
      given = given_step owns c.args.owners.now.items c.loop-i.i o c.link.new.self lt is (same.0, rule.0, same.1, same.2) c.loop-i.invariant.given c.loop-i.invariant.others;
      others = λ d k le. (let ne : k ≢ c.loop-i.i = omega arith in rw get_or-set_other (c.loop-i.invariant.others d k (omega arith)));
      row = rw c.in_ok-push.ensures.items (row_step owns c.args.owners.now.items c.loop-i.i o c.in_ok-link.field-0 c.loop-i.links.items c.loop-i.invariant.deques lt is rule.1 rule.2 c.loop-i.invariant.row);
    }
