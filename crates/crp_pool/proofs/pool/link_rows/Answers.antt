use Rattle.std.proofs.Common.{◌≡◌, ◌∷◌, [], length, length-append, map, arith, ap, ◌∙◌}
use Rattle.std.specs.Prelude.{Vec}
use Rattle.std.specs.declared.alloc.Global.{Global}
use Rattle.std.proofs.lemmas.List.Elements.{All-append}
use Rattle.crp_pool.specs.Deques.{Way, own_deque, fresh_way}
use Rattle.crp_pool.proofs.Pools.{shares_step, fresh_step, all_fresh, two_shares}
use Rattle.crp_pool.proofs.Splits.{all_of_one}
use Rattle.crp_pool.proofs.pool.link_rows.Goals as goal

pub loop-row-preserved : goal.loop-row-preserved
loop-row-preserved c =
    let before = c.loop-row.invariant in
    let old = c.loop-row.owners.items in
    let new = c.link_row.new.owners.items in
    let row = c.in_ok-link_row.field-0 in
    let P : Vec Way Global → Type 0 = λ r. r.items ≡ map fresh_way (map own_deque c.args.owners.now.items) in
    let each = c.in_ok-link_row.ensures.shares in
    record {
      count = rw c.in_ok-push.ensures.items (let n = length-append c.loop-row.rows.items (row ∷ []) in let m = before.count in omega arith);
      rows = rw c.in_ok-push.ensures.items (All-append P c.loop-row.rows.items (row ∷ []) before.rows (all_of_one P row (c.in_ok-link_row.ensures.row ∙ ap (map fresh_way) before.deques)));
      deques = c.in_ok-link_row.ensures.deques ∙ before.deques;
      shares = shares_step old new c.loop-row._row each (two_shares old c.loop-row._row (omega arith) before.shares) before.shares;
      fresh = λ capacity all. fresh_step old new c.loop-row._row capacity each (before.fresh capacity all);
    }

pub returns-clause-fresh : goal.returns-clause-fresh
returns-clause-fresh c = λ capacity all. all_fresh c.loop-row.owners.items c.loop-row._row (length c.args.owners.now.items) capacity (omega arith) (c.loop-row.invariant.fresh capacity all)
