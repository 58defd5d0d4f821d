use Rattle.crp_solve.proofs.Grouped.{kept_mine, kept_both}
use Rattle.crp_solve.proofs.workers.aim.FewestAim.better_of.Goals as goal

pub returns-clause-kept : goal.returns-clause-kept
returns-clause-kept c = let found = c.shorter_of.ensures in record {
  both = λ of v w refused parts others some a b. (let p = a.plan_kept in let q = b.plan_kept in
      kept_both of v w refused c.args.plan c.args.other c.shorter_of.result parts others some a b (found.fewest of.key.start v.mine w.mine p.mine q.mine p.low q.low) (found.plan of.key.problem p.plan_is q.plan_is));
  mine = λ of v w refused parts others some a b. (let p = a.plan_kept in let q = b.plan_kept in
      kept_mine of v w refused c.args.plan c.args.other c.shorter_of.result parts others some a b (found.fewest of.key.start v.mine w.mine p.mine q.mine p.low q.low) (found.plan of.key.problem p.plan_is q.plan_is));
}
