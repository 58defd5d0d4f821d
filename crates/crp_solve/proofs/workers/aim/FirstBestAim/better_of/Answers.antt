use Rattle.crp_solve.proofs.FirstKept.{first_mine, first_both}
use Rattle.crp_solve.proofs.workers.aim.FirstBestAim.better_of.Goals as goal

pub returns-clause-kept : goal.returns-clause-kept
returns-clause-kept c = let found = c.earlier_of.ensures in let one = found.earlier in record {
  both = λ of v w refused parts others some a b. first_both of v w refused c.args.plan c.args.other c.earlier_of.result parts others a b one.mine one.others (found.plan of.key.problem of.key.start a.plan_is b.plan_is);
  mine = λ of v w refused parts others some a b. first_mine of v w refused c.args.plan c.args.other c.earlier_of.result parts others a b one.mine (found.plan of.key.problem of.key.start a.plan_is b.plan_is);
}
