use Rattle.crp_solve.specs.Desks.{known_with}
use Rattle.crp_solve.proofs.Tasks.{kept_later_or_more}
use Rattle.crp_solve.proofs.workers.aim.FewestAim.search_part.Goals as goal

pub search_at_desk-requires-clause-plan : goal.search_at_desk-requires-clause-plan
search_at_desk-requires-clause-plan g c = let k = c.requires.kept in let kept = k.1 in let p = kept.plan_kept in record { is_problem = p.is_problem; plan_is = p.plan_is; mine = p.mine; low = p.low; seen = p.seen }

pub returns-clause-kept : goal.returns-clause-kept
returns-clause-kept g c parts k =
    let found = c.search_at_desk.ensures in
    kept_later_or_more c.args.common.now.of (known_with c.args.stopped c.args.seat.view) (known_with c.search_at_desk.result.stopped c.search_at_desk.result.seat.view) c.args.best c.search_at_desk.result.best parts c.search_at_desk.result.part found.plan found.advances k found.part
