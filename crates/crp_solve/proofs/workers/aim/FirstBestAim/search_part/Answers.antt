use Rattle.std.proofs.Common.{IfSome, subst}
use Rattle.crp_solve.specs.Desks.{known_with}
use Rattle.crp_solve.specs.Firsts.{IsPlanOfCount, IsSearchedFirst}
use Rattle.crp_solve.proofs.FirstKept.{first_later, first_more}
use Rattle.crp_solve.proofs.workers.aim.FirstBestAim.search_part.Goals as goal

pub returns-clause-kept : goal.returns-clause-kept
returns-clause-kept g c parts k =
    let of = c.args.common.now.of in let p = of.key.problem in let found = c.first_at_desk-found.ensures in let x = c.in-Some.found.part in let met = c.in-Some.found.plan in
    let s = subst (λ o. IfSome o (λ f. IsSearchedFirst p of.key.start f.plan f.part)) c.in-Some.is found.part in
    let q = subst (λ o. IfSome o (λ f. IfSome f.plan (IsPlanOfCount p of.key.start))) c.in-Some.is found.plan in
    first_more of (known_with c.args.stopped c.args.seat.view) (known_with c.first_at_desk-found.result.3 c.first_at_desk-found.result.1.view) c.args.best met c.earlier_of.result parts x found.claims k s c.earlier_of.ensures.earlier.mine c.earlier_of.ensures.earlier.others
    (c.earlier_of.ensures.plan p of.key.start k.plan_is q)

pub returns-in_default-clause-kept : goal.returns-in_default-clause-kept
returns-in_default-clause-kept g c parts k =
    first_later c.args.common.now.of (known_with c.args.stopped c.args.seat.view) (known_with c.first_at_desk-found.result.3 c.first_at_desk-found.result.1.view) c.args.best parts c.first_at_desk-found.ensures.claims k
