use Rattle.std.proofs.Common.{ap, arith, sym, subst}
use Rattle.crp_incumbent.specs.declared.rule.Key.{Key}
use Rattle.crp_plan.specs.Bay.{Problem}
use Rattle.crp_tree.specs.Parts.{IsAbout}
use Rattle.crp_solve.proofs.Wholes.{IsClosedAt, all_whole, whole_together}
use Rattle.crp_solve.specs.Searches.{BeginsWithin}
use Rattle.crp_solve.specs.Rests.{known_to, IsFoundTogether}
use Rattle.crp_gather.specs.Gathers.{IsGatherFault}
use Rattle.crp_gather.proofs.Wholes.{whole_not_refused}
use Rattle.crp_solve.proofs.end.ended.Goals as goal

pub returns-in-Ok-clause-found : goal.returns-in-Ok-clause-found
returns-in-Ok-clause-found c =
    let key = c.args.shared.key in let done = c.requires.done in let all = done.kept in let kept = all.plan_kept in let view = c.args.done.seat.view in let totals = c.close-totals.result in let t = c.close-totals.ensures in
    let here = ap (λ (k : Key). k.problem) done.opened in let budget = ap (λ (k : Key). k.budget) done.opened in
    let closed : IsClosedAt key.start c.args.budget totals.spent totals.limit view = record {
      limit_is = t.limit;
      spent_is = t.spent;
      granted = omega (arith, t.granted, budget);
      seen = t.seen;
      mine = t.mine;
    } in
    subst (λ (q : Problem). IsFoundTogether key.thin q c.args.budget key.start c.in-Ok.cert c.args.done.best c.min-expanded.result c.is_left.result) here (record {
      view = known_to c.args.done;
      granted = omega (arith, c.min-expanded.ensures, t.granted, budget);
      best_is = kept.plan_is;
      left = λ yes. (c.is_left.ensures.left yes).1;
      ended = whole_together key.problem c.args.budget key.start totals.spent totals.limit c.args.done.stopped view c.args.done.parts.items c.in-Ok.cert c.args.done.best c.is_left.result kept.is_problem
          (subst (λ (q : Problem). BeginsWithin q key.start) (sym here) c.requires.first) closed (λ no before. (let all' = c.is_left.ensures.none_left no before in omega (arith, all', c.min-expanded.ensures, t.granted, budget)))
          all.searched (done.all c.if-done.false) c.in-Ok.ensures.parts (subst (λ (q : Problem). IsAbout q c.in-Ok.cert) (sym here) c.in-Ok.ensures.about) kept.mine;
    })

pub unreachable-requires : goal.unreachable-requires
unreachable-requires c =
    let key = c.args.shared.key in let done = c.requires.done in let all = done.kept in let kept = all.plan_kept in let parts = c.args.done.parts.items in
    let here = ap (λ (k : Key). k.problem) done.opened in
    let whole = all_whole key.problem key.start (known_to c.args.done) parts kept.is_problem all.searched (done.all c.if-done.false) in
    let refused = subst (λ (q : Problem). IsGatherFault q parts c.in-Err.fault) (sym here) c.in-Err.ensures.refused in
    c.in_default.not-Memory (whole_not_refused key.problem parts c.in-Err.fault whole refused)
