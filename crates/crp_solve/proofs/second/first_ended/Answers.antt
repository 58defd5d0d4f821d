use Rattle.std.proofs.Common.{Some, All, IfSome, ap, arith, subst}
use Rattle.std.proofs.lemmas.List.Sorted.{All-permutation}
use Rattle.crp_incumbent.specs.declared.rule.Key.{Key}
use Rattle.crp_plan.specs.Bay.{Problem, IsProblem}
use Rattle.crp_gather.proofs.Wholes.{whole_not_refused}
use Rattle.crp_solve.specs.Firsts.{IsPlanOfCount, IsSearchedFirst}
use Rattle.crp_solve.specs.Rests.{known_to}
use Rattle.crp_solve.proofs.Wholes.{done_moved}
use Rattle.crp_solve.proofs.FirstFound.{first_whole, first_of_problem, some_plan, found_first}
use Rattle.crp_solve.proofs.second.first_ended.Goals as goal

pub unreachable-requires : goal.unreachable-requires
unreachable-requires c =
    let p = c.args.problem.now in let key = c.args.shared.key in let done = c.requires.done in let all = done.kept in let parts = c.args.done.parts.items in let kept = all.not_offered in
    let here = ap (λ (k : Key). k.problem) done.opened in
    let searched = first_of_problem key.problem p key.start c.args.done.best parts here all.searched in
    let whole = first_whole p key.start c.args.done.best (known_to c.args.done) parts (subst IsProblem here kept.is_problem) searched (done.all c.if-done.false) in
    c.in_default.not-Memory (whole_not_refused p parts c.in-Err.fault whole c.in-Err.ensures.refused)

pub unreachable-requires-in_default-best : goal.unreachable-requires-in_default-best
unreachable-requires-in_default-best c =
    let p = c.args.problem.now in let key = c.args.shared.key in let done = c.requires.done in let all = done.kept in let parts = c.args.done.parts.items in
    let here = ap (λ (k : Key). k.problem) done.opened in
    let searched = first_of_problem key.problem p key.start c.args.done.best parts here all.searched in
    some_plan p key.start c.in-Ok.cert c.args.done.best c.requires.best c.in-Ok.ensures.about
    (All-permutation (IsSearchedFirst p key.start c.args.done.best) parts (c.in-Ok.cert).parts c.in-Ok.ensures.parts searched) c.in_default-best.is

pub returns-clause-found : goal.returns-clause-found
returns-clause-found c =
    let p = c.args.problem.now in let key = c.args.shared.key in let done = c.requires.done in let all = done.kept in let parts = c.args.done.parts.items in let plan = c.in-Some.plan in let cert = c.in-Ok.cert in
    let here = ap (λ (k : Key). k.problem) done.opened in let budget = ap (λ (k : Key). k.budget) done.opened in
    let is : IsPlanOfCount p key.start plan = subst (λ (q : Problem). IsPlanOfCount q key.start plan) here (subst (λ o. IfSome o (IsPlanOfCount key.problem key.start)) c.in-Some.is all.plan_is) in
    let searched = subst (λ o. All (IsSearchedFirst p key.start o) parts) c.in-Some.is (first_of_problem key.problem p key.start c.args.done.best parts here all.searched) in
    let moved = done_moved (known_to c.args.done) parts cert.parts c.in-Ok.ensures.parts (done.all c.if-done.false) in
    let t = c.close-totals.ensures in
    found_first p c.args.budget key.start plan cert c.in-Ok-settle.cert c.min-expanded.result is
    (All-permutation (IsSearchedFirst p key.start (Some plan)) parts cert.parts c.in-Ok.ensures.parts searched) c.in-Ok-settle.ensures.about c.in-Ok-settle.ensures.settled c.in-Ok-settle.ensures.needs
    (let g = moved.grants in let some = g.enough in omega (arith, some, c.min-expanded.ensures, t.granted, budget)) (omega (arith, c.min-expanded.ensures))
