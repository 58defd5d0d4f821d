use Rattle.std.proofs.Common.{◌≡◌, All, IfSome, sym, ◌∙◌, subst, arith}
use Rattle.crp_plan.specs.Bay.{Problem, IsProblem, IsBest, IsAt, start}
use Rattle.crp_bay.specs.Positions.{settled}
use Rattle.crp_bay.proofs.Walked.{begins_at}
use Rattle.crp_tree.specs.Parts.{given_of, IsAbout}
use Rattle.crp_search.specs.Firsts.{IsFirstHere}
use Rattle.crp_solve.specs.Firsts.{IsPlanOfCount, IsSearchedFirst, IsFoundFirst}
use Rattle.crp_solve.proofs.FirstFound.{IsAloneFirst, some_plan, found_first, alone_first, first_is_plan, one_settled}
use Rattle.crp_solve.proofs.second.first_alone.Goals as goal

pub search_first-found-requires-clause-path : goal.search_first-found-requires-clause-path
search_first-found-requires-clause-path g c =
    let p = c.args.problem.now in
    let is : IsProblem p = c.requires.problem in
    (settled (start p), subst (λ name. IsAt p name (settled (start p))) (sym c.root.ensures) (begins_at p is))

pub unreachable-requires : goal.unreachable-requires
unreachable-requires g c =
    let p = c.args.problem.now in let k = c.count-count.result in let f = c.in-Ok.ensures in let x = c.in-Ok.found.part in let cert = c.in-Ok-whole.cert in
    let is : IsProblem p = c.requires.problem in
    let all : IsAloneFirst p k c.in-Ok.found.plan x cert = alone_first p k c.in-Ok.found.plan x cert is c.in-Ok-whole.ensures.value f.problem f.part (f.name ∙ c.root.ensures) (sym f.puts) f.cuts in
    some_plan p k cert c.in-Ok.found.plan (subst (IsBest p) (sym c.count-count.ensures.value) c.requires.best) all.about all.searched c.in_default-plan.is

pub settle-requires : goal.settle-requires
settle-requires g c =
    let p = c.args.problem.now in let k = c.count-count.result in let f = c.in-Ok.ensures in let x = c.in-Ok.found.part in let cert = c.in-Ok-whole.cert in
    let is : IsProblem p = c.requires.problem in
    let all : IsAloneFirst p k c.in-Ok.found.plan x cert = alone_first p k c.in-Ok.found.plan x cert is c.in-Ok-whole.ensures.value f.problem f.part (f.name ∙ c.root.ensures) (sym f.puts) f.cuts in
    let same : c.in-Some.plan.problem ≡ p = subst (λ o. IfSome o (λ plan. plan.problem ≡ p)) c.in-Some.is f.plan in
    record { about = subst (λ (q : Problem). IsAbout q cert) (sym same) all.about }

pub returns-clause-found : goal.returns-clause-found
returns-clause-found g c =
    let p = c.args.problem.now in let k = c.count-count.result in let f = c.in-Ok.ensures in let x = c.in-Ok.found.part in let cert = c.in-Ok-whole.cert in let plan = c.in-Some.plan in
    let budget = c.args.settings.budget in let after = c.granted-expanded.ensures.known in let fresh = c.new-worker.ensures.fresh in
    let is : IsProblem p = c.requires.problem in
    let all : IsAloneFirst p k c.in-Ok.found.plan x cert = alone_first p k c.in-Ok.found.plan x cert is c.in-Ok-whole.ensures.value f.problem f.part (f.name ∙ c.root.ensures) (sym f.puts) f.cuts in
    let plan_is : IsPlanOfCount p k plan = first_is_plan p k c.root.result (given_of x) plan (subst (λ o. IfSome o (λ plan. plan.problem ≡ p)) c.in-Some.is f.plan)
    (subst (λ o. IfSome o (λ plan. IsFirstHere p k c.root.result (given_of x) plan.path)) c.in-Some.is f.first) in
    subst (λ n. IsFoundFirst p budget n plan c.in-Ok-settle.cert c.granted-expanded.result) c.count-count.ensures.value
    (found_first p budget k plan cert c.in-Ok-settle.cert c.granted-expanded.result plan_is (subst (λ o. All (IsSearchedFirst p k o) cert.parts) c.in-Some.is all.searched)
    c.in-Ok-settle.ensures.about c.in-Ok-settle.ensures.settled c.in-Ok-settle.ensures.needs
    (let g = f.grants in let some = g.enough in omega (arith, all.branches, some, c.granted-expanded.ensures.value, fresh.none_granted))
    (omega (arith, after.within, c.granted-expanded.ensures.value, c.search_first-found.ensures.same.1, c.new-worker.ensures.budget, c.budget.ensures.value)))

pub returns-clause-one_part : goal.returns-clause-one_part
returns-clause-one_part g c =
    let about = c.in-Ok-settle.ensures.about in
    one_settled c.in-Ok.found.part (c.in-Some.plan).path c.in-Ok-whole.cert c.in-Ok-settle.cert c.in-Ok-whole.ensures.value (c.in-Ok.ensures.name ∙ c.root.ensures) c.in-Ok-settle.ensures.settled about.certificate
