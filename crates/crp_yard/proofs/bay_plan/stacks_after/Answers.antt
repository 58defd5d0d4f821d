use Rattle.std.proofs.Common.{◌≡◌, ◌∙◌, Bor, Some, None, MatchOption, sym, ap, Option}
use Rattle.std.specs.Option.{option_map}
use Rattle.std.specs.Map.{lookup}
use Rattle.std.proofs.lemmas.Result.{IfOk-weaker}
use Rattle.crp_yard.specs.declared.bay_plan.BayPlan.{BayPlan}
use Rattle.crp_plan.specs.BayNames.{same_bay}
use Rattle.crp_yard.specs.After.{plan_for, LeavesNamed}
use Rattle.crp_yard.specs.PlansByBay.{plans_in}
use Rattle.crp_yard.proofs.AfterSteps.{plan_looked}
use Rattle.crp_yard.proofs.bay_plan.stacks_after.Goals as goal

pub returns-in-Some : goal.returns-in-Some
returns-in-Some c =
    let entries = c.args.plans.now.entries in
    let found : plan_for (plans_in entries) c.args.bay.now ≡ Some c.in-Some.plan.now.now =
    let at : Some c.in-Some.plan.now ≡ lookup (same_bay c.args.bay.now) entries = c.in-Some.ensures.value in
    plan_looked c.args.bay.now entries c.requires ∙ ap (option_map (λ (plan : Bor BayPlan). plan.now)) (sym at) in
    IfOk-weaker c.stacks_left.result _ (λ left. MatchOption (plan_for (plans_in entries) c.args.bay.now) (left ≡ c.args.stacks.now) (λ plan. LeavesNamed plan left))
    (λ left h. rw found h) c.stacks_left.ensures

pub returns-in-None : goal.returns-in-None
returns-in-None c =
    let entries = c.args.plans.now.entries in
    let none : plan_for (plans_in entries) c.args.bay.now ≡ None =
    let at : ◌≡◌ {A = Option (Bor BayPlan)} None (lookup (same_bay c.args.bay.now) entries) = c.in-None.ensures.value in
    plan_looked c.args.bay.now entries c.requires ∙ ap (option_map (λ (plan : Bor BayPlan). plan.now)) (sym at) in
    IfOk-weaker c.copied_stacks.result _ (λ left. MatchOption (plan_for (plans_in entries) c.args.bay.now) (left ≡ c.args.stacks.now) (λ plan. LeavesNamed plan left))
    (λ left h. rw none h) c.copied_stacks.ensures
