use Rattle.std.proofs.Common.{◌≡◌, ◌∙◌}
use Rattle.std.proofs.lemmas.Result.{IfOk-weaker}
use Rattle.crp_yard.specs.After.{AreBaysAfter, IsAfter}
use Rattle.crp_yard.proofs.AfterSteps.{after_is_yard, after_all}
use Rattle.crp_yard.proofs.bay_plan.after.Goals as goal

pub new-requires : goal.new-requires
new-requires c =
    let bays = c.in_ok-bays.bays.entries in
    let done : AreBaysAfter c.args.plans.now c.args.yard.now.bays bays = rw (← c.in_ok-plans.ensures.all) c.in_ok-bays.ensures in
    rw (c.in_ok-copy.ensures.value ∙ c.sizes.ensures.value) (after_is_yard c.args.yard.now c.args.plans.now bays c.sizes.ensures.yard c.requires.plans done)

pub returns : goal.returns
returns c =
    let bays = c.in_ok-bays.bays.entries in
    let sizes = c.in_ok-copy.ensures.value ∙ c.sizes.ensures.value in
    let done : AreBaysAfter c.args.plans.now c.args.yard.now.bays bays = rw (← c.in_ok-plans.ensures.all) c.in_ok-bays.ensures in
    IfOk-weaker c.new.result (λ yard. yard ≡ record { sizes = c.in_ok-copy.field-0; bays = bays }) (IsAfter c.args.yard.now c.args.plans.now)
    (λ yard e. after_all c.args.yard.now yard c.args.plans.now c.in_ok-copy.field-0 bays sizes done e) c.new.ensures
