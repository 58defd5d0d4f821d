use Rattle.std.proofs.Common.{◌∙◌, ap}
use Rattle.std.proofs.lemmas.List.{drop_all}
use Rattle.crp_plan.specs.declared.moves.Move.TheVariants.{Shift}
use Rattle.crp_plan.specs.Bay.{path_of, IsProblem}
use Rattle.crp_yard.proofs.LeavingSteps.{way_begins, way_next, way_goes_on, way_ends}
use Rattle.crp_yard.proofs.leaving.end_of.Goals as goal

pub loop-step-init : goal.loop-step-init
loop-step-init c =
    let is : IsProblem c.args.plan.now.problem = c.problem.ensures.problem in
    rw (c.before-walk.ensures.value, c.problem.ensures.value, c.deref-step-items.ensures.value) (way_begins c.args.plan.now.problem c.in_ok-moves.moves.items is c.in_ok-moves.ensures.plan)

pub make-requires-clause-legal : goal.make-requires-clause-legal
make-requires-clause-legal c =
    let way = way_next c.args.plan.now.problem c.deref-step-items.result.now c.loop-step.step-index (Shift 0 0) c.loop-step.walk c.loop-step-test.true c.loop-step.invariant in
    (way.runs.0, way.runs.1)

pub loop-step-preserved : goal.loop-step-preserved
loop-step-preserved c =
    let way = way_next c.args.plan.now.problem c.deref-step-items.result.now c.loop-step.step-index (Shift 0 0) c.loop-step.walk c.loop-step-test.true c.loop-step.invariant in
    way_goes_on c.args.plan.now.problem c.deref-step-items.result.now _ c.loop-step.walk c.make.new.self _ way c.make.ensures

pub returns-clause-leaves : goal.returns-clause-leaves
returns-clause-leaves c =
    way_ends c.args.plan.now c.deref-step-items.result.now _ c.loop-step.walk (drop_all c.loop-step.step-index c.deref-step-items.result.now c.loop-step-test.false) (ap path_of c.deref-step-items.ensures.value ∙ c.in_ok-moves.ensures.path) c.loop-step.invariant
