use Rattle.std.proofs.Common.{◌≡◌, ◌+◌, ◌-◌, Some, ◌∙◌, ap, arith, ◌≤◌, length, take}
use Rattle.std.proofs.lemmas.List.{take_all}
use Rattle.std.specs.Prelude.{slice_get}
use Rattle.crp_plan.proofs.Steps.{same_rows}
use Rattle.crp_yard.specs.Ranks.{named}
use Rattle.crp_yard.proofs.LeavingSteps.{named-more}
use Rattle.crp_yard.proofs.leaving.named_stacks.Goals as goal

pub loop-i-preserved : goal.loop-i-preserved
loop-i-preserved c =
    let i : c.loop-i.i + 1 - 1 ≡ c.loop-i.i = omega arith in
    let at : slice_get c.args.walk.now.stacks c.loop-i.i ≡ Some c.stack.result.now = rw i at c.stack.ensures.value in
    named-more c.args.names.now c.args.walk.now.stacks c.loop-i.i c.stack.result.now c.in_ok-named_stack.field-0 c.loop-i.stacks.items c.push.new.self.items at c.loop-i.invariant c.in_ok-push.ensures.items c.in_ok-named_stack.ensures

pub returns : goal.returns
returns c =
    let walk = c.args.walk.now in
    let end : length walk.stacks ≤ c.loop-i.i = omega (arith, same_rows walk.heights walk.stacks c.requires.stacks_fit) in
    let all : take c.loop-i.i walk.stacks ≡ walk.stacks = take_all c.loop-i.i walk.stacks end in
    c.from_vec.ensures ∙ c.loop-i.invariant ∙ ap (named c.args.names.now) all
