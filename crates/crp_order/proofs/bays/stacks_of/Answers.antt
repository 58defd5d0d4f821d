use Rattle.std.proofs.Common.{◌≡◌, ◌+◌, ◌-◌, ◌∙◌, ap, sym, arith, Some, [], ◌∷◌, ◌++◌, length, slice_get}
use Rattle.std.specs.Prelude.{unwrap_or}
use Rattle.std.proofs.lemmas.List.{map-append, take_all}
use Rattle.crp_yard.proofs.YardSteps.{fit_rows}
use Rattle.crp_order.specs.Groups.{pointed, stacks_numbered, heights_numbered}
use Rattle.crp_order.proofs.YardSteps.{stack_of_bay, take_next, fits}
use Rattle.crp_order.proofs.bays.stacks_of.Goals as goal

pub loop-i-preserved : goal.loop-i-preserved
loop-i-preserved c =
    let here : slice_get (stacks_numbered c.args.yard.now c.args.bay) c.loop-i.i ≡ Some c.stack.result.now =
    let e : c.loop-i.i + 1 - 1 ≡ c.loop-i.i = omega arith in
    ap (slice_get (stacks_numbered c.args.yard.now c.args.bay)) (sym e) ∙ stack_of_bay c.args.yard.now c.args.bay (c.loop-i.i + 1) c.stack.result.now c.stack.ensures in
    ap pointed c.in_ok-push.ensures.items
    ∙ map-append (λ reference. reference.now) c.loop-i.stacks.items (c.stack.result ∷ [])
    ∙ ap (λ xs. xs ++ c.stack.result.now ∷ []) c.loop-i.invariant
    ∙ sym (take_next (stacks_numbered c.args.yard.now c.args.bay) c.loop-i.i c.stack.result.now here)

pub returns : goal.returns
returns c =
    let fit = fit_rows (heights_numbered c.args.yard.now c.args.bay) (stacks_numbered c.args.yard.now c.args.bay) (fits c.args.yard.now c.args.bay c.heights.ensures.yard c.requires) in
    let heights : heights_numbered c.args.yard.now c.args.bay ≡ c.heights.result.now = ap (λ h. unwrap_or h []) c.heights.ensures.value in
    c.loop-i.invariant ∙ take_all c.loop-i.i (stacks_numbered c.args.yard.now c.args.bay) (omega (arith, fit, ap length heights, c.loop-i-test.false))
