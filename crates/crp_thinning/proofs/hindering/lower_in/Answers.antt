use Rattle.std.proofs.Common.{◌≡◌, ℕ, ◌+◌, min, nat_le, if◌then◌else◌, List, [], ◌∷◌, ◌++◌, take, get_or, sym, ap, ◌∙◌, arith}
use Rattle.std.proofs.lemmas.List.{take_more}
use Rattle.crp_plan.proofs.Lists.{one_if}
use Rattle.crp_bounds.specs.Leasts.{least_ordered}
use Rattle.crp_bounds.proofs.Leasts.{least_push}
use Rattle.crp_thinned.specs.Hindering.{lower_blocking}
use Rattle.crp_thinned.proofs.Beside.{lower_push}
use Rattle.crp_thinning.proofs.hindering.lower_in.Goals as goal
use Rattle.crp_thinning.proofs.hindering.lower_in.Goals.{then-may_stand_on, else-may_stand_on}

pub loop-i-preserved : goal.loop-i-preserved
loop-i-preserved c =
    let xs : List ℕ = take c.loop-i.i c.args.stack.now in
    let y : ℕ = get_or c.args.stack.now c.loop-i.i 0 in
    let inv = c.loop-i.invariant in let few = inv.few in
    let on : take (c.loop-i.i + 1) c.args.stack.now ≡ xs ++ y ∷ [] = take_more c.args.stack.now c.loop-i.i 0 c.loop-i-test.true in
    let more = ap (lower_blocking c.args.ordered c.args.rank []) on in
    let push = lower_push c.args.ordered c.args.rank [] xs y in
    let test = ap one_if (c.may_stand_on.ensures c.args.ordered xs inv.least) in
    let least = ap (λ l. if nat_le y c.args.ordered then min y l else l) inv.least ∙ sym (least_push c.args.ordered xs y) ∙ sym (ap (least_ordered c.args.ordered) on) in
    elim c.if-may_stand_on.branch [
      | then-may_stand_on w ↦ record { value = omega (arith, more, push, test, w.count-is, inv.value, ap one_if w.if-may_stand_on.true); few = omega (arith, w.count-is, few); least = c.least_with-least.ensures ∙ least }
      | else-may_stand_on w ↦ record { value = omega (arith, more, push, test, w.count-is, inv.value, ap one_if w.if-may_stand_on.false); few = omega (arith, w.count-is, few); least = c.least_with-least.ensures ∙ least }
    ]
