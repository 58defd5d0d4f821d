use Rattle.std.proofs.Common.{◌≡◌, ◌∙◌, ◌++◌, ◌+◌, ◌-◌, ◌≤◌, length, ap, arith, append_assoc, subst, sym, slice_get, Some, add-one}
use Rattle.std.proofs.lemmas.List.{take_all}
use Rattle.std.specs.List.{flat_map}
use Rattle.crp_plan.proofs.Steps.{same_rows}
use Rattle.crp_cert.specs.Text.{row_line}
use Rattle.crp_cert.proofs.Written.{one_more}
use Rattle.crp_cert.proofs.writing.push_rows.Goals as goal

pub loop-i-preserved : goal.loop-i-preserved
loop-i-preserved c =
    let old = c.args.text.now.items in
    let stacks = c.args.problem.now.stacks in
    let same : c.loop-i.i + 1 - 1 ≡ c.loop-i.i = omega arith in
    let here : slice_get stacks c.loop-i.i ≡ Some c.stack.result.now = subst (λ i. slice_get stacks i ≡ Some c.stack.result.now) same c.stack.ensures.value in
    let more = one_more row_line stacks c.loop-i.i c.stack.result.now here in
    c.in_ok-push_numbers.ensures ∙ ap (λ l. l ++ row_line c.stack.result.now) c.loop-i.invariant ∙ append_assoc old _ _ ∙ ap (λ l. old ++ l) (rw (add-one) (sym more))

pub returns : goal.returns
returns c =
    let p = c.args.problem.now in
    let ok = c.rows-i-end.ensures.problem in
    let all : length p.stacks ≤ c.loop-i.i = omega (arith, same_rows p.heights p.stacks ok.stacks_fit) in
    c.loop-i.invariant ∙ ap (λ l. c.args.text.now.items ++ flat_map row_line l) (take_all c.loop-i.i p.stacks all)
