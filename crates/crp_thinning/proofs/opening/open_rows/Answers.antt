use Rattle.std.proofs.Common.{◌≡◌, ℕ, ◌+◌, ◌≤◌, Bool, List, ap, ◌∙◌, arith}
use Rattle.std.specs.List.{list_any}
use Rattle.crp_plan.specs.Bay.{Position}
use Rattle.crp_plan.proofs.Lists.{one_if}
use Rattle.crp_bounds.proofs.Blocked.{one_if-le}
use Rattle.crp_chains.specs.Chains.{is_open}
use Rattle.crp_chains.proofs.Blockers.{row_counted, rows_counted}
use Rattle.crp_thinning.proofs.opening.open_rows.Goals as goal
use Rattle.crp_thinning.proofs.opening.open_rows.Goals.{then-is_open_to_any, else-is_open_to_any}

pub loop-row-preserved : goal.loop-row-preserved
loop-row-preserved c =
    let s : Position = c.args.track.now.place in
    let test : ℕ × List ℕ → Bool = λ r. list_any (is_open s.ordered r.0 r.1) c.args.chain.now in
    let is : c.is_open_to_any.result ≡ test (c.height.result, c.stack.result.now) =
    c.is_open_to_any.ensures ∙ ap (λ o. list_any (is_open o c.height.result c.stack.result.now) c.args.chain.now) c.ordered.ensures.value in
    let more : c.if-is_open_to_any.count ≡ c.loop-row.count + one_if c.is_open_to_any.result = elim c.if-is_open_to_any.branch [
      | then-is_open_to_any w ↦ omega (arith, w.count-is, ap one_if w.if-is_open_to_any.true)
      | else-is_open_to_any w ↦ omega (arith, w.count-is, ap one_if w.if-is_open_to_any.false)
    ] in
    let next = row_counted test s.heights s.stacks c.loop-row.row c.height.result c.loop-row.count c.stack.result.now (omega arith) c.height.ensures c.stack.ensures.value c.loop-row.invariant.value in
    let few : one_if c.is_open_to_any.result ≤ 1 = one_if-le c.is_open_to_any.result in
    record {
      value = more ∙ ap (λ b. c.loop-row.count + one_if b) is ∙ next;
      few = omega (arith, more, few, c.loop-row.invariant.few);
    }

pub returns-clause-value : goal.returns-clause-value
returns-clause-value c =
    let s : Position = c.args.track.now.place in
    rows_counted (λ r. list_any (is_open s.ordered r.0 r.1) c.args.chain.now) s.heights s.stacks c.loop-row.row c.loop-row.count (omega (arith, c.rows-row-end.ensures.value, c.loop-row-test.false)) c.loop-row.invariant.value
