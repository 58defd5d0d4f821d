use Rattle.std.proofs.Common.{◌≡◌, None, arith, sym, ◌∙◌, refl}
use Rattle.crp_bay.specs.Positions.{at}
use Rattle.crp_tree.proofs.Followed.{pushed_on, not_pushed, no_position, arrived}
use Rattle.crp_tree.proofs.name.Name.bounded.Goals as goal

-- at the row that is not legal
no_path : (c : goal.Then-not-push) → at c.args.problem.now c.args.self.now ≡ None
no_path c =
    let inv = c.loop-row.invariant in
    sym inv.1 ∙ not_pushed c.loop-row.bounded c.push.new.self c.args.self.now c.rows-row-items.result.now c.loop-row.row-index c.push.result c.rows-row-items.ensures.value (omega arith) c.if-not-push.true (record { target = c.push.ensures.target; pushed = c.push.ensures.pushed })

pub returns-then-not-push-clause-path : goal.returns-then-not-push-clause-path
returns-then-not-push-clause-path c =
    let inv = c.loop-row.invariant in
    (λ some. cc, λ x. absurd (no_position c.args.problem.now c.args.self.now x.0 inv.0 (no_path c) x.1))

pub returns-then-not-push-clause-value : goal.returns-then-not-push-clause-value
returns-then-not-push-clause-value c = sym (no_path c)

pub loop-row-preserved : goal.loop-row-preserved
loop-row-preserved c =
    let inv = c.loop-row.invariant in
    (inv.0, pushed_on c.loop-row.bounded c.push.new.self c.args.self.now c.rows-row-items.result.now c.loop-row.row-index c.push.result c.rows-row-items.ensures.value (omega arith) c.if-not-push.false (record { target = c.push.ensures.target; pushed = c.push.ensures.pushed }) ∙ inv.1)

pub returns-clause-path : goal.returns-clause-path
returns-clause-path c =
    let inv = c.loop-row.invariant in
    (λ t. (c.loop-row.bounded.place, arrived c.args.problem.now c.args.self.now c.rows-row-items.result.now c.loop-row.row-index c.loop-row.bounded.place inv.0 c.rows-row-items.ensures.value (omega arith) inv.1), λ x. refl)

pub returns-clause-at : goal.returns-clause-at
returns-clause-at c =
    let inv = c.loop-row.invariant in
    arrived c.args.problem.now c.args.self.now c.rows-row-items.result.now c.loop-row.row-index c.loop-row.bounded.place inv.0 c.rows-row-items.ensures.value (omega arith) inv.1
