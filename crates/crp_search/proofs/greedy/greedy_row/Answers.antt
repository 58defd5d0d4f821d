use Rattle.std.proofs.Common.{◌≡◌, ℕ, ◌+◌, ◌<◌, List, length, get_or, ap, sym, ◌∙◌, subst, arith}
use Rattle.std.specs.List.Sorted.{IsStrictlyIncreasing}
use Rattle.crp_bay.specs.Positions.{targets}
use Rattle.crp_bay.proofs.Reaching.{can_from_target, shift_needs}
use Rattle.crp_search.specs.Greedy.{blocker, least_rank}
use Rattle.crp_search.proofs.Choice.{target_there, first_target, looked_at, same_better, IsBestSoFar, takes_over, stays_best, best_of_all}
use Rattle.crp_search.proofs.greedy.greedy_row.Goals as goal
use Rattle.crp_search.proofs.greedy.greedy_row.Goals.{then-is_better, else-is_better}

pub least_rank-rank-requires-clause-counts : goal.least_rank-rank-requires-clause-counts
least_rank-rank-requires-clause-counts c =
    (target_there c.args.position.now.place (get_or c.as_slice-row-items.result.now c.loop-row.row-index 0)
    (looked_at c.args.position.now.place c.as_slice-row-items.result.now c.loop-row.row-index (c.as_slice-row-items.ensures.value ∙ c.targets-targets.ensures.value) c.loop-row-test.true)).0

pub least_rank-rank-requires-clause-there : goal.least_rank-rank-requires-clause-there
least_rank-rank-requires-clause-there c =
    (target_there c.args.position.now.place (get_or c.as_slice-row-items.result.now c.loop-row.row-index 0)
    (looked_at c.args.position.now.place c.as_slice-row-items.result.now c.loop-row.row-index (c.as_slice-row-items.ensures.value ∙ c.targets-targets.ensures.value) c.loop-row-test.true)).1

pub blocker-blocker-requires : goal.blocker-blocker-requires
blocker-blocker-requires c =
    (shift_needs c.args.position.now.place c.in_ok-best.field-0.now (can_from_target c.args.position.now.place c.in_ok-best.field-0.now
    (first_target c.args.position.now.place c.deref.result.now c.in_ok-best.field-0.now (c.deref.ensures.0 ∙ c.targets-targets.ensures.value) (sym c.in_ok-best.ensures.value)))).0

pub least_rank-least-requires-clause-counts : goal.least_rank-least-requires-clause-counts
least_rank-least-requires-clause-counts c =
    (target_there c.args.position.now.place c.in_ok-best.field-0.now
    (first_target c.args.position.now.place c.deref.result.now c.in_ok-best.field-0.now (c.deref.ensures.0 ∙ c.targets-targets.ensures.value) (sym c.in_ok-best.ensures.value))).0

pub least_rank-least-requires-clause-there : goal.least_rank-least-requires-clause-there
least_rank-least-requires-clause-there c =
    (target_there c.args.position.now.place c.in_ok-best.field-0.now
    (first_target c.args.position.now.place c.deref.result.now c.in_ok-best.field-0.now (c.deref.ensures.0 ∙ c.targets-targets.ensures.value) (sym c.in_ok-best.ensures.value))).1

pub loop-row-preserved : goal.loop-row-preserved
loop-row-preserved c =
    let items : c.as_slice-row-items.result.now ≡ targets c.args.position.now.place = c.as_slice-row-items.ensures.value ∙ c.targets-targets.ensures.value in
    let i : ℕ = c.loop-row.row-index in let best : ℕ = c.loop-row.best in
    let row : ℕ = get_or c.as_slice-row-items.result.now i 0 in
    let is : row ≡ get_or (targets c.args.position.now.place) i 0 = ap (λ (l : List ℕ). get_or l i 0) items in
    let lt : i < length (targets c.args.position.now.place) = subst (λ (l : List ℕ). i < length l) items c.loop-row-test.true in
    let p = c.args.problem.now in
    let s = c.args.position.now.place in
    let known : IsBestSoFar p s i best = c.loop-row.invariant.so_far in
    elim c.if-is_better.branch [
      | then-is_better w ↦ record {
        so_far = subst (IsBestSoFar p s (i + 1)) (sym w.best-is)
            (takes_over p s i best row (subst IsStrictlyIncreasing c.targets-targets.ensures.value c.targets-targets.ensures.rising) lt is known
            (same_better c.blocker-blocker.result (blocker s) c.least_rank-rank.result (least_rank p s row) c.loop-row.least (least_rank p s best)
            c.blocker-blocker.ensures c.least_rank-rank.ensures c.loop-row.invariant.least (c.is_better.ensures.0 w.if-is_better.true)));
        least = w.least-is ∙ c.least_rank-rank.ensures ∙ ap (least_rank p s) (sym w.best-is);
      }
      | else-is_better w ↦ record {
        so_far = subst (IsBestSoFar p s (i + 1)) (sym w.best-is)
            (stays_best p s i best row lt is known
            (λ x. let yes = c.is_better.ensures.1 (same_better (blocker s) c.blocker-blocker.result (least_rank p s row) c.least_rank-rank.result (least_rank p s best) c.loop-row.least
            (sym c.blocker-blocker.ensures) (sym c.least_rank-rank.ensures) (sym c.loop-row.invariant.least) x) in let not = w.if-is_better.false in cc));
        least = w.least-is ∙ c.loop-row.invariant.least ∙ ap (least_rank p s) (sym w.best-is);
      }
    ]

pub returns-clause-chosen : goal.returns-clause-chosen
returns-clause-chosen c =
    let items : c.as_slice-row-items.result.now ≡ targets c.args.position.now.place = c.as_slice-row-items.ensures.value ∙ c.targets-targets.ensures.value in
    best_of_all c.args.problem.now c.args.position.now.place c.loop-row.row-index c.loop-row.best (let ge = c.loop-row-test.false in omega (arith, ge, ap length items)) c.loop-row.invariant.so_far
