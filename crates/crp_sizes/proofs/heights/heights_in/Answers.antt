use Rattle.std.proofs.Common.{◌∙◌, ap, inl, inr, subst, sym, arith}
use Rattle.std.proofs.lemmas.List.Elements.{All-push}
use Rattle.crp_plan.specs.Faults.{HasTiers, AreHeights}
use Rattle.crp_sizes.specs.Heights.{behind_points}
use Rattle.crp_sizes.proofs.HeightSteps.{none_so_long, none_there, one_more}
use Rattle.crp_sizes.proofs.heights.heights_in.Goals as goal
use Rattle.crp_sizes.proofs.heights.heights_in.Goals.{then-text-eq0-via-then-text-eq0, then-text-eq0-via-else-text-eq0+then-text-gt-MOST_BYTES}

pub returns-then-text-eq0-clause-none : goal.returns-then-text-eq0-clause-none
returns-then-text-eq0-clause-none c = elim c.then-text-eq0.branch [
  | then-text-eq0-via-then-text-eq0 w ↦ none_so_long c.args.text.now (inl w.if-text-eq0.true)
  | then-text-eq0-via-else-text-eq0+then-text-gt-MOST_BYTES w ↦ none_so_long c.args.text.now (inr w.if-text-gt-MOST_BYTES.true)
]

pub returns-in_default-clause-none : goal.returns-in_default-clause-none
returns-in_default-clause-none c =
    none_there c.args.text.now c.loop-before.before (omega arith) c.in_default.ensures.none

pub loop-before-preserved : goal.loop-before-preserved
loop-before-preserved c =
    let height = c.in-Some.height in
    let before = c.loop-before.before in
    let heights = c.loop-before.heights.items in
    let push = c.push.ensures.items in
    record {
      so_many = omega (arith, c.push.ensures.len, c.loop-before.invariant.so_many);
      in_range = subst AreHeights (sym push) (All-push HasTiers heights height c.loop-before.invariant.in_range c.in-Some.ensures.some.2);
      so_far = ap behind_points push ∙ one_more heights c.args.text.now before height (omega arith) c.loop-before.invariant.so_far c.in-Some.ensures.some;
    }
