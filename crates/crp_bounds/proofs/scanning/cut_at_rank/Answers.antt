use Rattle.std.proofs.Common.{◌≡◌, ◌+◌, ◌≤◌, count_by, nat_lt, get_or, sym, ap, ◌∙◌, arith}
use Rattle.std.proofs.lemmas.Bool.{lt-ltb, le-ltb}
use Rattle.crp_plan.proofs.Lists.{one_if}
use Rattle.crp_bounds.proofs.Blocked.{one_if-le}
use Rattle.crp_bounds.proofs.Tallying.{one_down, found_at}
use Rattle.crp_bounds.proofs.scanning.cut_at_rank.Goals as goal
use Rattle.crp_bounds.proofs.scanning.cut_at_rank.Goals.{then-most-from, else-most-from}

pub loop-kept-preserved : goal.loop-kept-preserved
loop-kept-preserved c =
    let inv = c.loop-kept.invariant in
    let d = one_down (nat_lt c.args.most) c.args.stack.now c.loop-kept.kept c.args.rank inv.within c.loop-kept-test.true inv.free c.requires.held in
    let lo = d.0 in
    let within = inv.within in let counted = inv.counted in let few = inv.few in
    let more : c.if-most-from.more ≡ one_if (nat_lt c.args.most (get_or c.args.stack.now c.loop-kept.kept 0)) + c.loop-kept.more = elim c.if-most-from.branch [
      | then-most-from w ↦ let e = w.more-is in let lt = w.if-most-from.true in omega (arith, e, ap one_if (lt-ltb c.args.most (get_or c.args.stack.now c.loop-kept.kept 0) (omega (arith, lt, c.from.ensures))))
      | else-most-from w ↦ let e = w.more-is in let ge = w.if-most-from.false in omega (arith, e, ap one_if (le-ltb c.args.most (get_or c.args.stack.now c.loop-kept.kept 0) (omega (arith, ge, c.from.ensures))))
    ] in
    let one : one_if (nat_lt c.args.most (get_or c.args.stack.now c.loop-kept.kept 0)) ≤ 1 = one_if-le (nat_lt c.args.most (get_or c.args.stack.now c.loop-kept.kept 0)) in
    record {
      within = omega arith;
      free = d.1;
      counted = more ∙ ap (λ n. one_if (nat_lt c.args.most (get_or c.args.stack.now c.loop-kept.kept 0)) + n) counted ∙ sym d.2;
      few = omega arith;
    }

pub returns-clause-below : goal.returns-clause-below
returns-clause-below c = (found_at c.args.stack.now c.loop-kept.kept c.args.rank c.loop-kept.invariant.within c.loop-kept-test.false c.requires.once).0

pub returns-clause-more : goal.returns-clause-more
returns-clause-more c =
    c.loop-kept.invariant.counted ∙ ap (λ l. count_by (nat_lt c.args.most) l) (found_at c.args.stack.now c.loop-kept.kept c.args.rank c.loop-kept.invariant.within c.loop-kept-test.false c.requires.once).1
