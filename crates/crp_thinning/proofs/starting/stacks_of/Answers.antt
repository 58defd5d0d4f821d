use Rattle.std.proofs.Common.{◌++◌, ◌∷◌, [], Some, sym, ap, ◌∙◌, arith}
use Rattle.crp_bay.proofs.Begun.{rows_more, rows_all}
use Rattle.crp_bay.proofs.Reaching.{reached_same_rows}
use Rattle.crp_thinning.proofs.starting.stacks_of.Goals as goal

pub loop-row-preserved : goal.loop-row-preserved
loop-row-preserved c =
    let inv = c.loop-row.invariant in let lo = inv.lo in
    record {
      lo = omega arith;
      hi = omega (arith, c.loop-row-test.true, c.rows-row-end.ensures.value);
      copied = c.push.ensures.items ∙ ap (λ l. l ++ c.of.result ∷ []) inv.copied ∙ sym (rows_more c.args.position.now.place.stacks c.loop-row.row c.of.result lo (c.stack.ensures.value ∙ ap Some (sym c.of.ensures)));
    }

pub returns : goal.returns
returns c =
    c.loop-row.invariant.copied ∙ rows_all c.args.position.now.place.stacks c.loop-row.row (omega (arith, reached_same_rows c.args.position.now.place c.rows-row-end.ensures.reached, c.rows-row-end.ensures.value, c.loop-row-test.false))
