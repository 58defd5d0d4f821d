use Rattle.std.proofs.Common.{◌++◌, ◌∷◌, [], sym, ap, ◌∙◌, arith}
use Rattle.crp_bay.proofs.Begun.{rows_more}
use Rattle.crp_thinning.proofs.starting.heights_of.Goals as goal

pub loop-row-preserved : goal.loop-row-preserved
loop-row-preserved c =
    let inv = c.loop-row.invariant in let lo = inv.lo in
    record {
      lo = omega arith;
      hi = omega (arith, c.loop-row-test.true, c.rows-row-end.ensures.value);
      copied = c.push.ensures.items ∙ ap (λ l. l ++ c.height.result ∷ []) inv.copied ∙ sym (rows_more c.args.position.now.place.heights c.loop-row.row c.height.result lo c.height.ensures.value);
    }
