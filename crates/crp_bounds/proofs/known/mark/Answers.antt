use Rattle.std.proofs.Common.{◌<◌, length, get_or, arith}
use Rattle.crp_bay.proofs.Begun.{others_more}
use Rattle.crp_bounds.proofs.Marking.{marked_more}
use Rattle.crp_bounds.proofs.known.mark.Goals as goal

pub loop-rank-preserved : goal.loop-rank-preserved
loop-rank-preserved c =
    let few : get_or c.args.ranks.now c.loop-rank.rank-index 0 < length c.loop-rank.leasts = omega (arith, c.requires.few c.loop-rank.rank-index 0 c.loop-rank-test.true, c.loop-rank.auto.leasts) in
    let m = marked_more c.args.ordered c.args.ranks.now c.loop-rank.leasts c.loop-rank.rank-index c.loop-rank.least c.with_top-least.result c.requires.once c.loop-rank-test.true few c.loop-rank.invariant.least_is c.with_top-least.ensures c.loop-rank.invariant.known in
    record {
      least_is = m.0;
      known = m.1;
      others = others_more c.args.ranks.now c.loop-rank.leasts c.args.leasts.now c.loop-rank.rank-index c.with_top-least.result c.loop-rank-test.true c.loop-rank.invariant.others;
    }
