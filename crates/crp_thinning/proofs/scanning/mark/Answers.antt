use Rattle.std.proofs.Common.{◌<◌, length, get_or, arith}
use Rattle.crp_bay.proofs.Begun.{holds_at, marked_more, others_more}
use Rattle.crp_thinning.proofs.scanning.mark.Goals as goal

pub bounds-row_of-rank : goal.bounds-row_of-rank
bounds-row_of-rank c =
    let lt = c.requires.few (get_or c.args.ranks.now c.loop-rank.rank-index 0) (holds_at c.args.ranks.now c.loop-rank.rank-index c.loop-rank-test.true) in
    omega (arith, c.loop-rank.auto.row_of)

pub loop-rank-preserved : goal.loop-rank-preserved
loop-rank-preserved c =
    let lt = c.requires.few (get_or c.args.ranks.now c.loop-rank.rank-index 0) (holds_at c.args.ranks.now c.loop-rank.rank-index c.loop-rank-test.true) in
    let few : get_or c.args.ranks.now c.loop-rank.rank-index 0 < length c.loop-rank.row_of = omega (arith, c.loop-rank.auto.row_of) in
    record {
      marked = marked_more c.args.ranks.now c.loop-rank.row_of c.loop-rank.rank-index c.args.row c.loop-rank-test.true few c.loop-rank.invariant.marked;
      others = others_more c.args.ranks.now c.loop-rank.row_of c.args.row_of.now c.loop-rank.rank-index c.args.row c.loop-rank-test.true c.loop-rank.invariant.others;
    }
