use Rattle.std.proofs.Common.{◌∙◌, map, ap, arith}
use Rattle.std.specs.Prelude.{sum_by}
use Rattle.std.proofs.lemmas.List.{take_all}
use Rattle.crp_follow.specs.Views.{bay_followed}
use Rattle.crp_page.specs.Counts.{moves_in, relocations_in, takes_in, left_in, sums_of}
use Rattle.crp_page.specs.Few.{LeaveFew}
use Rattle.crp_page.proofs.Fewness.{of_one}
use Rattle.crp_page.proofs.Sums.{sum_more, same_counts}
use Rattle.crp_page.proofs.counting.sums_of.Goals as goal

pub counts_of-counts-requires : goal.counts_of-counts-requires
counts_of-counts-requires c = of_one LeaveFew c.args.bays.now c.loop-bay.bay-index c.bay-item.result c.requires c.loop-bay-test.true c.bay-item.is

pub loop-bay-preserved : goal.loop-bay-preserved
loop-bay-preserved c = record {
  moves_are = omega (arith, sum_more moves_in c.args.bays.now c.loop-bay.bay-index c.bay-item.result c.loop-bay-test.true c.bay-item.is, ap (λ s. s.moves) c.counts_of-counts.ensures.value);
  relocations_are = omega (arith, sum_more relocations_in c.args.bays.now c.loop-bay.bay-index c.bay-item.result c.loop-bay-test.true c.bay-item.is, ap (λ s. s.relocations) c.counts_of-counts.ensures.value);
  takes_are = omega (arith, sum_more takes_in c.args.bays.now c.loop-bay.bay-index c.bay-item.result c.loop-bay-test.true c.bay-item.is, ap (λ s. s.takes) c.counts_of-counts.ensures.value);
  left_are = omega (arith, sum_more left_in c.args.bays.now c.loop-bay.bay-index c.bay-item.result c.loop-bay-test.true c.bay-item.is, ap (λ s. s.left) c.counts_of-counts.ensures.value);
  moves = omega arith;
  relocations = omega arith;
  takes = omega arith;
  left = omega arith;
}

pub returns-clause-value : goal.returns-clause-value
returns-clause-value c =
    let all = take_all c.loop-bay.bay-index c.args.bays.now c.loop-bay-test.false in
    same_counts c.loop-bay.sums (sums_of (map bay_followed c.args.bays.now)) (c.loop-bay.invariant.moves_are ∙ ap (λ l. sum_by moves_in (map bay_followed l)) all) (c.loop-bay.invariant.relocations_are ∙ ap (λ l. sum_by relocations_in (map bay_followed l)) all)
    (c.loop-bay.invariant.takes_are ∙ ap (λ l. sum_by takes_in (map bay_followed l)) all) (c.loop-bay.invariant.left_are ∙ ap (λ l. sum_by left_in (map bay_followed l)) all)
