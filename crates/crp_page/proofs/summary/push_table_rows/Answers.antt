use Rattle.crp_follow.specs.Views.{bay_followed}
use Rattle.crp_page.specs.Few.{LeaveFew}
use Rattle.crp_page.specs.Summary.{table_row}
use Rattle.crp_page.proofs.Numbering.{added_more}
use Rattle.crp_page.proofs.Fewness.{of_one}
use Rattle.crp_page.proofs.summary.push_table_rows.Goals as goal

pub push_table_row-requires : goal.push_table_row-requires
push_table_row-requires c = of_one LeaveFew c.args.bays.now c.loop-i.i c.index-bays-i.result c.requires c.loop-i-test.true c.index-bays-i.is

pub loop-i-preserved : goal.loop-i-preserved
loop-i-preserved c =
    added_more table_row bay_followed c.args.bays.now c.loop-i.i c.index-bays-i.result _ _ _ c.loop-i-test.true c.index-bays-i.is c.loop-i.invariant c.in_ok-push_table_row.ensures
