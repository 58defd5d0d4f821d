use Rattle.crp_page.specs.Words.{row_words}
use Rattle.crp_page.proofs.Numbering.{added_next}
use Rattle.crp_page.proofs.words.push_rows.Goals as goal

pub loop-i-preserved : goal.loop-i-preserved
loop-i-preserved c = added_next row_words c.args.rows.now c.loop-i.i c.index-rows-i.result _ _ _ c.loop-i-test.true c.index-rows-i.is c.loop-i.invariant c.in_ok-push_row.ensures
