use Rattle.std.proofs.lemmas.Result.{err_from_is_err_and}
use Rattle.crp_follow.specs.Table.{StandFew}
use Rattle.crp_follow.specs.Views.{bay_followed}
use Rattle.crp_page.specs.Few.{LeaveFew}
use Rattle.crp_page.specs.Sections.{section}
use Rattle.crp_page.proofs.Fewness.{of_one}
use Rattle.crp_page.proofs.Numbering.{numbered_more, numbered_split}
use Rattle.crp_page.proofs.Writes.{writes_more, stops_within}
use Rattle.crp_page.proofs.writing.write_sections.Goals as goal

pub write_section-requires-clause-few : goal.write_section-requires-clause-few
write_section-requires-clause-few g c = of_one StandFew c.args.bays.now c.loop-i.i c.index-bays-i.result c.requires.few c.loop-i-test.true c.index-bays-i.is

pub write_section-requires-clause-left : goal.write_section-requires-clause-left
write_section-requires-clause-left g c = of_one LeaveFew c.args.bays.now c.loop-i.i c.index-bays-i.result c.requires.left c.loop-i-test.true c.index-bays-i.is

pub returns-in_err-write_section-clause-wrote : goal.returns-in_err-write_section-clause-wrote
returns-in_err-write_section-clause-wrote g c =
    let p = err_from_is_err_and c.from_residual.result c.from_residual.ensures.1 in
    let (rest, whole) = numbered_split (section c.args.sizes.now c.args.ship.now) bay_followed c.args.bays.now c.loop-i.i c.index-bays-i.result c.loop-i-test.true c.index-bays-i.is in
    rw (p.1, p.2) (stops_within _ _ _ rest _ _ _ _ whole c.loop-i.invariant.wrote c.in_err-write_section.ensures.wrote)

pub loop-i-preserved : goal.loop-i-preserved
loop-i-preserved g c = record {
  wrote = writes_more _ _ _ _ _ _ (numbered_more (section c.args.sizes.now c.args.ship.now) bay_followed c.args.bays.now c.loop-i.i c.index-bays-i.result c.loop-i-test.true c.index-bays-i.is)
      c.loop-i.invariant.wrote c.in_ok-write_section.ensures.wrote;
  passed = c.in_ok-write_section.ensures.passed;
}
