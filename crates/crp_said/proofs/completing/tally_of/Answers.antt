use Rattle.std.proofs.Common.{◌∷◌, ◌++◌, [], ap, arith, length, length-append}
use Rattle.crp_said.specs.Completed.{IsOneLine}
use Rattle.crp_cert.proofs.Joined.{all_both}
use Rattle.crp_said.proofs.MoreLines.{cut_more}
use Rattle.crp_said.proofs.completing.tally_of.Goals as goal

pub loop-line-preserved : goal.loop-line-preserved
loop-line-preserved c =
    let (lines, each, is, are) = c.loop-line.invariant.lines in
    let found = c.in-Some.ensures.found in
    let line = c.in-Some.line.now in
    let behind = c.in-Some.behind.now in
    let room = c.loop-line.invariant.room in
    let few = c.with_line-tally.ensures.few in
    record {
      lines = (
        lines ++ line ∷ [],
        all_both IsOneLine lines (line ∷ []) each (found.1, tt),
        cut_more c.args.report.now lines line c.loop-line.rest.now behind is found.0,
        c.with_line-tally.ensures.more lines are,
      );
      room = omega (arith, room, few.0, ap length found.0, length-append line (10 ∷ behind));
      few = few.1;
    }
