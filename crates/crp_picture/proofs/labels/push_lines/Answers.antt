use Rattle.std.proofs.Common.{◌+◌, map, arith}
use Rattle.crp_picture.specs.Views.{cell_as}
use Rattle.crp_picture.proofs.Drawing.{lines_more}
use Rattle.crp_picture.proofs.labels.push_lines.Goals as goal

pub loop-i-preserved : goal.loop-i-preserved
loop-i-preserved c =
    lines_more c.args.tiers c.args.rows (map cell_as c.args.cells.now) c.loop-i.i (c.from-tier.result + 1) c.args.text.now.items c.loop-i.text.items c.push_line.new.text.items c.push_line-in-loop-i.new.text.items
    (omega (arith, c.from-tier.ensures)) c.loop-i.invariant c.in_ok-push_line.ensures c.in_ok-push_line-2.ensures
