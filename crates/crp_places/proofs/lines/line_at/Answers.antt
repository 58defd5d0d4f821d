use Rattle.std.proofs.Common.{◌∙◌, sym, arith, length-drop}
use Rattle.std.proofs.lemmas.List.{take_rest}
use Rattle.crp_places.proofs.LineSteps.{line_ends-more}
use Rattle.crp_places.proofs.lines.line_at.Goals as goal
use Rattle.crp_places.proofs.lines.line_at.Goals.{then-ends_line, else-ends_line}

pub loop-rest-preserved : goal.loop-rest-preserved
loop-rest-preserved c =
    let inv = c.loop-rest.invariant in
    let bytes = c.loop-rest.rest.now in
    let more = line_ends-more bytes c.loop-rest.left c.in-len1-up.len_at_least c.if-left-eq0.false in
    let test = rw (take_rest bytes 1) at c.ends_line.ensures in
    let shorter = length-drop 1 bytes in
    rw (take_rest bytes 1) (elim c.if-ends_line.branch [
      | then-ends_line w ↦ (let counted = rw (sym test ∙ w.if-ends_line.true) at more in (omega arith, omega arith))
      | else-ends_line w ↦ (let counted = rw (sym test ∙ w.if-ends_line.false) at more in (omega arith, omega arith))
    ])
