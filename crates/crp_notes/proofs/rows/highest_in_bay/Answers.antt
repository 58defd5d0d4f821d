use Rattle.std.proofs.Common.{◌≡◌, ◌∙◌, true, false, length, sym, ap, arith, tests}
use Rattle.std.specs.Prelude.{nat_lt, max}
use Rattle.crp_notes.specs.Beyond.{last_row, top_tier}
use Rattle.crp_notes.proofs.Placed.{row_more, all_rows}
use Rattle.crp_notes.proofs.rows.highest_in_bay.Goals.{then-not-is_empty, else-not-is_empty}
use Rattle.crp_notes.proofs.rows.highest_in_bay.Goals as goal

pub loop-i-preserved : goal.loop-i-preserved
loop-i-preserved c = λ b at.
    let stack = c.stack-stack.result.now in
    let (row, tier) = c.loop-i.invariant b at in
    let top = c.max-tier.ensures ∙ ap (λ n. max n (length stack)) tier in
    elim c.if-not-is_empty.branch [
      | then-not-is_empty w ↦
          let some : nat_lt 0 (length stack) ≡ true = grind (arith, tests, w.if-not-is_empty.true, c.is_empty.ensures) in
          let more = row_more c.args.yard.now c.args.bay c.loop-i.i stack b at c.stack-stack.ensures true some in
          (w.row-is ∙ sym more.0, top ∙ sym more.1)
      | else-not-is_empty w ↦
          let none : nat_lt 0 (length stack) ≡ false = grind (arith, tests, w.if-not-is_empty.false, c.is_empty.ensures) in
          let more = row_more c.args.yard.now c.args.bay c.loop-i.i stack b at c.stack-stack.ensures false none in
          (w.row-is ∙ row ∙ sym more.0, top ∙ sym more.1)
    ]

pub returns : goal.returns
returns c = λ b at.
    let (row, tier) = c.loop-i.invariant b at in
    let all = all_rows c.args.yard.now c.args.bay c.loop-i.i c.heights.result.now b c.heights.ensures.yard at c.heights.ensures.value (omega arith) in
    (row ∙ ap last_row all, tier ∙ ap top_tier all)
