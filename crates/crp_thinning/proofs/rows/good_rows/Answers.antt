use Rattle.arrayvec.specs.ArrayVec.{ArrayVec}
use Rattle.std.proofs.Common.{[], ◌∷◌, length-append, ◌&&◌, length, sym, ap, ◌∙◌, arith, ℕ}
use Rattle.crp_bay.specs.Positions.{can_shift}
use Rattle.crp_bay.proofs.Reaching.{looked_yes, looked_no}
use Rattle.crp_thinned.specs.Thinned.{is_well_placed}
use Rattle.crp_thinning.proofs.GoodRows.{rows_found, no_rows}
use Rattle.crp_thinning.proofs.rows.good_rows.Goals as goal
use Rattle.crp_thinning.proofs.rows.good_rows.Goals.{then-is_good, else-is_good}

abbrev Rows : Type 0
Rows = ArrayVec ℕ

pub returns-then-next-ordered : goal.returns-then-next-ordered
returns-then-next-ordered c = c.new-rows.ensures ∙ sym (no_rows c.args.track.now.place (omega (arith, c.next.ensures.value, c.ordered-ordered.ensures.value, c.if-next-ordered.true)))

pub loop-row-preserved : goal.loop-row-preserved
loop-row-preserved c =
    let s = c.args.track.now.place in
    let p : ℕ → _ = λ row. can_shift s row && is_well_placed s row in
    elim c.if-is_good.branch [
      | then-is_good w ↦ record {
        value = looked_yes p c.loop-row.row c.loop-row.rows.items c.if-is_good.rows.items (omega arith) c.loop-row.invariant.value (sym w.if-is_good.true ∙ c.is_good.ensures) (ap (λ (v : Rows). v.items) w.rows-is ∙ w.push.ensures.items);
        few = omega (arith, c.loop-row.invariant.few, ap (λ (v : Rows). length v.items) w.rows-is, ap length w.push.ensures.items, length-append c.loop-row.rows.items (c.loop-row.row ∷ []));
      }
      | else-is_good w ↦ record {
        value = looked_no p c.loop-row.row c.loop-row.rows.items c.if-is_good.rows.items (omega arith) c.loop-row.invariant.value (sym w.if-is_good.false ∙ c.is_good.ensures) (ap (λ (v : Rows). v.items) w.rows-is);
        few = omega (arith, c.loop-row.invariant.few, ap (λ (v : Rows). length v.items) w.rows-is);
      }
    ]

pub returns : goal.returns
returns c = rows_found c.args.track.now.place c.loop-row.row c.loop-row.rows.items c.loop-row.invariant.value (omega (arith, c.loop-row-test.false, c.loop-row.auto.row-end, ap length c.heights.ensures.value, c.loop-row.auto.row))
