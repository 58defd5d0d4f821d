use Rattle.std.proofs.Common.{◌∙◌, List, true, false, take, sym, ap, arith}
use Rattle.std.specs.Prelude.{max}
use Rattle.std.proofs.lemmas.List.{take_all}
use Rattle.crp_yard.specs.Inventory.{StackedBay}
use Rattle.crp_notes.specs.Beyond.{of_size, last_row_of, top_tier_of}
use Rattle.crp_notes.proofs.Placed.{bay_more, highest_more}
use Rattle.crp_notes.proofs.rows.highest_of.Goals.{then-eq, else-eq}
use Rattle.crp_notes.proofs.rows.highest_of.Goals as goal

pub loop-bay-preserved : goal.loop-bay-preserved
loop-bay-preserved c =
    let yard = c.args.yard.now in
    let heights = c.args.heights.now in
    let before = of_size yard heights (take c.loop-bay.bay yard.bays) in
    let row = c.loop-bay.invariant.row in
    let tier = c.loop-bay.invariant.tier in
    elim c.if-eq.branch [
      | then-eq w ↦
          let (b, at, more) = bay_more yard heights c.loop-bay.bay c.heights.result.now c.heights.ensures.value true (sym c.eq.ensures ∙ w.if-eq.true) in
          let own = w.highest_in_bay-last.ensures b at in
          let all = highest_more before b in
          rw more record {
            row = w.row-is ∙ w.max-row.ensures ∙ (λ i. max (row i) (own.0 i)) ∙ sym all.0;
            tier = w.tier-is ∙ w.max-tier.ensures ∙ (λ i. max (tier i) (own.1 i)) ∙ sym all.1;
          }
      | else-eq w ↦
          let (b, at, more) = bay_more yard heights c.loop-bay.bay c.heights.result.now c.heights.ensures.value false (sym c.eq.ensures ∙ w.if-eq.false) in
          rw (more, w.row-is, w.tier-is) c.loop-bay.invariant
    ]

pub returns-clause-row : goal.returns-clause-row
returns-clause-row c =
    c.loop-bay.invariant.row ∙ ap (λ (bays : List StackedBay). last_row_of (of_size c.args.yard.now c.args.heights.now bays)) (take_all c.loop-bay.bay c.args.yard.now.bays (omega arith))

pub returns-clause-tier : goal.returns-clause-tier
returns-clause-tier c =
    c.loop-bay.invariant.tier ∙ ap (λ (bays : List StackedBay). top_tier_of (of_size c.args.yard.now c.args.heights.now bays)) (take_all c.loop-bay.bay c.args.yard.now.bays (omega arith))
