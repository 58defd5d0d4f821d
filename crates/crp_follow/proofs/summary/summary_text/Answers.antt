use Rattle.std.proofs.Common.{◌∙◌, ◌++◌, List, ℕ, map, ap}
use denote.Ref.{Bor}
use Rattle.crp_follow.specs.Summary.{summary_header, summary_fields}
use Rattle.crp_follow.specs.Table.{record_text}
use Rattle.crp_follow.specs.Views.{bay_followed}
use Rattle.crp_follow.proofs.TableSteps.{record_more}
use Rattle.crp_follow.proofs.summary.summary_text.Goals as goal

pub loop-bay-preserved : goal.loop-bay-preserved
loop-bay-preserved c =
    let old = c.loop-bay.table in
    let bay = c.bay-item.result in
    let none = ap (λ (more : List (Bor (List ℕ))). old ++ record_text (summary_fields (bay_followed bay) ++ map (λ (field : Bor (List ℕ)). field.now) more)) c.as_slice-in-loop-bay.ensures in
    record_more bay_followed summary_fields summary_header c.deref-bay-items.result.now c.loop-bay.bay-index bay old c.in_ok-table-2.table c.loop-bay-test.true c.bay-item.is c.loop-bay.invariant
    (c.in_ok-table-2.ensures ∙ none)
