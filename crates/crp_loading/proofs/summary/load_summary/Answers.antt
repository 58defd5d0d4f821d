use Rattle.std.proofs.Common.{◌∙◌, ◌++◌, List, ℕ, map, ap, sym, append-nil}
use denote.Ref.{Bor}
use Rattle.crp_follow.specs.Summary.{summary_header}
use Rattle.crp_follow.specs.Table.{record_text}
use Rattle.crp_follow.specs.Views.{bay_followed}
use Rattle.crp_follow.proofs.TableSteps.{record_more}
use Rattle.crp_loading.specs.Turns.{ShipOrder}
use Rattle.crp_loading.specs.Summary.{header, fields}
use Rattle.crp_loading.proofs.summary.load_summary.Goals as goal

pub loop-bay-init : goal.loop-bay-init
loop-bay-init c =
    c.in_ok-table.ensures ∙ ap (λ (names : List (Bor (List ℕ))). record_text (summary_header ++ map (λ (name : Bor (List ℕ)). name.now) names)) c.as_slice.ensures
    ∙ sym (append-nil (record_text header))

pub loop-bay-preserved : goal.loop-bay-preserved
loop-bay-preserved c =
    let old = c.loop-bay.table in
    let bay = c.bay-item.result in
    record_more bay_followed (fields c.args.sequence.now) header c.deref-bay-items.result.now c.loop-bay.bay-index bay old c.in_ok-table-2.table c.loop-bay-test.true c.bay-item.is
    c.loop-bay.invariant (c.in_ok-table-2.ensures ∙ ap (λ (s : ShipOrder). old ++ record_text (fields s.sequence (bay_followed bay))) c.in_ok-ship.ensures)
