use Rattle.std.proofs.Common.{◌∙◌, ◌++◌, List, ℕ, map, ap}
use denote.Ref.{Bor}
use Rattle.crp_follow.specs.Table.{header, fields_of, record_text}
use Rattle.crp_follow.specs.Views.{columns_as}
use Rattle.crp_follow.proofs.TableSteps.{record_more}
use Rattle.crp_follow.proofs.table.table_text.Goals as goal

pub loop-columns-preserved : goal.loop-columns-preserved
loop-columns-preserved c =
    let old = c.loop-columns.table in
    let columns = c.columns-item.result in
    let none = ap (λ (more : List (Bor (List ℕ))). old ++ record_text (fields_of (columns_as columns) ++ map (λ (field : Bor (List ℕ)). field.now) more)) c.as_slice-in-loop-columns.ensures in
    record_more columns_as fields_of header c.deref-columns-items.result.now c.loop-columns.columns-index columns old c.in_ok-table-2.table c.loop-columns-test.true c.columns-item.is
    c.loop-columns.invariant (c.in_ok-table-2.ensures ∙ none)
