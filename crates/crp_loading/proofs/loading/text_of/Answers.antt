use Rattle.std.proofs.Common.{◌≡◌, ◌∙◌, ◌++◌, ◌∷◌, [], List, ℕ, map, ap}
use denote.Ref.{Bor}
use Rattle.crp_follow.specs.Table.{number_field, fields_of, record_text}
use Rattle.crp_follow.specs.Views.{columns_as}
use Rattle.crp_follow.proofs.TableSteps.{record_more}
use Rattle.crp_loading.specs.Loading.{turn_fields, slot_field, header}
use Rattle.crp_loading.specs.Views.{recorded}
use Rattle.crp_loading.proofs.loading.text_of.Goals as goal

pub loop-columns-preserved : goal.loop-columns-preserved
loop-columns-preserved c =
    let old = c.loop-columns.table in
    let columns = c.columns-item.result in
    let now = λ (field : Bor (List ℕ)). field.now in
    let own : map now c.as_slice-in-loop-columns.result.now ≡ number_field columns.turn ∷ slot_field columns.slot ∷ [] = ap (map now) c.as_slice-in-loop-columns.ensures ∙ cc in
    record_more recorded turn_fields header c.args.records.now c.loop-columns.columns-index columns old c.in_ok-table-2.table c.loop-columns-test.true c.columns-item.is
    c.loop-columns.invariant (c.in_ok-table-2.ensures ∙ ap (λ more. old ++ record_text (fields_of (columns_as columns.of_move) ++ more)) own)
