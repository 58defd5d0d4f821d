use Rattle.std.proofs.Common.{◌≡◌, ◌∙◌, ◌++◌, List, ℕ, map, ap, subst}
use Rattle.std.specs.Prelude.{IfOk}
use denote.Ref.{Bor}
use Rattle.crp_follow.specs.Table.{fields_of, record_text}
use Rattle.crp_follow.specs.Views.{columns_as}
use Rattle.crp_follow.proofs.table.Table.push.Goals as goal

pub returns : goal.returns
returns c =
    let now = λ (field : Bor (List ℕ)). field.now in
    let same : map now c.as_slice.result.now ≡ fields_of (columns_as c.args.columns.now) = ap (map now) c.as_slice.ensures ∙ cc in
    subst (λ fields. IfOk c.push_record.result (λ table. table ≡ c.args.self ++ record_text (fields ++ map now c.args.more.now))) same c.push_record.ensures
