use Rattle.std.proofs.Common.{◌≡◌, ◌++◌, List, ℕ, map, subst}
use Rattle.std.specs.Prelude.{IfOk}
use denote.Ref.{Bor}
use Rattle.crp_follow.specs.Summary.{summary_header}
use Rattle.crp_follow.specs.Table.{record_text}
use Rattle.crp_follow.proofs.summary.summary_table.Goals as goal

pub returns : goal.returns
returns c =
    let now = λ (field : Bor (List ℕ)). field.now in
    subst (λ text. IfOk c.push_record.result (λ table. table ≡ text ++ record_text (summary_header ++ map now c.args.more.now))) c.empty.ensures
    (subst (λ fields. IfOk c.push_record.result (λ table. table ≡ c.empty.result ++ record_text (map now fields ++ map now c.args.more.now))) c.as_slice.ensures c.push_record.ensures)
