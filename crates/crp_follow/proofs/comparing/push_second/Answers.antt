use Rattle.std.proofs.Common.{◌≡◌, ◌∙◌, ◌++◌, ◌∷◌, [], List, ℕ, map, ap, subst}
use Rattle.std.specs.Prelude.{IfOk}
use denote.Ref.{Bor}
use Rattle.crp_follow.specs.Compare.{name_fields, second_fields}
use Rattle.crp_follow.specs.Followed.{BayFollowed}
use Rattle.crp_follow.specs.Table.{record_text}
use Rattle.crp_follow.specs.Views.{bay_followed}
use Rattle.crp_follow.proofs.comparing.push_second.Goals as goal

pub returns : goal.returns
returns c =
    let now = λ (field : Bor (List ℕ)). field.now in
    let b : BayFollowed = bay_followed c.args.bay.now in
    let behind : map now c.as_slice.result.now ≡ second_fields b ++ [] ∷ [] = ap (map now) c.as_slice.ensures ∙ cc in
    subst (λ more. IfOk c.push_name.result (λ table. table ≡ c.args.table ++ record_text (name_fields b.stated.bay ++ more))) behind c.push_name.ensures
