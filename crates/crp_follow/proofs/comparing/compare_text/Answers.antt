use Rattle.std.proofs.Common.{◌≡◌, ◌∙◌, ◌++◌, List, ℕ, map, sym, ap, subst}
use Rattle.std.specs.Prelude.{IfOk}
use Rattle.std.specs.List.{IsDistinct}
use denote.Ref.{Bor}
use Rattle.crp_plan.specs.BayNames.{same_bay}
use Rattle.crp_follow.specs.Summary.{summary_header}
use Rattle.crp_follow.specs.Table.{record_text}
use Rattle.crp_follow.proofs.Named.{bay_name}
use Rattle.crp_follow.proofs.ComparingSteps.{joined, names_apart}
use Rattle.crp_follow.proofs.comparing.compare_text.Goals as goal

pub push_firsts-requires : goal.push_firsts-requires
push_firsts-requires c = subst (λ l. IsDistinct same_bay (map bay_name l)) (sym c.deref-2.ensures.value) (names_apart c.args.second.now.numbers c.args.second.now.bays.items c.requires.second)

pub push_seconds-requires : goal.push_seconds-requires
push_seconds-requires c = subst (λ l. IsDistinct same_bay (map bay_name l)) (sym c.deref-3.ensures.value) (names_apart c.args.first.now.numbers c.args.first.now.bays.items c.requires.first)

pub returns : goal.returns
returns c =
    let headed = c.in_ok-table.ensures ∙ ap (λ (names : List (Bor (List ℕ))). record_text (summary_header ++ map (λ (name : Bor (List ℕ)). name.now) names)) c.as_slice.ensures in
    let whole = joined c.args.first.now.bays.items c.args.second.now.bays.items _ _ _ _ c.in_ok-table.table c.in_ok-table-2.table c.in_ok-table-3.table c.deref.ensures.value c.deref-2.ensures.value c.deref-3.ensures.value c.deref-4.ensures.value headed
    c.in_ok-table-2.ensures c.in_ok-table-3.ensures in
    subst (λ t. IfOk c.text.result (λ text. text.items ≡ t)) whole c.text.ensures
