use Rattle.std.proofs.Common.{◌↔◌, List, ℕ, Contains, sym, subst}
use Rattle.std.proofs.lemmas.Result.{err_from_is_err_and}
use Rattle.crp_tree.specs.Claims.{IsRootOrGiven}
use Rattle.crp_checker.specs.Verdicts.{IsVerdictUnder}
use Rattle.crp_checker.specs.Needs.{IsNamesRefusal}
use Rattle.crp_checker.proofs.Concluded.{refused_by_names, shown_at_end}
use Rattle.crp_checker.proofs.claim.conclude.Goals as goal

pub returns-in_err-hold_names-clause-refused : goal.returns-in_err-hold_names-clause-refused
returns-in_err-hold_names-clause-refused c =
    let p = err_from_is_err_and c.from_residual.result c.from_residual.ensures.1 in
    rw (p.1, p.2)
    (refused_by_names c.args.findings c.in_err-hold_names.field-0.0 c.in_default.is
    (λ list kept. subst (λ (l : List (List ℕ)). IsNamesRefusal l list c.in_err-hold_names.field-0.0) c.into_vec.ensures.value (c.in_err-hold_names.ensures.refused list kept)))

pub returns-clause-states : goal.returns-clause-states
returns-clause-states c wanted bytes ended =
    let shown = shown_at_end wanted bytes c.args.findings c.verdict_under-verdict.result ended c.in_default.is
    (λ list kept. subst (λ (l : List (List ℕ)). (name : List ℕ) → Contains l name ↔ IsRootOrGiven list name) c.into_vec.ensures.value (c.in_ok-hold_names.ensures.same list kept))
    (subst (λ n. IsVerdictUnder c.args.findings.need.claim n c.args.findings.count c.verdict_under-verdict.result) c.cap.ensures.value c.verdict_under-verdict.ensures) in
    (ended.script, shown.0, sym ended.are.bay_is, sym ended.are.plan_is, shown.1)
