-- What looks true is true, and the other way round.
use Rattle.std.proofs.Common.{◌≡◌, ℕ, ◌≤◌, ◌==◌, Bool, true, false, cond, List, Option, Some, None, refl, sym, ap, ◌∙◌, subst}
use Rattle.crp_plan.specs.declared.moves.Move.{Move}
use Rattle.crp_plan.specs.Bay.{Problem, cap, IsPlan, path_of, relocations}
use Rattle.crp_tree.specs.First.{IsFirstBest}
use Rattle.crp_tree.proofs.Firsts.{one_is}
use Rattle.crp_said.specs.declared.said.SaidCause.TheVariants as cause
use Rattle.crp_cert.proofs.Scripts.{script_once}
use Rattle.crp_checker.specs.declared.verdict.Verdict.{Verdict}
use Rattle.crp_checker.specs.declared.verdict.Verdict.TheVariants as verdict
use Rattle.crp_checker.specs.Verdicts.{Says}
use Rattle.crp_checker.proofs.Meaning.{says_from, says_first, plan_of_first}
use Rattle.crp_said.specs.declared.said.Said.{Said}
use Rattle.crp_said.specs.declared.said.Said.TheVariants.{Optimal, First, NoPlan, Between, Outside}
use Rattle.crp_audit.specs.Headline.{Handed, Reported, problem_in, IsSo, shown_by, lower_shown, BearsOut, IsShownOf, IsTrueOf}
use Rattle.crp_audit.specs.LooksTrue.{StatesPlan, LooksSo, LooksTrue}
use Rattle.crp_plan.specs.BayNames.{YardBay}

-- what an accepted certificate of a problem shows is so
says : (bay : YardBay) (p : Problem) (text : List ℕ) (v : Verdict) → IsShownOf bay p text v → Says p v
says bay p text v (script, is, name, shows) = subst (λ (q : Problem). Says q v) (sym is.as_wanted) (says_from script v is.accepted shows)

-- no plan has fewer relocations than the lower bound of what is shown
low : (p : Problem) (lower : ℕ) (upper : Option ℕ) → Says p (shown_by lower (cap p) upper) → (moves : List Move) → IsPlan p moves → lower ≤ relocations moves
low p lower None said moves plan = by_test (lower == cap p) said
  where
    by_test : (t : Bool) → Says p (cond t verdict.NoPlan (verdict.Bounds lower None)) → lower ≤ relocations moves
    by_test true none = absurd (none moves plan)
    by_test false bounds = bounds.0 moves plan
low p lower (Some count) said moves plan = outer (count == lower) said
  where
    inner : (t : Bool) → Says p (cond t verdict.NoPlan (verdict.Bounds lower (Some count))) → lower ≤ relocations moves
    inner true none = absurd (none moves plan)
    inner false bounds = bounds.0 moves plan

    outer : (t : Bool) → Says p (cond t (verdict.Optimal lower) (cond (lower == cap p) verdict.NoPlan (verdict.Bounds lower (Some count)))) → lower ≤ relocations moves
    outer true best = best.least moves plan
    outer false said = inner (lower == cap p) said

-- nor than the lower bound that a verdict has
low_shown : (p : Problem) (v : Verdict) (lower : ℕ) → Says p v → lower_shown v ≡ Some lower → (moves : List Move) → IsPlan p moves → lower ≤ relocations moves
low_shown p (verdict.Optimal count) lower best e moves plan = let same : count ≡ lower = cc in subst (λ n. n ≤ relocations moves) same (best.least moves plan)
low_shown p (verdict.First count) lower (path, first, many) e moves plan =
    let same : count ≡ lower = cc in
    let fewest = first.best in subst (λ n. n ≤ relocations moves) (many ∙ same) (fewest.least moves plan)
low_shown p (verdict.Bounds low upper) lower bounds e moves plan = let same : low ≡ lower = cc in subst (λ n. n ≤ relocations moves) same (bounds.0 moves plan)
low_shown p verdict.NoPlan lower none e moves plan = absurd (none moves plan)

-- the plan of a certificate that shows a first best plan is that plan
first_stated : (bay : YardBay) (p : Problem) (text : List ℕ) (count : ℕ) → IsShownOf bay p text (verdict.First count)
    → (path : List ℕ) × IsFirstBest p path × StatesPlan text path
first_stated bay p text count (script, is, name, shows) =
    let claims = (says_first script.head.claim _ _ (verdict.First count) count shows).0 refl in
    let (path, stated, many, first) = plan_of_first (Some p) text script count is claims in
    (path, subst (λ (q : Problem). IsFirstBest q path) (sym is.as_wanted) first, (script, is.is_text, stated))

-- a certificate states one plan
one_plan : (text path other : List ℕ) → StatesPlan text path → StatesPlan text other → path ≡ other
one_plan text path other (a, is-a, plan-a) (b, is-b, plan-b) =
    let same = (script_once text a b is-a is-b).0 in
    let e : a.head.plan ≡ b.head.plan = ap (λ h. h.plan) same in
    let k : Some path ≡ Some other = sym plan-a ∙ e ∙ plan-b in cc

-- what an accepted certificate says of a bay, where its verdict is this one
says_as : (h : Handed) (b : Reported) (v other : Verdict) → v ≡ other → IsShownOf b.bay.0 (problem_in h b) b.certificate v → Says (problem_in h b) other
says_as h b v other e shown = says b.bay.0 (problem_in h b) b.certificate other (subst (IsShownOf b.bay.0 (problem_in h b) b.certificate) e shown)

so : (h : Handed) (b : Reported) (said : Said) (v : Verdict) → BearsOut (cap (problem_in h b)) said v → IsShownOf b.bay.0 (problem_in h b) b.certificate v → LooksSo h b said → IsSo h b said
so h b (Optimal count) v e shown looks = let best = says_as h b v (verdict.Optimal count) e shown in (looks, best.least)
so h b (First count) v e shown (prints, plan) =
    let (path, best, stated) = first_stated b.bay.0 (problem_in h b) b.certificate count (subst (IsShownOf b.bay.0 (problem_in h b) b.certificate) e shown) in
    let same = one_plan b.certificate path (path_of prints.moves) stated plan in
    let (other, first, many) = says_as h b v (verdict.First count) e shown in
    let fewest = first.best in (
      record { plan = prints; first = subst (IsFirstBest (problem_in h b)) same best },
      λ moves is. subst (λ n. n ≤ relocations moves) many (fewest.least moves is),
    )
so h b NoPlan v e shown looks = (says_as h b v verdict.NoPlan e shown, looks)
so h b (Between lower upper cause.Budget) v e shown looks = let bounds = says_as h b v (verdict.Bounds lower upper) e shown in (bounds.0, looks)
so h b (Between lower upper cause.Memory) v e shown looks =
    (low (problem_in h b) lower upper (says_as h b v (shown_by lower (cap (problem_in h b)) upper) e shown), looks)
so h b (Between lower upper cause.Time) v e shown looks = let bounds = says_as h b v (verdict.Bounds lower upper) e shown in (bounds.0, looks)
so h b (Between lower upper cause.Edited) v e shown looks = (low_shown (problem_in h b) v lower (says b.bay.0 (problem_in h b) b.certificate v shown) e, looks)
so h b (Outside count) v e shown looks = looks

looks : (h : Handed) (b : Reported) (said : Said) (v : Verdict) → BearsOut (cap (problem_in h b)) said v → IsShownOf b.bay.0 (problem_in h b) b.certificate v → IsSo h b said → LooksSo h b said
looks h b (Optimal count) v e shown is = is.0
looks h b (First count) v e shown (printed, fewest) =
    let (path, best, stated) = first_stated b.bay.0 (problem_in h b) b.certificate count (subst (IsShownOf b.bay.0 (problem_in h b) b.certificate) e shown) in
    let plan = printed.plan in
    (plan, subst (StatesPlan b.certificate) (one_is (problem_in h b) path (path_of plan.moves) best printed.first) stated)
looks h b NoPlan v e shown is = is.1
looks h b (Between lower upper why) v e shown is = is.1
looks h b (Outside count) v e shown is = is

pub true_if_looks : (h : Handed) (b : Reported) → LooksTrue h b → IsTrueOf h b
true_if_looks h b is = record { so = so h b b.said is.certified is.borne_out is.shown is.so; certified = is.certified; borne_out = is.borne_out; shown = is.shown }

pub looks_if_true : (h : Handed) (b : Reported) → IsTrueOf h b → LooksTrue h b
looks_if_true h b is = record { so = looks h b b.said is.certified is.borne_out is.shown is.so; certified = is.certified; borne_out = is.borne_out; shown = is.shown }
