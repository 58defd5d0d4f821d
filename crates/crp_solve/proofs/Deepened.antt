-- What is known after a search more of an iterative deepening.
use Rattle.std.proofs.Common.{◌≡◌, ℕ, ◌+◌, ◌-◌, ◌<◌, ◌≤◌, min, inl, inr, ⊎_elim, Bool, true, false, [], Option, None, Some, IfSome, sym, ap, ◌∙◌, subst, arith}
use Rattle.std.proofs.lemmas.Bool.{cases_lt, cases_Bool}
use Rattle.crp_plan.specs.Bay.{Problem, IsProblem, cap, Position, IsAt}
use Rattle.crp_plan.specs.Plans.{ProblemPath}
use Rattle.crp_bounds.specs.Bounds.{look_ahead}
use Rattle.crp_tree.specs.Parts.{Certificate}
use Rattle.crp_solve.specs.declared.end.Together.{Together}
use Rattle.crp_solve.specs.Answers.{path_in, count_of, shorter, IsPlanOf}
use Rattle.crp_solve.specs.Desks.{count_or}
use Rattle.crp_solve.specs.Searches.{BeginsWithin, IsBestMet, IsShown, IsOpen, IsLost}
use Rattle.crp_solve.specs.Rests.{IsFoundTogether, IsCutShort}
use Rattle.crp_solve.specs.Deepening.{higher, count_in, IsNearer, searches_left, distance}
use Rattle.crp_solve.proofs.Limits.{smaller_is, count_low, no_longer_met, begins_lower, shorter_count}
use Rattle.crp_solve.proofs.TrueAnswers.{reaches, count_over, search_shows}

-- the limit in the end is no less than the look-ahead bound of the first position, where the limit at the start was not
pub limit_over : (p : Problem) (first : ℕ) (best : Option ProblemPath) (s : Position) → IsProblem p → IfSome best (IsPlanOf p) → IsAt p [] s → min (cap p) (look_ahead s) ≤ first → min (cap p) (look_ahead s) ≤ count_or first (path_in best)
limit_over p first None s is met at over = over
limit_over p first (Some plan) s is met at over = count_over p (Some plan) s is met at

-- a search more begins with no more than the plan that is known
pub begins_open : (p : Problem) (budget : ℕ) (cert : Certificate) (plan : Option ProblemPath) (expanded : ℕ) → IsShown p budget cert plan expanded → IsOpen p budget cert plan expanded → BeginsWithin p (cert.lower + 1)
begins_open p budget cert plan expanded w o = let met = w.best_met in begins_lower p (count_of p (path_in plan)) (cert.lower + 1) (omega (arith, o.below)) met.no_more

-- the better of the plan that is known and the one that was met
better_count : (p : Problem) (best met better : Option ProblemPath) → IsBestMet p best → IfSome met (IsPlanOf p) → better ≡ shorter best met → count_of p (path_in better) ≡ min (count_of p (path_in best)) (count_of p (path_in met))
better_count p best met better known is e = ap (λ o. count_of p (path_in o)) e ∙ shorter_count p best met (count_low p best known.is_problem known.plan_is) (count_low p met known.is_problem is)

-- what is shown after it
pub shown_after : {thin : ℕ} {stopped : Bool} (p : Problem) (budget : ℕ) (cert cert' : Certificate) (best met better : Option ProblemPath) (expanded more : ℕ) → IsShown p budget cert best expanded → IsOpen p budget cert best expanded →
    IsFoundTogether thin p (budget - expanded) (cert.lower + 1) cert' met more stopped → IfSome better (IsPlanOf p) → better ≡ shorter best met → IsShown p budget (higher cert cert') better (expanded + more)
shown_after p budget cert cert' best met better expanded more w o f is e =
    let found = f.ended in let about = w.about in
    let known : IsBestMet p better = no_longer_met p best better w.best_met is (omega (arith, better_count p best met better w.best_met f.best_is e)) in
    let within : expanded + more ≤ budget = omega (arith, f.granted, found.within, o.left) in
    ⊎_elim
    (λ (x : (cert.lower < cert'.lower) × (higher cert cert' ≡ cert')). subst (λ k. IsShown p budget k better (expanded + more)) (sym x.1)
    (search_shows p (budget - expanded) (cert.lower + 1) (count_or (cert.lower + 1) (path_in met)) budget (expanded + more) f.view cert' better found known
    (λ s at. limit_over p (cert.lower + 1) met s about.is_problem f.best_is at (omega (arith, w.ahead s at))) (omega (arith, f.granted)) within))
    (λ (x : (cert'.lower ≤ cert.lower) × (higher cert cert' ≡ cert)). subst (λ k. IsShown p budget k better (expanded + more)) (sym x.1)
    (record { about = about; ahead = w.ahead; needed = w.needed; best_met = known; granted = omega (arith, w.granted); within = within }))
    (smaller_is cert.lower cert'.lower cert' cert)

-- where no claim was refused, and the bound is no higher, a plan was met that has no more relocations than the bound
met_fewer : (p : Problem) (lower reached : ℕ) (met : Option ProblemPath) → count_or (lower + 1) (path_in met) ≤ reached → reached ≤ lower → count_of p (path_in met) ≤ lower
met_fewer p lower reached None le low = absurd (omega (arith, le, low))
met_fewer p lower reached (Some plan) le low = omega (arith, le, low)

-- and it is nearer to the answer
pub nearer_after : {thin : ℕ} (p : Problem) (budget : ℕ) (cert cert' : Certificate) (best met better : Option ProblemPath) (expanded more : ℕ) (was stopped : Bool) → IsShown p budget cert best expanded → IsOpen p budget cert best expanded →
    IsFoundTogether thin p (budget - expanded) (cert.lower + 1) cert' met more stopped → better ≡ shorter best met →
    IsNearer p budget (record { cert = cert; best = best; expanded = expanded; stopped = was }) (record { cert = higher cert cert'; best = better; expanded = expanded + more; stopped = stopped })
nearer_after p budget cert cert' best met better expanded more was stopped w o f e =
    let found = f.ended in let known = w.best_met in
    let count : count_of p (path_in better) ≡ min (count_of p (path_in best)) (count_of p (path_in met)) = better_count p best met better known f.best_is e in
    let low : count_of p (path_in best) ≤ cap p = count_low p best known.is_problem known.plan_is in
    let limit_low : count_or (cert.lower + 1) (path_in met) ≤ cap p = omega (arith, found.low, o.below, low) in
    let fewer : count_of p (path_in better) ≤ count_of p (path_in best) = omega (arith, count) in
    ⊎_elim
    (λ (x : (cert.lower < cert'.lower) × (higher cert cert' ≡ cert')).
    let lower : cert.lower < (higher cert cert').lower = omega (arith, x.0, ap (λ (k : Certificate). k.lower) x.1) in
    record { lower = omega arith; count = fewer; spends = omega arith; more = inl lower })
    (λ (x : (cert'.lower ≤ cert.lower) × (higher cert cert' ≡ cert)).
    record {
      lower = omega (arith, ap (λ (k : Certificate). k.lower) x.1);
      count = fewer;
      spends = omega arith;
      more = inr (⊎_elim
          (λ (refused : 0 < f.view.refused). inr (⊎_elim (λ (yes : stopped ≡ true). inr yes) (λ (no : stopped ≡ false). inl (omega (arith, found.refused_last no refused, f.granted, o.left))) (cases_Bool stopped)))
          (λ (none : f.view.refused ≤ 0). inl (omega (
            arith,
            count,
            o.below,
            met_fewer p cert.lower cert'.lower met (reaches p (budget - expanded) (cert.lower + 1) (count_or (cert.lower + 1) (path_in met)) f.view cert' found limit_low (omega (arith, none))) x.0,
          )))
          (cases_lt 0 f.view.refused));
    })
    (smaller_is cert.lower cert'.lower cert' cert)

-- what is left where memory ran out in it
pub lost_after : (p : Problem) (budget : ℕ) (cert : Certificate) (best shown better : Option ProblemPath) (expanded more : ℕ) → IsShown p budget cert best expanded → IsCutShort p (budget - expanded) shown more →
    IfSome better (IsPlanOf p) → better ≡ shorter shown best → IsLost p budget better (expanded + more)
lost_after p budget cert best shown better expanded more w short is e =
    let known = w.best_met in
    let count : count_of p (path_in better) ≡ min (count_of p (path_in shown)) (count_of p (path_in best)) =
    ap (λ o. count_of p (path_in o)) e ∙ shorter_count p shown best (count_low p shown known.is_problem short.best_is) (count_low p best known.is_problem known.plan_is) in
    record { best_met = no_longer_met p best better known is (omega (arith, count)); within = omega (arith, w.within, short.within) }

-- so the searches end
left_after : (b : Bool) → searches_left b ≤ 1
left_after true = omega arith
left_after false = omega arith

pub nearer_smaller : (p : Problem) (budget : ℕ) (old new : Together) → old.stopped ≡ false → IsShown p budget old.cert old.best old.expanded → IsOpen p budget old.cert old.best old.expanded → IsNearer p budget old new → distance p budget new < distance p budget old
nearer_smaller p budget old new goes_on w o n =
    let one = ap searches_left goes_on in let most = left_after new.stopped in
    let known = w.best_met in
    let low : count_in p old ≤ cap p = count_low p old.best known.is_problem known.plan_is in
    let below : old.cert.lower < count_in p old = o.below in
    ⊎_elim (λ (rises : old.cert.lower < new.cert.lower). omega (arith, n.count, n.spends, one, most))
    (⊎_elim (λ (fewer : count_in p new < count_in p old). omega (arith, n.lower, n.spends, one, most))
    (⊎_elim (λ (spent : new.expanded ≡ budget). omega (arith, n.lower, n.count, o.left, one, most)) (λ (last : new.stopped ≡ true). omega (arith, n.lower, n.count, n.spends, one, ap searches_left last))))
    n.more
