-- What is known behind the searches that were chosen: they have ended.
use Rattle.std.proofs.Common.{◌≡◌, ℕ, ◌+◌, ◌-◌, ◌<◌, ◌≤◌, ◌∙◌, min, Bool, true, false, if◌then◌else◌, List, [], ◌∷◌, ◌++◌, length, Option, None, Some, IfSome, refl, sym, ap, subst, arith}
use Rattle.std.specs.Prelude.{nat_lt}
use Rattle.crp_plan.specs.Bay.{Problem, cap}
use Rattle.crp_plan.specs.Plans.{ProblemPath}
use Rattle.crp_bay.proofs.Reaching.{first_value}
use Rattle.crp_bounds.specs.Bounds.{look_ahead}
use Rattle.crp_tree.specs.Parts.{Certificate}
use Rattle.crp_solve.specs.declared.end.Together.{Together}
use Rattle.crp_solve.specs.Chosen.{Chosen}
use Rattle.crp_solve.specs.declared.answer.Answer.TheVariants.{Between}
use Rattle.crp_solve.specs.Answers.{path_in, branches_of, count_of, shorter, IsPlanOf, cause_by, EachIsBranch, IsTrueAnswer}
use Rattle.crp_solve.specs.Solved.{known_by, ComesOf}
use Rattle.crp_solve.specs.Desks.{count_or}
use Rattle.crp_solve.specs.Searches.{met_or_known, IsBestMet, IsShown, AreEnded}
use Rattle.crp_solve.specs.Rests.{IsFoundTogether}
use Rattle.crp_solve.specs.Rounds.{Round, behind, IsNextRound, Deepen, IsKnownBefore, SearchesOf, AreSearched}
use Rattle.crp_solve.proofs.Limits.{count_low, no_longer_met}
use Rattle.crp_solve.proofs.TrueAnswers.{count_over, search_shows, spent_below, cut_shows, between_is_true, stopped_is_true}
use Rattle.crp_solve.proofs.Deepened.{shown_after}
use Rattle.crp_solve.proofs.Granting.{grants_alone}

-- the better of two plans of the problem is one
shorter_is_plan : (p : Problem) (plan other : Option ProblemPath) → IfSome plan (IsPlanOf p) → IfSome other (IsPlanOf p) → IfSome (shorter plan other) (IsPlanOf p)
shorter_is_plan p None other is also = also
shorter_is_plan p (Some plan) None is also = is
shorter_is_plan p (Some plan) (Some other) is also =
    elim (nat_lt (length other.path) (length plan.path)) as (λ b. IfSome (if b then Some other else Some plan) (IsPlanOf p)) [ true ↦ also | false ↦ is ]

-- a search more in its place among the others
pub rounds_more : {thin : ℕ} (p : Problem) (budget : ℕ) (known end : Together) (rounds : List Round) (round : Round) → Deepen thin p budget known rounds end → IsNextRound thin p budget end round →
    Deepen thin p budget known (rounds ++ round ∷ []) (behind end round.found)
rounds_more {thin} p budget known end [] round e next = (subst (λ k. IsNextRound thin p budget k round) (sym e) next, ap (λ k. behind k round.found) e)
rounds_more p budget known end (first ∷ rounds) round d next = (d.0, rounds_more p budget (behind known first.found) end rounds round d.1 next)

-- what is shown behind them
pub rounds_shown : (thin : ℕ) (p : Problem) (budget : ℕ) (known end : Together) (rounds : List Round) → Deepen thin p budget known rounds end → IsShown p budget known.cert known.best known.expanded → IsShown p budget end.cert end.best end.expanded
rounds_shown thin p budget known end [] e shown = subst (λ (k : Together). IsShown p budget k.cert k.best k.expanded) e shown
rounds_shown thin p budget known end (round ∷ rounds) d shown =
    let next = d.0 in let met = shown.best_met in let found = round.found in
    let f : IsFoundTogether thin p (budget - known.expanded) (known.cert.lower + 1) found.cert found.best found.expanded found.stopped =
    subst (λ n. IsFoundTogether thin p (budget - known.expanded) n found.cert found.best found.expanded found.stopped) next.limit next.found in
    rounds_shown thin p budget (behind known found) end rounds d.1
    (shown_after p budget known.cert found.cert known.best found.best (shorter known.best found.best) known.expanded found.expanded shown next.undecided f
    (shorter_is_plan p known.best found.best met.plan_is f.best_is) refl)

-- where the last one was stopped some of the budget is left
rounds_left : (thin : ℕ) (p : Problem) (budget : ℕ) (known end : Together) (rounds : List Round) → Deepen thin p budget known rounds end → (known.stopped ≡ true → known.expanded < budget) → end.stopped ≡ true → end.expanded < budget
rounds_left thin p budget known end [] e left = subst (λ (k : Together). k.stopped ≡ true → k.expanded < budget) e left
rounds_left thin p budget known end (round ∷ rounds) d left =
    let next = d.0 in let f = next.found in let found = round.found in
    rounds_left thin p budget (behind known found) end rounds d.1 (λ yes. (let less = f.left yes in omega (arith, less)))

-- what is shown before the first
pub before_shown : (p : Problem) (budget : ℕ) (plan : Option ProblemPath) (known : Together) → IsBestMet p plan → IsKnownBefore p plan known → IsShown p budget known.cert known.best known.expanded
before_shown p budget plan known met k =
    cut_shows p budget known.expanded known.cert known.best k.about k.cut (subst (IsBestMet p) (sym k.best) met) (omega (arith, k.none_yet))
    (λ s at. k.bound ∙ ap (λ v. min (cap p) (look_ahead v)) (sym (first_value p s met.is_problem at)))

-- the plan that one search came to
met_is_plan : (p : Problem) (met known : Option ProblemPath) → IfSome met (IsPlanOf p) → IfSome known (IsPlanOf p) → IfSome (met_or_known met known) (IsPlanOf p)
met_is_plan p None known is also = also
met_is_plan p (Some plan) known is also = is

met_count : (p : Problem) (met known : Option ProblemPath) → count_of p (path_in (met_or_known met known)) ≡ count_or (count_of p (path_in known)) (path_in met)
met_count p None known = refl
met_count p (Some plan) known = refl

-- what is known after one search, which began with the plan that was known
once_ended : {thin : ℕ} {stopped : Bool} (p : Problem) (budget : ℕ) (cert : Certificate) (best known plan : Option ProblemPath) (expanded : ℕ) → IsBestMet p known → IsFoundTogether thin p budget (count_of p (path_in known)) cert best expanded stopped →
    IfSome plan (IsPlanOf p) → count_of p (path_in plan) ≡ count_or (count_of p (path_in known)) (path_in best) → AreEnded p budget cert plan expanded stopped
once_ended p budget cert best known plan expanded met f is count =
    let first : ℕ = count_of p (path_in known) in let limit : ℕ = count_or first (path_in best) in
    let w = f.ended in
    let met' : IsBestMet p plan = no_longer_met p known plan met is (omega (arith, count, w.low)) in
    let low : limit ≤ cap p = omega (arith, count, count_low p plan met.is_problem is) in
    record {
      shown = search_shows p budget first limit budget expanded f.view cert plan w met' (λ s at. omega (arith, count, count_over p plan s met.is_problem is at)) (omega (arith, f.granted)) (omega (arith, f.granted, w.within));
      spent = λ goes_on below. f.granted ∙ spent_below p budget first limit f.view cert w goes_on low (omega (arith, below, count));
      left = f.left;
    }

searches_end : (thin : ℕ) (deepen : Bool) (p : Problem) (budget : ℕ) (plan : Option ProblemPath) (end : Together) → IsBestMet p plan → SearchesOf deepen thin p budget plan end → AreEnded p budget end.cert end.best end.expanded end.stopped
searches_end thin true p budget plan end met s =
    record { shown = rounds_shown thin p budget s.before end s.rounds s.deepen (before_shown p budget plan s.before met s.known); spent = s.to_end; left = rounds_left thin p budget s.before end s.rounds s.deepen (λ yes. absurd (let k = s.known in let both = sym k.goes_on ∙ yes in cc)) }
searches_end thin false p budget plan end met s =
    let f = s.found in
    once_ended p budget end.cert s.met plan end.best end.expanded met f (subst (λ o. IfSome o (IsPlanOf p)) (sym s.best) (met_is_plan p s.met plan f.best_is met.plan_is))
    (ap (λ o. count_of p (path_in o)) s.best ∙ met_count p s.met plan)

-- so what was chosen was searched to its end
pub searched_ended : (p : Problem) (c : Chosen) (end : Together) → AreSearched p c end → AreEnded p c.budget end.cert end.best end.expanded end.stopped
searched_ended p c end s = let begins = s.begins in searches_end c.thin c.deepen p c.budget s.plan end begins.best_met s.searches

-- and of one search without thinned branches each expansion is a branch
one_search : {thin : ℕ} (deepen : Bool) (p : Problem) (budget : ℕ) (plan : Option ProblemPath) (end : Together) → deepen ≡ false → thin ≡ 0 → SearchesOf deepen thin p budget plan end → end.expanded ≡ branches_of end.cert
one_search true p budget plan end alone none s = absurd (true_is_not_false alone)
  where
    true_is_not_false : true ≡ false → ⊥
    true_is_not_false e = cc e
one_search {thin} false p budget plan end alone none s = let f = s.found in let view = f.view in let ended = f.ended in f.granted ∙ grants_alone thin (branches_of end.cert) view.granted none ended.granted

pub searched_branches : (p : Problem) (c : Chosen) (end : Together) → AreSearched p c end → c.deepen ≡ false → c.thin ≡ 0 → end.expanded ≡ branches_of end.cert
searched_branches p c end s alone none = one_search c.deepen p c.budget s.plan end alone none s.searches

-- where the bound is below the plan, the answer says by how much, and why the searches ended
pub ended_is_true : (p : Problem) (budget : ℕ) (cert : Certificate) (plan : Option ProblemPath) (expanded : ℕ) (stopped : Bool) → AreEnded p budget cert plan expanded stopped → cert.lower < count_of p (path_in plan) →
    IsTrueAnswer p budget (Between cert.lower cert plan (cause_by stopped)) expanded
ended_is_true p budget cert plan expanded true w below = stopped_is_true p budget cert plan expanded w.shown below (w.left refl)
ended_is_true p budget cert plan expanded false w below = between_is_true p budget cert plan expanded w.shown below (w.spent refl below)

pub between_comes : (p : Problem) (c : Chosen) (lower : ℕ) (cert : Certificate) (plan : Option ProblemPath) (expanded : ℕ) (stopped : Bool) → AreSearched p c (known_by cert plan expanded stopped) →
    ComesOf p c (Between lower cert plan (cause_by stopped)) expanded stopped
between_comes p c lower cert plan expanded true s = (refl, s)
between_comes p c lower cert plan expanded false s = (refl, s)

pub between_branches : (lower : ℕ) (cert : Certificate) (plan : Option ProblemPath) (expanded : ℕ) (stopped : Bool) → expanded ≡ branches_of cert → EachIsBranch (Between lower cert plan (cause_by stopped)) expanded
between_branches lower cert plan expanded true each = each
between_branches lower cert plan expanded false each = each
