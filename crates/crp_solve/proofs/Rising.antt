-- Searches one after the other, while they are made, and behind them.
use Rattle.std.proofs.Common.{◌≡◌, ℕ, ◌+◌, ◌-◌, ◌<◌, ◌≤◌, ◌∙◌, true, false, ⊎_elim, List, [], ◌∷◌, ◌++◌, Option, Result, Ok, Err, IfOk, refl, sym, subst, arith}
use Rattle.std.proofs.lemmas.Bool.{cases_lt}
use Rattle.crp_plan.specs.Bay.{Problem}
use Rattle.crp_plan.specs.Plans.{ProblemPath}
use Rattle.crp_tree.specs.Parts.{Certificate}
use Rattle.crp_solve.specs.declared.end.Together.{Together}
use Rattle.crp_solve.specs.declared.end.Lost.{Lost}
use Rattle.crp_solve.specs.Chosen.{Chosen, is_timed}
use Rattle.crp_solve.specs.Answers.{shorter}
use Rattle.crp_solve.specs.Searches.{IsOpen, IsShown}
use Rattle.crp_solve.specs.Rests.{IsFoundTogether}
use Rattle.crp_solve.specs.Deepening.{higher}
use Rattle.crp_solve.specs.Rounds.{IsStartPlan, Round, behind, IsNextRound, Deepen, IsKnownBefore, IsOneSearch, SearchesOf, AreSearched}
use Rattle.crp_solve.proofs.SearchesEnded.{rounds_more, rounds_shown, before_shown}

-- what is known came of searches one after the other
pub record IsRising (p : Problem) (c : Chosen) (known : Together) : Type 0 where
  pub plan : Option ProblemPath
  pub begins : IsStartPlan p c plan
  pub before : Together
  pub is_before : IsKnownBefore p plan before
  pub rounds : List Round
  pub deepen : Deepen c.thin p c.budget before rounds known
  pub timely : known.stopped ≡ true → is_timed c.time ≡ true

pub rising_begins : (p : Problem) (c : Chosen) (plan : Option ProblemPath) (before : Together) → IsStartPlan p c plan → IsKnownBefore p plan before → IsRising p c before
rising_begins p c plan before begins known = record { plan = plan; begins = begins; before = before; is_before = known; rounds = []; deepen = refl; timely = λ yes. absurd (let both = sym known.goes_on ∙ yes in cc) }

pub rising_shown : (p : Problem) (c : Chosen) (known : Together) → IsRising p c known → IsShown p c.budget known.cert known.best known.expanded
rising_shown p c known r = let begins = r.begins in rounds_shown c.thin p c.budget r.before known r.rounds r.deepen (before_shown p c.budget r.plan r.before begins.best_met r.is_before)

pub rising_more : (p : Problem) (c : Chosen) (known next : Together) → IsRising p c known → (round : Round) × IsNextRound c.thin p c.budget known round × (next ≡ behind known round.found) → (next.stopped ≡ true → is_timed c.time ≡ true) → IsRising p c next
rising_more p c known next r (round, is, e) timely = subst (IsRising p c) (sym e) (record {
  plan = r.plan;
  begins = r.begins;
  before = r.before;
  is_before = r.is_before;
  rounds = r.rounds ++ round ∷ [];
  deepen = rounds_more p c.budget r.before known r.rounds round r.deepen is;
  timely = subst (λ (k : Together). k.stopped ≡ true → is_timed c.time ≡ true) e timely;
})

pub rising_ends : (p : Problem) (c : Chosen) (known : Together) → c.deepen ≡ true → IsRising p c known → (known.stopped ≡ false → IsOpen p c.budget known.cert known.best known.expanded → ⊥) → AreSearched p c known
rising_ends p c known asked r closed =
    let shown = rising_shown p c known r in
    record {
      plan = r.plan;
      begins = r.begins;
      searches = subst (λ b. SearchesOf b c.thin p c.budget r.plan known) (sym asked) (record {
        before = r.before;
        known = r.is_before;
        rounds = r.rounds;
        deepen = r.deepen;
        to_end = λ goes_on below. ⊎_elim (λ (left : known.expanded < c.budget). absurd (closed goes_on (record { below = below; left = left }))) (λ (spent : c.budget ≤ known.expanded). omega (arith, spent, shown.within)) (cases_lt known.expanded c.budget);
      });
      timely = r.timely;
    }

-- a search with the rest of the budget, one relocation above the bound, is a search more
pub one_more : {thin : ℕ} (p : Problem) (budget : ℕ) (known found : Together) (cert : Certificate) (best : Option ProblemPath) → known.stopped ≡ false → IsOpen p budget known.cert known.best known.expanded →
    IsFoundTogether thin p (budget - known.expanded) (known.cert.lower + 1) found.cert found.best found.expanded found.stopped → cert ≡ higher known.cert found.cert → best ≡ shorter known.best found.best →
    (round : Round) × IsNextRound thin p budget known round × (record { cert = cert; best = best; expanded = known.expanded + found.expanded; stopped = found.stopped } ≡ behind known round.found)
one_more p budget known found cert best goes_on undecided f e e' = (
  record { limit = known.cert.lower + 1; found = found },
  record { goes_on = goes_on; undecided = undecided; limit = refl; found = f },
  together e e',
)
  where
    together : cert ≡ higher known.cert found.cert → best ≡ shorter known.best found.best → record { cert = cert; best = best; expanded = known.expanded + found.expanded; stopped = found.stopped } ≡ behind known found
    together a b = (cc (a, b))

-- one search, where no deepening is asked for
pub one_searched : (p : Problem) (c : Chosen) (plan : Option ProblemPath) (r : Result Together Lost) → c.deepen ≡ false → IsStartPlan p c plan → IfOk r (IsOneSearch c.thin p c.budget plan) →
    IfOk r (λ k. k.stopped ≡ true → is_timed c.time ≡ true) → IfOk r (AreSearched p c)
one_searched p c plan (Err lost) once begins s timely = tt
one_searched p c plan (Ok known) once begins s timely = record { plan = plan; begins = begins; searches = subst (λ b. SearchesOf b c.thin p c.budget plan known) (sym once) s; timely = timely }
