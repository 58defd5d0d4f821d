-- The searches that an answer comes of: one, or many, the limit of each above the bound that is known.
use Rattle.std.specs.Prelude.{◌≡◌, ℕ, ◌+◌, ◌-◌, ◌<◌, min, List, [], ◌∷◌, Option, Bool, true, false}
use Rattle.crp_plan.specs.Bay.{Problem, start, cap}
use Rattle.crp_plan.specs.Plans.{ProblemPath}
use Rattle.crp_bay.specs.Positions.{settled}
use Rattle.crp_bounds.specs.Bounds.{look_ahead}
use Rattle.crp_solve.specs.declared.end.Together.{Together}
use Rattle.crp_solve.specs.Chosen.{Chosen, is_timed}
use Rattle.crp_solve.specs.Answers.{path_in, shorter, count_of, IsFirstLimit, IsOneCut}
use Rattle.crp_solve.specs.Searches.{met_or_known, IsAbout, IsBestMet, IsOpen}
use Rattle.crp_solve.specs.Rests.{IsFoundTogether}
use Rattle.crp_solve.specs.Deepening.{higher}

-- the plan that searches begin with: one of the problem, with no more relocations than the greedy one, or none, where there is no greedy one; where no
-- beam is asked for, with as many
pub record IsStartPlan (p : Problem) (c : Chosen) (plan : Option ProblemPath) : Type 0 where
  pub best_met : IsBestMet p plan
  pub greedy : c.beam ≡ 0 → IsFirstLimit p (count_of p (path_in plan))

-- one search, in which at most so many thinned branches are tried at a node, and which begins with the relocations of that plan as its limit: the plan that it met is known in the end or, where it met none, that plan
pub record IsOneSearch (thin : ℕ) (p : Problem) (budget : ℕ) (plan : Option ProblemPath) (end : Together) : Type 0 where
  pub met : Option ProblemPath
  pub found : IsFoundTogether thin p budget (count_of p (path_in plan)) end.cert met end.expanded end.stopped
  pub best : end.best ≡ met_or_known met plan

-- one of many searches: the limit that it began with, and what it found
pub record Round : Type 0 where
  pub limit : ℕ
  pub found : Together

-- what is known behind it: the certificate with the higher bound and the plan with fewer relocations, of two that are as good the one that was known;
-- the expansions of all; and whether the last one was stopped
abbrev pub behind : Together → Together → Together
behind known found = record { cert = higher known.cert found.cert; best = shorter known.best found.best; expanded = known.expanded + found.expanded; stopped = found.stopped }

-- it is made where no search was stopped, the bound that is known is below the plan and some of the budget is left; its limit is one relocation above that bound, and it may
-- make the expansions that are left
pub record IsNextRound (thin : ℕ) (p : Problem) (budget : ℕ) (known : Together) (round : Round) : Type 0 where
  pub goes_on : known.stopped ≡ false
  pub undecided : IsOpen p budget known.cert known.best known.expanded
  pub limit : round.limit ≡ known.cert.lower + 1
  pub found : IsFoundTogether thin p (budget - known.expanded) round.limit round.found.cert round.found.best round.found.expanded round.found.stopped

-- searches one after the other, from what is known before them to what is known behind them
abbrev pub Deepen : ℕ → Problem → ℕ → Together → List Round → Together → Type 0
Deepen thin p budget known [] end = known ≡ end
Deepen thin p budget known (round ∷ rounds) end = IsNextRound thin p budget known round × Deepen thin p budget (behind known round.found) rounds end

-- what is known before the first of them: the look-ahead bound of the first position (or the cap), by a certificate of one cut, and the plan to begin
-- with
pub record IsKnownBefore (p : Problem) (plan : Option ProblemPath) (known : Together) : Type 0 where
  pub about : IsAbout p known.cert
  pub cut : IsOneCut known.cert
  pub bound : known.cert.lower ≡ min (cap p) (look_ahead (settled (start p)))
  pub best : known.best ≡ plan
  pub none_yet : known.expanded ≡ 0
  pub goes_on : known.stopped ≡ false

-- many searches, until the bound reaches the plan (or the cap), the budget is spent, or a gate stops one
pub record AreRounds (thin : ℕ) (p : Problem) (budget : ℕ) (plan : Option ProblemPath) (end : Together) : Type 0 where
  pub before : Together
  pub known : IsKnownBefore p plan before
  pub rounds : List Round
  pub deepen : Deepen thin p budget before rounds end
  pub to_end : end.stopped ≡ false → end.cert.lower < count_of p (path_in end.best) → end.expanded ≡ budget

-- many searches where deepening is asked for, else one
abbrev pub SearchesOf : Bool → ℕ → Problem → ℕ → Option ProblemPath → Together → Type 0
SearchesOf true thin p budget plan end = AreRounds thin p budget plan end
SearchesOf false thin p budget plan end = IsOneSearch thin p budget plan end

-- what was chosen for a search was done, and this is known in the end; only a timed one was stopped
pub record AreSearched (p : Problem) (c : Chosen) (end : Together) : Type 0 where
  pub plan : Option ProblemPath
  pub begins : IsStartPlan p c plan
  pub searches : SearchesOf c.deepen c.thin p c.budget plan end
  pub timely : end.stopped ≡ true → is_timed c.time ≡ true
