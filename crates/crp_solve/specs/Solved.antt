-- What a solver answers.
use Rattle.std.specs.Prelude.{◌≡◌, ◌≤◌, ◌⊎◌, ℕ, Bool, true, false, Option, Some, None}
use Rattle.crp_plan.specs.Bay.{Problem}
use Rattle.crp_plan.specs.Plans.{ProblemPath}
use Rattle.crp_tree.specs.Parts.{Certificate}
use Rattle.crp_solve.specs.declared.answer.Answer.{Answer}
use Rattle.crp_solve.specs.declared.answer.Answer.TheVariants.{Optimal, First, NoPlan, Between}
use Rattle.crp_solve.specs.declared.answer.Cause.TheVariants.{Budget, Memory, Time}
use Rattle.crp_solve.specs.declared.answer.Second.TheVariants as ended
use Rattle.crp_solve.specs.declared.answer.Solved.{Solved}
use Rattle.crp_solve.specs.declared.end.Together.{Together}
use Rattle.crp_solve.specs.Chosen.{Chosen, is_timed}
use Rattle.crp_solve.specs.Answers.{IsTrueAnswer, EachIsBranch, EndedSecond}
use Rattle.crp_solve.specs.Rounds.{AreSearched}

-- what searches know: this certificate, this plan, and so many expansions; and whether a gate stopped them
abbrev pub known_by : Certificate → Option ProblemPath → ℕ → Bool → Together
known_by cert plan expanded stopped = record { cert = cert; best = plan; expanded = expanded; stopped = stopped }

-- the answer gives what searches as they were chosen came to: their certificate, the best plan that they know, and their expansions. The certificate of
-- the first best plan comes from another search behind them. Where memory ran out, the answer comes of none. The cause is the time where a gate stopped
-- them, and only there
abbrev pub ComesOf : Problem → Chosen → Answer → ℕ → Bool → Type 0
ComesOf p c (Optimal plan cert) expanded stopped = AreSearched p c (known_by cert (Some plan) expanded stopped)
ComesOf p c (First plan cert) expanded stopped = (best : ProblemPath) × (shown : Certificate) × AreSearched p c (known_by shown (Some best) expanded stopped)
ComesOf p c (NoPlan cert) expanded stopped = AreSearched p c (known_by cert None expanded stopped)
ComesOf p c (Between lower cert plan Budget) expanded stopped = (stopped ≡ false) × AreSearched p c (known_by cert plan expanded stopped)
ComesOf p c (Between lower cert plan Memory) expanded stopped = stopped ≡ false
ComesOf p c (Between lower cert plan Time) expanded stopped = (stopped ≡ true) × AreSearched p c (known_by cert plan expanded stopped)

-- what was chosen for a search is answered: by a true answer, which gives what the searches came to; by the first best plan where that was asked for and
-- found; without deepening and without thinned branches each expansion is a branch; and only where the search is timed a gate stopped it
pub record IsSolved (p : Problem) (c : Chosen) (s : Solved) : Type 0 where
  pub answer : IsTrueAnswer p c.budget s.answer s.expanded
  pub searches : ComesOf p c s.answer s.expanded s.stopped
  pub one_search : c.deepen ≡ false → c.thin ≡ 0 → EachIsBranch s.answer s.expanded
  pub second : EndedSecond c.budget c.first s.answer s.second s.second_expanded
  pub timely : s.second ≡ ended.Time → is_timed c.time ≡ true

-- a gate stopped one of its searches
abbrev pub WasStopped : Solved → Type 0
WasStopped s = (s.stopped ≡ true) ⊎ (s.second ≡ ended.Time)

-- the fewest relocations were searched for as was chosen, and this is answered before any search for the first best plan
pub record IsFirstPart (p : Problem) (c : Chosen) (s : Solved) : Type 0 where
  pub answer : IsTrueAnswer p c.budget s.answer s.expanded
  pub searches : ComesOf p c s.answer s.expanded s.stopped
  pub one_search : c.deepen ≡ false → c.thin ≡ 0 → EachIsBranch s.answer s.expanded

-- what spent so much within the first of two budgets spent it within the second: that is no less, and they are one where it spent all
pub record SpendsWithin (few budget spent : ℕ) : Type 0 where
  pub within : few ≤ budget
  pub all : spent ≡ few → few ≡ budget
