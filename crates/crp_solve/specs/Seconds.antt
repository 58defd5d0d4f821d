-- What the first part of a solver leaves for the second.
use Rattle.std.specs.Prelude.{◌≡◌, true, false, Some}
use Rattle.crp_plan.specs.Bay.{Problem}
use Rattle.crp_tree.specs.Parts.{Certificate}
use Rattle.crp_solve.specs.declared.answer.Answer.TheVariants.{Optimal}
use Rattle.crp_solve.specs.declared.answer.Cause.{Cause}
use Rattle.crp_solve.specs.declared.answer.Cause.TheVariants.{Budget, Memory, Time}
use Rattle.crp_solve.specs.declared.answer.Second.{Second}
use Rattle.crp_solve.specs.declared.answer.Second.TheVariants as second
use Rattle.crp_solve.specs.declared.answer.Solved.{Solved}
use Rattle.crp_solve.specs.declared.second.Asked.{Asked}
use Rattle.crp_solve.specs.declared.second.Optimum.{Optimum}
use Rattle.crp_solve.specs.declared.second.Asked.TheVariants.{Nothing, First}
use Rattle.crp_solve.specs.Answers.{cert_of, branches_of, IsTrueAnswer}
use Rattle.crp_solve.specs.Rounds.{AreSearched}
use Rattle.crp_solve.specs.Solved.{known_by, IsSolved}
use Rattle.crp_solve.specs.Chosen.{Chosen}

-- the certificate of the first part
abbrev pub cert_before : Asked → Certificate
cert_before (Nothing solved) = cert_of solved.answer
cert_before (First best) = best.cert

-- a best plan is known, with the certificate that shows it, as was chosen
pub record IsKnownBest (p : Problem) (c : Chosen) (best : Optimum) : Type 0 where
  pub answer : IsTrueAnswer p c.budget (Optimal best.plan best.cert) best.expanded
  pub searches : AreSearched p c (known_by best.cert (Some best.plan) best.expanded best.stopped)
  pub one_search : c.deepen ≡ false → c.thin ≡ 0 → best.expanded ≡ branches_of best.cert

-- nothing more is asked, and the answer stands; or the first best plan is asked for, and a best one is known
abbrev pub IsAsked : Problem → Chosen → Asked → Type 0
IsAsked p c (Nothing solved) = IsSolved p c solved
IsAsked p c (First best) = (c.first ≡ true) × IsKnownBest p c best

-- what is asked behind this answer: it stands, or of a best plan it is told whether a gate stopped the search for it
abbrev pub IsAskedOf : Solved → Asked → Type 0
IsAskedOf solved (Nothing same) = same ≡ solved
IsAskedOf solved (First best) = best.stopped ≡ solved.stopped

-- how the second part ended that was given up for this cause
abbrev pub second_by : Cause → Second
second_by Budget = second.Budget
second_by Memory = second.Memory
second_by Time = second.Time
