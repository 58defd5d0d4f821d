-- Iterative deepening: what one search more brings.
use Rattle.std.specs.Prelude.{◌≡◌, ℕ, ◌+◌, ◌-◌, ◌<◌, ◌≤◌, ◌⊎◌, Bool, true, false, nat_lt, if◌then◌else◌}
use Rattle.crp_plan.specs.Bay.{Problem, cap}
use Rattle.crp_tree.specs.Parts.{Certificate}
use Rattle.crp_solve.specs.declared.end.Together.{Together}
use Rattle.crp_solve.specs.Answers.{path_in, count_of}

-- the certificate that shows the higher bound; where both show the same, the first
abbrev pub higher : Certificate → Certificate → Certificate
higher cert other = if nat_lt cert.lower other.lower then other else cert

-- the relocations of the plan that is known; where there is none, the cap
abbrev pub count_in : Problem → Together → ℕ
count_in p known = count_of p (path_in known.best)

-- what is known is nearer to the answer: the bound is no lower, and the plan has no more relocations; and the bound is higher, the plan has fewer
-- relocations, the budget is spent, or the search was stopped
pub record IsNearer (p : Problem) (budget : ℕ) (old new : Together) : Type 0 where
  pub lower : old.cert.lower ≤ new.cert.lower
  pub count : count_in p new ≤ count_in p old
  pub spends : old.expanded ≤ new.expanded
  pub more : (old.cert.lower < new.cert.lower) ⊎ ((count_in p new < count_in p old) ⊎ ((new.expanded ≡ budget) ⊎ (new.stopped ≡ true)))

-- a search that was stopped is the last
abbrev pub searches_left : Bool → ℕ
searches_left true = 0
searches_left false = 1

-- how far it is from the answer at most
abbrev pub distance : Problem → ℕ → Together → ℕ
distance p budget known = (cap p - (known.cert).lower) + count_in p known + (budget - known.expanded) + searches_left known.stopped
