-- What is asked of the solver, and why it is refused.
use Rattle.std.specs.Prelude.{◌≡◌, ◌⊎◌, ℕ, ◌/◌, ◌%◌, ◌≤◌, ◌==◌, List, ⊤}
use Rattle.crp_plan.specs.Bay.{Problem, IsProblem}
use Rattle.crp_plan.specs.BayNames.{YardBay, IsYardBay}
use Rattle.crp_plan.specs.Faults.{stated_with, IsFirstFaultWith}
use Rattle.crp_plan.specs.declared.problem.ProblemFault.{ProblemFault}
use Rattle.crp_plan.specs.declared.problem.ProblemFault.TheVariants as problem
use Rattle.crp_solve.specs.Chosen.{Chosen, no_limits}
use Rattle.crp_solve.specs.Refused.{IsFirstFault}
use Rattle.crp_solve.specs.declared.settings.SettingsFault.{SettingsFault}
use Rattle.crp_solve.specs.declared.settings.SettingsFault.TheVariants as settings
use Rattle.crp_c.specs.declared.asked.Search.{Search}
use Rattle.crp_c.specs.declared.asked.TheConstants.{MOST_FLAGS}
use Rattle.crp_c.specs.declared.status.TheConstants.{MEMORY}
use Rattle.crp_c.specs.declared.trouble.Trouble.{Trouble}
use Rattle.crp_c.specs.declared.trouble.Trouble.TheVariants as trouble
use Rattle.crp_c.specs.Rows.{rows_of, FillRows}

-- the heights of the rows, how many stand in each, their ranks row by row, how many are to leave, the name of the bay, and the search
pub record Asked : Type 0 where
  pub heights : List ℕ
  pub counts : List ℕ
  pub ranks : List ℕ
  pub ordered : ℕ
  pub block : List ℕ
  pub bay : ℕ
  pub search : Search

-- the problem
abbrev pub problem_of : Asked → Problem
problem_of asked = stated_with asked.heights asked.ordered (rows_of asked.counts asked.ranks)

-- the name of the bay
abbrev pub bay_of : Asked → YardBay
bay_of asked = record { block = asked.block; bay = asked.bay }

-- what is chosen for the search: the flag 1 stands for the first best plan, 2 for deepening, 4 for chains
abbrev pub chosen_by : Search → Chosen
chosen_by s = record {
  workers = 1;
  budget = s.budget;
  split = 0;
  first = s.flags % 2 == 1;
  beam = s.beam;
  deepen = s.flags / 2 % 2 == 1;
  thin = s.thin;
  chains = s.flags / 4 % 2 == 1;
  time = no_limits;
}

-- it may be asked
pub record IsAsked (asked : Asked) : Type 0 where
  pub filled : FillRows asked.counts asked.ranks
  pub is_problem : IsProblem (problem_of asked)
  pub named : IsYardBay (bay_of asked)
  pub flags : asked.search.flags ≤ MOST_FLAGS

-- it may, and this is the problem, the name and what is chosen
pub record IsStated (asked : Asked) (p : Problem) (bay : YardBay) (c : Chosen) : Type 0 where
  pub may_be : IsAsked asked
  pub problem : p ≡ problem_of asked
  pub name : bay ≡ bay_of asked
  pub chosen : c ≡ chosen_by asked.search

-- why these are no rows of a problem; or no memory is left
abbrev pub IsRefusedBay : List ℕ → List ℕ → List ℕ → ℕ → Trouble → Type 0
IsRefusedBay heights counts ranks ordered trouble.Memory = ⊤
IsRefusedBay heights counts ranks ordered trouble.Ranks = ¬ FillRows counts ranks
IsRefusedBay heights counts ranks ordered (trouble.Problem fault) = FillRows counts ranks × IsFirstFaultWith heights ordered (rows_of counts ranks) fault
IsRefusedBay heights counts ranks ordered _ = ⊥

-- why this may not be chosen for a search
abbrev pub IsRefusedSearch : Search → Trouble → Type 0
IsRefusedSearch s trouble.Flags = ¬ s.flags ≤ MOST_FLAGS
IsRefusedSearch s (trouble.Search fault) = (s.flags ≤ MOST_FLAGS) × IsFirstFault (chosen_by s) fault
IsRefusedSearch s _ = ⊥

-- why it may not be asked, or that no memory is left
abbrev pub IsTrouble : Asked → Trouble → Type 0
IsTrouble asked trouble.Memory = ⊤
IsTrouble asked trouble.Bay = ¬ IsYardBay (bay_of asked)
IsTrouble asked t = IsRefusedBay asked.heights asked.counts asked.ranks asked.ordered t ⊎ IsRefusedSearch asked.search t

-- P1 to P5
abbrev pub problem_number : ProblemFault → ℕ
problem_number problem.Rows = 11
problem_number problem.Tiers = 12
problem_number problem.TooHigh = 13
problem_number problem.Ranks = 14
problem_number problem.Ordered = 15

-- S1 to S9
abbrev pub search_number : SettingsFault → ℕ
search_number settings.Workers = 21
search_number settings.Budget = 22
search_number settings.Split = 23
search_number settings.Beam = 27
search_number settings.Thin = 29

-- the number that is returned
abbrev pub number_of : Trouble → ℕ
number_of trouble.Memory = MEMORY
number_of trouble.Ranks = 3
number_of trouble.Bay = 4
number_of trouble.Flags = 5
number_of (trouble.Problem fault) = problem_number fault
number_of (trouble.Search fault) = search_number fault

-- it may not be asked, or no memory is left, and this number says why
abbrev pub IsRefusedWith : Asked → ℕ → Type 0
IsRefusedWith asked number = (t : Trouble) × IsTrouble asked t × (number ≡ number_of t)
