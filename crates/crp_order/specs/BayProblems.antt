-- The problem of each bay: which of its containers leave, and in which order.
use Rattle.std.specs.Prelude.{◌≡◌, ℕ, suc, Bool, not, List, [], ◌∷◌, ◌++◌, length, map, filter, flat_map, count_by, Some, if◌then◌else◌}
use Rattle.std.specs.List.{AllByRecursion, list_any}
use Rattle.std.specs.Str.{bytes_eq}
use Rattle.crp_plan.specs.Bay.{Problem, IsProblem}
use Rattle.crp_plan.specs.BayNames.{IsYardBay}
use Rattle.crp_plan.specs.Rows.{total}
use Rattle.crp_plan.specs.Faults.{stated_with}
use Rattle.crp_sizes.specs.Sizes.{YardSizes, heights_at}
use Rattle.crp_yard.specs.Inventory.{Inventory, StackedBay, is_among, stands}
use Rattle.crp_yard.specs.Naming.{FitsLine}
use Rattle.crp_yard.specs.Ranks.{named}
use Rattle.crp_yard.specs.After.{stacks_at}
use Rattle.crp_order.specs.declared.bay_problem.BayProblem.{BayProblem}

-- the containers of a bay by row, then tier
abbrev pub standing : List (List (List ℕ)) → List (List ℕ)
standing stacks = flat_map (λ stack. stack) stacks

-- the containers that leave the bay, as the sequence has them
abbrev pub leaving : List (List ℕ) → List (List (List ℕ)) → List (List ℕ)
leaving sequence stacks = filter (is_among (standing stacks)) sequence

-- the containers that stay in the bay, by row, then tier
abbrev pub staying : List (List ℕ) → List (List (List ℕ)) → List (List ℕ)
staying sequence stacks = filter (λ container. not (is_among sequence container)) (standing stacks)

-- the containers of a bay by rank, from rank 1: those that leave, as the sequence has them, then those that stay, by row, then tier
abbrev pub ranked : List (List ℕ) → List (List (List ℕ)) → List (List ℕ)
ranked sequence stacks = leaving sequence stacks ++ staying sequence stacks

-- the rank of a container: its place among the names, from 1; one more than there are names where it is none of them
abbrev pub rank_in : List (List ℕ) → List ℕ → ℕ
rank_in [] container = 1
rank_in (name ∷ names) container = if bytes_eq container name then 1 else suc (rank_in names container)

-- the stacks by the ranks of their containers
abbrev pub ranks_in : List (List ℕ) → List (List (List ℕ)) → List (List ℕ)
ranks_in names stacks = map (λ stack. map (rank_in names) stack) stacks

-- the problem of a bay whose rows have these heights: the containers that leave are those of the first ranks
abbrev pub problem_of : List ℕ → List (List ℕ) → List (List (List ℕ)) → Problem
problem_of heights sequence stacks = stated_with heights (length (leaving sequence stacks)) (ranks_in (ranked sequence stacks) stacks)

-- the same under the heights that the bay has, with its name and the container of each rank
abbrev pub bay_problem_of : YardSizes → List (List ℕ) → StackedBay → BayProblem
bay_problem_of sizes sequence bay = record {
  bay = bay.0;
  problem = problem_of (heights_at sizes bay.0) sequence bay.1;
  names = ranked sequence bay.1;
}

-- some container of the sequence stands in the bay
abbrev pub is_called : List (List ℕ) → StackedBay → Bool
is_called sequence bay = list_any (is_among (standing bay.1)) sequence

-- the problems of the bays in which some container of the sequence stands, in the yard's order
abbrev pub problems_of : Inventory → List (List ℕ) → List BayProblem
problems_of yard sequence = map (bay_problem_of yard.sizes sequence) (filter (is_called sequence) yard.bays)

-- how many containers of the sequence stand nowhere in the yard
abbrev pub absent_of : Inventory → List (List ℕ) → ℕ
absent_of yard sequence = count_by (λ container. not (stands yard.bays container)) sequence

-- the problem is one, and states the bay of its name as it stands in the yard: the ranks are the places of the containers among the names, one for
-- each container
pub record IsNamed (yard : Inventory) (made : BayProblem) : Type 0 where
  pub is_problem : IsProblem made.problem
  pub heights : made.problem.heights ≡ heights_at yard.sizes made.bay
  pub stands : stacks_at yard.bays made.bay ≡ Some (named made.names made.problem.stacks)
  pub each_rank : length made.names ≡ total made.problem.stacks

-- its bay has the name of one, and the names of its containers fit a line
pub record IsNamedProblem (made : BayProblem) : Type 0 where
  pub bay : IsYardBay made.bay
  pub names : AllByRecursion FitsLine made.names
