-- Several workers at one search of one bay: what they share, and what each of them has. Workers count from 0.
use Rattle.std.specs.Prelude.{◌≡◌, ℕ, zero, suc, ◌⊎◌, Bool, false, List, [], ◌∷◌, length, map, replicate, slice_get, slice_set, Option, None, Some}
use Rattle.crp_plan.specs.Bay.{Problem, IsProblem, cap}
use Rattle.crp_plan.specs.Faults.{IsPlanPath}
use Rattle.crp_plan.specs.Plans.{ProblemPath}
use Rattle.crp_plan.specs.declared.running.View.{View}
use Rattle.crp_tree.specs.Trees.{least}

-- what stays as it is: the problem, how many expansions may be granted in all, the most rows of a path that a worker may put into its deque, and the
-- limit at the start
pub record Rules : Type 0 where
  pub problem : Problem
  pub budget : ℕ
  pub split : ℕ
  pub start : ℕ

-- a worker: the paths in its deque; the paths in its hand, the last of which is its current one; whether it has a task; and what it knows of the
-- limit and the claims
pub record Worker : Type 0 where
  pub deque : List (List ℕ)
  pub hand : List (List ℕ)
  pub has_task : Bool
  pub view : View

-- a closed leaf: a path, and a number of relocations that every plan through it has at least
pub record Leaf : Type 0 where
  pub path : List ℕ
  pub value : ℕ

-- an offered plan: the worker that offered it, and its path
pub record Offered : Type 0 where
  pub worker : ℕ
  pub path : List ℕ

-- a world: its rules, the limit and the claims that all workers share, the workers, the leaves that they closed, and the plans that they offered
pub record World : Type 0 where
  pub rules : Rules
  pub limit : ℕ
  pub spent : ℕ
  pub workers : List Worker
  pub leaves : List Leaf
  pub offered : List Offered

-- a worker that has done nothing yet, with these paths in its deque
abbrev pub fresh : ℕ → List (List ℕ) → Worker
fresh start deque = record { deque = deque; hand = []; has_task = false; view = record { seen = start; mine = start; granted = 0; refused = 0; share = 1 } }

-- so many fresh workers: the root, which is the empty path, lies in the deque of the first
abbrev pub fresh_workers : ℕ → ℕ → List Worker
fresh_workers start zero = []
fresh_workers start (suc others) = fresh start ([] ∷ []) ∷ replicate others (fresh start [])

-- the world in which so many workers begin
abbrev pub begin : Rules → ℕ → World
begin rules workers = record { rules = rules; limit = rules.start; spent = 0; workers = fresh_workers rules.start workers; leaves = []; offered = [] }

-- a limit to begin with: the relocations of a plan, or the cap
abbrev pub IsStart : Problem → ℕ → Type 0
IsStart p start = ((path : List ℕ) × IsPlanPath p path × (length path ≡ start)) ⊎ (start ≡ cap p)

-- rules to begin with: the problem is one, and the limit at the start is a limit to begin with
pub record AreRules (rules : Rules) : Type 0 where
  pub is_problem : IsProblem rules.problem
  pub is_start : IsStart rules.problem rules.start

-- the worker of this number is this one
abbrev pub IsWorker : World → ℕ → Worker → Type 0
IsWorker w k worker = slice_get w.workers k ≡ Some worker

-- the same world, but the worker of this number is now this one
abbrev pub with_worker : World → ℕ → Worker → World
with_worker w k worker = record w { workers = slice_set w.workers k worker }

-- the least value of a closed leaf, or the cap where none is below that
abbrev pub least_leaf : World → ℕ
least_leaf w = least (cap w.rules.problem) (map (λ (leaf : Leaf). leaf.value) w.leaves)

-- the limit to begin with where this is the first plan: its relocations; without one, the cap
abbrev pub start_of : Problem → Option ProblemPath → ℕ
start_of p None = cap p
start_of p (Some plan) = length plan.path
