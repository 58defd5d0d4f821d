-- Claims: parts that give subtrees to each other, and the lower bound that they show.
use Rattle.std.specs.Prelude.{◌≡◌, ◌≢◌, ℕ, ◌≤◌, ◌⊎◌, ◌↔◌, List, [], ◌∷◌, length, map, flat_map, Contains, All, AllPairs, count_by, Bool, true, false, ◌==◌, ◌&&◌, Option, IfSome, option_map, unwrap_or}
use Rattle.crp_plan.specs.Bay.{Problem, IsProblem, Position, IsAt, cap}
use Rattle.crp_plan.specs.Plans.{ProblemPath}
use Rattle.crp_plan.specs.Faults.{IsPlanPath}
use Rattle.crp_bay.specs.Positions.{at}
use Rattle.crp_tree.specs.Tree.{Tree}
use Rattle.crp_tree.specs.Trees.{Node, nodes, given_names, HasShape, HasAtLeast}

-- a part of a search: a tree, and the name of the path that it stands at
pub record Part : Type 0 where
  pub name : List ℕ
  pub tree : Tree

-- it is a part of the problem: its name is a path of 8 rows at most, and its tree has its shape there
pub record IsPart (p : Problem) (part : Part) : Type 0 where
  pub short : length part.name ≤ 8
  pub place : Position
  pub is_at : IsAt p part.name place
  pub shape : HasShape part.name place part.tree

-- the nodes of a part
abbrev pub nodes_in : Problem → Part → List Node
nodes_in p part = unwrap_or (option_map (λ s. nodes part.name s part.tree) (at p part.name)) []

-- the names that a part gives to other parts
abbrev pub given_by : Problem → Part → List (List ℕ)
given_by p part = given_names (nodes_in p part)

-- the names of the parts
abbrev pub names : List Part → List (List ℕ)
names parts = map (λ part. part.name) parts

-- the two names are the same, row by row
abbrev pub same_name : List ℕ → List ℕ → Bool
same_name [] [] = true
same_name [] (y ∷ ys) = false
same_name (x ∷ xs) [] = false
same_name (x ∷ xs) (y ∷ ys) = x == y && same_name xs ys

-- how often the name stands in the list
abbrev pub times : List ℕ → List (List ℕ) → ℕ
times name list = count_by (same_name name) list

-- the name is the root's, or among those that are given
abbrev pub IsRootOrGiven : List (List ℕ) → List ℕ → Type 0
IsRootOrGiven given name = (name ≡ []) ⊎ Contains given name

-- a part of this name is needed: it is the root, or some part gives it
abbrev pub IsNeeded : Problem → List Part → List ℕ → Type 0
IsNeeded p parts name = IsRootOrGiven (flat_map (given_by p) parts) name

-- the path of a plan, if there is one
abbrev pub path_in : Option ProblemPath → Option (List ℕ)
path_in plan = option_map (λ route. route.path) plan

-- what is claimed of a problem: a lower bound, a plan or none, and the parts that show the bound
pub record Claimed : Type 0 where
  pub problem : Problem
  pub lower : ℕ
  pub plan : Option (List ℕ)
  pub parts : List Part

-- an accepted claim: its bound is at most the cap, its plan is complete and legal, each part has its shape and no cut below the bound,
-- no two parts have one name, and the names of the parts are the needed ones, no more and no fewer
pub record IsAccepted (claim : Claimed) : Type 0 where
  pub is_problem : IsProblem claim.problem
  pub within_cap : claim.lower ≤ cap claim.problem
  pub plan_is : IfSome claim.plan (IsPlanPath claim.problem)
  pub each_part : All (IsPart claim.problem) claim.parts
  pub each_cut : All (λ part. HasAtLeast claim.lower (nodes_in claim.problem part)) claim.parts
  pub each_once : AllPairs ◌≢◌ (names claim.parts)
  pub as_needed : (name : List ℕ) → Contains (names claim.parts) name ↔ IsNeeded claim.problem claim.parts name
