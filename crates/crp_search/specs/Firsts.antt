-- What a search for the first plan of k relocations finds in one part.
use Rattle.std.specs.Prelude.{◌≡◌, ℕ, ◌+◌, ◌<◌, ◌≤◌, List, length, Contains, Option, Some, None}
use Rattle.crp_plan.specs.declared.moves.Move.{Move}
use Rattle.crp_plan.specs.Bay.{Problem, IsPlan, relocations}
use Rattle.crp_plan.specs.Faults.{IsPlanPath}
use Rattle.crp_plan.specs.Plans.{ProblemPath}
use Rattle.crp_plan.specs.declared.running.View.{View}
use Rattle.crp_tree.specs.Names.{Precedes}
use Rattle.crp_tree.specs.Trees.{Node, value, Begins}
use Rattle.crp_tree.specs.First.{MeetsNeed}
use Rattle.crp_search.specs.declared.walk_end.WalkEnd.{WalkEnd}
use Rattle.crp_search.specs.declared.walk_end.WalkEnd.TheVariants.{Refused, Memory}

-- no complete plan has fewer than k relocations
pub record IsLowerBound (p : Problem) (k : ℕ) : Type 0 where
  pub bound : (moves : List Move) → IsPlan p moves → k ≤ relocations moves

-- a plan of k relocations that belongs to a part: its path begins with the part's name, and with none of the names that the part gives away
pub record IsHere (p : Problem) (k : ℕ) (name : List ℕ) (given : List (List ℕ)) (path : List ℕ) : Type 0 where
  pub plan : IsPlanPath p path
  pub count : length path ≡ k
  pub begins : Begins path name
  pub not_given : (g : List ℕ) → Contains given g → Begins path g → ⊥

-- the first of those
pub record IsFirstHere (p : Problem) (k : ℕ) (name : List ℕ) (given : List (List ℕ)) (path : List ℕ) : Type 0 where
  pub here : IsHere p k name given path
  pub none_before : (other : List ℕ) → IsHere p k name given other → Precedes other path → ⊥

-- there is none of those
abbrev pub IsNoneHere : Problem → ℕ → List ℕ → List (List ℕ) → Type 0
IsNoneHere p k name given = (path : List ℕ) → IsHere p k name given path → ⊥

-- a cut meets its need by the plan that a task met, if any: without a plan its value is above k
abbrev pub MeetsOwn : ℕ → Option ProblemPath → Node → Type 0
MeetsOwn k None cut = k + 1 ≤ value cut
MeetsOwn k (Some plan) cut = MeetsNeed k plan.path cut

-- what holds of a node by the plan that a task met, if any: so it is where one more than k suffices, and, if it comes after the plan, where k does
abbrev pub HoldsByOwn : (ℕ → Node → Type 0) → ℕ → Option ProblemPath → Node → Type 0
HoldsByOwn Holds k None node = Holds (k + 1) node
HoldsByOwn Holds k (Some plan) node = Holds (k + 1) node × (Precedes plan.path node.path → Holds k node)

-- a worker only claims: what it saw, what it offered and its share stay, and its claims only add up
pub record OnlyClaims (old new : View) : Type 0 where
  pub seen : new.seen ≡ old.seen
  pub mine : new.mine ≡ old.mine
  pub share : new.share ≡ old.share
  pub granted : old.granted ≤ new.granted
  pub refused : old.refused ≤ new.refused

-- why a search ended before its time: one claim of the worker was refused, now or before; or memory was short, and no claim was refused meanwhile
abbrev pub EndsAs : View → View → WalkEnd → Type 0
EndsAs old new Refused = (0 < new.refused) × (new.refused ≤ old.refused + 1)
EndsAs old new Memory = new.refused ≡ old.refused
