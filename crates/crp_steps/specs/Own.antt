-- What steps of the code do, and how they stop.
use Rattle.std.specs.Prelude.{◌≡◌, ℕ, ◌+◌, ◌^◌, ◌<◌, ◌≤◌, List, [], ◌∷◌, ◌++◌, length}
use Rattle.crp_plan.specs.Bay.{Position}
use Rattle.crp_bay.specs.Positions.{targets}
use Rattle.crp_steps.specs.declared.event.Stopped.{Stopped}
use Rattle.crp_steps.specs.declared.event.Stopped.TheVariants.{NotNow, Memory}
use Rattle.crp_steps.specs.Worlds.{Worker, Leaf, World, IsWorker, with_worker}
use Rattle.crp_steps.specs.Events.{IsCurrent, children, closed_if_dead}
use Rattle.crp_steps.specs.Covered.{IsReachedWorld}

-- a step stops rightly: as not allowed where it leads to nothing, and for memory where it leads to something
abbrev pub IsStopped : {X : Type 0} → (X → Type 0) → Stopped → Type 0
IsStopped {X} leads NotNow = (next : X) → leads next → ⊥
IsStopped {X} leads Memory = (next : X) × leads next

-- the path is the current one of the worker of this number
pub record HoldsCurrent (w : World) (k : ℕ) (path : List ℕ) (place : Position) : Type 0 where
  pub worker : Worker
  pub acts : IsWorker w k worker
  pub others : List (List ℕ)
  pub current : IsCurrent w.rules.problem worker others path place

-- the children of the current path stand in its place; without children it is closed
abbrev pub BranchesAt : ℕ → List ℕ → Position → World → World → Type 0
BranchesAt k path place w next = (worker : Worker) (others : List (List ℕ)) → IsWorker w k worker → worker.hand ≡ others ++ path ∷ [] →
    next ≡ record (with_worker w k (record worker { hand = others ++ children path (targets place) })) { leaves = w.leaves ++ closed_if_dead w.rules.problem path (targets place) }

-- the worker's current path, whatever it is, is closed as this leaf
abbrev pub ClosesAs : ℕ → Leaf → World → World → Type 0
ClosesAs k leaf w next = (worker : Worker) (others : List (List ℕ)) (path : List ℕ) → IsWorker w k worker → worker.hand ≡ others ++ path ∷ [] →
    next ≡ record (with_worker w k (record worker { hand = others })) { leaves = w.leaves ++ leaf ∷ [] }

-- a claim can be counted
abbrev pub CanCount : World → Type 0
CanCount w = (k : ℕ) (worker : Worker) → IsWorker w k worker → w.spent + worker.view.granted + worker.view.refused < 2 ^ 63

-- what a world keeps in its type: it is reached; its budget is at most the largest; and its workers can be counted
pub record IsHeld (w : World) : Type 0 where
  pub reached : IsReachedWorld w
  pub budget : w.rules.budget ≤ 1099511627776
  pub few : length w.workers < 2 ^ 32
