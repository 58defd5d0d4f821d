-- What holds in every world that events lead to, whatever their order.
use Rattle.std.specs.Prelude.{◌≡◌, ℕ, ◌+◌, ◌<◌, ◌≤◌, min, ◌⊎◌, List, [], length, sum_by, Contains}
use Rattle.crp_plan.specs.declared.moves.Move.{Move}
use Rattle.crp_plan.specs.Bay.{Problem, Position, IsAt, IsPlan, IsBest, relocations, path_of, cap}
use Rattle.crp_plan.specs.Faults.{IsPlanPath}
use Rattle.crp_tree.specs.Trees.{Begins}
use Rattle.crp_steps.specs.declared.event.Event.{Event}
use Rattle.crp_steps.specs.Worlds.{AreRules, Worker, Leaf, Offered, World, begin, IsWorker, least_leaf}
use Rattle.crp_steps.specs.Events.{Come}

-- the worker has the path in its deque or in its hand
abbrev pub Has : Worker → List ℕ → Type 0
Has worker path = Contains worker.deque path ⊎ Contains worker.hand path

-- the path waits in the deque or in the hand of some worker
pub record Waits (w : World) (path : List ℕ) : Type 0 where
  pub index : ℕ
  pub worker : Worker
  pub is_there : IsWorker w index worker
  pub has : Has worker path

-- the plan's path begins with a closed leaf, whose value is at most the plan's relocations
pub record GoesByLeaf (w : World) (moves : List Move) : Type 0 where
  pub leaf : Leaf
  pub closed : Contains w.leaves leaf
  pub begins : Begins (path_of moves) leaf.path
  pub low : leaf.value ≤ relocations moves

-- the plan's path begins with a path that waits
pub record GoesByWaiting (w : World) (moves : List Move) : Type 0 where
  pub path : List ℕ
  pub waits : Waits w path
  pub begins : Begins (path_of moves) path

-- the plan is covered
abbrev pub IsCovered : World → List Move → Type 0
IsCovered w moves = GoesByLeaf w moves ⊎ GoesByWaiting w moves

-- a plan of so many relocations was offered
pub record WasOffered (w : World) (count : ℕ) : Type 0 where
  pub offer : Offered
  pub offered : Contains w.offered offer
  pub size : length offer.path ≡ count
  pub is_plan : IsPlanPath w.rules.problem offer.path

-- some worker was refused a claim
pub record SomeRefused (w : World) : Type 0 where
  pub index : ℕ
  pub worker : Worker
  pub is_there : IsWorker w index worker
  pub refused : 0 < worker.view.refused

-- the path leads to a position of the problem
abbrev pub LeadsSomewhere : Problem → List ℕ → Type 0
LeadsSomewhere p path = (place : Position) × IsAt p path place

-- what is kept in a world: every plan is covered; the limit is that at the start, or the relocations of an offered plan; no worker saw less than the
-- limit; no leaf has a value below it, unless a worker was refused a claim; no offered plan has fewer relocations; each claim was granted or refused,
-- as many being granted as the budget allows; a worker is refused once at most; each path that waits is one of the problem, and in a deque it has at
-- most `split` rows
pub record IsKeptWorld (w : World) : Type 0 where
  pub covered : (moves : List Move) → IsPlan w.rules.problem moves → IsCovered w moves
  pub limit_is : (w.limit ≡ w.rules.start) ⊎ WasOffered w w.limit
  pub not_above : w.limit ≤ w.rules.start
  pub seen : (k : ℕ) (worker : Worker) → IsWorker w k worker → w.limit ≤ worker.view.seen
  pub leaves_high : (leaf : Leaf) → Contains w.leaves leaf → (w.limit ≤ leaf.value) ⊎ SomeRefused w
  pub offers_high : (offer : Offered) → Contains w.offered offer → w.limit ≤ length offer.path
  pub granted : sum_by (λ (worker : Worker). worker.view.granted) w.workers ≡ min w.spent w.rules.budget
  pub refused : sum_by (λ (worker : Worker). worker.view.refused) w.workers + min w.spent w.rules.budget ≡ w.spent
  pub once : (k : ℕ) (worker : Worker) → IsWorker w k worker → worker.view.refused ≤ 1
  pub paths : (k : ℕ) (worker : Worker) → IsWorker w k worker → (path : List ℕ) → Has worker path → LeadsSomewhere w.rules.problem path
  pub names : (k : ℕ) (worker : Worker) → IsWorker w k worker → (path : List ℕ) → Contains worker.deque path → length path ≤ w.rules.split

-- nothing waits: every deque and every hand is empty
abbrev pub IsClosedWorld : World → Type 0
IsClosedWorld w = (k : ℕ) (worker : Worker) → IsWorker w k worker → (worker.deque ≡ []) × (worker.hand ≡ [])

-- what a closed world shows: no plan has fewer relocations than the least leaf; and where no worker was refused a claim, no leaf is below the limit,
-- which is then the fewest relocations, or the cap where there is no plan
pub record ShowsFewest (w : World) : Type 0 where
  pub bound : (moves : List Move) → IsPlan w.rules.problem moves → least_leaf w ≤ relocations moves
  pub leaves : ¬ SomeRefused w → w.limit ≤ least_leaf w
  pub best : ¬ SomeRefused w → w.limit < cap w.rules.problem → IsBest w.rules.problem w.limit
  pub no_plan : ¬ SomeRefused w → w.limit ≡ cap w.rules.problem → (moves : List Move) → IsPlan w.rules.problem moves → ⊥

-- a world is reached: some events lead to it from the beginning of some workers
pub record IsReachedWorld (w : World) : Type 0 where
  pub workers : ℕ
  pub some : 1 ≤ workers
  pub rules : AreRules w.rules
  pub events : List Event
  pub come : Come events (begin w.rules workers) w
