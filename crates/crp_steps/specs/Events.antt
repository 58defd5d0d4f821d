-- What each event does: a worker sees, takes, steals, claims, tries, puts, closes a leaf, offers or finishes. See, offer, claim and try change the
-- limit, the claims and the worker's view as for any worker of a search.
use Rattle.std.specs.Prelude.{◌≡◌, ◌≢◌, ℕ, ◌+◌, ◌<◌, ◌≤◌, ◌⊎◌, true, false, if◌then◌else◌, List, [], ◌∷◌, ◌++◌, length, Contains, ⊤}
use Rattle.crp_plan.specs.Bay.{Problem, Position, IsAt, IsFinished, cap}
use Rattle.crp_plan.specs.declared.running.Words.{Words}
use Rattle.crp_plan.specs.Running.{words, after_see, after_offer, after_claim, is_granted}
use Rattle.crp_bay.specs.Positions.{targets}
use Rattle.crp_bounds.specs.Bounds.{blocking, look_ahead}
use Rattle.crp_thinning.specs.Symbols as symbols
use Rattle.crp_steps.specs.declared.event.Bound.{Bound}
use Rattle.crp_steps.specs.declared.event.Bound.TheVariants.{Blocking, LookAhead, Reasons}
use Rattle.crp_steps.specs.declared.event.Kind.{Kind}
use Rattle.crp_steps.specs.declared.event.Kind.TheVariants.{See, Take, Steal, Claim, Try, Put, Leaf as CloseLeaf, Offer, Finish}
use Rattle.crp_steps.specs.declared.event.Event.{Event}
use Rattle.crp_steps.specs.Worlds.{Worker, Leaf, World, IsWorker, with_worker}

-- the limit, the claims and the worker's view, as the worker meets them
abbrev pub words_of : World → Worker → Words
words_of w worker = words w.limit w.spent worker.view

-- the same world after the worker has met the limit and the claims: they are these now, and the worker knows them so
abbrev pub after_words : World → ℕ → Worker → Words → World
after_words w k worker known = with_worker (record w { limit = known.limit; spent = known.spent }) k (record worker { view = known.view })

-- See: the worker has seen the limit
pub record Sees (k : ℕ) (w next : World) : Type 0 where
  pub worker : Worker
  pub acts : IsWorker w k worker
  pub after : next ≡ after_words w k worker (after_see (words_of w worker))

-- the worker of this number takes a step that concerns itself alone
pub record Steps (step : Worker → Worker → Type 0) (k : ℕ) (w next : World) : Type 0 where
  pub worker : Worker
  pub acts : IsWorker w k worker
  pub changed : Worker
  pub own : step worker changed
  pub after : next ≡ with_worker w k changed

-- Take: a worker without a task takes the last name of its own deque into its hand
pub record Takes (worker next : Worker) : Type 0 where
  pub no_task : worker.has_task ≡ false
  pub others : List (List ℕ)
  pub name : List ℕ
  pub is_last : worker.deque ≡ others ++ name ∷ []
  pub after : next ≡ record worker { deque = others; hand = worker.hand ++ name ∷ []; has_task = true }

-- Steal: a worker without a task takes the first name of another worker's deque into its hand
pub record Steals (k victim : ℕ) (w next : World) : Type 0 where
  pub worker : Worker
  pub acts : IsWorker w k worker
  pub no_task : worker.has_task ≡ false
  pub another : victim ≢ k
  pub robbed : Worker
  pub is_there : IsWorker w victim robbed
  pub name : List ℕ
  pub others : List (List ℕ)
  pub is_first : robbed.deque ≡ name ∷ others
  pub after : next ≡ with_worker (with_worker w victim (record robbed { deque = others })) k (record worker { hand = worker.hand ++ name ∷ []; has_task = true })

-- the path is the worker's current one, the last in its hand after the others, and leads to the place
pub record IsCurrent (p : Problem) (worker : Worker) (others : List (List ℕ)) (path : List ℕ) (place : Position) : Type 0 where
  pub is_last : worker.hand ≡ others ++ path ∷ []
  pub is_at : IsAt p path place

-- the paths that go on from this one by each of the rows; that of the first row comes last
abbrev pub children : List ℕ → List ℕ → List (List ℕ)
children path [] = []
children path (row ∷ rows) = children path rows ++ (path ++ row ∷ []) ∷ []

-- a path that goes on by no row is closed, and its value is the cap
abbrev pub closed_if_dead : Problem → List ℕ → List ℕ → List Leaf
closed_if_dead p path [] = (record { path = path; value = cap p }) ∷ []
closed_if_dead p path (row ∷ rows) = []

-- a granted claim: in the worker's hand the children of the path by all legal rows stand in its place, the lowest row last; without children it is closed
abbrev pub branched : World → ℕ → Worker → List (List ℕ) → List ℕ → Position → World
branched w k worker others path place = record (after_words w k (record worker { hand = others ++ children path (targets place) }) (after_claim w.rules.budget (words_of w worker))) {
  leaves = w.leaves ++ closed_if_dead w.rules.problem path (targets place);
}

-- Claim: a worker that was refused none claims an expansion of its current path, which is not finished; where that is refused its hand stays
pub record Claims (k : ℕ) (w next : World) : Type 0 where
  pub worker : Worker
  pub acts : IsWorker w k worker
  pub never_refused : worker.view.refused ≡ 0
  pub others : List (List ℕ)
  pub path : List ℕ
  pub place : Position
  pub current : IsCurrent w.rules.problem worker others path place
  pub unfinished : place.next ≤ place.ordered
  pub after : next ≡ (if is_granted w.rules.budget (words_of w worker)
      then branched w k worker others path place
      else after_words w k worker (after_claim w.rules.budget (words_of w worker)))

-- Try: a worker that was refused none claims a thinned branch of a try to close its current path, which is not finished; granted or refused, its hand
-- stays
pub record Tries (k : ℕ) (w next : World) : Type 0 where
  pub worker : Worker
  pub acts : IsWorker w k worker
  pub never_refused : worker.view.refused ≡ 0
  pub others : List (List ℕ)
  pub path : List ℕ
  pub place : Position
  pub current : IsCurrent w.rules.problem worker others path place
  pub unfinished : place.next ≤ place.ordered
  pub after : next ≡ after_words w k worker (after_claim w.rules.budget (words_of w worker))

-- Put: a path of the hand, at this index from 0 and of at most `split` rows, goes to the end of the worker's deque
pub record Puts (split index : ℕ) (worker next : Worker) : Type 0 where
  pub before : List (List ℕ)
  pub path : List ℕ
  pub behind : List (List ℕ)
  pub in_hand : worker.hand ≡ before ++ path ∷ behind
  pub at_index : length before ≡ index
  pub short : length path ≤ split
  pub after : next ≡ record worker { deque = worker.deque ++ path ∷ []; hand = before ++ behind }

-- how much a bound is at a place; reasons have a number
abbrev pub bound_at : Bound → Position → ℕ
bound_at Blocking place = blocking place
bound_at LookAhead place = look_ahead place
bound_at (Reasons number text) place = number

-- the bound is one at the place: the blocking and the look-ahead bound are anywhere, and reasons where their text closes the place with their number
abbrev pub HoldsAt : Bound → Position → Type 0
HoldsAt Blocking place = ⊤
HoldsAt LookAhead place = ⊤
HoldsAt (Reasons number text) place = symbols.Closes place number text.now

-- the value of a leaf: the length of its path and a lower bound of the place that it leads to
abbrev pub value_of : Bound → List ℕ → Position → ℕ
value_of bound path place = length path + bound_at bound place

-- a worker may close a leaf: its value is at least what the worker saw; or the worker was refused a claim; or the path is finished and the worker
-- has offered it
abbrev pub MayClose : World → ℕ → Worker → Leaf → Position → Type 0
MayClose w k worker leaf place =
    (worker.view.seen ≤ leaf.value) ⊎ ((0 < worker.view.refused) ⊎ (IsFinished place × Contains w.offered (record { worker = k; path = leaf.path })))

-- Leaf: the worker closes its current path by a bound that holds there, with its value, where it may
pub record Closes (k : ℕ) (bound : Bound) (w next : World) : Type 0 where
  pub worker : Worker
  pub acts : IsWorker w k worker
  pub others : List (List ℕ)
  pub path : List ℕ
  pub place : Position
  pub current : IsCurrent w.rules.problem worker others path place
  pub holds : HoldsAt bound place
  pub may : MayClose w k worker (record { path = path; value = value_of bound path place }) place
  pub after : next ≡ record (with_worker w k (record worker { hand = others })) { leaves = w.leaves ++ (record { path = path; value = value_of bound path place }) ∷ [] }

-- Offer: the worker offers its current path, which is finished; that lowers the limit to its length if that is smaller
pub record Offers (k : ℕ) (w next : World) : Type 0 where
  pub worker : Worker
  pub acts : IsWorker w k worker
  pub others : List (List ℕ)
  pub path : List ℕ
  pub place : Position
  pub current : IsCurrent w.rules.problem worker others path place
  pub finished : IsFinished place
  pub after : next ≡ record (after_words w k worker (after_offer (length path) (words_of w worker))) { offered = w.offered ++ (record { worker = k; path = path }) ∷ [] }

-- Finish: a task ends whose hand is empty
pub record Finishes (worker next : Worker) : Type 0 where
  pub has_task : worker.has_task ≡ true
  pub empty : worker.hand ≡ []
  pub after : next ≡ record worker { has_task = false }

-- what the worker of this number does leads from the world to the next
abbrev pub LeadsBy : ℕ → Kind → World → World → Type 0
LeadsBy k See w next = Sees k w next
LeadsBy k Take w next = Steps Takes k w next
LeadsBy k (Steal victim) w next = Steals k victim w next
LeadsBy k Claim w next = Claims k w next
LeadsBy k Try w next = Tries k w next
LeadsBy k (Put index) w next = Steps (Puts w.rules.split index) k w next
LeadsBy k (CloseLeaf bound) w next = Closes k bound w next
LeadsBy k Offer w next = Offers k w next
LeadsBy k Finish w next = Steps Finishes k w next

-- the event leads from the world to the next
abbrev pub Leads : Event → World → World → Type 0
Leads event w next = LeadsBy event.worker event.kind w next

-- the event is not allowed now: it leads to no world
abbrev pub IsNotNow : Event → World → Type 0
IsNotNow event w = (next : World) → Leads event w next → ⊥

-- an event comes: it is followed where it is allowed, and passed over where it is not
abbrev pub Comes : Event → World → World → Type 0
Comes event w next = Leads event w next ⊎ (IsNotNow event w × (next ≡ w))

-- the events come one after the other
abbrev pub Come : List Event → World → World → Type 0
Come [] w last = last ≡ w
Come (event ∷ events) w last = (next : World) × Comes event w next × Come events next last

-- of the events come those before one that is then allowed, and no more
abbrev pub ComeInPart : List Event → World → World → Type 0
ComeInPart events w last = (front : List Event) × (next : Event) × (rest : List Event) × (events ≡ front ++ next ∷ rest) × Come front w last × (IsNotNow next last → ⊥)
