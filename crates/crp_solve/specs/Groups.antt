-- The state of one worker of a search or several, and what it keeps, so that one thread hands it to another.
use Rattle.std.specs.Prelude.{◌≡◌, ℕ, ◌+◌, ◌<◌, ◌≤◌, length, Bool, true, false, ◌==◌, if◌then◌else◌, List, [], ◌∷◌, ◌++◌, map, flat_map, All, Option, Some, None, Vec, vec_len, vec_capacity}
use Rattle.std.specs.declared.alloc.Global.{Global}
use Rattle.crp_plan.specs.declared.running.View.{View}
use Rattle.crp_plan.specs.Plans.{ProblemPath}
use Rattle.crp_tree.specs.Parts.{ProblemPart, given_of, names_of}
use Rattle.crp_plan.specs.Bay.{IsProblem}
use Rattle.crp_incumbent.specs.Rule.{view_joined}
use Rattle.crp_incumbent.specs.Seats.{Shared, Seat}
use Rattle.crp_pool.specs.Weigh.{SameNames}
use Rattle.crp_pool.specs.Deques.{DequeId}
use Rattle.crp_pool.specs.Seats.{PoolSeat, seat_number, numbers, IsEverySeat, all_puts, all_takes}
use Rattle.crp_gather.specs.Settled.{branches_in_all}
use Rattle.crp_search.specs.Searched.{Grants}
use Rattle.crp_solve.specs.Searches.{IsSearched}
use Rattle.crp_solve.specs.Desks.{KeepsPlan}

-- the shared words, what the workers know of them, their best plan, the parts that they searched, their places in the pool, whether a part was lost: where
-- memory was short, or, in a search for the first best plan, where a claim was refused; and whether a gate stopped their claims
pub record Crew : Type 0 where
  pub of : Shared
  pub view : View
  pub plan : Option ProblemPath
  pub parts : List ProblemPart
  pub places : List PoolSeat
  pub short : Bool
  pub stopped : Bool

-- the part of the root was searched by the worker at the first place of a pool
abbrev pub root_at : PoolSeat → List (List ℕ)
root_at place = if place.number == 0 then [] ∷ [] else []

abbrev pub roots : List PoolSeat → List (List ℕ)
roots [] = []
roots (place ∷ places) = root_at place ++ roots places

-- the names that the parts give to others
abbrev pub given_in : List ProblemPart → List (List ℕ)
given_in parts = flat_map given_of parts

-- each branch of a part is a claim that was granted, with at most so many thinned branches tried at a node, each name that was taken is a part's, as the root's, and each that was put is one that a part gives
pub record IsCounted (thin : ℕ) (view : View) (parts : List ProblemPart) (places : List PoolSeat) : Type 0 where
  pub grants : Grants thin 0 (branches_in_all parts) view.granted
  pub takes : SameNames (roots places ++ all_takes places) (names_of parts)
  pub puts : SameNames (all_puts places) (given_in parts)

-- what workers keep of their plan and of the parts that they searched, by what they know of their words
abbrev pub Keeping : Type 1
Keeping = Shared → View → Option ProblemPath → List ProblemPart → Type 0

-- so many claims of two workers were refused: one at least, where one of either was
pub record RefusesAsBoth (v w : View) (refused : ℕ) : Type 0 where
  pub mine : 0 < v.refused → 0 < refused
  pub others : 0 < w.refused → 0 < refused

-- one plan is the better of two: what two workers kept is kept by both together with it, and so are the parts of the first
pub record IsBetterOf (keeps : Keeping) (plan other better : Option ProblemPath) : Type 0 where
  pub both : (of : Shared) (v w : View) (refused : ℕ) (parts others : List ProblemPart) → RefusesAsBoth v w refused → keeps of v plan parts → keeps of w other others
      → keeps of (record (view_joined v w) { refused = refused }) better (parts ++ others)
  pub mine : (of : Shared) (v w : View) (refused : ℕ) (parts others : List ProblemPart) → RefusesAsBoth v w refused → keeps of v plan parts → keeps of w other others
      → keeps of (record (view_joined v w) { refused = refused }) better parts

-- the parts with one that was found, if one was
abbrev pub with_part : List ProblemPart → Option ProblemPart → List ProblemPart
with_part parts None = parts
with_part parts (Some part) = parts ++ part ∷ []

-- in a search for the fewest relocations: the plan has exactly the relocations that the seat offered; the parts are searched, as far as the seat has
-- seen, and below the limit at the start
pub record IsKeptSoFar (of : Shared) (view : View) (plan : Option ProblemPath) (parts : List ProblemPart) : Type 0 where
  pub plan_kept : KeepsPlan of view plan
  pub searched : All (IsSearched of.key.problem of.key.start view) parts

-- what a group keeps: its plan and its parts, as the search has it; unless it is marked, nothing was lost; and its claims are stopped only in a timed search
pub record IsGroup (keeps : Keeping) (g : Crew) : Type 0 where
  pub kept : keeps g.of g.view g.plan g.parts
  pub counted : g.short ≡ false → IsCounted g.of.key.thin g.view g.parts g.places
  pub timely : g.stopped ≡ true → g.of.key.timed ≡ true

-- which place of which pool
abbrev pub place_key : PoolSeat → List DequeId × DequeId × ℕ
place_key place = (place.pool, place.deque, place.number)

abbrev pub keys : Crew → List (List DequeId × DequeId × ℕ)
keys g = map place_key g.places

abbrev pub all_keys : List Crew → List (List DequeId × DequeId × ℕ)
all_keys [] = []
all_keys (g ∷ gs) = keys g ++ all_keys gs

abbrev pub crew_share : Crew → ℕ
crew_share g = g.view.share

-- the shares of the words that the groups have together
abbrev pub shares : List Crew → ℕ
shares [] = 0
shares (g ∷ gs) = crew_share g + shares gs

-- the same workers, later: the words, their share of them and, unless they are marked, their places are the same
pub record SameWorkers (old new : Crew) : Type 0 where
  pub words : new.of ≡ old.of
  pub share : new.view.share ≡ old.view.share
  pub places : new.short ≡ false → keys new ≡ keys old
  pub short : new.short ≡ false → old.short ≡ false

-- what these groups became: one of the same words, with their shares of them and, unless it is marked, with all their places
pub record AreTogether (groups : List Crew) (all : Crew) : Type 0 where
  pub words : All (λ g. g.of ≡ all.of) groups
  pub share : all.view.share ≡ shares groups
  pub places : all.short ≡ false → keys all ≡ all_keys groups

-- where claims of these workers were stopped, this is so
abbrev pub StopsBy : Type 0 → Crew → Type 0
StopsBy may g = g.stopped ≡ true → may

-- groups of workers that have not begun, one at least, each at the words of the search
pub record AreReady (of : Shared) (groups : List Crew) : Type 0 where
  pub some : 0 < length groups
  pub few : length groups ≤ 64
  pub words : All (λ g. g.of ≡ of) groups

-- a place in the pool at which nothing was done yet, and where one put at least is sure to succeed
pub record IsUnused (place : PoolSeat) : Type 0 where
  pub no_takes : place.takes ≡ []
  pub no_puts : place.puts ≡ []
  pub room : 0 < place.capacity

-- a seat at the words with which nothing was claimed or offered
pub record IsUnusedSeat (of : Shared) (seat : Seat) : Type 0 where
  pub words : seat.of ≡ of
  pub is_problem : IsProblem of.key.problem
  pub none_granted : seat.view.granted ≡ 0
  pub none_refused : seat.view.refused ≡ 0
  pub mine : seat.view.mine ≡ of.key.start
  pub seen : seat.view.seen ≤ of.key.start

-- such a seat keeps what workers keep, with no plan and no part
abbrev pub KeepsUnused : Keeping → Shared → Type 0
KeepsUnused keeps of = (seat : Seat) → IsUnusedSeat of seat → keeps of seat.view None []

-- every place of a pool that has one at least
abbrev pub AreAllPlaces : List DequeId → List PoolSeat → Type 0
AreAllPlaces pool places = IsEverySeat pool places × (0 < length pool)

-- a list that is empty, with room for a place
abbrev pub IsRoom : Vec PoolSeat Global → Type 0
IsRoom room = (room.items ≡ []) × (vec_len room < vec_capacity room)

-- what so many workers need before they begin: an unused place of a pool for each, by their numbers, and lists with room for their places and states
pub record IsRoomFor (count : ℕ) (pool : List DequeId) (places : List PoolSeat) (lists : List (Vec PoolSeat Global)) (groups : Vec Crew Global) : Type 0 where
  pub every : IsEverySeat pool places
  pub count_is : length places ≡ count
  pub unused : All IsUnused places
  pub by_number : map seat_number places ≡ numbers 0 count
  pub each : length lists ≡ count
  pub lists_are : All IsRoom lists
  pub none_yet : groups.items ≡ []
  pub room : vec_capacity groups ≡ count

-- each of these places has a group more, with a share of the seat; the rest of the shares is left
pub record AreSeated (of : Shared) (seat : Seat) (places : List PoolSeat) (before : List Crew) (left : Seat) (groups : List Crew) : Type 0 where
  pub left_new : IsUnusedSeat of left
  pub words : All (λ g. g.of ≡ of) groups
  pub count : length groups ≡ length before + length places
  pub share : left.view.share + shares groups ≡ seat.view.share + shares before
  pub keys_are : all_keys groups ≡ all_keys before ++ map place_key places
