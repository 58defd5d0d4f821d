-- A search as it begins, and one whose workers are with their caller.
use Rattle.std.specs.Prelude.{◌≡◌, ◌+◌, List, [], map, Option, false}
use Rattle.crp_plan.specs.Plans.{ProblemPath}
use Rattle.crp_incumbent.specs.declared.rule.Key.{Key}
use Rattle.crp_incumbent.specs.Rule.{all_shares}
use Rattle.crp_incumbent.specs.Seats.{Shared, Seat}
use Rattle.crp_pool.specs.Deques.{DequeId}
use Rattle.crp_pool.specs.Seats.{PoolSeat, all_takes}
use Rattle.crp_solve.specs.Answers.{path_in, count_of}
use Rattle.crp_solve.specs.Chosen.{Chosen, is_timed}
use Rattle.crp_solve.specs.Rounds.{IsStartPlan}
use Rattle.crp_solve.specs.Groups.{Crew, place_key, all_keys, shares, IsUnusedSeat, AreAllPlaces, AreReady}

-- a search that has begun: its shared words, what was chosen for it, and its workers as they are when it begins
pub record Search : Type 0 where
  pub of : Shared
  pub chosen : Chosen
  pub workers : List Crew

-- the words have this key; the first worker has a share of them and the only place of the pool, where it took no name; the other shares are left
pub record IsStart (key : Key) (of : Shared) (left : Seat) (pool : List DequeId) (first : Crew) : Type 0 where
  pub opened : of.key ≡ key
  pub left_new : IsUnusedSeat of left
  pub left_share : left.view.share ≡ 64
  pub words : first.of ≡ of
  pub share : first.view.share ≡ 1
  pub places : AreAllPlaces pool first.places
  pub none_taken : all_takes first.places ≡ []

-- these are all workers of the words and of the pool: they and the seat that is left have all shares, and they have every place
pub record AreAllWorkers (of : Shared) (left : Seat) (pool : List DequeId) (workers : List Crew) : Type 0 where
  pub left_new : IsUnusedSeat of left
  pub share : left.view.share + shares workers ≡ all_shares
  pub ready : AreReady of workers
  pub places : (all : List PoolSeat) → map place_key all ≡ all_keys workers → AreAllPlaces pool all

-- what a search keeps: its workers are all of its words and of its pool; the limit that it began with is the count of the plan that was known then; and
-- it is the one search that was asked for
pub record IsBegun (s : Search) (left : Seat) (pool : List DequeId) (known : Option ProblemPath) : Type 0 where
  pub workers : AreAllWorkers s.of left pool s.workers
  pub start : IsStartPlan s.of.key.problem s.chosen known
  pub first : s.of.key.start ≡ count_of s.of.key.problem (path_in known)
  pub budget : s.of.key.budget ≡ s.chosen.budget
  pub thin : s.of.key.thin ≡ s.chosen.thin
  pub timed : s.of.key.timed ≡ is_timed s.chosen.time
  pub not_first : s.chosen.first ≡ false
  pub one_search : s.chosen.deepen ≡ false
