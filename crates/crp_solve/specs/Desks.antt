-- One worker of a search at its desk: its seat at the shared words, the plan that its least offer counts, and its place in the pool.
use Rattle.std.specs.Prelude.{◌≡◌, ℕ, zero, suc, ◌≤◌, Bool, true, false, List, ◌++◌, [], length, Option, Some, None, IfSome, All, option_map}
use Rattle.crp_plan.specs.declared.running.View.{View}
use Rattle.crp_plan.specs.Bay.{Problem, IsProblem}
use Rattle.crp_plan.specs.Plans.{ProblemPath}
use Rattle.crp_incumbent.specs.Seats.{Shared, Seat}
use Rattle.crp_tree.specs.Parts.{ProblemPart, given_of, cuts_in, branches_in, IsKeptPart}
use Rattle.crp_search.specs.Searched.{Grants, IsClosed, IsBelow}
use Rattle.crp_pool.specs.Deques.{DequeId}
use Rattle.crp_pool.specs.Seats.{PoolSeat}
use Rattle.crp_solve.specs.Answers.{path_in, IsPlanOf}

-- how many claims were refused, where the gate has stopped them: one at least
abbrev pub refused_by : Bool → ℕ → ℕ
refused_by true zero = 1
refused_by true (suc refused) = suc refused
refused_by false refused = refused

-- what a worker knows, whose claims the gate may have stopped: the words say nothing of those
abbrev pub known_with : Bool → View → View
known_with stopped view = record view { refused = refused_by stopped view.refused }

-- the words that it steps on, what it knows of them, its best plan, and its place in the pool, if it has one
pub record Post : Type 0 where
  pub of : Shared
  pub view : View
  pub plan : Option ProblemPath
  pub place : Option PoolSeat

-- the relocations of the plan; where there is none, the limit that the search began with
abbrev pub count_or : ℕ → Option (List ℕ) → ℕ
count_or first None = first
count_or first (Some path) = length path

-- the names that were put there, in order
abbrev pub puts_at : Option PoolSeat → List (List ℕ)
puts_at None = []
puts_at (Some place) = place.puts

-- the plan of some workers is one of the problem, with exactly as many relocations as the least that they offered; what they saw and offered is at most
-- the limit at the start
pub record KeepsPlan (of : Shared) (view : View) (plan : Option ProblemPath) : Type 0 where
  pub is_problem : IsProblem of.key.problem
  pub plan_is : IfSome plan (IsPlanOf of.key.problem)
  pub mine : view.mine ≡ count_or of.key.start (path_in plan)
  pub low : view.mine ≤ of.key.start
  pub seen : view.seen ≤ of.key.start

-- what stays of a place while a part is searched: which it is, and what was taken there
pub record Fixed : Type 0 where
  pub number : ℕ
  pub pool : List DequeId
  pub deque : DequeId
  pub takes : List (List ℕ)

abbrev pub fixed_at : Option PoolSeat → Option Fixed
fixed_at place = option_map (λ x. record { number = x.number; pool = x.pool; deque = x.deque; takes = x.takes }) place

-- what a desk keeps; `named` and `begun` are the words and the place that it was opened with; its claims are stopped only where the search is a timed one,
-- and where `may` is so, which the gate says by `said`
pub record IsDesk (named of : Shared) (begun place : Option PoolSeat) (seat : Seat) (plan : Option ProblemPath) (may said : Type 0) (stopped : Bool) : Type 0 where
  pub words : of ≡ named
  pub fixed : fixed_at place ≡ fixed_at begun
  pub at_words : seat.of ≡ of
  pub plan_kept : KeepsPlan of seat.view plan
  pub timely : stopped ≡ true → named.key.timed ≡ true
  pub stopped_by : stopped ≡ true → may
  pub gate : said → may

-- the words of no search
abbrev pub no_words : Shared
no_words = record {
  table = record { words = 0; slots = 0; views_name = 0; atom = 0; block = 0; offset = 0; slot_names = [] };
  key = record { problem = record { heights = []; ordered = 0; stacks = [] }; start = 0; budget = 0; thin = 0; timed = false };
}

-- what all workers of a search have in common: the words, and how many rows a name has at most that is given away; how many thinned branches may be tried
-- at a node, and whether the search is timed, stands in the key of the words
pub record Terms : Type 0 where
  pub of : Shared
  pub split : ℕ

pub record IsCommon (problem : Problem) (first thin : ℕ) (timed : Bool) (t : Terms) : Type 0 where
  pub problem_is : problem ≡ t.of.key.problem
  pub first_is : first ≡ t.of.key.start
  pub thin_is : thin ≡ t.of.key.thin
  pub timed_is : timed ≡ t.of.key.timed
  pub short : t.split ≤ 8

-- a part has the name; each branch of it is a claim that was granted meanwhile, with at most so many thinned branches tried at a node, and each name that was put is one that it gives
pub record IsCountedPart (thin : ℕ) (old new : View) (before after : Option PoolSeat) (name : List ℕ) (part : ProblemPart) : Type 0 where
  pub name_is : part.name ≡ name
  pub grants : Grants thin old.granted (length (branches_in part)) new.granted
  pub puts : puts_at after ≡ puts_at before ++ given_of part

-- a part was found: each cut is closed for what is seen now, and each branch stands below what was seen at the beginning
pub record IsFoundPart (of : Shared) (old new : View) (part : ProblemPart) : Type 0 where
  pub of_problem : part.problem ≡ of.key.problem
  pub kept : IsKeptPart part
  pub closed : All (IsClosed new) (cuts_in part)
  pub below : All (IsBelow old.seen) (branches_in part)
