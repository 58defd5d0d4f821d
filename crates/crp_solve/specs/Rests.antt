-- What is left in the pool when its workers are done, and what is known when that is searched too.
use Rattle.std.specs.Prelude.{◌≡◌, ◌<◌, ◌≤◌, ℕ, Bool, true, false, List, [], ◌∷◌, Option, IfSome}
use Rattle.crp_plan.specs.declared.running.View.{View}
use Rattle.crp_plan.specs.Bay.{Problem}
use Rattle.crp_plan.specs.Plans.{ProblemPath}
use Rattle.crp_tree.specs.Parts.{ProblemPart, Certificate, names_of}
use Rattle.crp_incumbent.specs.declared.rule.Key.{Key}
use Rattle.crp_incumbent.specs.Rule.{all_shares}
use Rattle.crp_incumbent.specs.Seats.{Shared}
use Rattle.crp_pool.specs.Weigh.{SameNames}
use Rattle.crp_solve.specs.declared.end.Done.{Done}
use Rattle.crp_solve.specs.Answers.{path_in, IsPlanOf}
use Rattle.crp_solve.specs.Searches.{IsEndedSearch}
use Rattle.crp_solve.specs.Desks.{count_or, known_with}
use Rattle.crp_gather.specs.Settled.{branches_in_all}
use Rattle.crp_search.specs.Searched.{Grants}
use Rattle.crp_solve.specs.Groups.{Keeping, given_in}

-- the plan and the parts are kept, and the parts are counted: they are those of the root and of the names that were taken, and the names that were put are those that they give
pub record IsDoneUpTo (keeps : Keeping) (of : Shared) (view : View) (plan : Option ProblemPath) (parts : List ProblemPart) (puts takes : List (List ℕ)) : Type 0 where
  pub kept : keeps of view plan parts
  pub grants : Grants of.key.thin 0 (branches_in_all parts) view.granted
  pub taken : SameNames ([] ∷ takes) (names_of parts)
  pub put : SameNames puts (given_in parts)

-- nothing is left, where at most so many thinned branches were tried at a node: the names of the parts are the root's and those that they give, each as often
pub record IsAllDone (thin : ℕ) (view : View) (parts : List ProblemPart) : Type 0 where
  pub grants : Grants thin 0 (branches_in_all parts) view.granted
  pub names : SameNames (names_of parts) ([] ∷ given_in parts)

-- what the workers know that are done
abbrev pub known_to : Done → View
known_to done = known_with done.stopped done.seat.view

-- what workers leave when they are done: their words with this key, a seat at them that has all shares, the plan and the parts that they keep; and unless a part
-- was lost, nothing is left
pub record AreDone (keeps : Keeping) (key : Key) (of : Shared) (done : Done) : Type 0 where
  pub opened : of.key ≡ key
  pub words : done.seat.of ≡ of
  pub share : done.seat.view.share ≡ all_shares
  pub kept : keeps of (known_to done) done.best done.parts.items
  pub all : done.short ≡ false → IsAllDone of.key.thin (known_to done) done.parts.items
  pub timely : done.stopped ≡ true → of.key.timed ≡ true

-- what the workers of a search found together, who tried at most so many thinned branches at a node: a certificate of the whole problem; the limit in the end is the relocations of their best plan, or
-- where they have none, the limit at the start; where a gate stopped their claims some of the budget was left
pub record IsFoundTogether (thin : ℕ) (p : Problem) (budget first : ℕ) (cert : Certificate) (best : Option ProblemPath) (expanded : ℕ) (stopped : Bool) : Type 0 where
  pub view : View
  pub granted : expanded ≡ view.granted
  pub best_is : IfSome best (IsPlanOf p)
  pub ended : IsEndedSearch thin p budget first (count_or first (path_in best)) view cert stopped
  pub left : stopped ≡ true → expanded < budget

-- memory ran out in a search after so many expansions; its best plan, if one is known, is one of the problem
pub record IsCutShort (p : Problem) (budget : ℕ) (best : Option ProblemPath) (expanded : ℕ) : Type 0 where
  pub best_is : IfSome best (IsPlanOf p)
  pub within : expanded ≤ budget
