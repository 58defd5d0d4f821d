-- What workers keep while they search for the first best plan.
use Rattle.std.proofs.Common.{◌≡◌, ℕ, ◌⊎◌, inl, inr, ⊎_elim, List, [], ◌∷◌, ◌++◌, All, Option, None, Some, IfSome, sym, subst, arith}
use Rattle.std.proofs.lemmas.List.Elements.{All-append, All-weaker, All-cons, All-nil}
use Rattle.crp_plan.specs.declared.running.View.{View}
use Rattle.crp_plan.specs.Bay.{Problem}
use Rattle.crp_plan.specs.Plans.{ProblemPath}
use Rattle.crp_incumbent.specs.Rule.{view_joined}
use Rattle.crp_incumbent.specs.Seats.{Shared}
use Rattle.crp_tree.specs.Names.{Precedes}
use Rattle.crp_tree.specs.Trees.{Node}
use Rattle.crp_tree.specs.First.{MeetsNeed}
use Rattle.crp_tree.specs.Parts.{ProblemPart, cuts_in}
use Rattle.crp_tree.proofs.Firsts.{above_all, by_earlier}
use Rattle.crp_search.specs.Firsts.{MeetsOwn, OnlyClaims}
use Rattle.crp_solve.specs.Desks.{KeepsPlan}
use Rattle.crp_solve.specs.Firsts.{IsPlanOfCount, IsSearchedFirst, IsKeptFirst, IsNoLater}

-- of two plans in order the first is no later
pub no_later : (plan other : ProblemPath) → (other.path ≡ plan.path) ⊎ Precedes plan.path other.path → IsNoLater (Some plan) (Some other)
no_later plan other order = ⊎_elim (λ (same : other.path ≡ plan.path). inl (sym same)) (λ (before : Precedes plan.path other.path). inr before) order

-- a cut that meets its need by one plan does so by each that is no later
meets_on : (k : ℕ) (plan best : Option ProblemPath) (cut : Node) → IsNoLater best plan → MeetsOwn k plan cut → MeetsOwn k best cut
meets_on k None None cut later meets = meets
meets_on k None (Some best) cut later meets = above_all k best.path cut meets
meets_on k (Some plan) None cut later meets = absurd later
meets_on k (Some plan) (Some best) cut later meets = ⊎_elim
    (λ (same : best.path ≡ plan.path). subst (λ path. MeetsNeed k path cut) (sym same) meets)
    (λ (before : Precedes best.path plan.path). by_earlier k plan.path best.path cut before meets)
    later

-- so a part that was searched stays so
first_on : (p : Problem) (k : ℕ) (plan best : Option ProblemPath) (x : ProblemPart) → IsNoLater best plan → IsSearchedFirst p k plan x → IsSearchedFirst p k best x
first_on p k plan best x later s = record {
  of_problem = s.of_problem;
  kept = s.kept;
  needs = All-weaker (MeetsOwn k plan) (MeetsOwn k best) (λ cut meets. meets_on k plan best cut later meets) (cuts_in x) s.needs;
}

all_on : (p : Problem) (k : ℕ) (plan best : Option ProblemPath) (xs : List ProblemPart) → IsNoLater best plan → All (IsSearchedFirst p k plan) xs → All (IsSearchedFirst p k best) xs
all_on p k plan best xs later all = All-weaker (IsSearchedFirst p k plan) (IsSearchedFirst p k best) (λ x s. first_on p k plan best x later s) xs all

-- where nothing was offered on either side, nothing was
not_offered : (of : Shared) (v w : View) (refused : ℕ) → KeepsPlan of v None → KeepsPlan of w None → KeepsPlan of (record (view_joined v w) { refused = refused }) None
not_offered of v w refused a b = record {
  is_problem = a.is_problem;
  plan_is = tt;
  mine = (let m = a.mine in let n = b.mine in omega arith);
  low = (let l = a.low in omega arith);
  seen = (let s = a.seen in omega arith);
}

-- two that are merged, with a plan that is no later than either: the parts of the first
pub first_mine : (of : Shared) (v w : View) (refused : ℕ) (plan other best : Option ProblemPath) (xs ys : List ProblemPart) → IsKeptFirst of v plan xs → IsKeptFirst of w other ys →
    IsNoLater best plan → IfSome best (IsPlanOfCount of.key.problem of.key.start) → IsKeptFirst of (record (view_joined v w) { refused = refused }) best xs
first_mine of v w refused plan other best xs ys a b mine is = record {
  least = a.least;
  not_offered = not_offered of v w refused a.not_offered b.not_offered;
  plan_is = is;
  searched = all_on of.key.problem of.key.start plan best xs mine a.searched;
}

-- and the parts of both
pub first_both : (of : Shared) (v w : View) (refused : ℕ) (plan other best : Option ProblemPath) (xs ys : List ProblemPart) → IsKeptFirst of v plan xs → IsKeptFirst of w other ys →
    IsNoLater best plan → IsNoLater best other → IfSome best (IsPlanOfCount of.key.problem of.key.start) → IsKeptFirst of (record (view_joined v w) { refused = refused }) best (xs ++ ys)
first_both of v w refused plan other best xs ys a b mine others is = record {
  least = a.least;
  not_offered = not_offered of v w refused a.not_offered b.not_offered;
  plan_is = is;
  searched = All-append (IsSearchedFirst of.key.problem of.key.start best) xs ys (all_on of.key.problem of.key.start plan best xs mine a.searched) (all_on of.key.problem of.key.start other best ys others b.searched);
}

-- a seat that only claimed offered nothing
pub still_not_offered : (of : Shared) (v w : View) → KeepsPlan of v None → OnlyClaims v w → KeepsPlan of w None
still_not_offered of v w a on = record {
  is_problem = a.is_problem;
  plan_is = tt;
  mine = (let m = a.mine in let e = on.mine in omega arith);
  low = (let l = a.low in let e = on.mine in omega arith);
  seen = (let s = a.seen in let e = on.seen in omega arith);
}

-- a task that was given up
pub first_later : (of : Shared) (v w : View) (plan : Option ProblemPath) (xs : List ProblemPart) → OnlyClaims v w → IsKeptFirst of v plan xs → IsKeptFirst of w plan xs
first_later of v w plan xs on k = record { least = k.least; not_offered = still_not_offered of v w k.not_offered on; plan_is = k.plan_is; searched = k.searched }

-- one part more, with a plan that is no later than that which was kept and that which was met
pub first_more : (of : Shared) (v w : View) (plan met best : Option ProblemPath) (xs : List ProblemPart) (x : ProblemPart) → OnlyClaims v w → IsKeptFirst of v plan xs → IsSearchedFirst of.key.problem of.key.start met x →
    IsNoLater best plan → IsNoLater best met → IfSome best (IsPlanOfCount of.key.problem of.key.start) → IsKeptFirst of w best (xs ++ x ∷ [])
first_more of v w plan met best xs x on k s mine others is =
    let P : ProblemPart → Type 0 = IsSearchedFirst of.key.problem of.key.start best in
    record {
      least = k.least;
      not_offered = still_not_offered of v w k.not_offered on;
      plan_is = is;
      searched = All-append P xs (x ∷ []) (all_on of.key.problem of.key.start plan best xs mine k.searched) (All-cons P x [] (first_on of.key.problem of.key.start met best x others s) (All-nil P));
    }
