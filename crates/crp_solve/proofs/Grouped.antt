-- Two groups make one.
use Rattle.std.proofs.Common.{length, ◌≡◌, ◌<◌, ◌≤◌, ℕ, ◌+◌, min, Bool, true, false, ◌||◌, ◌&&◌, not, if◌then◌else◌, List, [], ◌∷◌, ◌++◌, All, Option, IfSome, inl, inr, ⊎_elim, sym, refl, ap, ◌∙◌, subst, arith}
use Rattle.std.proofs.lemmas.Bool.{or_cases}
use Rattle.std.proofs.lemmas.List.Elements.{All-append, All-weaker}
use Rattle.std.proofs.lemmas.List.Sums.{sum_by-append}
use Rattle.crp_plan.specs.declared.running.View.{View}
use Rattle.crp_plan.specs.Bay.{Problem}
use Rattle.crp_plan.specs.Plans.{ProblemPath}
use Rattle.crp_tree.specs.Trees.{value}
use Rattle.crp_tree.specs.Parts.{ProblemPart, given_of, names_of, cuts_in, branches_in}
use Rattle.crp_search.specs.Searched.{IsClosed}
use Rattle.crp_incumbent.specs.Rule.{view_joined}
use Rattle.crp_incumbent.specs.Seats.{Shared}
use Rattle.crp_pool.specs.Weigh.{weigh}
use Rattle.crp_pool.specs.Seats.{PoolSeat, all_puts, all_takes}
use Rattle.crp_pool.proofs.Hands.{weigh-append}
use Rattle.crp_solve.specs.Answers.{path_in, IsPlanOf}
use Rattle.crp_solve.specs.Searches.{IsSearched}
use Rattle.crp_solve.specs.Desks.{count_or, KeepsPlan}
use Rattle.crp_gather.specs.Settled.{branches_in_all}
use Rattle.crp_solve.proofs.Granting.{grants_joined}
use Rattle.crp_solve.specs.Groups.{Crew, Keeping, root_at, roots, given_in, IsCounted, RefusesAsBoth, IsKeptSoFar, IsGroup}

pub takes-append : (h : List ℕ → ℕ) (xs ys : List PoolSeat) → weigh h (all_takes (xs ++ ys)) ≡ weigh h (all_takes xs) + weigh h (all_takes ys)
takes-append h [] ys = omega arith
takes-append h (x ∷ xs) ys = omega (arith, weigh-append h x.takes (all_takes (xs ++ ys)), weigh-append h x.takes (all_takes xs), takes-append h xs ys)

pub puts-append : (h : List ℕ → ℕ) (xs ys : List PoolSeat) → weigh h (all_puts (xs ++ ys)) ≡ weigh h (all_puts xs) + weigh h (all_puts ys)
puts-append h [] ys = omega arith
puts-append h (x ∷ xs) ys = omega (arith, weigh-append h x.puts (all_puts (xs ++ ys)), weigh-append h x.puts (all_puts xs), puts-append h xs ys)

pub roots-append : (h : List ℕ → ℕ) (xs ys : List PoolSeat) → weigh h (roots (xs ++ ys)) ≡ weigh h (roots xs) + weigh h (roots ys)
roots-append h [] ys = omega arith
roots-append h (x ∷ xs) ys = omega (arith, weigh-append h (root_at x) (roots (xs ++ ys)), weigh-append h (root_at x) (roots xs), roots-append h xs ys)

pub given-append : (h : List ℕ → ℕ) (xs ys : List ProblemPart) → weigh h (given_in (xs ++ ys)) ≡ weigh h (given_in xs) + weigh h (given_in ys)
given-append h [] ys = omega arith
given-append h (x ∷ xs) ys = omega (arith, weigh-append h (given_of x) (given_in (xs ++ ys)), weigh-append h (given_of x) (given_in xs), given-append h xs ys)

pub names-append : (h : List ℕ → ℕ) (xs ys : List ProblemPart) → weigh h (names_of (xs ++ ys)) ≡ weigh h (names_of xs) + weigh h (names_of ys)
names-append h [] ys = omega arith
names-append h (x ∷ xs) ys = omega (arith, names-append h xs ys)

-- a part that was searched stays so while more is seen and more is refused
pub searched_later : (p : Problem) (first : ℕ) (old new : View) (parts : List ProblemPart) → new.seen ≤ old.seen → (0 < old.refused → 0 < new.refused) → All (IsSearched p first old) parts → All (IsSearched p first new) parts
searched_later p first old new parts seen refused all =
    All-weaker (IsSearched p first old) (IsSearched p first new)
    (λ part s. record {
      of_problem = s.of_problem;
      kept = s.kept;
      closed = All-weaker (IsClosed old) (IsClosed new)
          (λ cut c. ⊎_elim (λ (low : old.seen ≤ value cut). inl (omega arith)) (λ in_vain. inr (refused in_vain.0, in_vain.1, in_vain.2)) c)
          (cuts_in part) s.closed;
      below = s.below;
    })
    parts all

-- what is counted adds up
pub counted_together : {thin : ℕ} (v w : View) (refused : ℕ) (xs ys : List ProblemPart) (ls ms : List PoolSeat) → IsCounted thin v xs ls → IsCounted thin w ys ms →
    IsCounted thin (record (view_joined v w) { refused = refused }) (xs ++ ys) (ls ++ ms)
counted_together {thin} v w refused xs ys ls ms a b = record {
  grants = grants_joined thin (branches_in_all xs) (branches_in_all ys) v.granted w.granted (branches_in_all (xs ++ ys)) (sum_by-append (λ (x : ProblemPart). length (branches_in x)) xs ys) a.grants b.grants;
  takes = λ h. (let t = a.takes h in let t' = b.takes h in
      omega (arith, takes-append h ls ms, roots-append h ls ms, names-append h xs ys, weigh-append h (roots (ls ++ ms)) (all_takes (ls ++ ms)), weigh-append h (roots ls) (all_takes ls), weigh-append h (roots ms) (all_takes ms)));
  puts = λ h. (let q = a.puts h in let q' = b.puts h in omega (arith, puts-append h ls ms, given-append h xs ys));
}

-- the better plan counts for both
pub plans_together : (of : Shared) (v w : View) (refused : ℕ) (plan other best : Option ProblemPath) → KeepsPlan of v plan → KeepsPlan of w other →
    min v.mine w.mine ≡ count_or of.key.start (path_in best) → IfSome best (IsPlanOf of.key.problem) → KeepsPlan of (record (view_joined v w) { refused = refused }) best
plans_together of v w refused plan other best a b fewest is = record {
  is_problem = a.is_problem;
  plan_is = is;
  mine = fewest;
  low = (let l = a.low in omega arith);
  seen = (let s = a.seen in omega arith);
}

-- what the mark of two that were merged says
pub not_short : (a b x y : Bool) → (a || b) || not (x && y) ≡ false → (a ≡ false) × (b ≡ false) × (x ≡ true) × (y ≡ true)
not_short false false true true e = (refl, refl, refl, refl)
not_short false false true false e = absurd (cc)
not_short false false false y e = absurd (cc)
not_short false true x y e = absurd (cc)
not_short true b x y e = absurd (cc)

-- the parts of both, or of the first
parts_together : (Holds : List ProblemPart → Type 0) (xs ys zs : List ProblemPart) (fit : Bool) → Holds (xs ++ ys) → Holds xs → zs ≡ (if fit then xs ++ ys else xs) → Holds zs
parts_together Holds xs ys zs true both mine e = subst Holds (sym e) both
parts_together Holds xs ys zs false both mine e = subst Holds (sym e) mine

-- so two groups make one
pub merged : (keeps : Keeping) (a b c : Crew) (parts_fit places_fit : Bool) → IsGroup keeps a → IsGroup keeps b → b.of ≡ a.of → c.of ≡ a.of → c.view ≡ record (view_joined a.view b.view) { refused = c.view.refused } →
    keeps a.of (record (view_joined a.view b.view) { refused = c.view.refused }) c.plan (a.parts ++ b.parts) → keeps a.of (record (view_joined a.view b.view) { refused = c.view.refused }) c.plan a.parts →
    c.parts ≡ (if parts_fit then a.parts ++ b.parts else a.parts) → c.places ≡ (if places_fit then a.places ++ b.places else a.places) →
    (c.short ≡ false → (a.short ≡ false) × (b.short ≡ false) × (parts_fit ≡ true) × (places_fit ≡ true)) →
    c.stopped ≡ (a.stopped || b.stopped) → IsGroup keeps c
merged keeps a b c parts_fit places_fit ka kb one of view both mine parts places short stopped = record {
  kept = subst (λ o. keeps o c.view c.plan c.parts) (sym of) (subst (λ v. keeps a.of v c.plan c.parts) (sym view)
      (parts_together (keeps a.of (record (view_joined a.view b.view) { refused = c.view.refused }) c.plan) a.parts b.parts c.parts parts_fit both mine parts));
  counted = λ ok. (
      let s = short ok in
      let xs : c.parts ≡ a.parts ++ b.parts = parts ∙ ap (λ (fit : Bool). if fit then a.parts ++ b.parts else a.parts) s.2 in
      let ls : c.places ≡ a.places ++ b.places = places ∙ ap (λ (fit : Bool). if fit then a.places ++ b.places else a.places) s.3 in
      let t : ℕ = a.of.key.thin in
      subst (λ (o : Shared). IsCounted o.key.thin c.view c.parts c.places) (sym of)
      (subst (λ v. IsCounted t v c.parts c.places) (sym view) (subst (λ l. IsCounted t (record (view_joined a.view b.view) { refused = c.view.refused }) l c.places) (sym xs)
      (subst (IsCounted t (record (view_joined a.view b.view) { refused = c.view.refused }) (a.parts ++ b.parts)) (sym ls)
      (counted_together a.view b.view c.view.refused a.parts b.parts a.places b.places (ka.counted s.0) (subst (λ (o : Shared). IsCounted o.key.thin b.view b.parts b.places) one (kb.counted s.1)))))));
  timely = λ yes. subst (λ (o : Shared). o.key.timed ≡ true) (sym of) (⊎_elim ka.timely (λ others. subst (λ (o : Shared). o.key.timed ≡ true) one (kb.timely others)) (or_cases a.stopped b.stopped (sym stopped ∙ yes)));
}

-- what a search for the fewest relocations keeps, with the better plan: the parts of the first
pub kept_mine : (of : Shared) (v w : View) (refused : ℕ) (plan other best : Option ProblemPath) (xs ys : List ProblemPart) → RefusesAsBoth v w refused → IsKeptSoFar of v plan xs → IsKeptSoFar of w other ys →
    min v.mine w.mine ≡ count_or of.key.start (path_in best) → IfSome best (IsPlanOf of.key.problem) → IsKeptSoFar of (record (view_joined v w) { refused = refused }) best xs
kept_mine of v w refused plan other best xs ys some a b fewest is = record {
  plan_kept = plans_together of v w refused plan other best a.plan_kept b.plan_kept fewest is;
  searched = searched_later of.key.problem of.key.start v (record (view_joined v w) { refused = refused }) xs (omega arith) some.mine a.searched;
}

-- and the parts of both
pub kept_both : (of : Shared) (v w : View) (refused : ℕ) (plan other best : Option ProblemPath) (xs ys : List ProblemPart) → RefusesAsBoth v w refused → IsKeptSoFar of v plan xs → IsKeptSoFar of w other ys →
    min v.mine w.mine ≡ count_or of.key.start (path_in best) → IfSome best (IsPlanOf of.key.problem) → IsKeptSoFar of (record (view_joined v w) { refused = refused }) best (xs ++ ys)
kept_both of v w refused plan other best xs ys some a b fewest is = record {
  plan_kept = plans_together of v w refused plan other best a.plan_kept b.plan_kept fewest is;
  searched = All-append (IsSearched of.key.problem of.key.start (record (view_joined v w) { refused = refused })) xs ys
      (searched_later of.key.problem of.key.start v (record (view_joined v w) { refused = refused }) xs (omega arith) some.mine a.searched)
      (searched_later of.key.problem of.key.start w (record (view_joined v w) { refused = refused }) ys (omega arith) some.others b.searched);
}
