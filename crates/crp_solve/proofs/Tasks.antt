-- A group after it searched one part more.
use Rattle.std.proofs.Common.{length, ◌≡◌, ◌≤◌, ℕ, true, List, [], ◌∷◌, ◌++◌, Option, None, Some, IfSome, sym, ap, ◌∙◌, subst, arith}
use Rattle.std.proofs.lemmas.List.Elements.{All-append, All-weaker, All-cons, All-nil}
use Rattle.std.proofs.lemmas.List.Sums.{sum_by-append, sum_by-cons}
use Rattle.crp_plan.specs.declared.running.View.{View}
use Rattle.crp_plan.specs.Plans.{ProblemPath}
use Rattle.crp_tree.specs.Parts.{ProblemPart, given_of, branches_in}
use Rattle.crp_search.specs.Limits.{Advances}
use Rattle.crp_search.specs.Searched.{Grants, IsBelow}
use Rattle.crp_search.specs.Meeting.{grants_more}
use Rattle.crp_gather.specs.Settled.{branches_in_all}
use Rattle.crp_incumbent.specs.Seats.{Shared}
use Rattle.crp_pool.specs.Weigh.{weigh, SameNames}
use Rattle.crp_pool.specs.Seats.{PoolSeat, SameSeat, all_takes}
use Rattle.crp_pool.proofs.Hands.{weigh-append}
use Rattle.crp_solve.specs.Searches.{IsSearched}
use Rattle.crp_solve.specs.Desks.{Fixed, fixed_at, KeepsPlan, IsCountedPart, IsFoundPart}
use Rattle.crp_solve.specs.Groups.{Crew, Keeping, with_part, root_at, roots, IsCounted, IsKeptSoFar, IsGroup}
use Rattle.crp_solve.proofs.Grouped.{takes-append, puts-append, roots-append, given-append, names-append, searched_later}

-- what stays of a place
pub same_number : (r s : PoolSeat) → fixed_at (Some s) ≡ fixed_at (Some r) → s.number ≡ r.number
same_number r s e = ap (λ (o : Option Fixed). number_of o) e
  where
    number_of : Option Fixed → ℕ
    number_of (Some f) = f.number
    number_of _ = 0

pub same_takes : (r s : PoolSeat) → fixed_at (Some s) ≡ fixed_at (Some r) → s.takes ≡ r.takes
same_takes r s e = ap (λ (o : Option Fixed). takes_of o) e
  where
    takes_of : Option Fixed → List (List ℕ)
    takes_of (Some f) = f.takes
    takes_of _ = []

-- the place q took the name, and became r; while its part x was searched, r became s
pub record Took (q r s : PoolSeat) (name : List ℕ) (x : ProblemPart) : Type 0 where
  pub number : s.number ≡ q.number
  pub takes : SameNames s.takes (q.takes ++ name ∷ [])
  pub puts : s.puts ≡ q.puts ++ given_of x
  pub name_is : x.name ≡ name

-- one part more is counted
pub counted_more : {thin : ℕ} (v w : View) (xs : List ProblemPart) (x : ProblemPart) (ls : List PoolSeat) (q r s : PoolSeat) (name : List ℕ) → IsCounted thin v xs (ls ++ q ∷ []) → Took q r s name x →
    Grants thin v.granted (length (branches_in x)) w.granted → IsCounted thin w (xs ++ x ∷ []) (ls ++ s ∷ [])
counted_more {thin} v w xs x ls q r s name k t grants = record {
  grants = grants_more thin 0 (branches_in_all xs) v.granted (length (branches_in x)) w.granted (branches_in_all (xs ++ x ∷ []))
      (omega (arith, sum_by-append (λ (y : ProblemPart). length (branches_in y)) xs (x ∷ []), sum_by-cons (λ (y : ProblemPart). length (branches_in y)) x [])) k.grants grants;
  takes = λ h. (
      let a = k.takes h in let b = t.takes h in let e : h x.name ≡ h name = ap h t.name_is in
      let c : weigh h (root_at s) ≡ weigh h (root_at q) = ap (λ (n : ℕ). weigh h (root_at (record q { number = n }))) t.number in
      omega (
        arith,
        takes-append h ls (q ∷ []),
        takes-append h ls (s ∷ []),
        roots-append h ls (q ∷ []),
        roots-append h ls (s ∷ []),
        names-append h xs (x ∷ []),
        weigh-append h q.takes [],
        weigh-append h s.takes [],
        weigh-append h q.takes (name ∷ []),
        weigh-append h (root_at q) [],
        weigh-append h (root_at s) [],
        weigh-append h (roots (ls ++ q ∷ [])) (all_takes (ls ++ q ∷ [])),
        weigh-append h (roots (ls ++ s ∷ [])) (all_takes (ls ++ s ∷ [])),
      ));
  puts = λ h. (
      let a = k.puts h in let b : weigh h s.puts ≡ weigh h (q.puts ++ given_of x) = ap (weigh h) t.puts in
      omega (arith, puts-append h ls (q ∷ []), puts-append h ls (s ∷ []), given-append h xs (x ∷ []), weigh-append h q.puts [], weigh-append h s.puts [], weigh-append h q.puts (given_of x), weigh-append h (given_of x) []));
}

took : {thin : ℕ} (q r s : PoolSeat) (v w : View) (name : List ℕ) (x : ProblemPart) → SameSeat q r → r.puts ≡ q.puts → SameNames r.takes (q.takes ++ name ∷ []) → fixed_at (Some s) ≡ fixed_at (Some r) →
    IsCountedPart thin v w (Some r) (Some s) name x → Took q r s name x
took q r s v w name x same puts takes fixed f = record {
  number = same_number r s fixed ∙ same.3;
  takes = λ h. (ap (weigh h) (same_takes r s fixed) ∙ takes h);
  puts = f.puts ∙ ap (λ l. l ++ given_of x) puts;
  name_is = f.name_is;
}

-- so the group keeps what it keeps
pub task_done : (keeps : Keeping) (old new : Crew) (x : ProblemPart) (ls : List PoolSeat) (q r s : PoolSeat) (name : List ℕ) → IsGroup keeps old → new.of ≡ old.of → old.places ≡ ls ++ q ∷ [] →
    SameSeat q r → r.puts ≡ q.puts → SameNames r.takes (q.takes ++ name ∷ []) → fixed_at (Some s) ≡ fixed_at (Some r) → keeps old.of new.view new.plan (old.parts ++ x ∷ []) →
    IsCountedPart old.of.key.thin old.view new.view (Some r) (Some s) name x → new.parts ≡ old.parts ++ x ∷ [] → new.places ≡ ls ++ s ∷ [] → new.short ≡ old.short →
    (new.stopped ≡ true → old.of.key.timed ≡ true) → IsGroup keeps new
task_done keeps old new x ls q r s name k of places same puts takes fixed kept f parts' places' short timely = record {
  kept = subst (λ o. keeps o new.view new.plan new.parts) (sym of) (subst (keeps old.of new.view new.plan) (sym parts') kept);
  counted = λ ok. subst (λ (o : Shared). IsCounted o.key.thin new.view new.parts new.places) (sym of)
      (subst (λ l. IsCounted old.of.key.thin new.view l new.places) (sym parts') (subst (IsCounted old.of.key.thin new.view (old.parts ++ x ∷ [])) (sym places')
      (counted_more old.view new.view old.parts x ls q r s name (subst (IsCounted old.of.key.thin old.view old.parts) places (k.counted (sym short ∙ ok))) (took q r s old.view new.view name x same puts takes fixed f) f.grants)));
  timely = λ yes. subst (λ (o : Shared). o.key.timed ≡ true) (sym of) (timely yes);
}

-- a part that was found is searched
pub searched_now : (of : Shared) (v w : View) (x : ProblemPart) → v.seen ≤ of.key.start → IsFoundPart of v w x → IsSearched of.key.problem of.key.start w x
searched_now of v w x seen f = record {
  of_problem = f.of_problem;
  kept = f.kept;
  closed = f.closed;
  below = All-weaker (IsBelow v.seen) (IsBelow of.key.start) (λ node b. omega (arith, seen, b)) (branches_in x) f.below;
}

-- what a search for the fewest relocations kept stays so
pub kept_later : (of : Shared) (v w : View) (plan better : Option ProblemPath) (xs : List ProblemPart) → KeepsPlan of w better → Advances of.key.problem v w → IsKeptSoFar of v plan xs → IsKeptSoFar of w better xs
kept_later of v w plan better xs keeps on k = record { plan_kept = keeps; searched = searched_later of.key.problem of.key.start v w xs on.seen (λ some. omega (arith, some, on.refused)) k.searched }

-- and with one part more
pub kept_more : (of : Shared) (v w : View) (plan better : Option ProblemPath) (xs : List ProblemPart) (x : ProblemPart) → KeepsPlan of w better → Advances of.key.problem v w → IsKeptSoFar of v plan xs →
    IsFoundPart of v w x → IsKeptSoFar of w better (xs ++ x ∷ [])
kept_more of v w plan better xs x keeps on k f =
    let P : ProblemPart → Type 0 = IsSearched of.key.problem of.key.start w in let low = k.plan_kept in
    record {
      plan_kept = keeps;
      searched = All-append P xs (x ∷ []) (searched_later of.key.problem of.key.start v w xs on.seen (λ some. omega (arith, some, on.refused)) k.searched) (All-cons P x [] (searched_now of v w x low.seen f) (All-nil P));
    }

-- so with the part that was found, if one was
pub kept_later_or_more : (of : Shared) (v w : View) (plan better : Option ProblemPath) (xs : List ProblemPart) (found : Option ProblemPart) → KeepsPlan of w better → Advances of.key.problem v w → IsKeptSoFar of v plan xs →
    IfSome found (IsFoundPart of v w) → IsKeptSoFar of w better (with_part xs found)
kept_later_or_more of v w plan better xs None keeps on k f = kept_later of v w plan better xs keeps on k
kept_later_or_more of v w plan better xs (Some x) keeps on k f = kept_more of v w plan better xs x keeps on k f
