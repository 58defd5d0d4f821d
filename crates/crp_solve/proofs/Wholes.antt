-- What many workers found together is a search of the whole problem.
use Rattle.std.proofs.Common.{◌≡◌, ◌<◌, ◌≤◌, ℕ, ◌+◌, min, Bool, true, false, List, [], ◌∷◌, length, All, Option, sum_by, sym, refl, subst, arith}
use Rattle.std.specs.List.Sorted.{IsPermutation}
use Rattle.std.proofs.lemmas.List.Sorted.{sum_by-IsPermutation, All-permutation}
use Rattle.std.proofs.lemmas.List.Sums.{sum_by-cons}
use Rattle.std.proofs.lemmas.List.Elements.{All-weaker}
use Rattle.crp_plan.specs.declared.running.View.{View}
use Rattle.crp_plan.specs.Bay.{Problem, IsProblem}
use Rattle.crp_plan.specs.Plans.{ProblemPath}
use Rattle.crp_tree.specs.Parts.{ProblemPart, given_of, names_of, IsKeptPart, Certificate, IsAbout, branches_in}
use Rattle.crp_tree.specs.Claims.{times, same_name}
use Rattle.crp_plan.proofs.Lists.{one_if}
use Rattle.crp_tree.proofs.Givers.{times-cons}
use Rattle.crp_gather.specs.Gathers.{AreWhole}
use Rattle.crp_gather.proofs.Wholes.{whole_balanced}
use Rattle.crp_pool.specs.Weigh.{weigh, SameNames}
use Rattle.crp_pool.proofs.Hands.{weigh-append}
use Rattle.crp_search.specs.Searched.{Grants}
use Rattle.crp_solve.specs.Answers.{path_in}
use Rattle.crp_solve.specs.Searches.{BeginsWithin, IsSearched, IsEndedSearch}
use Rattle.crp_solve.specs.Desks.{count_or, refused_by, known_with}
use Rattle.crp_solve.specs.Groups.{given_in}
use Rattle.crp_solve.specs.Rests.{IsAllDone}

-- weights of lists over parts, as sums over the parts
names_sum : (h : List ℕ → ℕ) (xs : List ProblemPart) → weigh h (names_of xs) ≡ sum_by (λ (x : ProblemPart). h x.name) xs
names_sum h [] = refl
names_sum h (x ∷ xs) = omega (arith, names_sum h xs, sum_by-cons (λ (y : ProblemPart). h y.name) x xs)

given_sum : (h : List ℕ → ℕ) (xs : List ProblemPart) → weigh h (given_in xs) ≡ sum_by (λ (x : ProblemPart). weigh h (given_of x)) xs
given_sum h [] = refl
given_sum h (x ∷ xs) = omega (arith, given_sum h xs, weigh-append h (given_of x) (given_in xs), sum_by-cons (λ (y : ProblemPart). weigh h (given_of y)) x xs)

-- in another order all is done too
pub done_moved : {thin : ℕ} (view : View) (xs ys : List ProblemPart) → IsPermutation xs ys → IsAllDone thin view xs → IsAllDone thin view ys
done_moved {thin} view xs ys moved d = record {
  grants = subst (λ n. Grants thin 0 n view.granted) (sym (sum_by-IsPermutation (λ (x : ProblemPart). length (branches_in x)) xs ys moved)) d.grants;
  names = λ h. (
      let e = d.names h in
      omega (arith, names_sum h xs, names_sum h ys, given_sum h xs, given_sum h ys, sum_by-IsPermutation (λ (x : ProblemPart). h x.name) xs ys moved, sum_by-IsPermutation (λ (x : ProblemPart). weigh h (given_of x)) xs ys moved));
}

-- how often a name stands in a list, as a weight
times_weigh : (n : List ℕ) (list : List (List ℕ)) → times n list ≡ weigh (λ x. one_if (same_name n x)) list
times_weigh n [] = refl
times_weigh n (x ∷ list) = omega (arith, times-cons n x list, times_weigh n list)

pub same_times : (n : List ℕ) (xs ys : List (List ℕ)) → SameNames xs ys → times n xs ≡ times n ys
same_times n xs ys same = omega (arith, times_weigh n xs, times_weigh n ys, same (λ x. one_if (same_name n x)))

-- the parts are a whole
pub parts_whole : {thin : ℕ} (p : Problem) (view : View) (xs : List ProblemPart) → IsProblem p → All (λ x. x.problem ≡ p) xs → All IsKeptPart xs → IsAllDone thin view xs → AreWhole p xs
parts_whole p view xs is of kept d = whole_balanced p xs is of kept (λ name. same_times name (names_of xs) ([] ∷ given_in xs) d.names)

-- so are parts that were searched
pub all_whole : {thin : ℕ} (p : Problem) (first : ℕ) (view : View) (xs : List ProblemPart) → IsProblem p → All (IsSearched p first view) xs → IsAllDone thin view xs → AreWhole p xs
all_whole p first view xs is all d = parts_whole p view xs is (All-weaker (IsSearched p first view) (λ x. x.problem ≡ p) (λ x s. s.of_problem) xs all)
    (All-weaker (IsSearched p first view) IsKeptPart (λ x s. s.kept) xs all) d

-- what is known when the shared words are closed
pub record IsClosedAt (start budget spent limit : ℕ) (view : View) : Type 0 where
  pub limit_is : limit ≡ min start view.mine
  pub spent_is : spent ≡ view.granted + view.refused
  pub granted : view.granted ≡ min spent budget
  pub seen : limit ≤ view.seen
  pub mine : view.mine ≤ start

-- where a claim counts as refused the budget is spent, unless claims were stopped while some of it was left
spent_all : (budget spent : ℕ) (before : Bool) (granted refused : ℕ) → spent ≡ granted + refused → granted ≡ min spent budget → (before ≡ true → budget ≤ granted) → 0 < refused_by before refused → granted ≡ budget
spent_all budget spent true granted refused sum least ends some = let all = ends refl in omega (arith, sum, least, all)
spent_all budget spent false granted refused sum least ends some = omega (arith, sum, least, some)

-- so the whole problem was searched
pub whole_together : {thin : ℕ} (p : Problem) (budget first spent limit : ℕ) (before : Bool) (view : View) (xs : List ProblemPart) (cert : Certificate) (best : Option ProblemPath) (stopped : Bool) → IsProblem p → BeginsWithin p first →
    IsClosedAt first budget spent limit view → (stopped ≡ false → before ≡ true → budget ≤ view.granted) → All (IsSearched p first (known_with before view)) xs → IsAllDone thin (known_with before view) xs → IsPermutation xs cert.parts → IsAbout p cert → view.mine ≡ count_or first (path_in best) →
    IsEndedSearch thin p budget first (count_or first (path_in best)) (known_with before view) cert stopped
whole_together {thin} p budget first spent limit before view xs cert best stopped is first_is closed ends all done moved about mine =
    let ys = cert.parts in
    let all' : All (IsSearched p first (known_with before view)) ys = All-permutation (IsSearched p first (known_with before view)) xs ys moved all in
    let done' : IsAllDone thin (known_with before view) ys = done_moved (known_with before view) xs ys moved done in
    let low = closed.limit_is in let seen = closed.seen in let high = closed.mine in let spent_is = closed.spent_is in let granted = closed.granted in
    record {
      about = about;
      searched = all';
      first_is = first_is;
      low = omega arith;
      met = omega arith;
      granted = done'.grants;
      within = omega arith;
      refused_last = λ goes_on some. spent_all budget spent before view.granted view.refused closed.spent_is closed.granted (ends goes_on) some;
    }
