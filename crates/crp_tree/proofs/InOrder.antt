-- Names in order: what a search among them finds, and what comes first.
use Rattle.std.proofs.Common.{◌≡◌, ℕ, ◌+◌, ◌<◌, ◌≤◌, ◌⊎◌, inl, inr, ⊎_elim, false, IsTrue, ◌↔◌, List, [], ◌∷◌, ◌++◌, length, take, get_or, All, AllPairs, Contains, Result, Ok, Err, is_ok, refl, sym, ap, ◌∙◌, subst, arith}
use Rattle.std.specs.declared.cmp.Ordering.{Ordering}
use Rattle.std.specs.declared.cmp.Ordering.TheVariants.{Less, Equal, Greater}
use Rattle.std.specs.Ordering.{nat_cmp, is_lt, MatchOrdering}
use Rattle.std.specs.Cmp.Lexicographic.{slice_cmp}
use Rattle.std.specs.List.Sorted.{IsSorted, IsBinarySearchResult, IsPermutation}
use Rattle.std.specs.Result.{MatchResult}
use Rattle.std.proofs.lemmas.Cmp.{tied_itself, nat_list_cmp_total}
use Rattle.std.proofs.lemmas.Bool.{cases_lt}
use Rattle.std.proofs.lemmas.List.{get_or_default, get_or-take, length-take-le}
use Rattle.std.proofs.lemmas.List.Elements.{Contains-append_cases, Contains-append_left, Contains-push}
use Rattle.std.proofs.lemmas.List.Sorted.{searchable_from_sorted, sorted_far, ranks_by, Contains-permutation, IsPermutation-sym}
use Rattle.crp_bay.proofs.Members.{not_in_nil, in_cons_cases}
use Rattle.crp_tree.specs.Names.{Precedes, IsFirst}
use Rattle.crp_tree.specs.Claims.{IsRootOrGiven}
use Rattle.crp_tree.proofs.Ordered.{compared, less_if, less_means, not_itself, goes_further}

-- std's order of lists of rows
abbrev pub name_cmp : List ℕ → List ℕ → Ordering
name_cmp = slice_cmp nat_cmp

-- names that compare as equal are the same
equal_means : (name other : List ℕ) → name_cmp name other ≡ Equal → name ≡ other
equal_means name other e = subst (λ v. MatchOrdering v (Precedes name other) (name ≡ other) (Precedes other name)) e (compared name other (name_cmp name other) refl)

-- what a binary search among names in order finds
pub found_means : (held : List (List ℕ)) (path : List ℕ) (r : Result ℕ ℕ) → IsSorted name_cmp held → MatchResult r (λ i. i < length held) (λ i. i ≤ length held) →
    IsBinarySearchResult (λ y. name_cmp y path) held r → IsTrue (is_ok r) ↔ Contains held path
found_means held path (Ok i) sorted within found = (λ t. (i, within, equal_means (get_or held i path) path (found path)), λ c. refl)
found_means held path (Err i) sorted within found =
    let point = found (searchable_from_sorted nat_list_cmp_total (λ y. y) held path sorted) in (
      λ t. absurd (cc),
      λ c.
          let k : ℕ = c.0 in
          let lt = c.1 in
          let same : name_cmp (get_or held k path) path ≡ Equal = ap (λ y. name_cmp y path) c.2 ∙ tied_itself nat_list_cmp_total path in
          absurd (⊎_elim
          (λ low. let less = point.0 k path (omega arith) low in cc)
          (λ high. let greater = point.1 k path high lt in cc)
          (cases_lt k i)),
    )

-- names of which each stands before all later ones are in order
pub sorted_from_rising : (xs : List (List ℕ)) → AllPairs Precedes xs → IsSorted name_cmp xs
sorted_from_rising xs rising k d from lt = not_before (get_or xs k d) (get_or xs (k + 1) d) (rising k (k + 1) d (omega arith) lt)
  where
    decide : (name other : List ℕ) (o : Ordering) → name_cmp other name ≡ o → Precedes name other → is_lt o ≡ false
    decide name other Less e p = absurd (not_itself name (goes_further name other name p (less_means other name e)))
    decide name other Equal e p = refl
    decide name other Greater e p = refl

    not_before : (name other : List ℕ) → Precedes name other → is_lt (name_cmp other name) ≡ false
    not_before name other p = decide name other (name_cmp other name) refl p

-- of two names in order the first is the second, or stands before it
pub first_of_two : (name other : List ℕ) → is_lt (name_cmp other name) ≡ false → (other ≡ name) ⊎ Precedes name other
first_of_two name other not = decide (name_cmp name other) (compared name other (name_cmp name other) refl)
  where
    decide : (v : Ordering) → MatchOrdering v (Precedes name other) (name ≡ other) (Precedes other name) → (other ≡ name) ⊎ Precedes name other
    decide Less h = inr h
    decide Equal h = inl (sym h)
    decide Greater h = absurd (let less = ap is_lt (less_if other name h) in cc)

-- among names in order a later one is the same, or comes after
pub far : (xs : List (List ℕ)) → IsSorted name_cmp xs → (i j : ℕ) (d : List ℕ) → i ≤ j → j < length xs → (get_or xs j d ≡ get_or xs i d) ⊎ Precedes (get_or xs i d) (get_or xs j d)
far xs sorted i j d le lt =
    first_of_two (get_or xs i d) (get_or xs j d) (sorted_far (λ a b. is_lt (name_cmp a b)) (ranks_by nat_list_cmp_total (λ y. y)) xs sorted i j d le lt)

-- the same of members
pub member_far : (xs : List (List ℕ)) → IsSorted name_cmp xs → (i : ℕ) (first other : List ℕ) → i < length xs → first ≡ get_or xs i first → (c : Contains xs other) → i ≤ c.0 → (other ≡ first) ⊎ Precedes first other
member_far xs sorted i first other lt is c le =
    let k : ℕ = c.0 in
    let same : get_or xs i other ≡ first = get_or_default xs i other first lt ∙ sym is in
    let r = far xs sorted i k other le c.1 in
    subst (λ a. (other ≡ a) ⊎ Precedes a other) same (subst (λ a. (a ≡ get_or xs i other) ⊎ Precedes (get_or xs i other) a) c.2 r)

-- the first of names in order that is not held comes before all others that are not held
pub first_is_first : (held xs : List (List ℕ)) (i : ℕ) (first other : List ℕ) → IsSorted name_cmp xs → i < length xs → All (Contains held) (take i xs) → first ≡ get_or xs i first →
    Contains xs other → (Contains held other → ⊥) → (other ≡ first) ⊎ Precedes first other
first_is_first held xs i first other sorted lt before is c none =
    let k : ℕ = c.0 in
    let within = c.1 in
    ⊎_elim
    (λ low.
    let in_front : k < length (take i xs) = rw (length-take-le i xs (omega arith)) low in
    let there : get_or (take i xs) k other ≡ other = get_or-take i xs k other low ∙ c.2 in
    absurd (none (subst (Contains held) there (before k other in_front))))
    (λ high. member_far xs sorted i first other lt is c high)
    (cases_lt k i)

-- the needed names, sorted
pub needed_are : (given sorted : List (List ℕ)) (root : List ℕ) → root ≡ [] → IsPermutation (given ++ root ∷ []) sorted → (name : List ℕ) → Contains sorted name ↔ IsRootOrGiven given name
needed_are given sorted root is moved name = (
  λ c. ⊎_elim
      (λ g. inr g)
      (λ r. ⊎_elim (λ e. inl (sym e ∙ is)) (λ n. absurd (not_in_nil name n)) (in_cons_cases root [] name r))
      (Contains-append_cases given (root ∷ []) name (Contains-permutation sorted (given ++ root ∷ []) name (IsPermutation-sym (given ++ root ∷ []) sorted moved) c)),
  λ n. Contains-permutation (given ++ root ∷ []) sorted name moved
      (⊎_elim
      (λ e. subst (Contains (given ++ root ∷ [])) (is ∙ sym e) (Contains-push given root))
      (λ g. Contains-append_left given (root ∷ []) name g)
      n),
)

-- there is one first name
pub one_first : (Holds : List ℕ → Type 0) (a b : List ℕ) → IsFirst Holds a → IsFirst Holds b → a ≡ b
one_first Holds a b k l =
    ⊎_elim (λ e. sym e)
    (λ p. ⊎_elim (λ e. e) (λ q. absurd (not_itself a (goes_further a b a p q))) (l.first a k.holds))
    (k.first b l.holds)
