-- Names in order: the first that is absent, and the first that stands twice.
use Rattle.std.proofs.Common.{◌≡◌, ◌≢◌, ℕ, suc, ◌+◌, ◌<◌, ◌≤◌, ◌⊎◌, ⊎_elim, false, List, [], ◌∷◌, length, take, get_or, All, AllPairs, Contains, refl, sym, ap, ◌∙◌, subst, arith}
use Rattle.std.specs.Ordering.{is_lt}
use Rattle.std.specs.List.Sorted.{IsSorted, IsSortedByKey}
use Rattle.std.proofs.lemmas.Bool.{cases_lt, cases_Bool}
use Rattle.std.proofs.lemmas.List.{get_or_default, get_or-map, length-map}
use Rattle.std.proofs.lemmas.List.Elements.{Contains-get_or}
use Rattle.std.proofs.lemmas.Option.{slice_get-get_or}
use Rattle.crp_plan.proofs.Lists.{one_if, two_le_sum}
use Rattle.crp_tree.specs.Names.{Precedes, IsFirst}
use Rattle.crp_tree.specs.Claims.{same_name, times}
use Rattle.crp_tree.specs.Parts.{ProblemPart, names_of}
use Rattle.crp_tree.proofs.Ordered.{not_itself, goes_further}
use Rattle.crp_tree.proofs.Givers.{times-cons, times_in, same_is, same_self}
use Rattle.crp_tree.proofs.InOrder.{name_cmp, far, member_far, first_is_first}

-- the name of a part
abbrev pub part_name : ProblemPart → List ℕ
part_name part = part.name

-- the first absent name
pub absent_first : (wanted held : List (List ℕ)) (i : ℕ) (name : List ℕ) → IsSorted name_cmp wanted → i < length wanted → All (Contains held) (take i wanted) → name ≡ get_or wanted i name → (Contains held name → ⊥) →
    IsFirst (λ n. Contains wanted n × (Contains held n → ⊥)) name
absent_first wanted held i name sorted lt before is none = record {
  holds = (subst (Contains wanted) (sym is) (Contains-get_or wanted i name lt), none);
  first = λ other w. first_is_first held wanted i name other sorted lt before is w.0 w.1;
}

-- two neighbours that are the same
pub record Neighbours (xs : List (List ℕ)) (name : List ℕ) : Type 0 where
  pub index : ℕ
  pub within : index + 1 < length xs
  pub one : get_or xs index [] ≡ name
  pub two : get_or xs (index + 1) [] ≡ name

few : (m x : List ℕ) → 2 ≤ times m (x ∷ []) → ⊥
few m x more = ⊎_elim
    (λ t. omega (arith, times-cons m x [], ap one_if t))
    (λ f. omega (arith, times-cons m x [], ap one_if f))
    (cases_Bool (same_name m x))

tail_sorted : (x : List ℕ) (xs : List (List ℕ)) → IsSorted name_cmp (x ∷ xs) → IsSorted name_cmp xs
tail_sorted x xs sorted k d low lt =
    let next : suc k + 1 ≡ suc (k + 1) = omega arith in
    subst (λ n. is_lt (name_cmp (get_or (x ∷ xs) n d) (get_or xs k d)) ≡ false) next (sorted (suc k) d (omega arith) (omega arith))

-- what stands twice among names in order stands in two neighbours
pub neighbours : (xs : List (List ℕ)) → IsSorted name_cmp xs → (m : List ℕ) → 2 ≤ times m xs → Neighbours xs m
neighbours [] sorted m more = absurd (omega arith)
neighbours (x ∷ []) sorted m more = absurd (few m x more)
neighbours (x ∷ y ∷ xs) sorted m more = ⊎_elim
    (λ t.
    let is : m ≡ x = same_is m x t in
    let c : Contains (y ∷ xs) m = times_in m (y ∷ xs) (omega (arith, times-cons m x (y ∷ xs), ap one_if t)) in
    let head : (y ≡ x) ⊎ Precedes x y = far (x ∷ y ∷ xs) sorted 0 1 [] (omega arith) (omega arith) in
    let rest : (m ≡ y) ⊎ Precedes y m = member_far (y ∷ xs) (tail_sorted x (y ∷ xs) sorted) 0 y m (omega arith) refl c (omega arith) in
    let same : y ≡ m = ⊎_elim
    (λ (e : y ≡ x). e ∙ sym is)
    (λ (p : Precedes x y). ⊎_elim (λ (e : m ≡ y). sym e) (λ (q : Precedes y m). absurd (not_itself x (goes_further x y x p (subst (Precedes y) is q)))) rest)
    head in
    record { index = 0; within = omega arith; one = sym is; two = same })
    (λ f.
    let r = neighbours (y ∷ xs) (tail_sorted x (y ∷ xs) sorted) m (omega (arith, times-cons m x (y ∷ xs), ap one_if f)) in
    let within = r.within in
    let next : suc (r.index + 1) ≡ suc r.index + 1 = omega arith in
    record { index = suc r.index; within = omega arith; one = r.one; two = subst (λ n. get_or (x ∷ y ∷ xs) n [] ≡ m) next r.two })
    (cases_Bool (same_name m x))

-- two neighbours that are the same are two times the name
pub twice : (xs : List (List ℕ)) (i : ℕ) (name : List ℕ) → i + 1 < length xs → get_or xs i [] ≡ name → get_or xs (i + 1) [] ≡ name → 2 ≤ times name xs
twice xs i name lt one two =
    let ei = slice_get-get_or xs i [] (omega arith) in
    let ej = slice_get-get_or xs (i + 1) [] lt in
    let sum = two_le_sum (λ c. one_if (same_name name c)) xs i (i + 1) (get_or xs i []) (get_or xs (i + 1) []) ei ej (λ (e : i ≡ i + 1). omega arith) in
    let a : one_if (same_name name (get_or xs i [])) ≡ 1 = ap (λ c. one_if (same_name name c)) one ∙ ap one_if (same_self name) in
    let b : one_if (same_name name (get_or xs (i + 1) [])) ≡ 1 = ap (λ c. one_if (same_name name c)) two ∙ ap one_if (same_self name) in
    omega (arith, sum, a, b)

-- no neighbours below the index are the same
abbrev pub AreApart : List (List ℕ) → ℕ → Type 0
AreApart xs i = (k : ℕ) → k + 1 < i → get_or xs k [] ≢ get_or xs (k + 1) []

-- the first of neighbours that are the same
pub twice_first : (xs : List (List ℕ)) (i : ℕ) (name : List ℕ) → IsSorted name_cmp xs → AreApart xs (i + 1) → i + 1 < length xs → get_or xs i [] ≡ name → get_or xs (i + 1) [] ≡ name → IsFirst (λ n. 2 ≤ times n xs) name
twice_first xs i name sorted apart lt one two = record {
  holds = twice xs i name lt one two;
  first = λ other more.
      let n = neighbours xs sorted other more in
      let within = n.within in
      let at : Contains xs other = (n.index, omega arith, get_or_default xs n.index other [] (omega arith) ∙ n.one) in
      ⊎_elim
      (λ (low : n.index < i). absurd (apart n.index (omega arith) (n.one ∙ sym n.two)))
      (λ (high : i ≤ n.index). member_far xs sorted i name other (omega arith) (sym one ∙ get_or_default xs i [] name (omega arith)) at high)
      (cases_lt n.index i);
}

-- where no neighbours are the same, no name stands twice
pub none_twice : (xs : List (List ℕ)) (i : ℕ) → IsSorted name_cmp xs → AreApart xs i → length xs ≤ i → (name : List ℕ) → times name xs ≤ 1
none_twice xs i sorted apart le name = ⊎_elim
    (λ (more : 1 < times name xs).
    let n = neighbours xs sorted name (omega arith) in
    let within = n.within in
    absurd (apart n.index (omega arith) (n.one ∙ sym n.two)))
    (λ (l : times name xs ≤ 1). l)
    (cases_lt 1 (times name xs))

-- the names of parts that are sorted by name are in order
pub names_sorted : (xs : List ProblemPart) → IsSortedByKey part_name name_cmp xs → IsSorted name_cmp (names_of xs)
names_sorted xs sorted k d low lt = at xs sorted (omega (arith, length-map xs part_name))
  where
    at : (ys : List ProblemPart) → IsSortedByKey part_name name_cmp ys → k + 1 < length ys → is_lt (name_cmp (get_or (names_of ys) (k + 1) d) (get_or (names_of ys) k d)) ≡ false
    at [] s within = absurd (omega arith)
    at (y ∷ ys) s within =
        let one = get_or-map part_name (y ∷ ys) k y d (omega arith) in
        let two = get_or-map part_name (y ∷ ys) (k + 1) y d within in
        rw (one, two) (s k y (omega arith) within)

-- names that stand once each are not the same
pub apart : (xs : List (List ℕ)) → ((n : List ℕ) → times n xs ≤ 1) → AllPairs ◌≢◌ xs
apart xs once i j d ij lt e =
    let ei = slice_get-get_or xs i d (omega arith) in
    let ej = slice_get-get_or xs j d lt in
    let name : List ℕ = get_or xs i d in
    let sum = two_le_sum (λ c. one_if (same_name name c)) xs i j name (get_or xs j d) ei ej (λ (s : i ≡ j). omega arith) in
    let a : one_if (same_name name name) ≡ 1 = ap one_if (same_self name) in
    let b : one_if (same_name name (get_or xs j d)) ≡ one_if (same_name name name) = ap (λ c. one_if (same_name name c)) (sym e) in
    omega (arith, sum, a, b, once name)

-- and rise, where they are in order
pub rises : (xs : List (List ℕ)) → IsSorted name_cmp xs → ((n : List ℕ) → times n xs ≤ 1) → AllPairs Precedes xs
rises xs sorted once i j d ij lt = ⊎_elim
    (λ (e : get_or xs j d ≡ get_or xs i d). absurd (apart xs once i j d ij lt (sym e)))
    (λ (p : Precedes (get_or xs i d) (get_or xs j d)). p)
    (far xs sorted i j d (omega arith) lt)
