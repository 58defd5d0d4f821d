-- Where names are the root and all given names, no name occurs twice.
use Rattle.std.proofs.Common.{◌≡◌, ◌≢◌, ℕ, zero, suc, ◌+◌, ◌<◌, ◌≤◌, ◌==◌, ◌&&◌, ◌⊎◌, inl, inr, ⊎_elim, Bool, true, false, cond, List, [], ◌∷◌, ◌++◌, length, map, Contains, All, Some, slice_get, sum_by, count_by, refl, sym, ap, ◌∙◌, subst, arith, length-append}
use Rattle.std.proofs.lemmas.List.Sums.{sum_by-cons, sum_by-append}
use Rattle.std.proofs.lemmas.Option.{same_Some}
use Rattle.std.proofs.lemmas.Bool.{cases_eq, cases_lt, cases_order, cases_Bool, and_parts, and_from, eq-eqb, eqb-true}
use Rattle.crp_plan.proofs.Lists.{one_if, two_le_sum, at_le_sum}
use Rattle.crp_bay.proofs.Members.{not_in_nil, in_head, in_tail, in_cons_cases}
use Rattle.crp_tree.specs.Trees.{Begins}
use Rattle.crp_tree.specs.Claims.{same_name, times}

-- a name that gives names
pub record Giver : Type 0 where
  pub name : List ℕ
  pub given : List (List ℕ)

-- it gives names that go on from its own, none of them from another, and none twice
pub record IsGiver (a : Giver) : Type 0 where
  pub begins : (g : List ℕ) → Contains a.given g → Begins g a.name
  pub longer : (g : List ℕ) → Contains a.given g → length a.name < length g
  pub apart : (g h : List ℕ) → Contains a.given g → Contains a.given h → Begins g h → g ≡ h
  pub once : (g : List ℕ) → times g a.given ≤ 1

-- what passes for the same name is
pub same_is : (x y : List ℕ) → same_name x y ≡ true → x ≡ y
same_is [] [] h = refl
same_is [] (y ∷ ys) h = cc
same_is (x ∷ xs) [] h = cc
same_is (x ∷ xs) (y ∷ ys) h =
    let p = and_parts (x == y) (same_name xs ys) h in
    let e : x ≡ y = eqb-true x y p.0 in
    let r : xs ≡ ys = same_is xs ys p.1 in
    cc

-- and each name passes for itself
pub same_self : (x : List ℕ) → same_name x x ≡ true
same_self [] = refl
same_self (x ∷ xs) = and_from (x == x) (same_name xs xs) (eq-eqb x x refl) (same_self xs)

-- how often a name stands in a list with one more in front
pub times-cons : (x y : List ℕ) (ys : List (List ℕ)) → times x (y ∷ ys) ≡ one_if (same_name x y) + times x ys
times-cons x y ys = sum_by-cons (λ z. one_if (same_name x z)) y ys

-- how often it stands in two lists
pub times-append : (x : List ℕ) (xs ys : List (List ℕ)) → times x (xs ++ ys) ≡ times x xs + times x ys
times-append x xs ys = sum_by-append (λ z. one_if (same_name x z)) xs ys

-- what stands at least once is there
pub times_in : (x : List ℕ) (ys : List (List ℕ)) → 1 ≤ times x ys → Contains ys x
times_in x [] h = absurd (omega arith)
times_in x (y ∷ ys) h = ⊎_elim
    (λ t. subst (λ z. Contains (z ∷ ys) x) (same_is x y t) (in_head x ys))
    (λ f. in_tail y ys x (times_in x ys (omega (arith, times-cons x y ys, ap one_if f))))
    (cases_Bool (same_name x y))

-- what is there stands at least once
pub in_times : (x : List ℕ) (ys : List (List ℕ)) → Contains ys x → 1 ≤ times x ys
in_times x [] c = absurd (not_in_nil x c)
in_times x (y ∷ ys) c = ⊎_elim
    (λ e. omega (arith, times-cons x y ys, ap one_if (ap (same_name x) e ∙ same_self x)))
    (λ c'. omega (arith, times-cons x y ys, in_times x ys c'))
    (in_cons_cases y ys x c)

-- a sum has a term
pub record Term {X : Type 0} (f : X → ℕ) (xs : List X) : Type 0 where
  pub index : ℕ
  pub term : X
  pub stands : slice_get xs index ≡ Some term
  pub some : 1 ≤ f term

-- a sum that is not 0 has a term that is not
pub some_term : {X : Type 0} (f : X → ℕ) (xs : List X) → 1 ≤ sum_by f xs → Term f xs
some_term f [] h = absurd (omega arith)
some_term f (x ∷ xs) h = ⊎_elim
    (λ lt. record { index = 0; term = x; stands = refl; some = lt })
    (λ le. let r = some_term f xs (omega (arith, sum_by-cons f x xs)) in record { index = suc r.index; term = r.term; stands = r.stands; some = r.some })
    (cases_lt 0 (f x))

-- a sum has two terms that are not 0
pub record TwoTerms {X : Type 0} (f : X → ℕ) (xs : List X) : Type 0 where
  pub one : Term f xs
  pub two : Term f xs
  pub differ : one.index ≢ two.index

-- a sum of 2, none of whose terms is above 1, has two terms
pub two_terms : {X : Type 0} (f : X → ℕ) (xs : List X) → ((i : ℕ) (x : X) → slice_get xs i ≡ Some x → f x ≤ 1) → 2 ≤ sum_by f xs → TwoTerms f xs
two_terms f [] small h = absurd (omega arith)
two_terms f (x ∷ xs) small h = ⊎_elim
    (λ lt.
    let r = some_term f xs (omega (arith, sum_by-cons f x xs, small 0 x refl)) in
    record { one = record { index = 0; term = x; stands = refl; some = lt }; two = record { index = suc r.index; term = r.term; stands = r.stands; some = r.some }; differ = λ e. absurd (omega arith) })
    (λ le.
    let r = two_terms f xs (λ i. small (suc i)) (omega (arith, sum_by-cons f x xs)) in
    let a = r.one in let b = r.two in let d = r.differ in
    record { one = record { index = suc a.index; term = a.term; stands = a.stands; some = a.some }; two = record { index = suc b.index; term = b.term; stands = b.stands; some = b.some }; differ = λ e. d (omega arith) })
    (cases_lt 0 (f x))

-- of two beginnings of a path the shorter begins the longer
pub shorter_begins : (path m n : List ℕ) → Begins path m → Begins path n → length m ≤ length n → Begins n m
shorter_begins path [] n a b le = (n, refl)
shorter_begins path (x ∷ m) [] a b le = absurd (omega arith)
shorter_begins [] (x ∷ m) (y ∷ n) a b le = let e = a.1 in cc
shorter_begins (z ∷ path) (x ∷ m) (y ∷ n) a b le =
    let ea : z ∷ path ≡ x ∷ m ++ a.0 = a.1 in
    let eb : z ∷ path ≡ y ∷ n ++ b.0 = b.1 in
    let ta : path ≡ m ++ a.0 = cc in
    let tb : path ≡ n ++ b.0 = cc in
    let r = shorter_begins path m n (a.0, ta) (b.0, tb) (omega arith) in
    let same : y ≡ x = cc in
    let tail : n ≡ m ++ r.0 = r.1 in
    (r.0, cc)

-- a beginning as long as the name is the name
pub same_length : (m n : List ℕ) → Begins n m → length m ≡ length n → m ≡ n
same_length [] [] b e = refl
same_length [] (y ∷ n) b e = absurd (omega arith)
same_length (x ∷ m) [] b e = absurd (omega arith)
same_length (x ∷ m) (y ∷ n) b e =
    let eb : y ∷ n ≡ x ∷ m ++ b.0 = b.1 in
    let tb : n ≡ m ++ b.0 = cc in
    let r : m ≡ n = same_length m n (b.0, tb) (omega arith) in
    cc

-- a beginning of a beginning is one
pub begins_on : (g n m : List ℕ) → Begins g n → Begins n m → Begins g m
begins_on g n m a b = (b.0 ++ a.0, a.1 ∙ ap (λ l. l ++ a.0) b.1 ∙ Rattle.std.proofs.Common.append_assoc m b.0 a.0)

-- the beginning of a path is no longer than the path
pub begins_short : (path name : List ℕ) → Begins path name → length name ≤ length path
begins_short path name b = omega (arith, ap length b.1, length-append name b.0)

-- how many givers have the name
abbrev pub name_times : List ℕ → List Giver → ℕ
name_times x parts = sum_by (λ a. one_if (same_name x a.name)) parts

-- how many times the name is given
abbrev pub given_times : List ℕ → List Giver → ℕ
given_times x parts = sum_by (λ a. times x a.given) parts

-- givers whose names are the root and all given names, each as often
pub record IsFamily (parts : List Giver) : Type 0 where
  pub each : (i : ℕ) (a : Giver) → slice_get parts i ≡ Some a → IsGiver a
  pub balance : (x : List ℕ) → name_times x parts ≡ one_if (same_name x []) + given_times x parts

-- a name that occurs once has one index
same_index : (parts : List Giver) (i j : ℕ) (a b : Giver) → slice_get parts i ≡ Some a → slice_get parts j ≡ Some b → a.name ≡ b.name → name_times b.name parts ≤ 1 → i ≡ j
same_index parts i j a b ei ej e once = ⊎_elim
    (λ s. s)
    (λ ne. absurd (omega (
      arith,
      two_le_sum (λ c. one_if (same_name b.name c.name)) parts i j a b ei ej ne,
      ap one_if (ap (same_name b.name) e ∙ same_self b.name),
      ap one_if (same_self b.name),
    )))
    (cases_eq i j)

-- no part gives a name beyond another part
between : (parts : List Giver) → IsFamily parts → (most : ℕ) → ((x : List ℕ) → length x < most → name_times x parts ≤ 1) → (fuel i j : ℕ) (a b : Giver) (g : List ℕ) →
    slice_get parts i ≡ Some a → slice_get parts j ≡ Some b → Contains a.given g → length g ≤ most → Begins g b.name → Begins b.name a.name →
    length a.name < length b.name → length b.name < length g → length g + length b.name ≤ fuel → ⊥
between parts family most once zero i j a b g ei ej c short gb ba lo hi enough = omega arith
between parts family most once (suc fuel) i j a b g ei ej c short gb ba lo hi enough =
    let here : 1 ≤ name_times b.name parts = omega (arith, at_le_sum (λ c. one_if (same_name b.name c.name)) parts j b ej, ap one_if (same_self b.name)) in
    let no_root : one_if (same_name b.name []) ≡ 0 = not_root b.name (omega arith) in
    let t = some_term (λ c. times b.name c.given) parts (omega (arith, family.balance b.name)) in
    let d : Giver = t.term in
    let isd = family.each t.index d t.stands in
    let gives : Contains d.given b.name = times_in b.name d.given t.some in
    let db : Begins b.name d.name = isd.begins b.name gives in
    let dlo : length d.name < length b.name = isd.longer b.name gives in
    ⊎_elim
    (λ e.
    let same : d.name ≡ a.name = same_length d.name a.name (shorter_begins b.name d.name a.name db ba (omega arith)) e in
    let at_same : t.index ≡ i = same_index parts t.index i d a t.stands ei same (once a.name (omega arith)) in
    let is_a : d ≡ a = same_Some d a (sym t.stands ∙ ap (slice_get parts) at_same ∙ ei) in
    let isa = family.each i a ei in
    let gives_a : Contains a.given b.name = subst (λ v. Contains v.given b.name) is_a gives in
    let q : g ≡ b.name = isa.apart g b.name c gives_a gb in
    omega (arith, ap length q))
    (λ o. ⊎_elim
    (λ lt. between parts family most once fuel t.index i d a b.name t.stands ei gives (omega arith) ba (shorter_begins b.name d.name a.name db ba (omega arith)) lt lo (omega arith))
    (λ gt. between parts family most once fuel i t.index a d g ei t.stands c short (begins_on g b.name d.name gb db) (shorter_begins b.name a.name d.name ba db (omega arith)) gt (omega arith) (omega arith))
    o)
    (cases_order (length d.name) (length a.name))
  where
    not_root : (x : List ℕ) → 0 < length x → one_if (same_name x []) ≡ 0
    not_root [] h = absurd (omega arith)
    not_root (x ∷ xs) h = refl

-- names shorter than a bound are had once
once_below : (parts : List Giver) → IsFamily parts → (most : ℕ) (x : List ℕ) → length x < most → name_times x parts ≤ 1
once_below parts family zero x h = absurd (omega arith)
once_below parts family (suc most) x h = ⊎_elim
    (λ le. le)
    (λ more. absurd (twice (λ y l. once_below parts family most y l) more))
    (cases_le (name_times x parts))
  where
    cases_le : (n : ℕ) → (n ≤ 1) ⊎ (2 ≤ n)
    cases_le n = ⊎_elim (λ l. inr l) (λ l. inl l) (cases_lt 1 n)

    at_most_one : (b : Bool) → one_if b ≤ 1
    at_most_one true = omega arith
    at_most_one false = omega arith

    root_not_given : (y : List ℕ) → x ≡ y → 1 ≤ given_times x parts → 1 ≤ one_if (same_name x []) → ⊥
    root_not_given y e some root =
        let t = some_term (λ c. times x c.given) parts some in
        let d : Giver = t.term in
        let isd = family.each t.index d t.stands in
        let l : length d.name < length x = isd.longer x (times_in x d.given t.some) in
        ⊎_elim (λ s. let q : x ≡ [] = same_is x [] s in omega (arith, ap length q)) (λ s. omega (arith, ap one_if s)) (cases_Bool (same_name x []))

    twice : ((y : List ℕ) → length y < most → name_times y parts ≤ 1) → 2 ≤ name_times x parts → ⊥
    twice once more =
        ⊎_elim
        (λ root. root_not_given x refl (omega (arith, family.balance x, at_most_one (same_name x []))) root)
        (λ other.
        let r = two_terms (λ c. times x c.given) parts (λ i a e. let isa = family.each i a e in isa.once x) (omega (arith, family.balance x)) in
        let s = r.one in let t = r.two in
        let a : Giver = s.term in
        let b : Giver = t.term in
        let isa = family.each s.index a s.stands in
        let isb = family.each t.index b t.stands in
        let ga : Contains a.given x = times_in x a.given s.some in
        let gb : Contains b.given x = times_in x b.given t.some in
        let ba : Begins x a.name = isa.begins x ga in
        let bb : Begins x b.name = isb.begins x gb in
        let la : length a.name < length x = isa.longer x ga in
        let lb : length b.name < length x = isb.longer x gb in
        ⊎_elim
        (λ e. r.differ (same_index parts s.index t.index a b s.stands t.stands (same_length a.name b.name (shorter_begins x a.name b.name ba bb (omega arith)) e) (once b.name (omega arith))))
        (λ o. ⊎_elim
        (λ lt. between parts family most once (length x + length b.name) s.index t.index a b x s.stands t.stands ga (omega arith) bb (shorter_begins x a.name b.name ba bb (omega arith)) lt lb (omega arith))
        (λ gt. between parts family most once (length x + length a.name) t.index s.index b a x t.stands s.stands gb (omega arith) ba (shorter_begins x b.name a.name bb ba (omega arith)) gt la (omega arith))
        o)
        (cases_order (length a.name) (length b.name)))
        (cases_lt 0 (one_if (same_name x [])))

-- each name is had once
pub each_once : (parts : List Giver) → IsFamily parts → (x : List ℕ) → name_times x parts ≤ 1
each_once parts family x = once_below parts family (suc (length x)) x (omega arith)
