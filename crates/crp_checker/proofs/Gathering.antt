-- What is kept of the names that parts give.
use Rattle.std.proofs.Common.{◌≡◌, ℕ, ◌≤◌, ◌↔◌, ◌⊎◌, inl, inr, ⊎_elim, Bool, true, false, not, List, [], ◌∷◌, ◌++◌, length, filter, Contains, Option, Some, None, refl, sym, ap, ◌∙◌, subst, append-nil}
use Rattle.std.specs.Ordering.{is_lt, MatchOrdering}
use Rattle.std.specs.declared.cmp.Ordering.{Ordering}
use Rattle.std.specs.declared.cmp.Ordering.TheVariants.{Less, Equal, Greater}
use Rattle.std.proofs.lemmas.Bool.{le-leb, leb-true}
use Rattle.std.proofs.lemmas.List.Elements.{filter-append}
use Rattle.crp_bay.proofs.Members.{not_in_nil, in_cons_cases, in_head, in_tail, in_filter, from_filter}
use Rattle.crp_tree.specs.Names.{Precedes, IsFirst}
use Rattle.crp_tree.specs.Claims.{IsRootOrGiven}
use Rattle.crp_tree.proofs.Ordered.{compared, less_if, goes_further}
use Rattle.crp_tree.proofs.InOrder.{name_cmp, first_of_two}
use Rattle.crp_checker.specs.Gathered.{Gathered, is_short, is_longer, first_with, first_of_both, first_in, gathered, joined}
use Rattle.crp_checker.specs.Needs.{IsWithoutPart}

-- ---- the first of two names

-- a test that passes says so
before_means : (name other : List ℕ) → is_lt (name_cmp name other) ≡ true → Precedes name other
before_means name other e = decide (name_cmp name other) (compared name other (name_cmp name other) refl) e
  where
    decide : (o : Ordering) → MatchOrdering o (Precedes name other) (name ≡ other) (Precedes other name) → is_lt o ≡ true → Precedes name other
    decide Less h e = h
    decide Equal h e = absurd (cc)
    decide Greater h e = absurd (cc)

takes : (other name : List ℕ) → is_lt (name_cmp other name) ≡ true → first_with name (Some other) ≡ other
takes other name e = rw e refl

keeps : (other name : List ℕ) → is_lt (name_cmp other name) ≡ false → first_with name (Some other) ≡ name
keeps other name e = rw e refl

-- of a test it is known which it is
by_test : {A : Type 0} (b : Bool) → (b ≡ true → A) → (b ≡ false → A) → A
by_test true y n = y refl
by_test false y n = n refl

-- where a second does not stand before a first, nor a third before the second, the third does not stand before the first
not_before : (x y z : List ℕ) → is_lt (name_cmp z y) ≡ false → is_lt (name_cmp y x) ≡ false → is_lt (name_cmp z x) ≡ false
not_before x y z e f = by_test (is_lt (name_cmp z x))
    (λ t. absurd (⊎_elim
    (λ same. let g : is_lt (name_cmp z x) ≡ false = subst (λ v. is_lt (name_cmp v x) ≡ false) (sym same) f in cc)
    (λ above. let p = goes_further y z x above (before_means z x t) in let less = ap is_lt (less_if y x p) in cc)
    (first_of_two y z e)))
    (λ n. n)

first_of_three : (x y z : List ℕ) → first_with x (Some (first_with y (Some z))) ≡ first_with (first_with x (Some y)) (Some z)
first_of_three x y z = by_test (is_lt (name_cmp z y))
    (λ e. by_test (is_lt (name_cmp y x))
    (λ f.
    let g : is_lt (name_cmp z x) ≡ true = ap is_lt (less_if z x (goes_further z y x (before_means z y e) (before_means y x f))) in
    ap (λ w. first_with x (Some w)) (takes z y e) ∙ takes z x g ∙ sym (ap (λ v. first_with v (Some z)) (takes y x f) ∙ takes z y e))
    (λ f. ap (λ w. first_with x (Some w)) (takes z y e) ∙ sym (ap (λ v. first_with v (Some z)) (keeps y x f))))
    (λ e. by_test (is_lt (name_cmp y x))
    (λ f. ap (λ w. first_with x (Some w)) (keeps z y e) ∙ takes y x f ∙ sym (ap (λ v. first_with v (Some z)) (takes y x f) ∙ keeps z y e))
    (λ f. ap (λ w. first_with x (Some w)) (keeps z y e) ∙ keeps y x f ∙ sym (ap (λ v. first_with v (Some z)) (keeps y x f) ∙ keeps z x (not_before x y z e f))))

-- ---- names that are joined

regrouped : (x : List ℕ) (a b : Option (List ℕ)) → Some (first_with x (first_of_both a b)) ≡ first_of_both (Some (first_with x a)) b
regrouped x None b = refl
regrouped x (Some y) None = refl
regrouped x (Some y) (Some z) = ap Some (first_of_three x y z)

first_joined : (xs ys : List (List ℕ)) → first_in (xs ++ ys) ≡ first_of_both (first_in xs) (first_in ys)
first_joined [] ys = refl
first_joined (x ∷ xs) ys = ap (λ o. Some (first_with x o)) (first_joined xs ys) ∙ regrouped x (first_in xs) (first_in ys)

-- the same parts are the same whole
pub same_kept : (s t : List (List ℕ)) (a b : Option (List ℕ)) → s ≡ t → a ≡ b → ◌≡◌ {A = Gathered} (record { short = s; longer = a }) (record { short = t; longer = b })
same_kept s t a b e f = rw (e, f) refl

-- what is kept of some names and of others is kept of all of them
pub gathered_joined : (xs ys : List (List ℕ)) → gathered (xs ++ ys) ≡ joined (gathered xs) (gathered ys)
gathered_joined xs ys =
    same_kept _ _ _ _ (filter-append is_short xs ys)
    (ap first_in (filter-append is_longer xs ys) ∙ first_joined (filter is_longer xs) (filter is_longer ys))

pub none_behind : (a : Option (List ℕ)) → first_of_both a None ≡ a
none_behind None = refl
none_behind (Some x) = refl

-- no names more
pub joined_none : (kept : Gathered) → joined kept (gathered []) ≡ kept
joined_none kept = same_kept _ _ _ _ (append-nil kept.short) (none_behind kept.longer)

-- one name of at most 8 rows more
pub short_kept : (kept : Gathered) (name : List ℕ) → length name ≤ 8 → joined kept (gathered (name ∷ [])) ≡ record { short = kept.short ++ name ∷ []; longer = kept.longer }
short_kept kept name le = let e : is_short name ≡ true = le-leb (length name) 8 le in rw e (same_kept _ _ _ _ refl (none_behind kept.longer))

-- one longer name more
pub longer_kept : (kept : Gathered) (name : List ℕ) → (length name ≤ 8 → ⊥) → joined kept (gathered (name ∷ [])) ≡ record { short = kept.short; longer = first_of_both kept.longer (Some name) }
longer_kept kept name not' = by_test (is_short name)
    (λ t. absurd (not' (leb-true (length name) 8 t)))
    (λ e. rw e (same_kept _ _ _ _ (append-nil kept.short) refl))

-- ---- the first of names

-- what stands behind a second stands behind a first that it does not stand before
behind : (x m other : List ℕ) → (m ≡ x) ⊎ Precedes x m → (other ≡ m) ⊎ Precedes m other → (other ≡ x) ⊎ Precedes x other
behind x m other (inl e) (inl f) = inl (f ∙ e)
behind x m other (inl e) (inr p) = inr (subst (λ v. Precedes v other) e p)
behind x m other (inr p) (inl f) = inr (subst (Precedes x) (sym f) p)
behind x m other (inr p) (inr q) = inr (goes_further x m other p q)

-- it is one of them, and each is the same or comes after it
pub first_is : (x : List ℕ) (xs : List (List ℕ)) → IsFirst (Contains (x ∷ xs)) (first_with x (first_in xs))
first_is x [] = record { holds = in_head x []; first = λ other c. ⊎_elim (λ e. inl (sym e)) (λ n. absurd (not_in_nil other n)) (in_cons_cases x [] other c) }
first_is x (y ∷ ys) =
    let m = first_with y (first_in ys) in
    let r = first_is y ys in
    by_test (is_lt (name_cmp m x))
    (λ t.
    subst (IsFirst (Contains (x ∷ y ∷ ys))) (sym (takes m x t))
    (record {
      holds = in_tail x (y ∷ ys) m r.holds;
      first = λ other c. ⊎_elim (λ e. inr (subst (Precedes m) e (before_means m x t))) (λ n. r.first other n) (in_cons_cases x (y ∷ ys) other c);
    }))
    (λ f.
    subst (IsFirst (Contains (x ∷ y ∷ ys))) (sym (keeps m x f))
    (record {
      holds = in_head x (y ∷ ys);
      first = λ other c. ⊎_elim (λ e. inl (sym e)) (λ n. behind x m other (first_of_two x m f) (r.first other n)) (in_cons_cases x (y ∷ ys) other c);
    }))

first_some : (xs : List (List ℕ)) (l : List ℕ) → first_in xs ≡ Some l → IsFirst (Contains xs) l
first_some [] l e = absurd (cc)
first_some (x ∷ xs) l e = let same : first_with x (first_in xs) ≡ l = cc in subst (IsFirst (Contains (x ∷ xs))) same (first_is x xs)

first_none : (xs : List (List ℕ)) (x : List ℕ) → first_in xs ≡ None → Contains xs x → ⊥
first_none [] x e c = not_in_nil x c
first_none (y ∷ ys) x e c = absurd (cc)

-- ---- names that are needed, and what is kept of them

-- a needed name is short, or among the longer ones
needed_cases : (list : List (List ℕ)) (name : List ℕ) → IsRootOrGiven list name → IsRootOrGiven (filter is_short list) name ⊎ Contains (filter is_longer list) name
needed_cases list name (inl root) = inl (inl root)
needed_cases list name (inr c) = by_test (is_short name)
    (λ t. inl (inr (in_filter is_short list name c t)))
    (λ f. inr (in_filter is_longer list name c (ap not f)))

pub short_needed : (list : List (List ℕ)) (name : List ℕ) → IsRootOrGiven (filter is_short list) name → IsRootOrGiven list name
short_needed list name (inl root) = inl root
short_needed list name (inr c) = inr (from_filter is_short list name c).1

longer_needed : (list : List (List ℕ)) (name : List ℕ) → Contains (filter is_longer list) name → IsRootOrGiven list name
longer_needed list name c = inr (from_filter is_longer list name c).1

-- no part has a longer name
longer_without : (names list : List (List ℕ)) (name : List ℕ) → ((n : List ℕ) → Contains names n → length n ≤ 8) → Contains (filter is_longer list) name → IsWithoutPart names list name
longer_without names list name low c = (
  longer_needed list name c,
  λ held.
      let yes' : is_short name ≡ true = le-leb (length name) 8 (low name held) in
      let no' : not (is_short name) ≡ true = (from_filter is_longer list name c).0 in
      absurd (cc),
)

-- what has no part is short, or longer
without_cases : (names list : List (List ℕ)) (name : List ℕ) → IsWithoutPart names list name → IsWithoutPart names (filter is_short list) name ⊎ Contains (filter is_longer list) name
without_cases names list name w = ⊎_elim (λ short. inl (short, w.1)) (λ longer. inr longer) (needed_cases list name w.0)

-- the first name without a part, where the first of the short ones is known
pub first_missing : (names list : List (List ℕ)) (s : List ℕ) (longer : Option (List ℕ)) → ((n : List ℕ) → Contains names n → length n ≤ 8) → longer ≡ first_in (filter is_longer list) →
    IsFirst (IsWithoutPart names (filter is_short list)) s → IsFirst (IsWithoutPart names list) (first_with s longer)
first_missing names list s None low e is = record {
  holds = (short_needed list s is.holds.0, is.holds.1);
  first = λ other w. ⊎_elim (λ short. is.first other short) (λ long. absurd (first_none (filter is_longer list) other (sym e) long)) (without_cases names list other w);
}
first_missing names list s (Some l) low e is =
    let long = first_some (filter is_longer list) l (sym e) in
    by_test (is_lt (name_cmp l s))
    (λ t.
    subst (IsFirst (IsWithoutPart names list)) (sym (takes l s t))
    (record {
      holds = longer_without names list l low long.holds;
      first = λ other w. ⊎_elim
          (λ short. ⊎_elim (λ same. inr (subst (Precedes l) (sym same) (before_means l s t))) (λ p. inr (goes_further l s other (before_means l s t) p)) (is.first other short))
          (λ c. long.first other c)
          (without_cases names list other w);
    }))
    (λ f.
    subst (IsFirst (IsWithoutPart names list)) (sym (keeps l s f))
    (record {
      holds = (short_needed list s is.holds.0, is.holds.1);
      first = λ other w. ⊎_elim (λ short. is.first other short) (λ c. behind s l other (first_of_two s l f) (long.first other c)) (without_cases names list other w);
    }))

-- where no short name is without a part, the first of the longer ones is
pub longer_missing : (names list : List (List ℕ)) (l : List ℕ) → ((n : List ℕ) → Contains names n → length n ≤ 8) → Some l ≡ first_in (filter is_longer list) →
    ((other : List ℕ) → IsWithoutPart names (filter is_short list) other → ⊥) → IsFirst (IsWithoutPart names list) l
longer_missing names list l low e none =
    let long = first_some (filter is_longer list) l (sym e) in
    record {
      holds = longer_without names list l low long.holds;
      first = λ other w. ⊎_elim (λ short. absurd (none other short)) (λ c. long.first other c) (without_cases names list other w);
    }

-- where none is longer, the needed names are the short ones
pub needed_short : (list needed : List (List ℕ)) → None ≡ first_in (filter is_longer list) → ((name : List ℕ) → Contains needed name ↔ IsRootOrGiven (filter is_short list) name) →
    (name : List ℕ) → Contains needed name ↔ IsRootOrGiven list name
needed_short list needed e all name = (
  λ c. short_needed list name ((all name).0 c),
  λ n. (all name).1 (⊎_elim (λ short. short) (λ c. absurd (first_none (filter is_longer list) name (sym e) c)) (needed_cases list name n)),
)
