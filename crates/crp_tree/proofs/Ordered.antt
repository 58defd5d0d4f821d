-- The order of names is the order of lists that std's comparison computes.
use Rattle.std.proofs.Common.{◌≡◌, ◌≢◌, ℕ, ◌<◌, ◌⊎◌, inl, inr, ⊎_elim, IsTrue, true, ◌==◌, nat_eq, List, [], ◌∷◌, ◌++◌, refl, sym, ap, ◌∙◌, subst, arith}
use Rattle.std.specs.declared.cmp.Ordering.{Ordering}
use Rattle.std.specs.declared.cmp.Ordering.TheVariants.{Less, Equal, Greater}
use Rattle.std.specs.Ordering.{nat_cmp, ordering_then, MatchOrdering, is_lt}
use Rattle.std.specs.Cmp.Lexicographic.{pointwise, slice_cmp}
use Rattle.std.proofs.lemmas.Bool.{and_parts, and_from, eq-eqb, eqb-true}
use Rattle.std.proofs.lemmas.Cmp.{ranked, by_ranked, tied_itself, nat_cmp_total, nat_list_cmp_total}
use Rattle.crp_tree.specs.Names.{TurnsLower, Precedes}

-- a name stands before another that begins with the same row if the rest of it does
pub precedes_below : (row : ℕ) (name other : List ℕ) → Precedes name other → Precedes (row ∷ name) (row ∷ other)
precedes_below row name other p = ⊎_elim
    (λ g. inl (record { row = g.row; rest = g.rest; is = ap (λ l. row ∷ l) g.is }))
    (λ t. inr (record {
      common = row ∷ t.common;
      low = t.low;
      high = t.high;
      after_low = t.after_low;
      after_high = t.after_high;
      lower = t.lower;
      is_name = ap (λ l. row ∷ l) t.is_name;
      is_other = ap (λ l. row ∷ l) t.is_other;
    }))
    p

-- which of three answers it is
pub three : (o : Ordering) → (o ≡ Less) ⊎ ((o ≡ Equal) ⊎ (o ≡ Greater))
three Less = inl refl
three Equal = inr (inl refl)
three Greater = inr (inr refl)

-- what std's comparison answers of two names is so
pub compared : (name other : List ℕ) (o : Ordering) → o ≡ slice_cmp nat_cmp name other → MatchOrdering o (Precedes name other) (name ≡ other) (Precedes other name)
compared [] [] o e = subst (λ v. MatchOrdering v (Precedes [] []) (◌≡◌ {A = List ℕ} [] []) (Precedes [] [])) (sym e) refl
compared [] (y ∷ ys) o e = subst (λ v. MatchOrdering v (Precedes [] (y ∷ ys)) ([] ≡ y ∷ ys) (Precedes (y ∷ ys) [])) (sym e) (inl (record { row = y; rest = ys; is = refl }))
compared (x ∷ xs) [] o e = subst (λ v. MatchOrdering v (Precedes (x ∷ xs) []) (x ∷ xs ≡ []) (Precedes [] (x ∷ xs))) (sym e) (inl (record { row = x; rest = xs; is = refl }))
compared (x ∷ xs) (y ∷ ys) o e =
    let G : Ordering → Type 0 = λ v. MatchOrdering v (Precedes (x ∷ xs) (y ∷ ys)) (x ∷ xs ≡ y ∷ ys) (Precedes (y ∷ ys) (x ∷ xs)) in
    by_ranked (x < y) (x ≡ y) (y < x) (nat_cmp x y) (ranked x y (nat_cmp x y) refl)
    (λ k lt. subst G (sym (e ∙ ap (λ v. ordering_then v (slice_cmp nat_cmp xs ys)) k)) (inr (turn x y xs ys lt)))
    (λ k same. subst G (sym (e ∙ ap (λ v. ordering_then v (slice_cmp nat_cmp xs ys)) k)) (more x y xs ys same (slice_cmp nat_cmp xs ys) (compared xs ys (slice_cmp nat_cmp xs ys) refl)))
    (λ k gt. subst G (sym (e ∙ ap (λ v. ordering_then v (slice_cmp nat_cmp xs ys)) k)) (inr (turn y x ys xs gt)))
  where
    turn : (x y : ℕ) (xs ys : List ℕ) → x < y → TurnsLower (x ∷ xs) (y ∷ ys)
    turn x y xs ys lt = record { common = []; low = x; high = y; after_low = xs; after_high = ys; lower = lt; is_name = refl; is_other = refl }

    more : (x y : ℕ) (xs ys : List ℕ) → x ≡ y → (v : Ordering) → MatchOrdering v (Precedes xs ys) (xs ≡ ys) (Precedes ys xs) →
        MatchOrdering v (Precedes (x ∷ xs) (y ∷ ys)) (x ∷ xs ≡ y ∷ ys) (Precedes (y ∷ ys) (x ∷ xs))
    more x y xs ys same Less h = subst (λ z. Precedes (x ∷ xs) (z ∷ ys)) same (precedes_below x xs ys h)
    more x y xs ys same Equal h = cc
    more x y xs ys same Greater h = subst (λ z. Precedes (z ∷ ys) (x ∷ xs)) same (precedes_below x ys xs h)

-- a name that goes on from another is compared as coming after it
pub front_is_less : (name : List ℕ) (row : ℕ) (rest : List ℕ) → slice_cmp nat_cmp name (name ++ row ∷ rest) ≡ Less
front_is_less [] row rest = refl
front_is_less (x ∷ xs) row rest = ap (λ v. ordering_then v (slice_cmp nat_cmp xs (xs ++ row ∷ rest))) (tied_itself nat_cmp_total x) ∙ front_is_less xs row rest

-- a lower row after the same rows is compared as coming before
pub turn_is_less : (common : List ℕ) (low high : ℕ) (xs ys : List ℕ) → low < high → slice_cmp nat_cmp (common ++ low ∷ xs) (common ++ high ∷ ys) ≡ Less
turn_is_less [] low high xs ys lt = by_ranked (low < high) (low ≡ high) (high < low) (nat_cmp low high) (ranked low high (nat_cmp low high) refl)
    (λ k p. ap (λ v. ordering_then v (slice_cmp nat_cmp xs ys)) k)
    (λ k p. absurd (omega arith))
    (λ k p. absurd (omega arith))
turn_is_less (x ∷ common) low high xs ys lt =
    ap (λ v. ordering_then v (slice_cmp nat_cmp (common ++ low ∷ xs) (common ++ high ∷ ys))) (tied_itself nat_cmp_total x) ∙ turn_is_less common low high xs ys lt

-- so a name that comes before another is compared as coming before it
pub less_if : (name other : List ℕ) → Precedes name other → slice_cmp nat_cmp name other ≡ Less
less_if name other p = ⊎_elim
    (λ g. ap (slice_cmp nat_cmp name) g.is ∙ front_is_less name g.row g.rest)
    (λ t. ap (λ l. slice_cmp nat_cmp l other) t.is_name ∙ ap (slice_cmp nat_cmp (t.common ++ t.low ∷ t.after_low)) t.is_other
    ∙ turn_is_less t.common t.low t.high t.after_low t.after_high t.lower)
    p

-- and the other way round
pub less_means : (name other : List ℕ) → slice_cmp nat_cmp name other ≡ Less → Precedes name other
less_means name other e = subst (λ v. MatchOrdering v (Precedes name other) (name ≡ other) (Precedes other name)) e (compared name other (slice_cmp nat_cmp name other) refl)

-- no name comes before itself
pub not_itself : (name : List ℕ) → Precedes name name → ⊥
not_itself name p = let a = less_if name name p in let b = tied_itself nat_list_cmp_total name in cc

-- what comes before a second name comes before all that this comes before
pub goes_further : (a b c : List ℕ) → Precedes a b → Precedes b c → Precedes a c
goes_further a b c p q = less_means a c (nat_list_cmp_total.trans a b c (less_if a b p) (less_if b c q))

-- of two names one comes before the other
pub one_first : (a b : List ℕ) → a ≢ b → Precedes a b ⊎ Precedes b a
one_first a b ne = decide (slice_cmp nat_cmp a b) (compared a b (slice_cmp nat_cmp a b) refl)
  where
    decide : (v : Ordering) → MatchOrdering v (Precedes a b) (a ≡ b) (Precedes b a) → Precedes a b ⊎ Precedes b a
    decide Less h = inl h
    decide Equal h = absurd (ne h)
    decide Greater h = inr h

-- what the test of std's answer says
pub before_test : (name other : List ℕ) (o : Ordering) → o ≡ slice_cmp nat_cmp name other → (IsTrue (is_lt o) → Precedes name other) × (Precedes name other → IsTrue (is_lt o))
before_test name other o e =
    (λ t. less_means name other (sym e ∙ only_less o t), λ p. subst (λ v. IsTrue (is_lt v)) (sym (e ∙ less_if name other p)) refl)
  where
    only_less : (o : Ordering) → IsTrue (is_lt o) → o ≡ Less
    only_less Less t = refl
    only_less Equal t = cc
    only_less Greater t = cc

-- two lists that are equal row by row are the same
pub same_rows : (a b : List ℕ) → pointwise nat_eq a b ≡ true → a ≡ b
same_rows [] [] e = refl
same_rows [] (y ∷ ys) e = cc
same_rows (x ∷ xs) [] e = cc
same_rows (x ∷ xs) (y ∷ ys) e =
    let p = and_parts (x == y) (pointwise nat_eq xs ys) e in
    let first : x ≡ y = eqb-true x y p.0 in
    let rest : xs ≡ ys = same_rows xs ys p.1 in
    cc

-- and the other way round
pub rows_same : (a : List ℕ) → pointwise nat_eq a a ≡ true
rows_same [] = refl
rows_same (x ∷ xs) = and_from (x == x) (pointwise nat_eq xs xs) (eq-eqb x x refl) (rows_same xs)
