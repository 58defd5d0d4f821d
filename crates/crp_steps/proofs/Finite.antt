-- What is decided: properties of numbers, and whether one of finitely many things has a property.
use Rattle.std.proofs.Common.{◌≡◌, ◌↔◌, ℕ, zero, suc, ◌<◌, ◌≤◌, ◌⊎◌, inl, inr, ⊎_elim, Bool, true, List, [], ◌∷◌, length, Contains, refl, sym, subst, arith}
use Rattle.std.specs.List.{AllByRecursion}
use Rattle.std.proofs.lemmas.Bool.{cases_eq, cases_lt, cases_Bool}
use Rattle.crp_bay.proofs.Members.{not_in_nil, in_head, in_tail, in_cons_cases}

-- it holds, or it cannot
abbrev pub IsDecided : Type 0 → Type 0
IsDecided P = P ⊎ (P → ⊥)

pub same_decided : (P Q : Type 0) → P ↔ Q → IsDecided P → IsDecided Q
same_decided P Q e d = ⊎_elim (λ p. inl (e.0 p)) (λ no. inr (λ q. no (e.1 q))) d

pub both_or_not : (P Q : Type 0) → IsDecided P → IsDecided Q → IsDecided (P × Q)
both_or_not P Q p q = ⊎_elim (λ x. ⊎_elim (λ y. inl (x, y)) (λ no. inr (λ z. no z.1)) q) (λ no. inr (λ z. no z.0)) p

pub three_or_not : (P Q R : Type 0) → IsDecided P → IsDecided Q → IsDecided R → IsDecided (P × Q × R)
three_or_not P Q R p q r = same_decided (P × (Q × R)) (P × Q × R) (λ z. let y = z.1 in (z.0, y.0, y.1), λ z. (z.0, (z.1, z.2))) (both_or_not P (Q × R) p (both_or_not Q R q r))

pub either_or_not : (P Q : Type 0) → IsDecided P → IsDecided Q → IsDecided (P ⊎ Q)
either_or_not P Q p q = ⊎_elim (λ x. inl (inl x)) (λ no. ⊎_elim (λ y. inl (inr y)) (λ neither. inr (λ z. ⊎_elim no neither z)) q) p

pub eq_or_not : (a b : ℕ) → IsDecided (a ≡ b)
eq_or_not a b = cases_eq a b

pub le_or_not : (a b : ℕ) → IsDecided (a ≤ b)
le_or_not a b = ⊎_elim (λ lt. inr (λ le. omega arith)) (λ le. inl le) (cases_lt b a)

pub lt_or_not : (a b : ℕ) → IsDecided (a < b)
lt_or_not a b = ⊎_elim (λ lt. inl lt) (λ ge. inr (λ lt. omega arith)) (cases_lt a b)

pub true_or_not : (b : Bool) → IsDecided (b ≡ true)
true_or_not b = ⊎_elim (λ t. inl t) (λ f. inr (λ t. cc)) (cases_Bool b)

-- of all numbers up to one
pub up_to : (P : ℕ → Type 0) → ((x : ℕ) → IsDecided (P x)) → (n : ℕ) → IsDecided ((x : ℕ) → x ≤ n → P x)
up_to P d zero = ⊎_elim (λ p. inl (λ x le. let e : 0 ≡ x = omega arith in subst P e p)) (λ no. inr (λ all. no (all 0 (omega arith)))) (d 0)
up_to P d (suc n) = ⊎_elim
    (λ less. ⊎_elim
    (λ p. inl (λ x le. ⊎_elim (λ lt. less x (omega arith)) (λ ge. let e : suc n ≡ x = omega arith in subst P e p) (cases_lt x (suc n))))
    (λ no. inr (λ all. no (all (suc n) (omega arith))))
    (d (suc n)))
    (λ no. inr (λ all. no (λ x le. all x (omega arith))))
    (up_to P d n)

-- of all of a list
pub all_or_not : {X : Type 0} (P : X → Type 0) → ((x : X) → IsDecided (P x)) → (xs : List X) → IsDecided (AllByRecursion P xs)
all_or_not P d [] = inl tt
all_or_not P d (x ∷ xs) = both_or_not (P x) (AllByRecursion P xs) (d x) (all_or_not P d xs)

-- one of these has the property
pub record Found {X : Type 0} (V Q : X → Type 0) : Type 0 where
  pub it : X
  pub is : V it
  pub has : Q it

-- these are finitely many
abbrev pub IsFinite : {X : Type 0} → (X → Type 0) → Type 1
IsFinite {X} V = (Q : X → Type 0) → ((x : X) → IsDecided (Q x)) → IsDecided (Found V Q)

-- the members of a list
pub finite_members : {X : Type 0} (xs : List X) → IsFinite (Contains xs)
finite_members [] Q d = inr (λ z. not_in_nil z.it z.is)
finite_members (x ∷ xs) Q d = ⊎_elim
    (λ q. inl (record { it = x; is = in_head x xs; has = q }))
    (λ no. ⊎_elim
    (λ z. inl (record { it = z.it; is = in_tail x xs z.it z.is; has = z.has }))
    (λ none. inr (λ z. ⊎_elim (λ e. no (subst Q (sym e) z.has)) (λ c. none (record { it = z.it; is = c; has = z.has })) (in_cons_cases x xs z.it z.is)))
    (finite_members xs Q d))
    (d x)

-- lists of finitely many things, of at most this length
abbrev pub AreShort : {X : Type 0} → (X → Type 0) → ℕ → List X → Type 0
AreShort V n xs = (length xs ≤ n) × AllByRecursion V xs

pub finite_lists : {X : Type 0} (V : X → Type 0) → IsFinite V → (n : ℕ) → IsFinite (AreShort V n)
finite_lists {X} V f zero Q d = ⊎_elim
    (λ q. inl (record { it = []; is = (omega arith, tt); has = q }))
    (λ no. inr (λ z. no (subst Q (nothing z.it z.is.0) z.has)))
    (d [])
  where
    nothing : (xs : List X) → length xs ≤ 0 → xs ≡ []
    nothing [] le = refl
    nothing (x ∷ xs) le = absurd (omega arith)
finite_lists {X} V f (suc n) Q d = ⊎_elim
    (λ q. inl (record { it = []; is = (omega arith, tt); has = q }))
    (λ no. ⊎_elim
    (λ z. let r = z.has in inl (record { it = z.it ∷ r.it; is = (let le = r.is.0 in omega arith, (z.is, r.is.1)); has = r.has }))
    (λ none. inr (λ z. split no none z.it z.is z.has))
    (f (λ x. Found (AreShort V n) (λ xs. Q (x ∷ xs))) (λ x. finite_lists V f n (λ xs. Q (x ∷ xs)) (λ xs. d (x ∷ xs)))))
    (d [])
  where
    split : (Q [] → ⊥) → (Found V (λ x. Found (AreShort V n) (λ xs. Q (x ∷ xs))) → ⊥) → (xs : List X) → AreShort V (suc n) xs → Q xs → ⊥
    split never none [] short q = never q
    split never none (x ∷ xs) short q = none (record { it = x; is = short.1.0; has = record { it = xs; is = (let le = short.0 in omega arith, short.1.1); has = q } })
