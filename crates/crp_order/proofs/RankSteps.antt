-- The ranks of containers by their names.
use Prim.Native.Nat.{zero}
use Rattle.std.proofs.Common.{◌≡◌, ◌≤◌, ◌<◌, ◌+◌, ◌-◌, ◌==◌, ℕ, suc, Bool, true, false, cond, List, [], ◌∷◌, length, get_or, refl, sym, ap, ◌∙◌, arith}
use Rattle.std.specs.Prelude.{slice_get, unwrap_or}
use Rattle.std.specs.Str.{bytes_eq}
use Rattle.std.proofs.lemmas.Bool.{ne_eqb}
use Rattle.std.proofs.Math.Dec.{eqb-suc-suc}
use Rattle.crp_yard.specs.Inventory.{times}
use Rattle.crp_yard.specs.Ranks.{name_of_rank}
use Rattle.crp_order.specs.BayProblems.{rank_in}
use Rattle.crp_order.proofs.Once.{same, itself, turned, one_if, here}

pub rank_low : (names : List (List ℕ)) (c : List ℕ) → 1 ≤ rank_in names c
rank_low [] c = omega arith
rank_low (n ∷ names) c = by (bytes_eq c n)
  where
    by : (b : Bool) → 1 ≤ cond b 1 (suc (rank_in names c))
    by true = omega arith
    by false = omega arith

pub rank_high : (names : List (List ℕ)) (c : List ℕ) → 1 ≤ times c names → rank_in names c ≤ length names
rank_high [] c some = absurd (omega arith)
rank_high (n ∷ names) c some = by (bytes_eq c n) some (rank_high names c)
  where
    by : (b : Bool) → 1 ≤ one_if b + times c names → (1 ≤ times c names → rank_in names c ≤ length names) → cond b 1 (suc (rank_in names c)) ≤ suc (length names)
    by true h later = omega arith
    by false h later = omega (arith, later (omega (arith, h)))

-- the container of a container's rank is that container
pub name_of-rank : (names : List (List ℕ)) (c : List ℕ) → 1 ≤ times c names → name_of_rank names (rank_in names c) ≡ c
name_of-rank [] c some = absurd (omega arith)
name_of-rank (n ∷ names) c some = by (bytes_eq c n) refl some (name_of-rank names c)
  where
    later : (r : ℕ) → 1 ≤ r → unwrap_or (slice_get (n ∷ names) (suc r - 1)) [] ≡ unwrap_or (slice_get names (r - 1)) []
    later r h = let e : suc r - 1 ≡ suc (r - 1) = omega arith in ap (λ k. unwrap_or (slice_get (n ∷ names) k) []) e

    by : (b : Bool) → bytes_eq c n ≡ b → 1 ≤ one_if b + times c names → (1 ≤ times c names → unwrap_or (slice_get names (rank_in names c - 1)) [] ≡ c)
        → unwrap_or (slice_get (n ∷ names) (cond b 1 (suc (rank_in names c)) - 1)) [] ≡ c
    by true e h rest = sym (same c n e)
    by false e h rest = later (rank_in names c) (rank_low names c) ∙ rest (omega (arith, h))

pub within : (names : List (List ℕ)) (k : ℕ) → k < length names → 1 ≤ times (get_or names k []) names
within [] k h = absurd (omega arith)
within (n ∷ names) zero h = here n names
within (n ∷ names) (suc k) h = omega (arith, within names k (omega arith))

-- the rank of a container is that of a place exactly where it stands there, if none stands in two places
pub rank_at : (names : List (List ℕ)) (c : List ℕ) (k : ℕ) → k < length names → ((d : List ℕ) → times d names ≤ 1)
    → (rank_in names c == suc k) ≡ bytes_eq (get_or names k []) c
rank_at [] c k h once = absurd (omega arith)
rank_at (n ∷ names) c zero h once = by (bytes_eq c n) refl
  where
    by : (b : Bool) → bytes_eq c n ≡ b → (cond b 1 (suc (rank_in names c)) == 1) ≡ bytes_eq n c
    by true e = sym (turned n c ∙ e)
    by false e = ne_eqb (suc (rank_in names c)) 1 (λ eq. absurd (omega (arith, rank_low names c))) ∙ sym (turned n c ∙ e)
rank_at (n ∷ names) c (suc k) h once = by (bytes_eq c n) refl (rank_at names c k (omega arith) (λ d. omega (arith, once d)))
  where
    other : (b : Bool) → bytes_eq (get_or names k []) c ≡ b → bytes_eq c n ≡ true → false ≡ b
    other false e is = refl
    other true e is =
        let first : get_or names k [] ≡ n = same (get_or names k []) c e ∙ same c n is in
        let twice : 1 ≤ times n names = rw (← first) (within names k (omega arith)) in
        let two : one_if (bytes_eq n n) + times n names ≤ 1 = once n in
        absurd (omega (arith, twice, two, ap one_if (itself n)))

    by : (b : Bool) → bytes_eq c n ≡ b → (rank_in names c == suc k) ≡ bytes_eq (get_or names k []) c
        → (cond b 1 (suc (rank_in names c)) == suc (suc k)) ≡ bytes_eq (get_or names k []) c
    by true e later = ne_eqb 1 (suc (suc k)) (λ eq. absurd (omega arith)) ∙ other (bytes_eq (get_or names k []) c) refl e
    by false e later = eqb-suc-suc (rank_in names c) (suc k) ∙ later
