-- Rows as the digits of a number to the base 16.
use Rattle.std.proofs.Common.{◌≡◌, ◌≢◌, ℕ, zero, suc, ◌+◌, ◌-◌, ◌*◌, ◌/◌, ◌%◌, ◌^◌, ◌<◌, ◌≤◌, ◌==◌, if◌then◌else◌, Bool, [], ◌∷◌, filter, refl, sym, ap, ◌∙◌, subst, arith}
use Rattle.std.proofs.Math.Nat.{pow-succ', pow-zero}
use Rattle.std.proofs.lemmas.Bool.{ne_eqb}
use Rattle.crp_bay.specs.Positions.{counted}
use Rattle.crp_search.specs.Frames.{digits}

-- a number of no more than so many digits has no more than these
digits_more : (k n : ℕ) → n < 16 ^ k → digits (suc k) n ≡ digits k n
digits_more zero zero lt = refl
digits_more zero (suc n) lt = absurd (omega (arith, pow-zero 16))
digits_more (suc k) n lt = ap (λ l. if n == 0 then [] else n % 16 ∷ l) (digits_more k (n / 16) (omega (arith, pow-succ' 16 k)))

-- it is below greater powers as well
fits : (more k n : ℕ) → n < 16 ^ k → n < 16 ^ (more + k)
fits zero k n lt = let e : 0 + k ≡ k = omega arith in subst (λ m. n < 16 ^ m) (sym e) lt
fits (suc more) k n lt =
    let e : suc more + k ≡ suc (more + k) = omega arith in
    subst (λ m. n < 16 ^ m) (sym e) (omega (arith, fits more k n lt, pow-succ' 16 (more + k)))

-- a number of few digits is small
pub digits_small : (k n : ℕ) → k ≤ 11 → n < 16 ^ k → n < 17592186044416
digits_small k n few lt =
    let e : 11 - k + k ≡ 11 = omega arith in
    let small : n < 16 ^ 11 = subst (λ m. n < 16 ^ m) e (fits (11 - k) k n lt) in
    small

-- one digit more is the first
pub digits_push : (k n row : ℕ) → k ≤ 11 → n < 16 ^ k → 1 ≤ row → row < 16 → digits 16 (n * 16 + row) ≡ row ∷ digits 16 n
digits_push k n row few lt some low =
    let small : n < 17592186044416 = digits_small k n few lt in
    let all : n < 16 ^ 15 = omega arith in
    let last : (n * 16 + row) % 16 ≡ row = omega arith in
    let rest : (n * 16 + row) / 16 ≡ n = omega arith in
    (rw (ne_eqb (n * 16 + row) 0 (λ e. absurd (omega arith))) refl) ∙ ap (λ d. d ∷ digits 15 ((n * 16 + row) / 16)) last ∙ ap (λ m. row ∷ digits 15 m) rest ∙ ap (λ l. row ∷ l) (sym (digits_more 15 n all))

-- the number grows by a digit
pub digits_grow : (k n row : ℕ) → n < 16 ^ k → row < 16 → n * 16 + row < 16 ^ (k + 1)
digits_grow k n row lt low = let e : k + 1 ≡ suc k = omega arith in subst (λ m. n * 16 + row < 16 ^ m) (sym e) (omega (arith, pow-succ' 16 k))

-- the first digit, and the others
pub digits_pop : (n : ℕ) → n ≢ 0 → n < 18446744073709551616 → digits 16 n ≡ n % 16 ∷ digits 16 (n / 16)
digits_pop n some small =
    let all : n / 16 < 16 ^ 15 = omega arith in
    (rw (ne_eqb n 0 some) refl) ∙ ap (λ l. n % 16 ∷ l) (sym (digits_more 15 (n / 16) all))

-- one row lower
pub filter_down : (p : ℕ → Bool) (row n : ℕ) → 1 ≤ row → row ≤ n →
    filter p (counted (row - 1 + 1) (n - (row - 1))) ≡ (if p row then row ∷ filter p (counted (row + 1) (n - row)) else filter p (counted (row + 1) (n - row)))
filter_down p row n some le =
    let from : row - 1 + 1 ≡ row = omega arith in
    let more : n - (row - 1) ≡ suc (n - row) = omega arith in
    let next : suc row ≡ row + 1 = omega arith in
    ap (λ f. filter p (counted f (n - (row - 1)))) from ∙ ap (λ m. filter p (counted row m)) more
    ∙ ap (λ f. if p row then row ∷ filter p (counted f (n - row)) else filter p (counted f (n - row))) next
