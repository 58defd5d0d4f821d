-- Sums over numbers from 1 and over lists, where a term stands at one place.
use Prim.Native.Nat.{zero}
use Rattle.std.proofs.Common.{◌≡◌, ◌<◌, ◌≤◌, ◌+◌, ℕ, suc, Bool, true, false, List, [], ◌∷◌, refl, arith}
use Rattle.std.specs.Prelude.{if◌then◌else◌, ◌==◌}
use Rattle.std.proofs.lemmas.Bool.{eqb-true}

-- the sum of f from 1 to n
abbrev pub up_sum : (ℕ → ℕ) → ℕ → ℕ
up_sum f zero = 0
up_sum f (suc n) = up_sum f n + f (suc n)

-- the sum of f over a list
abbrev pub list_sum : {X : Type 0} → (X → ℕ) → List X → ℕ
list_sum f [] = 0
list_sum f (x ∷ xs) = f x + list_sum f xs

-- the number where the test holds, and else 0
abbrev pub when : Bool → ℕ → ℕ
when b n = if b then n else 0

pub up_split : (f g h : ℕ → ℕ) → ((k : ℕ) → f k ≤ g k + h k) → (n : ℕ) → up_sum f n ≤ up_sum g n + up_sum h n
up_split f g h each zero = omega arith
up_split f g h each (suc n) = omega (arith, up_split f g h each n, each (suc n))

pub up_below : (f g : ℕ → ℕ) → ((k : ℕ) → f k ≤ g k) → (n : ℕ) → up_sum f n ≤ up_sum g n
up_below f g each zero = omega arith
up_below f g each (suc n) = omega (arith, up_below f g each n, each (suc n))

pub list_split : {X : Type 0} (f g h : X → ℕ) → ((x : X) → f x ≤ g x + h x) → (xs : List X) → list_sum f xs ≤ list_sum g xs + list_sum h xs
list_split f g h each [] = omega arith
list_split f g h each (x ∷ xs) = omega (arith, list_split f g h each xs, each x)

pub list_below : {X : Type 0} (f g : X → ℕ) → ((x : X) → f x ≤ g x) → (xs : List X) → list_sum f xs ≤ list_sum g xs
list_below f g each [] = omega arith
list_below f g each (x ∷ xs) = omega (arith, list_below f g each xs, each x)

pub up_none : (n : ℕ) → up_sum (λ _. 0) n ≡ 0
up_none zero = refl
up_none (suc n) = omega (arith, up_none n)

-- before the place there is nothing, and there is at most one such place
one_place : (k w n : ℕ) → (n < k → up_sum (λ t. when (t == k) w) n ≡ 0) × (up_sum (λ t. when (t == k) w) n ≤ w)
one_place k w zero = (λ h. refl, omega arith)
one_place k w (suc n) = by (suc n == k) refl (one_place k w n)
  where
    by : (b : Bool) → (suc n == k) ≡ b → (n < k → up_sum (λ t. when (t == k) w) n ≡ 0) × (up_sum (λ t. when (t == k) w) n ≤ w)
        → (suc n < k → up_sum (λ t. when (t == k) w) n + when (suc n == k) w ≡ 0) × (up_sum (λ t. when (t == k) w) n + when (suc n == k) w ≤ w)
    by true e h =
        let same : suc n ≡ k = eqb-true (suc n) k e in
        let before : up_sum (λ t. when (t == k) w) n ≡ 0 = h.0 (omega arith) in
        rw e (λ past. absurd (omega arith), omega (arith, before))
    by false e h = rw e (λ past. let before : up_sum (λ t. when (t == k) w) n ≡ 0 = h.0 (omega arith) in omega (arith, before), omega (arith, h.1))

pub at_one_place : (k w n : ℕ) → up_sum (λ t. when (t == k) w) n ≤ w
at_one_place k w n = (one_place k w n).1

pub below_then : {a b c : ℕ} → a ≤ b → b ≤ c → a ≤ c
below_then h k = omega arith
