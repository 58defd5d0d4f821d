-- Numbers below a bound that pass a test.
use Prim.Native.Nat.{zero}
use Rattle.std.proofs.Common.{◌≡◌, ◌≢◌, ℕ, suc, ◌+◌, ◌≤◌, ◌<◌, Bool, true, false, cond, refl, sym, ap, ◌∙◌, inl, inr, arith}
use Rattle.crp_movins.specs.LoadOrders.{count_below}

cond-bound : (b : Bool) (n m : ℕ) → n ≤ m → cond b (n + 1) n ≤ m + 1
cond-bound true n m h = omega arith
cond-bound false n m h = omega arith

pub count_below-bound : (test : ℕ → Bool) (n : ℕ) → count_below test n ≤ n
count_below-bound test zero = omega arith
count_below-bound test (suc n) = omega (arith, cond-bound (test n) (count_below test n) n (count_below-bound test n))

-- tests that agree count the same
pub count_below-same : (p q : ℕ → Bool) (n : ℕ) → ((j : ℕ) → j < n → p j ≡ q j) → count_below p n ≡ count_below q n
count_below-same p q zero h = refl
count_below-same p q (suc n) h =
    let here : p n ≡ q n = h n (omega arith) in
    let before : count_below p n ≡ count_below q n = count_below-same p q n (λ j below. h j (omega arith)) in
    rw (here, before) refl

-- a test that fails at one number more counts one less
pub count_below-without : (p q : ℕ → Bool) (g n : ℕ) → g < n → p g ≡ true → q g ≡ false → ((j : ℕ) → j ≢ g → q j ≡ p j) → count_below p n ≡ count_below q n + 1
count_below-without p q g zero below holds fails same = absurd (omega arith)
count_below-without p q g (suc n) below holds fails same =
    elim (Rattle.std.proofs.lemmas.Bool.cases_eq n g) [
      | inl e ↦
          let before : count_below p n ≡ count_below q n = count_below-same p q n (λ j h. sym (same j (λ eq. absurd (omega arith)))) in
          let yes_here : p n ≡ true = ap p e ∙ holds in
          let no_here : q n ≡ false = ap q e ∙ fails in
          rw (yes_here, no_here, before) refl
      | inr ne ↦
          let here : q n ≡ p n = same n ne in
          let before : count_below p n ≡ count_below q n + 1 = count_below-without p q g n (omega arith) holds fails same in
          rw (here, before) (one-more (p n) (count_below q n))
    ]
  where
    one-more : (b : Bool) (n : ℕ) → cond b (n + 1 + 1) (n + 1) ≡ cond b (n + 1) n + 1
    one-more true n = refl
    one-more false n = refl
