-- Bays of the ship that cover one cell.
use Rattle.std.proofs.Common.{◌≡◌, ◌<◌, ◌+◌, ◌%◌, ℕ, ◌⊎◌, refl, inl, inr, arith}
use Rattle.std.specs.Int.{abs_diff}
use Rattle.std.proofs.lemmas.Bool.{cases_eq}
use Rattle.crp_order.specs.Slots.{Covers, ShareCell}

touch : (a b : ℕ) → abs_diff a b < 2 → (a ≡ b) ⊎ (a + 1 ≡ b) ⊎ (a ≡ b + 1)
touch a b h =
    elim (cases_eq a b) [
      | inl e ↦ inl e
      | inr ne ↦ elim (cases_eq (a + 1) b) [ inl e ↦ inr (inl e) | inr other ↦ inr (inr (omega arith)) ]
    ]

-- bays that are one apart, or the same
pub share_near : (a b : ℕ) → abs_diff a b < 2 → ShareCell a b
share_near a b h =
    elim (cases_eq (a % 2) 1) [
      | inl odd ↦ (a, (odd, inl refl), (odd, touch a b h))
      | inr even ↦ elim (cases_eq (b % 2) 1) [
        | inl odd ↦ (b, (odd, touch b a (omega arith)), (odd, inl refl))
        | inr too ↦ let odd : (a + 1) % 2 ≡ 1 = omega arith in let same : a + 1 ≡ b + 1 = omega arith in (a + 1, (odd, inr (inr refl)), (odd, inr (inr same)))
      ]
    ]

-- even bays that are two apart
pub share_between : (a b : ℕ) → abs_diff a b ≡ 2 → a % 2 ≡ 0 → ShareCell a b
share_between a b h even =
    elim (cases_eq (a + 2) b) [
      | inl e ↦ let odd : (a + 1) % 2 ≡ 1 = omega arith in let before : a + 1 + 1 ≡ b = omega arith in (a + 1, (odd, inr (inr refl)), (odd, inr (inl before)))
      | inr ne ↦ let odd : (b + 1) % 2 ≡ 1 = omega arith in let before : b + 1 + 1 ≡ a = omega arith in (b + 1, (odd, inr (inl before)), (odd, inr (inr refl)))
    ]

-- an odd bay covers itself alone
odd_alone : (bay cell : ℕ) → bay % 2 ≡ 1 → Covers bay cell → cell ≡ bay
odd_alone bay cell odd covers =
    let is_cell : cell % 2 ≡ 1 = covers.0 in
    elim covers.1 [ inl e ↦ e | inr next ↦ elim next [ inl e ↦ absurd (omega arith) | inr e ↦ absurd (omega arith) ] ]

pub share_even : (a b : ℕ) → abs_diff a b ≡ 2 → ShareCell a b → a % 2 ≡ 0
share_even a b h shared =
    elim (cases_eq (a % 2) 1) [
      | inl odd ↦
          let first : shared.0 ≡ a = odd_alone a shared.0 odd shared.1 in
          let second : shared.0 ≡ b = odd_alone b shared.0 (omega arith) shared.2 in
          absurd (omega (arith, first, second))
      | inr even ↦ omega arith
    ]
