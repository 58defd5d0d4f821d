-- What the first fault means.
use Prim.Native.Nat.{zero}
use Rattle.std.proofs.Common.{◌≡◌, ℕ, suc, ◌<◌, ◌≤◌, List, Option, Some, None, refl, sym, subst, inl, inr, arith}
use Rattle.std.specs.Prelude.{◌⊎◌}
use Rattle.std.proofs.lemmas.Bool.{cases_eq}
use Rattle.std.specs.Option.{option_or}
use Rattle.crp_sizes.specs.Sizes.{YardSizes}
use Rattle.crp_yard.specs.declared.fault.YardFault.{YardFault}
use Rattle.crp_yard.specs.Faults.{fault_at, first_fault_up_to}

pub neither : (first second : Option YardFault) → option_or first second ≡ None → (first ≡ None) × (second ≡ None)
neither None second h = (refl, h)
neither (Some fault) second h = absurd (cc)

pub either : (first second : Option YardFault) (fault : YardFault) → option_or first second ≡ Some fault → (first ≡ Some fault) ⊎ ((first ≡ None) × (second ≡ Some fault))
either None second fault h = inr (refl, h)
either (Some faulty) second fault h = inl h

pub faultless-up_to : (sizes : YardSizes) (records : List (List (List ℕ))) (n : ℕ) → first_fault_up_to sizes records n ≡ None → (k : ℕ) → 1 ≤ k → k ≤ n → fault_at sizes records k ≡ None
faultless-up_to sizes records zero h k counts within = absurd (omega arith)
faultless-up_to sizes records (suc n) h k counts within =
    let parts = neither (first_fault_up_to sizes records n) (fault_at sizes records (suc n)) h in
    elim (cases_eq k (suc n)) [
      | inl e ↦ subst (λ (x : ℕ). fault_at sizes records x ≡ None) (sym e) parts.1
      | inr ne ↦ faultless-up_to sizes records n parts.0 k counts (omega arith)
    ]

pub first-least : (sizes : YardSizes) (records : List (List (List ℕ))) (n : ℕ) (fault : YardFault) → first_fault_up_to sizes records n ≡ Some fault
    → (i : ℕ) × (1 ≤ i) × (i ≤ n) × (fault_at sizes records i ≡ Some fault) × ((k : ℕ) → 1 ≤ k → k < i → fault_at sizes records k ≡ None)
first-least sizes records zero fault h = absurd (cc)
first-least sizes records (suc n) fault h =
    elim (either (first_fault_up_to sizes records n) (fault_at sizes records (suc n)) fault h) [
      | inl before ↦ let found = first-least sizes records n fault before in (found.0, found.1, omega (arith, found.2), found.3, found.4)
      | inr here ↦ (suc n, omega arith, omega arith, here.1, λ k counts below. faultless-up_to sizes records n here.0 k counts (omega arith))
    ]
