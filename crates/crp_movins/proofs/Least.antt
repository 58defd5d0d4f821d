-- What 'the first' and 'the last' mean.
use Prim.Native.Nat.{zero}
use Rattle.std.proofs.Common.{◌≡◌, ℕ, suc, ◌<◌, ◌⊎◌, Bool, true, false, cond, List, Option, Some, None, refl, sym, subst, inl, inr, arith}
use Rattle.std.proofs.lemmas.Bool.{cases_eq}
use Rattle.std.specs.Option.{option_or}
use Rattle.edi_text.specs.Parts.{SegmentParts}
use Rattle.crp_movins.specs.Loading.{Loading}
use Rattle.crp_movins.specs.declared.fault.MovinsFault.{MovinsFault}
use Rattle.crp_movins.specs.declared.kind.Kind.{Kind}
use Rattle.crp_movins.specs.Places.{kind_at, last_before}
use Rattle.crp_movins.specs.Faults.{fault_at, first_fault_before}

neither : (first second : Option MovinsFault) → option_or first second ≡ None → (first ≡ None) × (second ≡ None)
neither None second h = (refl, h)
neither (Some fault) second h = absurd (cc)

either : (first second : Option MovinsFault) (fault : MovinsFault) → option_or first second ≡ Some fault → (first ≡ Some fault) ⊎ ((first ≡ None) × (second ≡ Some fault))
either None second fault h = inr (refl, h)
either (Some faulty) second fault h = inl h

pub faultless-before : (segments : List SegmentParts) (loading : Loading) (n : ℕ) → first_fault_before segments loading n ≡ None → (k : ℕ) → k < n → fault_at segments loading k ≡ None
faultless-before segments loading zero h k below = absurd (omega arith)
faultless-before segments loading (suc n) h k below =
    let parts = neither (first_fault_before segments loading n) (fault_at segments loading n) h in
    elim (cases_eq k n) [
      | inl e ↦ subst (λ (x : ℕ). fault_at segments loading x ≡ None) (sym e) parts.1
      | inr ne ↦ faultless-before segments loading n parts.0 k (omega arith)
    ]

pub first-least : (segments : List SegmentParts) (loading : Loading) (n : ℕ) (fault : MovinsFault) → first_fault_before segments loading n ≡ Some fault → (i : ℕ) × (i < n) × (fault_at segments loading i ≡ Some fault) × ((k : ℕ) → k < i → fault_at segments loading k ≡ None)
first-least segments loading zero fault h = absurd (cc)
first-least segments loading (suc n) fault h =
    elim (either (first_fault_before segments loading n) (fault_at segments loading n) fault h) [
      | inl before ↦ let found = first-least segments loading n fault before in (found.0, omega (arith, found.1), found.2, found.3)
      | inr here ↦ (n, omega arith, here.1, faultless-before segments loading n here.0)
    ]

passed : (b : Bool) (i : ℕ) (rest : Option ℕ) → cond b (Some i) rest ≡ None → (b ≡ false) × (rest ≡ None)
passed true i rest h = absurd (cc)
passed false i rest h = (refl, h)

taken : (b : Bool) (i j : ℕ) (rest : Option ℕ) → cond b (Some i) rest ≡ Some j → ((b ≡ true) × (i ≡ j)) ⊎ ((b ≡ false) × (rest ≡ Some j))
taken true i j rest h = inl (refl, (cc))
taken false i j rest h = inr (refl, h)

pub last-none : (test : Kind → Bool) (segments : List SegmentParts) (n : ℕ) → last_before test segments n ≡ None → (k : ℕ) → k < n → test (kind_at segments k) ≡ false
last-none test segments zero h k below = absurd (omega arith)
last-none test segments (suc n) h k below =
    let parts = passed (test (kind_at segments n)) n (last_before test segments n) h in
    elim (cases_eq k n) [
      | inl e ↦ subst (λ (x : ℕ). test (kind_at segments x) ≡ false) (sym e) parts.0
      | inr ne ↦ last-none test segments n parts.1 k (omega arith)
    ]

pub last-last : (test : Kind → Bool) (segments : List SegmentParts) (n j : ℕ) → last_before test segments n ≡ Some j → (j < n) × (test (kind_at segments j) ≡ true) × ((k : ℕ) → j < k → k < n → test (kind_at segments k) ≡ false)
last-last test segments zero j h = absurd (cc)
last-last test segments (suc n) j h =
    elim (taken (test (kind_at segments n)) n j (last_before test segments n) h) [
      | inl here ↦ (
        omega arith,
        subst (λ (x : ℕ). test (kind_at segments x) ≡ true) here.1 here.0,
        λ k above below. absurd (omega (arith, here.1)),
      )
      | inr before ↦
          let found = last-last test segments n j before.1 in (
            omega (arith, found.0),
            found.1,
            λ k above below. elim (cases_eq k n) [
              | inl e ↦ subst (λ (x : ℕ). test (kind_at segments x) ≡ false) (sym e) before.0
              | inr ne ↦ found.2 k above (omega arith)
            ],
          )
    ]
