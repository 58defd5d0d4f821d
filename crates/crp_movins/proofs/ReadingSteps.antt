-- The reader's start and its end.
use Prim.Native.Nat.{zero}
use Rattle.std.proofs.Common.{◌≡◌, ℕ, suc, ◌+◌, ◌≤◌, ◌<◌, List, [], Some, None, length, refl, subst, inl, inr, arith}
use Rattle.edi_text.specs.Parts.{SegmentParts}
use Rattle.crp_movins.specs.Loading.{Loading}
use Rattle.crp_movins.specs.declared.fault.MovinsFault.{MovinsFault}
use Rattle.crp_movins.specs.Kinds.{kind_of}
use Rattle.crp_movins.specs.Places.{kind_at}
use Rattle.crp_movins.specs.LoadOrders.{orders_before}
use Rattle.crp_movins.specs.Faults.{is_out_of_place, fault_at, first_fault_before, first_fault}

pub orders-start : (segments : List SegmentParts) (loading : Loading) → orders_before segments loading 1 ≡ []
unfolding kind_at kind_of
orders-start segments loading = refl

pub faults-start : (segments : List SegmentParts) (loading : Loading) → first_fault_before segments loading 1 ≡ None
unfolding kind_at kind_of is_out_of_place fault_at
faults-start segments loading = refl

-- after no fault, the next that is there is the first
pub faulty-first : (segments : List SegmentParts) (loading : Loading) (i n : ℕ) (fault : MovinsFault) → first_fault_before segments loading i ≡ None → fault_at segments loading i ≡ Some fault → i < n → first_fault_before segments loading n ≡ Some fault
faulty-first segments loading i zero fault none here below = absurd (omega arith)
faulty-first segments loading i (suc n) fault none here below =
    elim (Rattle.std.proofs.lemmas.Bool.cases_eq i n) [
      | inl e ↦
          let last : fault_at segments loading n ≡ Some fault = subst (λ (x : ℕ). fault_at segments loading x ≡ Some fault) e here in
          let before : first_fault_before segments loading n ≡ None = subst (λ (x : ℕ). first_fault_before segments loading x ≡ None) e none in
          rw (before, last) refl
      | inr ne ↦
          let before : first_fault_before segments loading n ≡ Some fault = faulty-first segments loading i n fault none here (omega arith) in
          rw before refl
    ]

-- the first fault of the segments is the first of the list
pub faulty-refused : (segments : List SegmentParts) (loading : Loading) (i : ℕ) (fault : MovinsFault) → first_fault_before segments loading i ≡ None → fault_at segments loading i ≡ Some fault → i ≤ length segments → first_fault segments loading ≡ Some fault
faulty-refused segments loading i fault none here within =
    let faulty : first_fault_before segments loading (length segments + 1) ≡ Some fault = faulty-first segments loading i (length segments + 1) fault none here (omega arith) in
    rw faulty refl
