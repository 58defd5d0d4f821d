-- Of the containers that stand on nothing the first is stated.
use Prim.Native.Nat.{zero}
use Rattle.std.proofs.Common.{◌≡◌, ℕ, suc, ◌<◌, ◌≤◌, ◌+◌, ◌-◌, max, Bool, true, false, not, List, map, length, Option, Some, None, slice_get, refl, sym, ap, ◌∙◌, inl, inr, arith}
use Rattle.std.specs.Prelude.{if◌then◌else◌, ◌&&◌, nat_le}
use Rattle.std.proofs.lemmas.Bool.{cases_lt, true≢false, false≢true, leb-true, le-leb}
use Rattle.std.proofs.lemmas.Option.{cond_some, slice_get_within}
use Rattle.crp_sizes.specs.Sizes.{YardSizes}
use Rattle.crp_yard.specs.declared.fault.YardFault.{YardFault}
use Rattle.crp_yard.specs.declared.fault.YardFault.TheVariants.{Floating}
use Rattle.crp_yard.specs.Places.{YardPlace, same_place}
use Rattle.crp_yard.specs.Records.{Entry, entries_of}
use Rattle.crp_yard.specs.Faults.{fault_at, first_fault, first_fault_up_to, floating_before, floats, is_floating, is_taken, one_tier_lower}
use Rattle.crp_yard.specs.ByPlaces.{IsBorne, FloatsFirst, NoneFloats}
use Rattle.crp_sizes.proofs.Lists.{looked}
use Rattle.crp_yard.proofs.Seams.{in_mapped, any_from}
use Rattle.crp_yard.proofs.Least.{neither, either, faultless-up_to}
use Rattle.crp_yard.proofs.Standing.{said, same_place_self, none_floats, not_false}
use Rattle.crp_yard.proofs.FloatingSteps.{floating-faulty}
use Rattle.crp_yard.proofs.FaultKinds.{none_floating}
use Rattle.crp_yard.proofs.RecordSteps.{floating-whole}

-- an entry takes its place
taken_there : (entries : List Entry) (k : ℕ) (entry : Entry) → slice_get entries k ≡ Some entry → is_taken entries entry.0 ≡ true
taken_there entries k entry at =
    looked (same_place entry.0) entries ∙ any_from (same_place entry.0) (map (λ (e : Entry). e.0) entries) k entry.0 (in_mapped (λ (e : Entry). e.0) entries k entry at) (same_place_self entry.0)

borne-means : (entries : List Entry) (place : YardPlace) → is_floating entries place ≡ false → IsBorne entries place
borne-means entries place h = elim (cases_lt place.tier 2) [
  | inl low ↦ inl (omega arith)
  | inr high ↦
      let above : nat_le 2 place.tier ≡ true = le-leb 2 place.tier high in
      let held : not (is_taken entries (one_tier_lower place)) ≡ false = rw above at h in
      let found = said (one_tier_lower place) entries (not_false (is_taken entries (one_tier_lower place)) held) in
      inr (
        found.0,
        found.1,
        found.2,
        record {
          same_bay = ap (λ (p : YardPlace). p.bay) found.3;
          same_row = ap (λ (p : YardPlace). p.row) found.3;
          next_tier = omega (arith, ap (λ (p : YardPlace). p.tier) found.3);
        },
      )
]

borne-given : (entries : List Entry) (place : YardPlace) → IsBorne entries place → is_floating entries place ≡ false
borne-given entries place (inl low) = by (nat_le 2 place.tier) refl
  where
    by : (b : Bool) → nat_le 2 place.tier ≡ b → (b && not (is_taken entries (one_tier_lower place))) ≡ false
    by true e = absurd (omega (arith, leb-true 2 place.tier e))
    by false e = refl
borne-given entries place (inr (k, below, at, right)) =
    let tier : below.0.tier ≡ place.tier - 1 = omega (arith, right.next_tier) in
    let same : below.0 ≡ one_tier_lower place = λ i. record { bay = right.same_bay i; row = right.same_row i; tier = tier i } in
    let taken : is_taken entries (one_tier_lower place) ≡ true = ap (is_taken entries) (sym same) ∙ taken_there entries k below at in
    rw taken (by (nat_le 2 place.tier))
  where
    by : (b : Bool) → (b && false) ≡ false
    by true = refl
    by false = refl

-- the first that floats
floats-there : (entries : List Entry) (found : Option Entry) → floats entries found ≡ true → (entry : Entry) × (found ≡ Some entry) × (is_floating entries entry.0 ≡ true)
floats-there entries None h = absurd (false≢true h)
floats-there entries (Some entry) h = (entry, refl, h)

found_floating : (entries : List Entry) (n : ℕ) (fault : YardFault) → floating_before entries n ≡ Some fault
    → (i : ℕ) × (entry : Entry) × (slice_get entries i ≡ Some entry) × (is_floating entries entry.0 ≡ true) × (floating_before entries i ≡ None) × (Floating (i + 2) ≡ fault)
found_floating entries zero fault e = absurd (cc)
found_floating entries (suc n) fault e = elim (either (floating_before entries n) (if floats entries (slice_get entries n) then Some (Floating (n + 2)) else None) fault e) [
  | inl before ↦ found_floating entries n fault before
  | inr here ↦
      let parts = cond_some (floats entries (slice_get entries n)) (Floating (n + 2)) fault here.1 in
      let there = floats-there entries (slice_get entries n) parts.0 in
      (n, there.0, there.1, there.2, here.0, parts.1)
]

none-before : (entries : List Entry) (n : ℕ) → ((k : ℕ) (entry : Entry) → k < n → slice_get entries k ≡ Some entry → IsBorne entries entry.0) → floating_before entries n ≡ None
none-before entries zero borne = refl
none-before entries (suc n) borne =
    let before = none-before entries n (λ k entry below at. borne k entry (omega arith) at) in
    let here : floats entries (slice_get entries n) ≡ false = by (slice_get entries n) refl in
    rw (before, here) refl
  where
    by : (o : Option Entry) → slice_get entries n ≡ o → floats entries o ≡ false
    by None at = refl
    by (Some entry) at = borne-given entries entry.0 (borne n entry (omega arith) at)

borne-by_none : (entries : List Entry) (n k : ℕ) (entry : Entry) → floating_before entries n ≡ None → k < n → slice_get entries k ≡ Some entry → IsBorne entries entry.0
borne-by_none entries n k entry none below at = let held = none_floats entries n none k below in borne-means entries entry.0 (rw at at held)

none-up_to : (sizes : YardSizes) (records : List (List (List ℕ))) (n : ℕ) → ((k : ℕ) → 1 ≤ k → k ≤ n → fault_at sizes records k ≡ None) → first_fault_up_to sizes records n ≡ None
none-up_to sizes records zero h = refl
none-up_to sizes records (suc n) h =
    let before = none-up_to sizes records n (λ k counts within. h k counts (omega arith)) in
    let here = h (suc n) (omega arith) (omega arith) in
    rw (before, here) refl

module _ (sizes : YardSizes) (records : List (List (List ℕ))) where
  abbrev all : List Entry
  all = entries_of records

  pub first-means : (n : ℕ) → first_fault sizes records ≡ Some (Floating n) → FloatsFirst sizes records n
  unfolding first_fault
  first-means n e = elim (either (first_fault_up_to sizes records (max 1 (length records))) (floating_before all (length all)) (Floating n) e) [
    | inl own ↦ absurd (none_floating sizes records (max 1 (length records)) n own)
    | inr floating ↦
        let found = found_floating all (length all) (Floating n) floating.1 in
        let number : found.0 + 2 ≡ n = cc (found.5) in
        let place : n - 2 ≡ found.0 = omega arith in
        record {
          faultless = faultless-up_to sizes records (max 1 (length records)) floating.0;
          behind_header = omega arith;
          entry = found.1;
          there = ap (slice_get all) place ∙ found.2;
          floats = λ borne. true≢false (sym found.3 ∙ borne-given all found.1.0 borne);
          borne_before = λ k other below at. borne-by_none all found.0 k other found.4 (omega arith) at;
        }
  ]

  pub first-given : (n : ℕ) → FloatsFirst sizes records n → first_fault sizes records ≡ Some (Floating n)
  first-given n h =
      let none = none-up_to sizes records (max 1 (length records)) h.faultless in
      let floats : is_floating all h.entry.0 ≡ true = by (is_floating all h.entry.0) refl in
      let place : n - 2 + 2 ≡ n = let behind = h.behind_header in omega arith in
      let found = floating-faulty all (n - 2) h.entry (none-before all (n - 2) h.borne_before) (slice_get_within all (n - 2) h.entry h.there) h.there floats in
      floating-whole sizes records (Some (Floating n)) none (sym (found ∙ ap (λ i. Some (Floating i)) place))
    where
      by : (b : Bool) → is_floating all h.entry.0 ≡ b → b ≡ true
      by true e = refl
      by false e = absurd (h.floats (borne-means all h.entry.0 e))

  pub none-means : first_fault sizes records ≡ None → NoneFloats sizes records
  unfolding first_fault
  none-means e =
      let parts = neither (first_fault_up_to sizes records (max 1 (length records))) (floating_before all (length all)) e in
      record {
        faultless = faultless-up_to sizes records (max 1 (length records)) parts.0;
        borne = λ k entry at. borne-by_none all (length all) k entry parts.1 (slice_get_within all k entry at) at;
      }

  pub none-given : NoneFloats sizes records → first_fault sizes records ≡ None
  none-given h =
      floating-whole sizes records None (none-up_to sizes records (max 1 (length records)) h.faultless) (sym (none-before all (length all) (λ k entry below at. h.borne k entry at)))
