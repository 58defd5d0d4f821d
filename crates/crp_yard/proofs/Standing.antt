-- Where no record is faulty, each container stands in its stack at its tier.
use Prim.Native.Nat.{zero}
use Rattle.std.proofs.Common.{◌≡◌, ℕ, suc, ◌<◌, ◌≤◌, ◌+◌, ◌-◌, max, Bool, true, false, not, cond, List, [], ◌∷◌, ◌++◌, map, take, length, length-append, append-nil, Option, Some, None, is_some, slice_get, refl, sym, ap, ◌∙◌, subst, arith, get_or, inl, inr}
use Rattle.std.specs.Prelude.{if◌then◌else◌, ◌==◌, ◌&&◌, nat_le, option_to_list}
use Rattle.std.specs.List.{AllByRecursion}
use Rattle.std.specs.Map.{lookup}
use Rattle.std.proofs.lemmas.List.{length-map}
use Rattle.std.proofs.lemmas.Bool.{cases_eq, false≢true, true≢false, leb-true, le-leb, eqb-true, eq-eqb}
use Rattle.crp_plan.specs.BayNames.{YardBay, same_bay}
use Rattle.crp_sizes.specs.Sizes.{YardSizes, heights_at}
use Rattle.crp_yard.specs.declared.fault.YardFault.{YardFault}
use Rattle.crp_yard.specs.Places.{YardPlace, same_place}
use Rattle.crp_yard.specs.Records.{Entry, entry_of, entries_of, bay_named, place_named, height_of, is_within}
use Rattle.crp_yard.specs.Inventory.{container_at, stack_up_to}
use Rattle.crp_yard.specs.Faults.{faults_of, fault_of, fault_behind, fault_at, first_of, first_fault, first_fault_up_to, floating_before, floats, is_floating, is_taken}
use Rattle.crp_sizes.proofs.BaySteps.{both}
use Rattle.crp_sizes.proofs.Bays.{same_bay_is, same_bay_self}
use Rattle.crp_yard.specs.declared.fault.YardFault.TheVariants.{Floating}
use Rattle.crp_yard.proofs.RecordSteps.{not_one}
use Rattle.crp_yard.proofs.Least.{neither, faultless-up_to}
use Rattle.crp_yard.proofs.Seams.{at_seam, in_front, at_end}

pub same_place_is : (p q : YardPlace) → same_place p q ≡ true → p ≡ q
same_place_is p q e =
    let parts = both (same_bay p.bay q.bay) ((p.row == q.row) && (p.tier == q.tier)) e in
    let places = both (p.row == q.row) (p.tier == q.tier) parts.1 in
    let bay : p.bay ≡ q.bay = same_bay_is p.bay q.bay parts.0 in
    let row : p.row ≡ q.row = eqb-true p.row q.row places.0 in
    let tier : p.tier ≡ q.tier = eqb-true p.tier q.tier places.1 in
    λ i. record { bay = bay i; row = row i; tier = tier i }

pub same_place_self : (p : YardPlace) → same_place p p ≡ true
same_place_self p = rw (same_bay_self p.bay, eq-eqb p.row p.row refl, eq-eqb p.tier p.tier refl) refl

-- what is read at a place was said by an entry, and what an entry with a place of its own says is read there
pub said : (place : YardPlace) (entries : List Entry) → is_some (lookup (same_place place) entries) ≡ true → (i : ℕ) × (e : Entry) × (slice_get entries i ≡ Some e) × (e.0 ≡ place)
said place [] h = absurd (false≢true h)
said place (e ∷ entries) h = by (same_place place e.0) refl (said place entries)
  where
    by : (b : Bool) → same_place place e.0 ≡ b → (is_some (lookup (same_place place) entries) ≡ true → (i : ℕ) × (f : Entry) × (slice_get entries i ≡ Some f) × (f.0 ≡ place))
        → (i : ℕ) × (f : Entry) × (slice_get (e ∷ entries) i ≡ Some f) × (f.0 ≡ place)
    by true t rest = (0, e, refl, sym (same_place_is place e.0 t))
    by false t rest = let found = rest (sym (ap (λ b. is_some (cond b (Some e.1) (lookup (same_place place) entries))) t) ∙ h) in (suc found.0, found.1, found.2, found.3)

read_there : (entries : List Entry) (i : ℕ) (e : Entry) → slice_get entries i ≡ Some e → is_taken (take i entries) e.0 ≡ false → container_at entries e.0 ≡ Some e.1
read_there [] i e at free = cc
read_there (f ∷ entries) zero e at free = let same : f ≡ e = cc in rw (same, same_place_self e.0) refl
read_there (f ∷ entries) (suc i) e at free = by (same_place e.0 f.0) free (read_there entries i e at)
  where
    by : (b : Bool) → is_some (cond b (Some f.1) (lookup (same_place e.0) (take i entries))) ≡ false → (is_taken (take i entries) e.0 ≡ false → container_at entries e.0 ≡ Some e.1)
        → cond b (Some f.1) (container_at entries e.0) ≡ Some e.1
    by true h rest = absurd (true≢false h)
    by false h rest = rest h

-- entries none of which has a fault
pub record AreSound (sizes : YardSizes) (entries : List Entry) : Type 0 where
  pub within : (i : ℕ) (e : Entry) → slice_get entries i ≡ Some e → is_within (heights_at sizes e.0.bay) e.0 ≡ true
  pub free : (i : ℕ) (e : Entry) → slice_get entries i ≡ Some e → is_taken (take i entries) e.0 ≡ false
  pub borne : (i : ℕ) (e : Entry) → slice_get entries i ≡ Some e → is_floating entries e.0 ≡ false

one_of : {X : Type 0} (o : Option X) → is_some o ≡ true → length (option_to_list o) ≡ 1
one_of None h = absurd (false≢true h)
one_of (Some x) h = refl

module _ (sizes : YardSizes) (entries : List Entry) (sound : AreSound sizes entries) (bay : YardBay) (row : ℕ) where
  abbrev at_tier : ℕ → Option (List ℕ)
  at_tier tier = container_at entries (record { bay = bay; row = row; tier = tier })

  -- what stands above the lowest tier stands on something
  borne_by : (t : ℕ) → is_some (at_tier (suc (suc t))) ≡ true → is_some (at_tier (suc t)) ≡ true
  borne_by t h =
      let place : YardPlace = record { bay = bay; row = row; tier = suc (suc t) } in
      let found = said place entries h in
      let P : YardPlace → Type 0 = λ p. is_floating entries p ≡ false in
      let held : is_floating entries place ≡ false = subst P found.3 (sound.borne found.0 found.1 found.2) in
      let high : nat_le 2 (suc (suc t)) ≡ true = le-leb 2 (suc (suc t)) (omega arith) in
      let lower : suc (suc t) - 1 ≡ suc t = omega arith in
      by (is_some (at_tier (suc t))) refl (rw (high, lower) at held)
    where
      by : (b : Bool) → is_some (at_tier (suc t)) ≡ b → not (is_some (at_tier (suc t))) ≡ false → is_some (at_tier (suc t)) ≡ true
      by true e k = e
      by false e k = absurd (true≢false (sym (ap not e) ∙ k))

  full : (t : ℕ) → is_some (at_tier (suc t)) ≡ true → length (stack_up_to entries bay row (suc t)) ≡ suc t
  full zero h = omega (arith, one_of (at_tier 1) h)
  full (suc t) h = omega (arith, length-append (stack_up_to entries bay row (suc t)) (option_to_list (at_tier (suc (suc t)))), one_of (at_tier (suc (suc t))) h, full t (borne_by t h))

  top : (t : ℕ) (c : List ℕ) → at_tier (suc t) ≡ Some c → slice_get (stack_up_to entries bay row (suc t)) t ≡ Some c
  top zero c e = rw e refl
  top (suc t) c e =
      let under = full t (borne_by t (ap is_some e)) in
      rw e (at_seam (stack_up_to entries bay row (suc t)) c (suc t) under)

  stays : (k n : ℕ) (t : ℕ) (c : List ℕ) → slice_get (stack_up_to entries bay row n) t ≡ Some c → slice_get (stack_up_to entries bay row (k + n)) t ≡ Some c
  stays zero n t c e = let same : zero + n ≡ n = omega arith in rw same e
  stays (suc k) n t c e =
      let same : suc k + n ≡ suc (k + n) = omega arith in
      rw same (in_front (stack_up_to entries bay row (k + n)) (option_to_list (at_tier (suc (k + n)))) t c (stays k n t c e))

  -- what stands at a place of a stack is read there
  pub tier_of : (n t : ℕ) (c : List ℕ) → slice_get (stack_up_to entries bay row n) t ≡ Some c → at_tier (suc t) ≡ Some c
  tier_of zero t c e = absurd (cc)
  tier_of (suc n) t c e = by (at_tier (suc n)) refl e (tier_of n t c)
    where
      lower : List (List ℕ)
      lower = stack_up_to entries bay row n

      by : (o : Option (List ℕ)) → at_tier (suc n) ≡ o → slice_get (lower ++ option_to_list o) t ≡ Some c → (slice_get lower t ≡ Some c → at_tier (suc t) ≡ Some c) → at_tier (suc t) ≡ Some c
      by None h at rest = rest (subst (λ (l : List (List ℕ)). slice_get l t ≡ Some c) (append-nil lower) at)
      by (Some x) h at rest = elim (at_end lower x t c at) [
        | inl before ↦ rest before
        | inr last ↦
            let there : is_some (at_tier (suc n)) ≡ true = ap is_some h in
            let under : length lower ≡ n = omega (arith, full n there, length-append lower (option_to_list (at_tier (suc n))), one_of (at_tier (suc n)) there) in
            let here : t ≡ n = last.0 ∙ under in
            subst (λ (k : ℕ). at_tier (suc k) ≡ Some c) (sym here) (h ∙ ap Some last.1)
      ]

pub stands_there : (sizes : YardSizes) (entries : List Entry) → AreSound sizes entries → (i : ℕ) (e : Entry) → slice_get entries i ≡ Some e
    → slice_get (stack_up_to entries e.0.bay e.0.row (height_of (heights_at sizes e.0.bay) e.0.row)) (e.0.tier - 1) ≡ Some e.1
stands_there sizes entries sound i e at =
    let tiers = height_of (heights_at sizes e.0.bay) e.0.row in
    let within = both (nat_le 1 e.0.row && nat_le e.0.row (length (heights_at sizes e.0.bay))) (nat_le 1 e.0.tier && nat_le e.0.tier tiers) (sound.within i e at) in
    let ends = both (nat_le 1 e.0.tier) (nat_le e.0.tier tiers) within.1 in
    let low : 1 ≤ e.0.tier = leb-true 1 e.0.tier ends.0 in
    let high : e.0.tier ≤ tiers = leb-true e.0.tier tiers ends.1 in
    let tier : e.0.tier ≡ suc (e.0.tier - 1) = omega arith in
    let all : tiers ≡ (tiers - e.0.tier) + suc (e.0.tier - 1) = omega arith in
    let read = read_there entries i e at (sound.free i e at) in
    let here : container_at entries (record { bay = e.0.bay; row = e.0.row; tier = suc (e.0.tier - 1) }) ≡ Some e.1 = subst (λ t. container_at entries (record { bay = e.0.bay; row = e.0.row; tier = t }) ≡ Some e.1) tier read in
    subst (λ n. slice_get (stack_up_to entries e.0.bay e.0.row n) (e.0.tier - 1) ≡ Some e.1) (sym all)
    (stays sizes entries sound e.0.bay e.0.row (tiers - e.0.tier) (suc (e.0.tier - 1)) (e.0.tier - 1) e.1 (top sizes entries sound e.0.bay e.0.row (e.0.tier - 1) e.1 here))

-- of a list of faults none of which is stated none is there
none_found : (faults : List (Bool × YardFault)) → first_of faults ≡ None → AllByRecursion (λ fault. fault.0 ≡ false) faults
none_found [] e = tt
none_found (fault ∷ faults) e = by fault.0 refl (none_found faults)
  where
    by : (b : Bool) → fault.0 ≡ b → (first_of faults ≡ None → AllByRecursion (λ fault. fault.0 ≡ false) faults) → (fault.0 ≡ false) × AllByRecursion (λ fault. fault.0 ≡ false) faults
    by true h rest = let faulty : Some fault.1 ≡ None = rw h at e in absurd (cc faulty)
    by false h rest = (h, rest (rw h at e))

pub not_false : (b : Bool) → not b ≡ false → b ≡ true
not_false true e = refl
not_false false e = absurd (true≢false e)

record Passes (sizes : YardSizes) (entries : List Entry) (fields : List (List ℕ)) : Type 0 where
  pub within : is_within (heights_at sizes (bay_named fields)) (place_named fields) ≡ true
  pub free : is_taken entries (place_named fields) ≡ false

passes : (sizes : YardSizes) (entries : List Entry) (n : ℕ) (fields : List (List ℕ)) → fault_of sizes entries n fields ≡ None → Passes sizes entries fields
unfolding fault_of
passes sizes entries n fields e =
    let all = none_found (faults_of sizes entries n fields) e in
    record { within = not_false (is_within (heights_at sizes (bay_named fields)) (place_named fields)) all.1.1.0; free = all.1.1.1.0 }

behind : (sizes : YardSizes) (entries : List Entry) (n : ℕ) (fields : List (List ℕ)) → fault_behind sizes entries (suc (suc n)) fields ≡ None → fault_of sizes entries (suc (suc n)) fields ≡ None
unfolding fault_behind
behind sizes entries n fields e = let other : (suc (suc n) == 1) ≡ false = not_one n in rw other at e

map-take : {X Y : Type 0} (f : X → Y) (xs : List X) (n : ℕ) → map f (take n xs) ≡ take n (map f xs)
map-take f [] zero = refl
map-take f [] (suc n) = refl
map-take f (x ∷ xs) zero = refl
map-take f (x ∷ xs) (suc n) = ap (λ l. f x ∷ l) (map-take f xs n)

fault_by : {X Y : Type 0} (f : X → Y) (xs : List X) (i : ℕ) (y : Y) (d : X) → slice_get (map f xs) i ≡ Some y → f (get_or xs i d) ≡ y
fault_by f [] i y d e = cc
fault_by f (x ∷ xs) zero y d e = cc e
fault_by f (x ∷ xs) (suc i) y d e = fault_by f xs i y d e

within_list : {X : Type 0} (xs : List X) (i : ℕ) (x : X) → slice_get xs i ≡ Some x → i < length xs
within_list [] i x e = cc
within_list (y ∷ xs) zero x e = omega arith
within_list (y ∷ xs) (suc i) x e = omega (arith, within_list xs i x e)

-- none of these entries floats
pub none_floats : (entries : List Entry) (n : ℕ) → floating_before entries n ≡ None → (i : ℕ) → i < n → floats entries (slice_get entries i) ≡ false
none_floats entries zero e i below = absurd (omega arith)
none_floats entries (suc n) e i below =
    let parts = neither (floating_before entries n) (if floats entries (slice_get entries n) then Some (Floating (n + 2)) else None) e in
    elim (cases_eq i n) [
      | inl same ↦ subst (λ (k : ℕ). floats entries (slice_get entries k) ≡ false) (sym same) (not_there (floats entries (slice_get entries n)) (Floating (n + 2)) parts.1)
      | inr other ↦ none_floats entries n parts.0 i (omega arith)
    ]
  where
    not_there : (b : Bool) (fault : YardFault) → (if b then Some fault else None) ≡ None → b ≡ false
    not_there true fault h = absurd (cc h)
    not_there false fault h = refl

module _ (sizes : YardSizes) (first : List (List ℕ)) (records : List (List (List ℕ))) (e : first_fault sizes (first ∷ records) ≡ None) where
  parts : (first_fault_up_to sizes (first ∷ records) (max 1 (length (first ∷ records))) ≡ None) × (floating_before (map entry_of records) (length (map entry_of records)) ≡ None)
  unfolding first_fault
  parts = neither _ _ e

  faultless : (i : ℕ) → i < length records → fault_of sizes (take i (map entry_of records)) (suc (suc i)) (get_or records i []) ≡ None
  unfolding fault_at
  faultless i below =
      let top : max 1 (length (first ∷ records)) ≡ suc (length records) = omega arith in
      let none = faultless-up_to sizes (first ∷ records) (suc (length records)) (rw top at parts.0) (suc (suc i)) (omega arith) (omega arith) in
      let number : suc (suc i) - 1 ≡ suc i = omega arith in
      behind sizes (take i (map entry_of records)) i (get_or records i []) (rw (← map-take entry_of records i) (rw number at none))

  sound_entry : (i : ℕ) (entry : Entry) → slice_get (map entry_of records) i ≡ Some entry → Passes sizes (take i (map entry_of records)) (get_or records i [])
  sound_entry i entry at =
      let long : length (map entry_of records) ≡ length records = length-map records entry_of in
      let below = within_list (map entry_of records) i entry at in
      passes sizes (take i (map entry_of records)) (suc (suc i)) (get_or records i []) (faultless i (omega arith))

  place_is : (i : ℕ) (entry : Entry) → slice_get (map entry_of records) i ≡ Some entry → place_named (get_or records i []) ≡ entry.0
  unfolding entry_of
  place_is i entry at = ap (λ (f : Entry). f.0) (fault_by entry_of records i entry [] at)

  pub sound_entries : AreSound sizes (map entry_of records)
  sound_entries = record {
    within = λ i entry at. rw (← place_is i entry at) (sound_entry i entry at).within;
    free = λ i entry at. rw (← place_is i entry at) (sound_entry i entry at).free;
    borne = λ i entry at. let f = none_floats (map entry_of records) (length (map entry_of records)) parts.1 i (within_list (map entry_of records) i entry at) in rw at at f;
  }

pub each_stands : (sizes : YardSizes) (records : List (List (List ℕ))) (i : ℕ) (entry : Entry) → first_fault sizes records ≡ None → slice_get (entries_of records) i ≡ Some entry
    → slice_get (stack_up_to (entries_of records) entry.0.bay entry.0.row (height_of (heights_at sizes entry.0.bay) entry.0.row)) (entry.0.tier - 1) ≡ Some entry.1
each_stands sizes [] i entry e at = cc
each_stands sizes (first ∷ records) i entry e at = stands_there sizes (map entry_of records) (sound_entries sizes first records e) i entry at
