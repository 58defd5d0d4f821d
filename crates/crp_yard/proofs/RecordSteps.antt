-- Records read so far, and one more.
use Prim.Native.Nat.{zero}
use Rattle.std.proofs.Common.{◌≡◌, ◌≤◌, ◌<◌, ◌+◌, ◌-◌, ℕ, suc, false, Result, Ok, Err, List, [], ◌∷◌, ◌++◌, length, length-append, max, Option, Some, None, refl, sym, ◌∙◌, arith}
use Rattle.std.specs.Prelude.{◌==◌, IfOk, OnOk}
use Rattle.std.proofs.lemmas.List.{map-append, length-map, take-append-le, get_or_append_left}
use Rattle.std.proofs.Math.Seq.{get_or-append_seam, take-append_seam}
use Rattle.crp_sizes.specs.Sizes.{YardSizes}
use Rattle.crp_yard.specs.declared.fault.YardFault.{YardFault}
use Rattle.crp_yard.specs.declared.fault.YardFault.TheVariants.{Header}
use Rattle.crp_yard.specs.Records.{Entry, entry_of, entries_of}
use Rattle.crp_yard.specs.Faults.{fault_at, fault_behind, first_fault, first_fault_up_to, floating_before}
use Rattle.crp_yard.specs.Listings.{IsRead, entries_behind}

-- a fault hangs on the records up to its own
fault_at-front : (sizes : YardSizes) (xs ys : List (List (List ℕ))) (n : ℕ) → suc n ≤ length xs → fault_at sizes (xs ++ ys) (suc n) ≡ fault_at sizes xs (suc n)
unfolding fault_at
fault_at-front sizes xs ys n h =
    let e : suc n - 1 ≡ n = omega arith in
    let within : n ≤ length xs = omega arith in
    let there : n < length xs = omega arith in
    rw (e, take-append-le n xs ys within, get_or_append_left xs ys [] n there) refl

pub up_to-front : (sizes : YardSizes) (xs ys : List (List (List ℕ))) (n : ℕ) → n ≤ length xs → first_fault_up_to sizes (xs ++ ys) n ≡ first_fault_up_to sizes xs n
up_to-front sizes xs ys zero h = refl
up_to-front sizes xs ys (suc n) h =
    let before = up_to-front sizes xs ys n (omega arith) in
    let here = fault_at-front sizes xs ys n h in
    rw (before, here) refl

-- the fault of the record behind the records
fault_at-next : (sizes : YardSizes) (xs : List (List (List ℕ))) (x : List (List ℕ)) (ys : List (List (List ℕ))) → fault_at sizes (xs ++ x ∷ ys) (suc (length xs)) ≡ fault_behind sizes (entries_of xs) (suc (length xs)) x
unfolding fault_at
fault_at-next sizes xs x ys =
    let e : suc (length xs) - 1 ≡ length xs = omega arith in
    rw (e, take-append_seam xs (x ∷ ys), get_or-append_seam xs x ys []) refl

-- what is stated stays stated
up_to-stays : (sizes : YardSizes) (xs : List (List (List ℕ))) (n k : ℕ) (fault : YardFault) → first_fault_up_to sizes xs n ≡ Some fault → first_fault_up_to sizes xs (k + n) ≡ Some fault
up_to-stays sizes xs n zero fault e = let same : zero + n ≡ n = omega arith in rw same e
up_to-stays sizes xs n (suc k) fault e =
    let same : suc k + n ≡ suc (k + n) = omega arith in
    rw (same, up_to-stays sizes xs n k fault e) refl

-- the faultless records and one more are stated where the fault of that one is
up_to-next : (sizes : YardSizes) (xs : List (List (List ℕ))) (x : List (List ℕ)) (ys : List (List (List ℕ))) (n : ℕ) (fault : Option YardFault)
    → first_fault_up_to sizes xs (length xs) ≡ None → n ≡ suc (length xs) → fault_behind sizes (entries_of xs) n x ≡ fault
    → first_fault_up_to sizes (xs ++ x ∷ ys) n ≡ fault
up_to-next sizes xs x ys n fault none count e =
    let all : length xs ≤ length xs = omega arith in
    let before = up_to-front sizes xs (x ∷ ys) (length xs) all in
    let here : fault_behind sizes (entries_of xs) (suc (length xs)) x ≡ fault = rw count at e in
    rw (count, before, none, fault_at-next sizes xs x ys) here

pub read-none : (sizes : YardSizes) → IsRead sizes [] [] 0
read-none sizes = record { faultless = refl; said = refl; counted = refl }

pub not_one : (n : ℕ) → (suc (suc n) == 1) ≡ false
not_one n = grind arith

entries-more : (xs : List (List (List ℕ))) (x : List (List ℕ)) → entries_behind (entries_of xs) (suc (length xs)) x ≡ entries_of (xs ++ x ∷ [])
entries-more [] x = refl
entries-more (y ∷ xs) x =
    rw (not_one (length xs), map-append entry_of xs (x ∷ [])) refl

pub read-more : (sizes : YardSizes) (xs : List (List (List ℕ))) (entries new : List Entry) (n m : ℕ) (x : List (List ℕ)) → IsRead sizes xs entries n
    → m ≡ n + 1 → fault_behind sizes entries m x ≡ None → new ≡ entries_behind entries m x → IsRead sizes (xs ++ x ∷ []) new m
read-more sizes xs entries new n m x read count none added =
    let here : m ≡ suc (length xs) = omega (arith, read.counted) in
    let long : length (xs ++ x ∷ []) ≡ m = omega (arith, length-append xs (x ∷ [])) in
    record {
      faultless = rw long (up_to-next sizes xs x [] m None read.faultless here (rw read.said at none));
      said = added ∙ rw (read.said, here) (entries-more xs x);
      counted = sym long;
    }

-- a fault is stated of all records
pub faulty-next : (sizes : YardSizes) (xs : List (List (List ℕ))) (entries : List Entry) (n m : ℕ) (x : List (List ℕ)) (more all : List (List (List ℕ))) (fault : YardFault)
    → IsRead sizes xs entries n → m ≡ n + 1 → fault_behind sizes entries m x ≡ Some fault → all ≡ xs ++ x ∷ more → first_fault sizes all ≡ Some fault
unfolding first_fault
faulty-next sizes xs entries n m x more all fault read count e whole =
    let here : m ≡ suc (length xs) = omega (arith, read.counted) in
    let faulty = up_to-next sizes xs x more m (Some fault) read.faultless here (rw read.said at e) in
    let size = length-append xs (x ∷ more) in
    let top : max 1 (length (xs ++ x ∷ more)) ≡ length more + m = omega (arith, size) in
    let end = up_to-stays sizes (xs ++ x ∷ more) m (length more) fault faulty in
    rw (whole, top, end) refl

-- no records lack the header
faulty-none : (sizes : YardSizes) → first_fault sizes [] ≡ Some (Header 1)
unfolding first_fault fault_at fault_behind
faulty-none sizes = refl

pub faulty-empty : (sizes : YardSizes) (xs : List (List (List ℕ))) (entries : List Entry) (n : ℕ) (all : List (List (List ℕ))) → IsRead sizes xs entries n → n ≡ 0 → all ≡ xs
    → first_fault sizes all ≡ Some (Header 1)
faulty-empty sizes [] entries n all read none whole = rw whole (faulty-none sizes)
faulty-empty sizes (x ∷ xs) entries n all read none whole = absurd (omega (arith, read.counted))

pub read-all : (sizes : YardSizes) (xs : List (List (List ℕ))) (entries : List Entry) (n : ℕ) (all : List (List (List ℕ))) → IsRead sizes xs entries n → (n ≡ 0 → ⊥) → all ≡ xs
    → first_fault_up_to sizes all (max 1 (length all)) ≡ None
read-all sizes xs entries n all read some whole =
    let top : max 1 (length xs) ≡ length xs = omega (arith, read.counted) in
    rw (whole, top) read.faultless

-- where no record is faulty, what floats is stated
pub floating-whole : (sizes : YardSizes) (records : List (List (List ℕ))) (floating : Option YardFault) → first_fault_up_to sizes records (max 1 (length records)) ≡ None
    → floating ≡ floating_before (entries_of records) (length (entries_of records)) → first_fault sizes records ≡ floating
unfolding first_fault
floating-whole sizes records floating none is = rw (none, is) refl

-- two facts of what a call gives, as one
pub ok_by_both : {T E : Type 0} (r : Result T E) (A : Type 0) (P Q : T → Type 0) → OnOk r A → IfOk r P → ((x : T) → A → P x → Q x) → IfOk r Q
ok_by_both (Ok x) A P Q a p by = by x a p
ok_by_both (Err e) A P Q a p by = tt

-- there is an entry for each record but the header
pub entries-few : (records : List (List (List ℕ))) → length records ≤ length (entries_of records) + 1
entries-few [] = omega arith
entries-few (first ∷ records) = omega (arith, length-map records entry_of)
