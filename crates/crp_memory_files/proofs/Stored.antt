-- Files in memory, of which one was written.
use Rattle.std.proofs.Common.{◌≡◌, ◌≢◌, ◌∙◌, ℕ, ◌<◌, inl, inr, IfSome, zero, suc, Bool, true, false, List, [], ◌∷◌, length, take, drop, set, slice_get, Option, Some, None, option_map, if◌then◌else◌, refl, ap, subst, sym, arith, tests}
use Rattle.std.proofs.lemmas.List.{take-append-drop}
use Rattle.std.proofs.lemmas.Bool.Decides.{eqb_tells}
use Rattle.crp_files.specs.Known.{IsFront}
use Rattle.crp_memory_files.specs.declared.memory.StoredFile.{StoredFile}
use Rattle.crp_memory_files.specs.declared.memory.Written.{Written}
use Rattle.crp_memory_files.specs.Memory.{readable, bytes_of, readable_at, bytes_at, is_one}

get_same : {X : Type 0} (xs : List X) (i : ℕ) (x : X) → i < length xs → slice_get (set xs i x) i ≡ Some x
get_same [] i x within = absurd (omega (arith, within))
get_same (y ∷ xs) zero x within = refl
get_same (y ∷ xs) (suc i) x within = get_same xs i x (omega (arith, within))

get_other : {X : Type 0} (xs : List X) (i j : ℕ) (x : X) → j ≢ i → slice_get (set xs i x) j ≡ slice_get xs j
get_other [] i j x other = refl
get_other (y ∷ xs) zero zero x other = absurd (other refl)
get_other (y ∷ xs) zero (suc j) x other = refl
get_other (y ∷ xs) (suc i) zero x other = refl
get_other (y ∷ xs) (suc i) (suc j) x other = get_other xs i j x (λ e. other (ap suc e))

get_within : {X : Type 0} (xs : List X) (i : ℕ) → i < length xs → (x : X) × (slice_get xs i ≡ Some x)
get_within [] i within = absurd (omega (arith, within))
get_within (y ∷ xs) zero within = (y, refl)
get_within (y ∷ xs) (suc i) within = get_within xs i (omega (arith, within))

-- the bytes that can be read are the file's
readable_if : (begun : Bool) (written given : Option (List ℕ)) (bytes : List ℕ) → (if begun then None else given) ≡ Some bytes → (if begun then written else given) ≡ Some bytes
readable_if true written given bytes is = cc
readable_if false written given bytes is = is

readable_is : (file : Option StoredFile) (written : Option Written) (bytes : List ℕ) → readable file written ≡ Some bytes → bytes_of file written ≡ Some bytes
readable_is None written bytes is = is
readable_is (Some file) None bytes is = is
readable_is (Some file) (Some written) bytes is = readable_if written.begun (Some written.bytes.items) (option_map (λ b. b.now) file.given) bytes is

pub readable_given : (stored : List StoredFile) (written : List Written) (place : Option ℕ) (bytes : List ℕ) → readable_at stored written place ≡ Some bytes
    → bytes_at stored written place ≡ Some bytes
readable_given stored written None bytes is = is
readable_given stored written (Some place) bytes is = readable_is (slice_get stored place) (slice_get written place) bytes is

-- and a front of them is one of its front
pub begins_with : (stored : List StoredFile) (written : List Written) (place : Option ℕ) (bytes : List ℕ) (n : ℕ) → readable_at stored written place ≡ Some bytes
    → IsFront (bytes_at stored written place) (take n bytes)
begins_with stored written place bytes n is =
    subst (λ (known : Option (List ℕ)). IsFront known (take n bytes)) (sym (readable_given stored written place bytes is)) (drop n bytes, sym (take-append-drop n bytes))

-- another file has its bytes as before
pub other_kept : (stored : List StoredFile) (written : List Written) (place : ℕ) (now : Written) (other : Option ℕ) → is_one (Some place) other ≡ false
    → bytes_at stored (set written place now) other ≡ bytes_at stored written other
other_kept stored written place now None apart = refl
other_kept stored written place now (Some other) apart =
    ap (bytes_of (slice_get stored other)) (get_other written place other now (λ e. grind (arith, tests, apart, e)))

-- and the one that was written has those that were written
pub stands : (stored : List StoredFile) (written : List Written) (place : ℕ) (now : Written) → now.begun ≡ true → place < length stored → place < length written
    → bytes_at stored (set written place now) (Some place) ≡ Some now.bytes.items
stands stored written place now begun within among =
    let (file, is) = get_within stored place within in
    subst (λ (f : Option StoredFile). bytes_of f (slice_get (set written place now) place) ≡ Some now.bytes.items) (sym is)
    (subst (λ (w : Option Written). bytes_of (Some file) w ≡ Some now.bytes.items) (sym (get_same written place now among))
    (subst (λ (b : Bool). (if b then Some now.bytes.items else option_map (λ bytes. bytes.now) file.given) ≡ Some now.bytes.items) (sym begun) refl))

-- a file that was made where none was: what was known of the bytes of each is so still
still_known : (old new : Option (List ℕ)) → new ≡ old → IfSome old (λ bytes. new ≡ Some bytes)
still_known None new same = tt
still_known (Some bytes) new same = same

pub made_kept : (stored : List StoredFile) (written : List Written) (place : ℕ) (now : Written) (other : Option ℕ) → bytes_at stored written (Some place) ≡ None
    → IfSome (bytes_at stored written other) (λ bytes. bytes_at stored (set written place now) other ≡ Some bytes)
made_kept stored written place now None none = tt
made_kept stored written place now (Some other) none = elim (eqb_tells other place) [
  | inl (is, same) ↦ subst (λ (o : Option (List ℕ)). IfSome o (λ bytes. bytes_at stored (set written place now) (Some other) ≡ Some bytes))
      (sym (ap (λ (i : ℕ). bytes_at stored written (Some i)) same ∙ none)) tt
  | inr (is, apart) ↦ still_known (bytes_at stored written (Some other)) (bytes_at stored (set written place now) (Some other))
      (ap (bytes_of (slice_get stored other)) (get_other written place other now apart))
]
