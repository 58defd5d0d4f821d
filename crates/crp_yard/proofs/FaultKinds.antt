-- The fault of a text says of a record, or that the text is too long.
use Prim.Native.Nat.{zero}
use Rattle.std.proofs.Common.{◌≡◌, ◌≤◌, ℕ, suc, max, Bool, true, false, List, [], ◌∷◌, length, Option, Some, None, ⊎_elim, subst}
use Rattle.std.specs.Prelude.{if◌then◌else◌, nat_le, ◌==◌}
use Rattle.std.specs.List.{AllByRecursion}
use Rattle.std.proofs.lemmas.Bool.{le-leb}
use Rattle.crp_sizes.specs.Sizes.{YardSizes}
use Rattle.crp_yard.specs.declared.fault.YardFault.{YardFault}
use Rattle.crp_yard.specs.declared.fault.YardFault.TheVariants.{Header, Fields, Digits, Outside, PlaceTaken, Floating, StandsAlready, TooMany, Read, TooLarge, Memory}
use Rattle.crp_yard.specs.Records.{Entry, records_of, entries_of, is_header}
use Rattle.crp_yard.specs.Faults.{faults_of, first_of, fault_of, fault_behind, fault_at, first_fault_up_to, floating_before, first_fault, fault_of_text, floats, max_bytes}
use Rattle.std.specs.Prelude.{slice_get, ◌+◌, ◌⊎◌}
use Rattle.std.specs.Option.{option_or}
use Rattle.crp_yard.specs.Reading.{IsTextOf, ReadingFailsWith}

-- stated of a record
abbrev pub IsOfRecord : YardFault → Type 0
IsOfRecord Read = ⊥
IsOfRecord TooLarge = ⊥
IsOfRecord Memory = ⊥
IsOfRecord (Header n) = Unit {0}
IsOfRecord (Fields n) = Unit {0}
IsOfRecord (Digits n) = Unit {0}
IsOfRecord (Outside n) = Unit {0}
IsOfRecord (PlaceTaken n) = Unit {0}
IsOfRecord (Floating n) = Unit {0}
IsOfRecord (StandsAlready n) = Unit {0}
IsOfRecord (TooMany n) = Unit {0}

-- stated of a container that floats
abbrev IsFloating : YardFault → Type 0
IsFloating (Floating n) = Unit {0}
IsFloating _ = ⊥

-- a kind that all faults have which a record has by itself
module _ (IsKind : YardFault → Type 0) (header : IsKind (Header 1)) (own : (sizes : YardSizes) (entries : List Entry) (n : ℕ) (fields : List (List ℕ)) → AllByRecursion (λ fault. IsKind fault.1) (faults_of sizes entries n fields)) where
  abbrev pub HasKind : Option YardFault → Type 0
  HasKind None = Unit {0}
  HasKind (Some fault) = IsKind fault

  kind_or : (a b : Option YardFault) → HasKind a → HasKind b → HasKind (option_or a b)
  kind_or None b h k = k
  kind_or (Some fault) b h k = h

  kind_if : (b : Bool) (x y : Option YardFault) → HasKind x → HasKind y → HasKind (if b then x else y)
  kind_if true x y h k = h
  kind_if false x y h k = k

  kind_first : (faults : List (Bool × YardFault)) → AllByRecursion (λ fault. IsKind fault.1) faults → HasKind (first_of faults)
  kind_first [] h = tt
  kind_first (fault ∷ faults) h = kind_if fault.0 (Some fault.1) (first_of faults) h.0 (kind_first faults h.1)

  kind_record : (sizes : YardSizes) (entries : List Entry) (n : ℕ) (fields : List (List ℕ)) → HasKind (fault_of sizes entries n fields)
  unfolding fault_of
  kind_record sizes entries n fields = kind_first (faults_of sizes entries n fields) (own sizes entries n fields)

  kind_behind : (sizes : YardSizes) (entries : List Entry) (n : ℕ) (fields : List (List ℕ)) → HasKind (fault_behind sizes entries n fields)
  unfolding fault_behind
  kind_behind sizes entries n fields =
      kind_if (n == 1) (if is_header fields then None else Some (Header 1)) (fault_of sizes entries n fields) (kind_if (is_header fields) None (Some (Header 1)) tt header) (kind_record sizes entries n fields)

  kind_at : (sizes : YardSizes) (records : List (List (List ℕ))) (n : ℕ) → HasKind (fault_at sizes records n)
  unfolding fault_at
  kind_at sizes records n = kind_behind sizes _ n _

  pub kind_up_to : (sizes : YardSizes) (records : List (List (List ℕ))) (n : ℕ) → HasKind (first_fault_up_to sizes records n)
  kind_up_to sizes records zero = tt
  kind_up_to sizes records (suc n) = kind_or (first_fault_up_to sizes records n) (fault_at sizes records (suc n)) (kind_up_to sizes records n) (kind_at sizes records (suc n))

  kind_floating : ((n : ℕ) → IsKind (Floating n)) → (entries : List Entry) (n : ℕ) → HasKind (floating_before entries n)
  kind_floating floating entries zero = tt
  kind_floating floating entries (suc n) =
      kind_or (floating_before entries n) (if floats entries (slice_get entries n) then Some (Floating (n + 2)) else None) (kind_floating floating entries n) (kind_if (floats entries (slice_get entries n)) (Some (Floating (n + 2))) None (floating (n + 2)) tt)

  pub kind_whole : ((n : ℕ) → IsKind (Floating n)) → (sizes : YardSizes) (records : List (List (List ℕ))) → HasKind (first_fault sizes records)
  unfolding first_fault
  kind_whole floating sizes records =
      let entries = entries_of records in
      kind_or (first_fault_up_to sizes records (max 1 (length records))) (floating_before entries (length entries)) (kind_up_to sizes records (max 1 (length records))) (kind_floating floating entries (length entries))

-- a record by itself has no fault of one that floats
abbrev FloatsNot : YardFault → Type 0
FloatsNot fault = IsFloating fault → ⊥

float_not : (sizes : YardSizes) (entries : List Entry) (n : ℕ) (fields : List (List ℕ)) → AllByRecursion (λ fault. FloatsNot fault.1) (faults_of sizes entries n fields)
float_not sizes entries n fields = (λ h. h, (λ h. h, (λ h. h, (λ h. h, (λ h. h, (λ h. h, tt))))))

pub none_floating : (sizes : YardSizes) (records : List (List (List ℕ))) (n m : ℕ) → first_fault_up_to sizes records n ≡ Some (Floating m) → ⊥
none_floating sizes records n m e = subst (HasKind FloatsNot (λ h. h) float_not) e (kind_up_to FloatsNot (λ h. h) float_not sizes records n) tt

of_records : (sizes : YardSizes) (entries : List Entry) (n : ℕ) (fields : List (List ℕ)) → AllByRecursion (λ fault. IsOfRecord fault.1) (faults_of sizes entries n fields)
of_records sizes entries n fields = (tt, (tt, (tt, (tt, (tt, (tt, tt))))))

-- the fault of a text that is short enough says of a record
pub of_record : (sizes : YardSizes) (text : List ℕ) (fault : YardFault) → length text ≤ max_bytes → fault_of_text sizes text ≡ Some fault → IsOfRecord fault
of_record sizes text fault short e =
    let within : nat_le (length text) max_bytes ≡ true = le-leb (length text) max_bytes short in
    let is : first_fault sizes (records_of text) ≡ Some fault = rw within at e in
    subst (HasKind IsOfRecord tt of_records) is (kind_whole IsOfRecord tt of_records (λ n. tt) sizes (records_of text))

-- what the fault of the bytes says of their source
pub fault_written_of : (sizes : YardSizes) (given : Option (List ℕ)) (before after : ℕ) (text : List ℕ) (fault : YardFault) → length text ≤ max_bytes → IsTextOf given text
    → (fault ≡ Memory) ⊎ (fault_of_text sizes text ≡ Some fault) → ReadingFailsWith sizes given before after fault
fault_written_of sizes given before after text Memory short is h = tt
fault_written_of sizes given before after text Read short is h = absurd (⊎_elim (λ e. cc e) (λ e. of_record sizes text Read short e) h)
fault_written_of sizes given before after text TooLarge short is h = absurd (⊎_elim (λ e. cc e) (λ e. of_record sizes text TooLarge short e) h)
fault_written_of sizes given before after text (Header n) short is h = (text, is, ⊎_elim (λ e. cc e) (λ e. e) h)
fault_written_of sizes given before after text (Fields n) short is h = (text, is, ⊎_elim (λ e. cc e) (λ e. e) h)
fault_written_of sizes given before after text (Digits n) short is h = (text, is, ⊎_elim (λ e. cc e) (λ e. e) h)
fault_written_of sizes given before after text (Outside n) short is h = (text, is, ⊎_elim (λ e. cc e) (λ e. e) h)
fault_written_of sizes given before after text (PlaceTaken n) short is h = (text, is, ⊎_elim (λ e. cc e) (λ e. e) h)
fault_written_of sizes given before after text (Floating n) short is h = (text, is, ⊎_elim (λ e. cc e) (λ e. e) h)
fault_written_of sizes given before after text (StandsAlready n) short is h = (text, is, ⊎_elim (λ e. cc e) (λ e. e) h)
fault_written_of sizes given before after text (TooMany n) short is h = (text, is, ⊎_elim (λ e. cc e) (λ e. e) h)
