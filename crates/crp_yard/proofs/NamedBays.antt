-- The bays and the containers of an accepted yard list have names that fit a line.
use Rattle.std.proofs.Common.{◌≡◌, ℕ, zero, suc, ◌-◌, ◌<◌, ◌≤◌, ◌==◌, Bool, true, false, not, cond, List, [], ◌∷◌, ◌++◌, length, take, get_or, map, fold, Option, Some, None, refl, sym, subst, arith, nat_le}
use Rattle.std.specs.Prelude.{◌&&◌, max, option_to_list, flat_map}
use Rattle.std.specs.List.{AllByRecursion, list_all, list_any}
use Rattle.std.specs.Char.{is_ascii_digit}
use Rattle.std.specs.Map.{lookup}
use Rattle.std.proofs.lemmas.Bool.{and_parts, leb-true}
use Rattle.std.proofs.lemmas.List.{get_or_default}
use Rattle.std.proofs.lemmas.List.Concat.{flat_map-append}
use Rattle.std.proofs.lemmas.List.Elements.{All-from_recursion, recursion_from_All, All-map}
use Rattle.crp_plan.specs.BayNames.{YardBay, IsYardBay, same_bay}
use Rattle.crp_sizes.specs.Sizes.{YardSizes, heights_at}
use Rattle.crp_sizes.specs.Fields.{has_number}
use Rattle.crp_yard.specs.Places.{YardPlace, same_place}
use Rattle.crp_yard.specs.Records.{Entry, is_block, is_container, is_number, number_of, is_well_formed, has_numbers, field_of, entry_of, entries_of, records_of, height_of}
use Rattle.crp_yard.specs.Faults.{fault_of, fault_behind, fault_at, first_fault, first_fault_up_to, max_bytes}
use Rattle.crp_yard.specs.Inventory.{Inventory, bays_of, with_bay, stacked, stack_up_to, stacks_up_to, container_at}
use Rattle.crp_yard.specs.Naming.{FitsLine, IsNamedBay}
use Rattle.crp_yard.specs.Reading.{IsYardListOf}
use Rattle.crp_yard.specs.declared.fault.YardFault.TheVariants.{TooLarge}
use Rattle.crp_sizes.proofs.BaySteps.{named}
use Rattle.crp_yard.proofs.Least.{neither, faultless-up_to}
use Rattle.crp_yard.proofs.RecordSteps.{not_one}

-- what holds of each of two lists holds of both together
pub all_both : {X : Type 0} (P : X → Type 0) (xs ys : List X) → AllByRecursion P xs → AllByRecursion P ys → AllByRecursion P (xs ++ ys)
all_both P [] ys a b = b
all_both P (x ∷ xs) ys a b = (a.0, all_both P xs ys a.1 b)

-- ---- a record names a bay and a container

-- a number of at most four digits
small_number : (bytes : List ℕ) → length bytes ≤ 4 → AllByRecursion (λ b. b ≤ 57) bytes → number_of bytes < 10000
small_number [] few low = omega arith
small_number (a ∷ []) few low = omega (arith, low.0)
small_number (a ∷ b ∷ []) few low = omega (arith, low.0, low.1.0)
small_number (a ∷ b ∷ c ∷ []) few low = omega (arith, low.0, low.1.0, low.1.1.0)
small_number (a ∷ b ∷ c ∷ d ∷ []) few low = omega (arith, low.0, low.1.0, low.1.1.0, low.1.1.1.0)
small_number (a ∷ b ∷ c ∷ d ∷ e ∷ bytes) few low = absurd (omega (arith, few))

low_digits : (bytes : List ℕ) → list_all is_ascii_digit bytes ≡ true → AllByRecursion (λ b. b ≤ 57) bytes
low_digits [] e = tt
low_digits (b ∷ bytes) e =
    let parts = and_parts (is_ascii_digit b) (list_all is_ascii_digit bytes) e in
    let digit = and_parts (nat_le 48 b) (nat_le b 57) parts.0 in
    (leb-true b 57 digit.1, low_digits bytes parts.1)

number_small : (bytes : List ℕ) → is_number bytes ≡ true → number_of bytes < 10000
number_small bytes e =
    let parts = and_parts (nat_le 1 (length bytes) && nat_le (length bytes) 4) (list_all is_ascii_digit bytes) e in
    let long = and_parts (nat_le 1 (length bytes)) (nat_le (length bytes) 4) parts.0 in
    small_number bytes (leb-true (length bytes) 4 long.1) (low_digits bytes parts.1)

high_bytes : (bytes : List ℕ) → list_all (λ b. nat_le 32 b) bytes ≡ true → AllByRecursion (λ b. 32 ≤ b) bytes
high_bytes [] e = tt
high_bytes (b ∷ bytes) e =
    let parts = and_parts (nat_le 32 b) (list_all (λ b. nat_le 32 b) bytes) e in
    (leb-true 32 b parts.0, high_bytes bytes parts.1)

-- where the first fault of several is none, the test before it is passed
passed : {X : Type 0} (t : Bool) (x : X) (rest : Option X) → cond (not t) (Some x) rest ≡ None → (t ≡ true) × (rest ≡ None)
passed true x rest e = (refl, e)
passed false x rest e = cc

-- an entry names a bay and a container
pub record HasGoodNames (entry : Entry) : Type 0 where
  pub bay : IsYardBay entry.0.bay
  pub container : FitsLine entry.1

good_entry : (sizes : YardSizes) (entries : List Entry) (n : ℕ) (fields : List (List ℕ)) → fault_of sizes entries n fields ≡ None → HasGoodNames (entry_of fields)
unfolding fault_of entry_of
good_entry sizes entries n fields e =
    let formed = passed (is_well_formed fields) _ _ e in
    let numbers = passed (has_numbers fields) _ _ formed.1 in
    let three = and_parts (is_number (field_of fields 1) && (is_number (field_of fields 2) && is_number (field_of fields 3))) (nat_le 1 (number_of (field_of fields 1))) numbers.0 in
    let first = and_parts (is_number (field_of fields 1)) (is_number (field_of fields 2) && is_number (field_of fields 3)) three.0 in
    let both = and_parts (length fields == 5) (is_block (field_of fields 0) && is_container (field_of fields 4)) formed.0 in
    let last = and_parts (is_block (field_of fields 0)) (is_container (field_of fields 4)) both.1 in
    let name = and_parts (nat_le 1 (length (field_of fields 4)) && nat_le (length (field_of fields 4)) 35) (list_all (λ b. nat_le 32 b) (field_of fields 4)) last.1 in
    let number : has_number fields ≡ true = rw (first.0, three.1) refl in
    record {
      bay = named fields (number_of (field_of fields 1)) last.0 number refl (number_small (field_of fields 1) first.0);
      container = All-from_recursion (λ b. 32 ≤ b) (field_of fields 4) (high_bytes (field_of fields 4) name.1);
    }

-- ---- so do all records of a list without a fault

good_behind : (sizes : YardSizes) (entries : List Entry) (n : ℕ) (fields : List (List ℕ)) → fault_behind sizes entries (suc (suc n)) fields ≡ None → HasGoodNames (entry_of fields)
unfolding fault_behind
good_behind sizes entries n fields e = let other : (suc (suc n) == 1) ≡ false = not_one n in good_entry sizes entries (suc (suc n)) fields (rw other at e)

good_record : (sizes : YardSizes) (first : List (List ℕ)) (records : List (List (List ℕ))) → first_fault sizes (first ∷ records) ≡ None → (i : ℕ) → i < length records → HasGoodNames (entry_of (get_or records i []))
unfolding first_fault fault_at
good_record sizes first records e i below =
    let parts = neither (first_fault_up_to sizes (first ∷ records) (max 1 (length (first ∷ records)))) _ e in
    let top : max 1 (length (first ∷ records)) ≡ suc (length records) = omega arith in
    let none = faultless-up_to sizes (first ∷ records) (suc (length records)) (rw top at parts.0) (suc (suc i)) (omega arith) (omega arith) in
    let number : suc (suc i) - 1 ≡ suc i = omega arith in
    good_behind sizes (map entry_of (take i records)) i (get_or records i []) (rw number at none)

good_entries : (sizes : YardSizes) (records : List (List (List ℕ))) → first_fault sizes records ≡ None → AllByRecursion HasGoodNames (entries_of records)
good_entries sizes [] e = tt
good_entries sizes (first ∷ records) e =
    recursion_from_All HasGoodNames (map entry_of records)
    (All-map HasGoodNames entry_of records
    (λ i d below. subst (λ fields. HasGoodNames (entry_of fields)) (get_or_default records i [] d below) (good_record sizes first records e i below)))

-- ---- and all bays of the yard

-- what holds of all bays holds of each once
once_each : (P : YardBay → Type 0) (seen bays : List YardBay) → AllByRecursion P seen → AllByRecursion P bays → AllByRecursion P (fold with_bay seen bays)
once_each P seen [] s h = s
once_each P seen (bay ∷ bays) s h = once_each P (with_bay seen bay) bays (more (list_any (same_bay bay) seen)) h.1
  where
    more : (t : Bool) → AllByRecursion P (cond t seen (seen ++ bay ∷ []))
    more true = s
    more false = all_both P seen (bay ∷ []) s (h.0, tt)

bays_named : (entries : List Entry) → AllByRecursion HasGoodNames entries → AllByRecursion IsYardBay (map (λ entry. entry.0.bay) entries)
bays_named [] good = tt
bays_named (entry ∷ entries) good = let first = good.0 in (first.bay, bays_named entries good.1)

-- what is found among entries has a good name
found_fits : (test : YardPlace → Bool) (entries : List Entry) → AllByRecursion HasGoodNames entries → AllByRecursion FitsLine (option_to_list (lookup test entries))
found_fits test [] good = tt
found_fits test (entry ∷ entries) good = let first = good.0 in by (test entry.0) (first.container, tt) (found_fits test entries good.1)
  where
    by : (t : Bool) → AllByRecursion FitsLine (entry.1 ∷ []) → AllByRecursion FitsLine (option_to_list (lookup test entries)) → AllByRecursion FitsLine (option_to_list (cond t (Some entry.1) (lookup test entries)))
    by true here later = here
    by false here later = later

stack_fits : (entries : List Entry) (bay : YardBay) (row tier : ℕ) → AllByRecursion HasGoodNames entries → AllByRecursion FitsLine (stack_up_to entries bay row tier)
stack_fits entries bay row zero good = tt
stack_fits entries bay row (suc tier) good =
    let place : YardPlace = record { bay = bay; row = row; tier = suc tier } in
    all_both FitsLine (stack_up_to entries bay row tier) (option_to_list (container_at entries place)) (stack_fits entries bay row tier good) (found_fits (same_place place) entries good)

stacks_fit : (entries : List Entry) (bay : YardBay) (heights : List ℕ) (rows : ℕ) → AllByRecursion HasGoodNames entries → AllByRecursion FitsLine (flat_map (λ stack. stack) (stacks_up_to entries bay heights rows))
stacks_fit entries bay heights zero good = tt
stacks_fit entries bay heights (suc row) good =
    let before = stacks_up_to entries bay heights row in
    let last = stack_up_to entries bay (suc row) (height_of heights (suc row)) in
    subst (AllByRecursion FitsLine) (sym (flat_map-append (λ stack. stack) before (last ∷ [])))
    (all_both FitsLine (flat_map (λ stack. stack) before) (flat_map (λ stack. stack) (last ∷ [])) (stacks_fit entries bay heights row good)
    (all_both FitsLine last [] (stack_fits entries bay (suc row) (height_of heights (suc row)) good) tt))

stacked_named : (sizes : YardSizes) (entries : List Entry) (bays : List YardBay) → AllByRecursion HasGoodNames entries → AllByRecursion IsYardBay bays → AllByRecursion IsNamedBay (map (stacked sizes entries) bays)
stacked_named sizes entries [] good names = tt
stacked_named sizes entries (bay ∷ bays) good names =
    (record { name = names.0; containers = stacks_fit entries bay (heights_at sizes bay) (length (heights_at sizes bay)) good }, stacked_named sizes entries bays good names.1)

pub yard_named : (sizes : YardSizes) (text : List ℕ) (yard : Inventory) → IsYardListOf sizes text yard → AllByRecursion IsNamedBay yard.bays
yard_named sizes text yard is =
    let entries = entries_of (records_of text) in
    let good = good_entries sizes (records_of text) (not_long (nat_le (length text) max_bytes) is.faultless) in
    subst (λ (y : Inventory). AllByRecursion IsNamedBay y.bays) (sym is.stands)
    (stacked_named sizes entries (bays_of entries) good (once_each IsYardBay [] (map (λ entry. entry.0.bay) entries) tt (bays_named entries good)))
  where
    not_long : (t : Bool) → cond t (first_fault sizes (records_of text)) (Some TooLarge) ≡ None → first_fault sizes (records_of text) ≡ None
    not_long true e = e
    not_long false e = absurd (cc e)
