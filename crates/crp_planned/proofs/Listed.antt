-- What an accepted yard list says: each container has a name that a line can give, and stands in one place.
use Rattle.std.proofs.Common.{◌≡◌, ◌∙◌, ◌<◌, ◌≤◌, ◌+◌, ◌-◌, ◌==◌, ℕ, zero, suc, Bool, true, false, cond, not, nat_le, List, [], ◌∷◌, ◌++◌, length, length-append, take, get_or, map, fold, All, Option, Some, None, refl, sym, ap, subst, arith}
use Rattle.std.specs.Prelude.{◌&&◌, max, IsTrue, option_to_list}
use Rattle.std.specs.List.{AllByRecursion, IsDistinct, list_any}
use Rattle.std.specs.Map.{lookup}
use Rattle.std.proofs.Math.Seq.{take-suc}
use Rattle.std.proofs.lemmas.Bool.{and_parts, leb-false}
use Rattle.std.proofs.lemmas.List.{length-map, map-append, take_all}
use Rattle.crp_plan.specs.BayNames.{YardBay, same_bay}
use Rattle.crp_sizes.specs.Sizes.{YardSizes, heights_at}
use Rattle.crp_yard.specs.Places.{YardPlace, same_place}
use Rattle.crp_yard.specs.Records.{Entry, is_block, is_container, is_well_formed, has_numbers, place_named, is_within, field_of, entry_of, entries_of, records_of, height_of}
use Rattle.crp_yard.specs.Faults.{max_containers, max_bytes, is_taken, is_named, fault_of, fault_behind, fault_at, first_fault, first_fault_up_to}
use Rattle.crp_yard.specs.Inventory.{Inventory, StackedBay, FitBay, times, containers_of, bays_of, with_bay, stacked, stack_up_to, stacks_up_to, container_at, inventory_of}
use Rattle.crp_yard.specs.Listings.{entry_names}
use Rattle.crp_yard.specs.Naming.{IsNamedBay}
use Rattle.crp_yard.specs.Reading.{IsYardListOf}
use Rattle.crp_yard.specs.declared.fault.YardFault.TheVariants.{TooLarge}
use Rattle.crp_yard.proofs.Least.{neither, faultless-up_to}
use Rattle.crp_yard.proofs.ListingSteps.{named_is, once-push}
use Rattle.crp_yard.proofs.NamedBays.{all_both, yard_named}
use Rattle.crp_yard.proofs.OnceSteps.{bays_times, few_times}
use Rattle.crp_yard.proofs.RecordSteps.{not_one}
use Rattle.crp_yard.proofs.Standing.{not_false}
use Rattle.crp_yard.proofs.Sums.{below_then}
use Rattle.crp_yard.proofs.YardSteps.{first_seen_once, all_fit}

-- a container that a line can name
abbrev pub IsName : List ℕ → Type 0
IsName container = IsTrue (is_container container)

-- rows of such containers
abbrev pub AreNamed : List (List (List ℕ)) → Type 0
AreNamed rows = AllByRecursion (AllByRecursion IsName) rows

-- ---- one record

-- an entry behind others names a new container, and there is room for it
record IsGoodEntry (entries : List Entry) (entry : Entry) : Type 0 where
  name : IsName entry.1
  fresh : is_named entries entry.1 ≡ false
  room : length entries < max_containers

none_first : {X : Type 0} (t : Bool) (x : X) (rest : Option X) → cond t (Some x) rest ≡ None → (t ≡ false) × (rest ≡ None)
none_first true x rest e = absurd (cc)
none_first false x rest e = (refl, e)

good_entry : (sizes : YardSizes) (entries : List Entry) (n : ℕ) (fields : List (List ℕ)) → fault_of sizes entries n fields ≡ None → IsGoodEntry entries (entry_of fields)
unfolding fault_of entry_of
good_entry sizes entries n fields e =
    let formed = none_first (not (is_well_formed fields)) _ _ e in
    let numbers = none_first (not (has_numbers fields)) _ _ formed.1 in
    let outside = none_first (not (is_within (heights_at sizes (place_named fields).bay) (place_named fields))) _ _ numbers.1 in
    let taken = none_first (is_taken entries (place_named fields)) _ _ outside.1 in
    let named = none_first (is_named entries (field_of fields 4)) _ _ taken.1 in
    let full = none_first (nat_le max_containers (length entries)) _ _ named.1 in
    let both = and_parts (length fields == 5) (is_block (field_of fields 0) && is_container (field_of fields 4)) (not_false (is_well_formed fields) formed.0) in
    let last = and_parts (is_block (field_of fields 0)) (is_container (field_of fields 4)) both.1 in
    record { name = last.1; fresh = named.0; room = leb-false max_containers (length entries) full.0 }

good_behind : (sizes : YardSizes) (entries : List Entry) (n : ℕ) (fields : List (List ℕ)) → fault_behind sizes entries (suc (suc n)) fields ≡ None → IsGoodEntry entries (entry_of fields)
unfolding fault_behind
good_behind sizes entries n fields e = let other : (suc (suc n) == 1) ≡ false = not_one n in good_entry sizes entries (suc (suc n)) fields (rw other at e)

good_record : (sizes : YardSizes) (first : List (List ℕ)) (records : List (List (List ℕ))) → first_fault sizes (first ∷ records) ≡ None → (i : ℕ) → i < length records
    → IsGoodEntry (map entry_of (take i records)) (entry_of (get_or records i []))
unfolding first_fault fault_at
good_record sizes first records e i below =
    let parts = neither (first_fault_up_to sizes (first ∷ records) (max 1 (length (first ∷ records)))) _ e in
    let top : max 1 (length (first ∷ records)) ≡ suc (length records) = omega arith in
    let none = faultless-up_to sizes (first ∷ records) (suc (length records)) (rw top at parts.0) (suc (suc i)) (omega arith) (omega arith) in
    let number : suc (suc i) - 1 ≡ suc i = omega arith in
    good_behind sizes (map entry_of (take i records)) i (get_or records i []) (rw number at none)

-- ---- all records

-- entries of good names, none of them twice, and no more than are read
record AreGood (entries : List Entry) : Type 0 where
  names : AllByRecursion (λ entry. IsName entry.1) entries
  once : (container : List ℕ) → times container (entry_names entries) ≤ 1
  few : length entries ≤ max_containers

good_none : AreGood []
good_none = record { names = tt; once = λ c. omega arith; few = omega arith }

good_more : (entries : List Entry) (entry : Entry) → AreGood entries → IsGoodEntry entries entry → AreGood (entries ++ entry ∷ [])
good_more entries entry before own = record {
  names = all_both (λ (e : Entry). IsName e.1) entries (entry ∷ []) before.names (own.name, tt);
  once = subst (λ l. (c : List ℕ) → times c l ≤ 1) (sym (map-append (λ (e : Entry). e.1) entries (entry ∷ [])))
      (once-push (entry_names entries) entry.1 before.once (sym (named_is entries entry.1) ∙ own.fresh));
  few = let room = own.room in omega (arith, room, length-append entries (entry ∷ []));
}

good_front : (sizes : YardSizes) (first : List (List ℕ)) (records : List (List (List ℕ))) → first_fault sizes (first ∷ records) ≡ None → (k : ℕ) → k ≤ length records
    → AreGood (map entry_of (take k records))
good_front sizes first [] e zero within = good_none
good_front sizes first (x ∷ records) e zero within = good_none
good_front sizes first records e (suc k) within =
    subst AreGood (sym (ap (map entry_of) (take-suc records k [] (omega arith)) ∙ map-append entry_of (take k records) (get_or records k [] ∷ [])))
    (good_more (map entry_of (take k records)) (entry_of (get_or records k [])) (good_front sizes first records e k (omega arith)) (good_record sizes first records e k (omega arith)))

good_entries : (sizes : YardSizes) (records : List (List (List ℕ))) → first_fault sizes records ≡ None → AreGood (entries_of records)
good_entries sizes [] e = good_none
good_entries sizes (first ∷ records) e =
    subst (λ l. AreGood (map entry_of l)) (take_all (length records) records (omega arith)) (good_front sizes first records e (length records) (omega arith))

-- ---- the yard

found_named : (test : YardPlace → Bool) (entries : List Entry) → AllByRecursion (λ entry. IsName entry.1) entries → AllByRecursion IsName (option_to_list (lookup test entries))
found_named test [] names = tt
found_named test (entry ∷ entries) names = by (test entry.0) (found_named test entries names.1)
  where
    by : (t : Bool) → AllByRecursion IsName (option_to_list (lookup test entries)) → AllByRecursion IsName (option_to_list (cond t (Some entry.1) (lookup test entries)))
    by true later = (names.0, tt)
    by false later = later

stack_named : (entries : List Entry) (bay : YardBay) (row tier : ℕ) → AllByRecursion (λ entry. IsName entry.1) entries → AllByRecursion IsName (stack_up_to entries bay row tier)
stack_named entries bay row zero names = tt
stack_named entries bay row (suc tier) names =
    let place : YardPlace = record { bay = bay; row = row; tier = suc tier } in
    all_both IsName (stack_up_to entries bay row tier) (option_to_list (container_at entries place)) (stack_named entries bay row tier names) (found_named (same_place place) entries names)

stacks_named : (entries : List Entry) (bay : YardBay) (heights : List ℕ) (rows : ℕ) → AllByRecursion (λ entry. IsName entry.1) entries → AreNamed (stacks_up_to entries bay heights rows)
stacks_named entries bay heights zero names = tt
stacks_named entries bay heights (suc row) names =
    all_both (AllByRecursion IsName) (stacks_up_to entries bay heights row) (stack_up_to entries bay (suc row) (height_of heights (suc row)) ∷ [])
    (stacks_named entries bay heights row names) (stack_named entries bay (suc row) (height_of heights (suc row)) names, tt)

bays_named : (sizes : YardSizes) (entries : List Entry) (bays : List YardBay) → AllByRecursion (λ entry. IsName entry.1) entries
    → AllByRecursion (λ (bay : StackedBay). AreNamed bay.1) (map (stacked sizes entries) bays)
bays_named sizes entries [] names = tt
bays_named sizes entries (bay ∷ bays) names = (stacks_named entries bay (heights_at sizes bay) (length (heights_at sizes bay)) names, bays_named sizes entries bays names)

few_seen : (seen bays : List YardBay) → length (fold with_bay seen bays) ≤ length seen + length bays
few_seen seen [] = omega arith
few_seen seen (bay ∷ bays) = let one = by (list_any (same_bay bay) seen) in omega (arith, one, few_seen (with_bay seen bay) bays)
  where
    by : (t : Bool) → length (cond t seen (seen ++ bay ∷ [])) ≤ length seen + 1
    by true = omega arith
    by false = omega (arith, length-append seen (bay ∷ []))

names_stay : (sizes : YardSizes) (entries : List Entry) (bays : List YardBay) → map (λ (b : StackedBay). b.0) (map (stacked sizes entries) bays) ≡ bays
names_stay sizes entries [] = refl
names_stay sizes entries (bay ∷ bays) = ap (λ l. bay ∷ l) (names_stay sizes entries bays)

-- what an accepted list says of a yard
pub record IsListed (yard : Inventory) : Type 0 where
  pub bay_names : AllByRecursion IsNamedBay yard.bays
  pub names : AllByRecursion (λ bay. AreNamed bay.1) yard.bays
  pub fit : All (λ bay. FitBay (heights_at yard.sizes bay.0) bay.1) yard.bays
  pub bays_once : IsDistinct same_bay (map (λ bay. bay.0) yard.bays)
  pub containers_once : (container : List ℕ) → times container (containers_of yard.bays) ≤ 1
  pub few : length yard.bays ≤ max_containers

listed_entries : (sizes : YardSizes) (entries : List Entry) → AreGood entries → AllByRecursion IsNamedBay (inventory_of sizes entries).bays → IsListed (inventory_of sizes entries)
listed_entries sizes entries good named =
    let bays = bays_of entries in
    let apart = first_seen_once (map (λ (e : Entry). e.0.bay) entries) in
    record {
      bay_names = named;
      names = bays_named sizes entries bays good.names;
      fit = all_fit sizes entries bays;
      bays_once = subst (IsDistinct same_bay) (sym (names_stay sizes entries bays)) apart;
      containers_once = λ c. subst (λ n. n ≤ 1) (sym (bays_times sizes entries c bays)) (below_then (few_times sizes entries c bays apart) (good.once c));
      few = let many = good.few in omega (arith, many, length-map bays (stacked sizes entries), few_seen [] (map (λ (e : Entry). e.0.bay) entries), length-map entries (λ (e : Entry). e.0.bay));
    }

pub yard_listed : (sizes : YardSizes) (text : List ℕ) (yard : Inventory) → IsYardListOf sizes text yard → IsListed yard
yard_listed sizes text yard is =
    let entries = entries_of (records_of text) in
    let good = good_entries sizes (records_of text) (not_long (nat_le (length text) max_bytes) is.faultless) in
    let named = subst (λ (y : Inventory). AllByRecursion IsNamedBay y.bays) is.stands (yard_named sizes text yard is) in
    subst IsListed (sym is.stands) (listed_entries sizes entries good named)
  where
    not_long : (t : Bool) → cond t (first_fault sizes (records_of text)) (Some TooLarge) ≡ None → first_fault sizes (records_of text) ≡ None
    not_long true e = e
    not_long false e = absurd (cc)
