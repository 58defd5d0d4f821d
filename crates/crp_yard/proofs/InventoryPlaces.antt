-- The inventory of entries without a fault has what the entries say, and nothing else.
use Prim.Native.Nat.{zero}
use Rattle.std.proofs.Common.{◌≡◌, ℕ, suc, ◌<◌, ◌≤◌, ◌-◌, Bool, true, false, cond, List, [], ◌∷◌, ◌++◌, map, flat_map, length, length-append, slice_get, Some, None, refl, sym, ap, ◌∙◌, subst, inl, inr, arith}
use Rattle.std.specs.Prelude.{◌&&◌, nat_le}
use Rattle.std.specs.Map.{lookup}
use Rattle.std.specs.Str.{bytes_eq}
use Rattle.std.proofs.lemmas.Bool.{cases_eq, leb-true}
use Rattle.crp_plan.specs.BayNames.{YardBay}
use Rattle.crp_sizes.specs.Sizes.{YardSizes, heights_at}
use Rattle.crp_yard.specs.Places.{YardPlace, same_place}
use Rattle.crp_yard.specs.Records.{Entry, entry_of, entries_of, height_of}
use Rattle.crp_yard.specs.Inventory.{Inventory, StackedBay, stands as stands_in, container_at, bays_of, stack_up_to, stacks_up_to, stacked, inventory_of}
use Rattle.crp_yard.specs.Faults.{first_fault, floating_before, is_named}
use Rattle.crp_yard.specs.Listings.{AreEntriesOf}
use Rattle.crp_yard.specs.ByPlaces.{StandsAt, HasEntries}
use Rattle.crp_sizes.proofs.BaySteps.{both}
use Rattle.crp_yard.proofs.Seams.{at_seam, in_front, at_end, of_mapped, in_mapped, any_at, any_from, any_in_flat, any_of_flat, same_test}
use Rattle.crp_yard.proofs.RecordSteps.{floating-whole}
use Rattle.crp_yard.proofs.FirstSeen.{all_seen, named_first, in_order}
use Rattle.crp_yard.proofs.Standing.{AreSound, same_place_is, stands_there, tier_of, sound_entries}

-- what is read at a place some entry says
said_there : (place : YardPlace) (entries : List Entry) (c : List ℕ) → lookup (same_place place) entries ≡ Some c → (i : ℕ) × (slice_get entries i ≡ Some (place, c))
said_there place [] c h = absurd (cc)
said_there place (e ∷ entries) c h = by (same_place place e.0) refl h (said_there place entries c)
  where
    by : (b : Bool) → same_place place e.0 ≡ b → cond b (Some e.1) (lookup (same_place place) entries) ≡ Some c → (lookup (same_place place) entries ≡ Some c → (i : ℕ) × (slice_get entries i ≡ Some (place, c)))
        → (i : ℕ) × (slice_get (e ∷ entries) i ≡ Some (place, c))
    by true t at rest =
        let here : e.0 ≡ place = sym (same_place_is place e.0 t) in
        let name : e.1 ≡ c = cc at in
        let whole : ◌≡◌ {A = Entry} e (place, c) = λ i. (here i, name i) in
        (0, ap Some whole)
    by false t at rest = let found = rest at in (suc found.0, found.1)

module _ (entries : List Entry) (bay : YardBay) (heights : List ℕ) where
  as_many_rows : (n : ℕ) → length (stacks_up_to entries bay heights n) ≡ n
  as_many_rows zero = refl
  as_many_rows (suc n) = omega (arith, as_many_rows n, length-append (stacks_up_to entries bay heights n) (stack_up_to entries bay (suc n) (height_of heights (suc n)) ∷ []))

  row_of : (n k : ℕ) (stack : List (List ℕ)) → slice_get (stacks_up_to entries bay heights n) k ≡ Some stack → stack_up_to entries bay (suc k) (height_of heights (suc k)) ≡ stack
  row_of zero k stack e = absurd (cc)
  row_of (suc n) k stack e =
      elim (at_end (stacks_up_to entries bay heights n) (stack_up_to entries bay (suc n) (height_of heights (suc n))) k stack e) [
        | inl before ↦ row_of n k stack before
        | inr last ↦
            let here : k ≡ n = last.0 ∙ as_many_rows n in
            ap (λ (j : ℕ). stack_up_to entries bay (suc j) (height_of heights (suc j))) here ∙ last.1
      ]

  row_there : (n k : ℕ) → k < n → slice_get (stacks_up_to entries bay heights n) k ≡ Some (stack_up_to entries bay (suc k) (height_of heights (suc k)))
  row_there zero k below = absurd (omega arith)
  row_there (suc n) k below =
      let last = stack_up_to entries bay (suc n) (height_of heights (suc n)) in
      elim (cases_eq k n) [
        | inl same ↦
            subst (λ (j : ℕ). slice_get (stacks_up_to entries bay heights n ++ last ∷ []) j ≡ Some (stack_up_to entries bay (suc j) (height_of heights (suc j)))) (sym same)
            (at_seam (stacks_up_to entries bay heights n) last n (as_many_rows n))
        | inr other ↦ in_front (stacks_up_to entries bay heights n) (last ∷ []) k _ (row_there n k (omega arith))
      ]

module _ (sizes : YardSizes) (entries : List Entry) (sound : AreSound sizes entries) where
  stands : (i : ℕ) (entry : Entry) → slice_get entries i ≡ Some entry → StandsAt (inventory_of sizes entries) entry.0 entry.1
  stands i entry at =
      let bay = entry.0.bay in
      let row = entry.0.row in
      let heights = heights_at sizes bay in
      let seen = all_seen [] (map (λ (e : Entry). e.0.bay) entries) i bay (in_mapped (λ (e : Entry). e.0.bay) entries i entry at) in
      let within = both (nat_le 1 row && nat_le row (length heights)) (nat_le 1 entry.0.tier && nat_le entry.0.tier (height_of heights row)) (sound.within i entry at) in
      let rows = both (nat_le 1 row) (nat_le row (length heights)) within.0 in
      let tiers = both (nat_le 1 entry.0.tier) (nat_le entry.0.tier (height_of heights row)) within.1 in
      let counts : 1 ≤ row = leb-true 1 row rows.0 in
      let few : row ≤ length heights = leb-true row (length heights) rows.1 in
      let number : suc (row - 1) ≡ row = omega arith in
      record {
        number = seen.0;
        rows = stacks_up_to entries bay heights (length heights);
        bay_there = in_mapped (stacked sizes entries) (bays_of entries) seen.0 bay seen.1;
        row_counts = counts;
        tiers = stack_up_to entries bay row (height_of heights row);
        row_there = subst (λ (r : ℕ). slice_get (stacks_up_to entries bay heights (length heights)) (row - 1) ≡ Some (stack_up_to entries bay r (height_of heights r))) number
            (row_there entries bay heights (length heights) (row - 1) (omega arith));
        tier_counts = leb-true 1 entry.0.tier tiers.0;
        container_there = stands_there sizes entries sound i entry at;
      }

  stated : (place : YardPlace) (container : List ℕ) → StandsAt (inventory_of sizes entries) place container → (i : ℕ) × (slice_get entries i ≡ Some (place, container))
  stated place container h =
      let found = of_mapped (stacked sizes entries) (bays_of entries) h.number (place.bay, h.rows) h.bay_there in
      let bay : found.0 ≡ place.bay = ap (λ (b : StackedBay). b.0) found.2 in
      let heights = heights_at sizes place.bay in
      let own : stacks_up_to entries found.0 (heights_at sizes found.0) (length (heights_at sizes found.0)) ≡ h.rows = ap (λ (b : StackedBay). b.1) found.2 in
      let rows : stacks_up_to entries place.bay heights (length heights) ≡ h.rows = ap (λ (b : YardBay). stacks_up_to entries b (heights_at sizes b) (length (heights_at sizes b))) (sym bay) ∙ own in
      let in_row : slice_get (stacks_up_to entries place.bay heights (length heights)) (place.row - 1) ≡ Some h.tiers = ap (λ (l : List (List (List ℕ))). slice_get l (place.row - 1)) rows ∙ h.row_there in
      let row : suc (place.row - 1) ≡ place.row = let counts = h.row_counts in omega arith in
      let tier : suc (place.tier - 1) ≡ place.tier = let counts = h.tier_counts in omega arith in
      let tiers = row_of entries place.bay heights (length heights) (place.row - 1) h.tiers in_row in
      let there = ap (λ (l : List (List ℕ)). slice_get l (place.tier - 1)) tiers ∙ h.container_there in
      let read = tier_of sizes entries sound place.bay (suc (place.row - 1)) (height_of heights (suc (place.row - 1))) (place.tier - 1) container there in
      let whole : ◌≡◌ {A = YardPlace} (record { bay = place.bay; row = suc (place.row - 1); tier = suc (place.tier - 1) }) place = λ i. record { bay = place.bay; row = row i; tier = tier i } in
      said_there place entries container (ap (container_at entries) (sym whole) ∙ read)

  pub has_entries : HasEntries entries (inventory_of sizes entries)
  has_entries = record {
    stands = stands;
    stated = stated;
    named = λ number bay e.
        let found = of_mapped (stacked sizes entries) (bays_of entries) number bay e in
        let same : found.0 ≡ bay.0 = ap (λ (b : StackedBay). b.0) found.2 in
        named_first entries number bay.0 (found.1 ∙ ap Some same);
    first_seen = λ a b i j first second below at_a at_b.
        let one = of_mapped (stacked sizes entries) (bays_of entries) a first at_a in
        let other = of_mapped (stacked sizes entries) (bays_of entries) b second at_b in
        let this : one.0 ≡ first.0 = ap (λ (s : StackedBay). s.0) one.2 in
        let that : other.0 ≡ second.0 = ap (λ (s : StackedBay). s.0) other.2 in
        in_order entries a b i j first.0 second.0 below (one.1 ∙ ap Some this) (other.1 ∙ ap Some that);
  }

no_entries : (sizes : YardSizes) → AreSound sizes []
no_entries sizes = record { within = λ i e at. absurd (cc); free = λ i e at. absurd (cc); borne = λ i e at. absurd (cc) }

pub all_places : (sizes : YardSizes) (records : List (List (List ℕ))) → first_fault sizes records ≡ None → HasEntries (entries_of records) (inventory_of sizes (entries_of records))
all_places sizes [] e = has_entries sizes [] (no_entries sizes)
all_places sizes (first ∷ records) e = has_entries sizes (map entry_of records) (sound_entries sizes first records e)

-- a container is named by an entry where it stands in the yard
pub names_stand : (entries : List Entry) (yard : Inventory) → HasEntries entries yard → (c : List ℕ) → is_named entries c ≡ stands_in yard.bays c
names_stand entries yard has c = same_test (is_named entries c) (stands_in yard.bays c) there back
  where
    there : is_named entries c ≡ true → stands_in yard.bays c ≡ true
    there h =
        let found = any_at (λ (e : Entry). bytes_eq c e.1) entries h in
        let at = has.stands found.0 found.1 found.2 in
        any_in_flat (bytes_eq c) (λ (bay : StackedBay). flat_map (λ (stack : List (List ℕ)). stack) bay.1) yard.bays at.number (found.1.0.bay, at.rows) at.bay_there
        (any_in_flat (bytes_eq c) (λ (stack : List (List ℕ)). stack) at.rows (found.1.0.row - 1) at.tiers at.row_there (any_from (bytes_eq c) at.tiers (found.1.0.tier - 1) found.1.1 at.container_there found.3))

    back : stands_in yard.bays c ≡ true → is_named entries c ≡ true
    back h =
        let bay = any_of_flat (bytes_eq c) (λ (bay : StackedBay). flat_map (λ (stack : List (List ℕ)). stack) bay.1) yard.bays h in
        let row = any_of_flat (bytes_eq c) (λ (stack : List (List ℕ)). stack) bay.1.1 bay.3 in
        let tier = any_at (bytes_eq c) row.1 row.3 in
        let place : YardPlace = record { bay = bay.1.0; row = suc row.0; tier = suc tier.0 } in
        let r : suc row.0 - 1 ≡ row.0 = omega arith in
        let t : suc tier.0 - 1 ≡ tier.0 = omega arith in
        let at : StandsAt yard place tier.1 = record {
          number = bay.0;
          rows = bay.1.1;
          bay_there = bay.2;
          row_counts = omega arith;
          tiers = row.1;
          row_there = subst (λ (k : ℕ). slice_get bay.1.1 k ≡ Some row.1) (sym r) row.2;
          tier_counts = omega arith;
          container_there = subst (λ (k : ℕ). slice_get row.1 k ≡ Some tier.1) (sym t) tier.2;
        } in
        let found = has.stated place tier.1 at in
        any_from (λ (e : Entry). bytes_eq c e.1) entries found.0 (place, tier.1) found.1 tier.3

-- the entries of a text whose records have no fault but by floating, where none floats
pub names_of_entries : (sizes : YardSizes) (records : List (List (List ℕ))) (entries : List Entry) → AreEntriesOf sizes records entries → floating_before entries (length entries) ≡ None
    → (c : List ℕ) → is_named entries c ≡ stands_in (inventory_of sizes entries).bays c
names_of_entries sizes records entries are none c =
    let floating : None ≡ floating_before (entries_of records) (length (entries_of records)) = sym none ∙ ap (λ (es : List Entry). floating_before es (length es)) are.said in
    let has = all_places sizes records (floating-whole sizes records None are.faultless floating) in
    names_stand entries (inventory_of sizes entries) (subst (λ (es : List Entry). HasEntries es (inventory_of sizes es)) (sym are.said) has) c
