-- What is written of a yard says where its containers stand.
use Prim.Native.Nat.{zero}
use Rattle.std.proofs.Common.{◌≡◌, ℕ, suc, ◌<◌, ◌≤◌, ◌+◌, ◌-◌, ◌*◌, ◌⊎◌, Bool, true, false, List, [], ◌∷◌, ◌++◌, map, flat_map, fold, length, slice_get, get_or, All, Some, None, refl, sym, ap, ◌∙◌, subst, inl, inr, ⊎_elim, arith, rules}
use Rattle.std.specs.Prelude.{◌↔◌, decimal, nat_le, if◌then◌else◌}
use Rattle.std.specs.List.{list_all}
use Rattle.std.specs.Char.{is_ascii_digit}
use Rattle.std.proofs.lemmas.Fmt.{digits_value-decimal}
use Rattle.std.proofs.lemmas.Str.Parse.{IsNumeralModel, numerals_by_fold}
use Rattle.std.proofs.lemmas.List.Elements.{All-get_or}
use Rattle.std.proofs.lemmas.Option.{slice_get_within, get_or_from_slice_get}
use Rattle.crp_plan.specs.BayNames.{YardBay, IsYardBay}
use Rattle.crp_sizes.proofs.Bays.{heights_can_be}
use Rattle.crp_sizes.specs.Sizes.{YardSizes, heights_at}
use Rattle.crp_yard.specs.declared.fault.YardFault.TheVariants.{TooLarge}
use Rattle.crp_yard.specs.Places.{YardPlace}
use Rattle.crp_yard.specs.Records.{Entry, number_of, entry_of, entries_of, records_of}
use Rattle.crp_yard.specs.Inventory.{Inventory, StackedBay, IsYard}
use Rattle.crp_yard.specs.Faults.{first_fault, max_bytes}
use Rattle.crp_yard.specs.Reading.{IsYardListOf}
use Rattle.crp_yard.specs.Text.{fields_at, records_of_stack, records_of_rows, yard_text}
use Rattle.crp_yard.specs.ByPlaces.{StandsAt, HasEntries}
use Rattle.crp_yard.proofs.Seams.{in_front, in_mapped, of_mapped}
use Rattle.crp_yard.proofs.YardSteps.{fit_rows, fit_at, low_stacks}
use Rattle.crp_yard.proofs.ReadBack.{reads_back}
use Rattle.crp_yard.proofs.InventoryPlaces.{all_places}

abbrev IsIn : {X : Type 0} → List X → X → Type 0
IsIn xs x = (i : ℕ) × (slice_get xs i ≡ Some x)

in_left : {X : Type 0} (xs ys : List X) (x : X) → IsIn xs x → IsIn (xs ++ ys) x
in_left xs ys x h = (h.0, in_front xs ys h.0 x h.1)

in_right : {X : Type 0} (xs ys : List X) (x : X) → IsIn ys x → IsIn (xs ++ ys) x
in_right [] ys x h = h
in_right (y ∷ xs) ys x h = let later = in_right xs ys x h in (suc later.0, later.1)

of_joined : {X : Type 0} (xs ys : List X) (x : X) (i : ℕ) → slice_get (xs ++ ys) i ≡ Some x → IsIn xs x ⊎ IsIn ys x
of_joined [] ys x i e = inr (i, e)
of_joined (y ∷ xs) ys x zero e = inl (0, e)
of_joined (y ∷ xs) ys x (suc i) e = ⊎_elim (λ h. inl (suc h.0, h.1)) (λ h. inr h) (of_joined xs ys x i e)

in_flat : {X Y : Type 0} (f : X → List Y) (xs : List X) (k : ℕ) (x : X) (y : Y) → slice_get xs k ≡ Some x → IsIn (f x) y → IsIn (flat_map f xs) y
in_flat f [] k x y e h = absurd (cc)
in_flat f (z ∷ xs) zero x y e h = let same : z ≡ x = cc in in_left (f z) (flat_map f xs) y (h.0, ap (λ w. slice_get (f w) h.0) same ∙ h.1)
in_flat f (z ∷ xs) (suc k) x y e h = in_right (f z) (flat_map f xs) y (in_flat f xs k x y e h)

of_flat : {X Y : Type 0} (f : X → List Y) (xs : List X) (y : Y) (i : ℕ) → slice_get (flat_map f xs) i ≡ Some y → (k : ℕ) × (x : X) × (slice_get xs k ≡ Some x) × IsIn (f x) y
of_flat f [] y i e = absurd (cc)
of_flat f (z ∷ xs) y i e =
    ⊎_elim (λ here. (0, z, refl, here)) (λ rest. let found = of_flat f xs y rest.0 rest.1 in (suc found.0, found.1, found.2, found.3))
    (of_joined (f z) (flat_map f xs) y i e)

-- the records of a stack, and of the stacks of a bay
in_stack : (bay : YardBay) (row tier : ℕ) (stack : List (List ℕ)) (k : ℕ) (c : List ℕ) → slice_get stack k ≡ Some c → IsIn (records_of_stack bay row tier stack) (fields_at bay row (tier + k) c)
in_stack bay row tier [] k c e = absurd (cc)
in_stack bay row tier (x ∷ stack) zero c e =
    let t : tier ≡ tier + 0 = omega arith in
    let same : x ≡ c = cc in
    (0, λ i. Some (fields_at bay row (t i) (same i)))
in_stack bay row tier (x ∷ stack) (suc k) c e =
    let t : suc tier + k ≡ tier + suc k = omega arith in
    let later = in_stack bay row (suc tier) stack k c e in
    (suc later.0, later.1 ∙ ap (λ n. Some (fields_at bay row n c)) t)

of_stack : (bay : YardBay) (row tier : ℕ) (stack : List (List ℕ)) (fields : List (List ℕ)) (i : ℕ) → slice_get (records_of_stack bay row tier stack) i ≡ Some fields
    → (k : ℕ) × (c : List ℕ) × (slice_get stack k ≡ Some c) × (fields_at bay row (tier + k) c ≡ fields)
of_stack bay row tier [] fields i e = absurd (cc)
of_stack bay row tier (x ∷ stack) fields zero e =
    let t : tier + 0 ≡ tier = omega arith in
    let same : fields_at bay row tier x ≡ fields = cc e in
    (0, x, refl, ap (λ n. fields_at bay row n x) t ∙ same)
of_stack bay row tier (x ∷ stack) fields (suc i) e =
    let later = of_stack bay row (suc tier) stack fields i e in
    let t : tier + suc later.0 ≡ suc tier + later.0 = omega arith in
    (suc later.0, later.1, later.2, ap (λ n. fields_at bay row n later.1) t ∙ later.3)

in_rows : (bay : YardBay) (row : ℕ) (stacks : List (List (List ℕ))) (r k : ℕ) (stack : List (List ℕ)) (c : List ℕ) → slice_get stacks r ≡ Some stack → slice_get stack k ≡ Some c
    → IsIn (records_of_rows bay row stacks) (fields_at bay (row + r) (1 + k) c)
in_rows bay row [] r k stack c e at = absurd (cc)
in_rows bay row (s ∷ stacks) zero k stack c e at =
    let same : s ≡ stack = cc in
    let n : row ≡ row + 0 = omega arith in
    let here = in_stack bay row 1 s k c (ap (λ l. slice_get l k) same ∙ at) in
    in_left (records_of_stack bay row 1 s) (records_of_rows bay (suc row) stacks) (fields_at bay (row + 0) (1 + k) c) (here.0, here.1 ∙ ap (λ m. Some (fields_at bay m (1 + k) c)) n)
in_rows bay row (s ∷ stacks) (suc r) k stack c e at =
    let n : suc row + r ≡ row + suc r = omega arith in
    let later = in_rows bay (suc row) stacks r k stack c e at in
    in_right (records_of_stack bay row 1 s) (records_of_rows bay (suc row) stacks) (fields_at bay (row + suc r) (1 + k) c) (later.0, later.1 ∙ ap (λ m. Some (fields_at bay m (1 + k) c)) n)

-- a record of the stacks, where it comes from
record InRows (bay : YardBay) (row : ℕ) (stacks : List (List (List ℕ))) (fields : List (List ℕ)) : Type 0 where
  pub r : ℕ
  pub k : ℕ
  pub stack : List (List ℕ)
  pub c : List ℕ
  pub row_there : slice_get stacks r ≡ Some stack
  pub container_there : slice_get stack k ≡ Some c
  pub says : fields_at bay (row + r) (1 + k) c ≡ fields

of_rows : (bay : YardBay) (row : ℕ) (stacks : List (List (List ℕ))) (fields : List (List ℕ)) (i : ℕ) → slice_get (records_of_rows bay row stacks) i ≡ Some fields → InRows bay row stacks fields
of_rows bay row [] fields i e = absurd (cc)
of_rows bay row (s ∷ stacks) fields i e = elim (of_joined (records_of_stack bay row 1 s) (records_of_rows bay (suc row) stacks) fields i e) [
  | inl here ↦
      let found = of_stack bay row 1 s fields here.0 here.1 in
      let n : row + 0 ≡ row = omega arith in
      record { r = 0; k = found.0; stack = s; c = found.1; row_there = refl; container_there = found.2; says = ap (λ m. fields_at bay m (1 + found.0) found.1) n ∙ found.3 }
  | inr rest ↦
      let later = of_rows bay (suc row) stacks fields rest.0 rest.1 in
      let n : row + suc later.r ≡ suc row + later.r = omega arith in
      record { r = suc later.r; k = later.k; stack = later.stack; c = later.c; row_there = later.row_there; container_there = later.container_there; says = ap (λ m. fields_at bay m (1 + later.k) later.c) n ∙ later.says }
]

-- numbers read back
abbrev read_on : ℕ → List ℕ → ℕ
read_on n digits = fold (λ m b. m * 10 + (b - 48)) n digits

own : IsNumeralModel (λ digits. list_all is_ascii_digit digits ≡ true) (read_on 0)
own = numerals_by_fold _ (search rules) read_on (search rules)

reads : (n : ℕ) → n ≤ 9999 → number_of (decimal n) ≡ n
reads n h = digits_value-decimal own n (omega arith)

entry-reads : (bay : YardBay) (row tier : ℕ) (c : List ℕ) → bay.bay ≤ 9999 → row ≤ 9999 → tier ≤ 9999 → ◌≡◌ {A = Entry} (entry_of (fields_at bay row tier c)) (record { bay = bay; row = row; tier = tier }, c)
unfolding entry_of
entry-reads bay row tier c b r t = λ i. (record { bay = record { block = bay.block; bay = reads bay.bay b i }; row = reads row r i; tier = reads tier t i }, c)

module _ (yard : Inventory) (is : IsYard yard) (named : All (λ (bay : StackedBay). IsYardBay bay.0) yard.bays) where
  abbrev written : List (List (List ℕ))
  written = flat_map (λ (bay : StackedBay). records_of_rows bay.0 1 bay.1) yard.bays

  few : (number r k : ℕ) (bay : StackedBay) (stack : List (List ℕ)) (c : List ℕ) → slice_get yard.bays number ≡ Some bay → slice_get bay.1 r ≡ Some stack → slice_get stack k ≡ Some c
      → (bay.0.bay ≤ 9999) × (r < 12) × (k < 8)
  few number r k bay stack c at there stands =
      let name : IsYardBay (get_or yard.bays number bay).0 = All-get_or (λ (b : StackedBay). IsYardBay b.0) yard.bays number bay (slice_get_within yard.bays number bay at) named in
      let bay_is : IsYardBay bay.0 = subst (λ (b : StackedBay). IsYardBay b.0) (get_or_from_slice_get yard.bays number bay bay at) name in
      let heights = heights_at yard.sizes bay.0 in
      let can = heights_can_be yard.sizes is.sizes_fit bay.0 in
      let fit = fit_at yard.sizes yard.bays number bay is.bays_fit (sym at) in
      let low : length (get_or bay.1 r stack) ≤ 8 = All-get_or (λ (s : List (List ℕ)). length s ≤ 8) bay.1 r stack (slice_get_within bay.1 r stack there) (low_stacks heights bay.1 fit can.1) in
      let short : length stack ≤ 8 = subst (λ (s : List (List ℕ)). length s ≤ 8) (get_or_from_slice_get bay.1 r stack stack there) low in
      (bay_is.four_digits, omega (arith, fit_rows heights bay.1 fit, can.0.1, slice_get_within bay.1 r stack there), omega (arith, short, slice_get_within stack k c stands))

  said : (place : YardPlace) (c : List ℕ) → StandsAt yard place c → IsIn (map entry_of written) (place, c)
  said place c at =
      let row : 1 + (place.row - 1) ≡ place.row = let counts = at.row_counts in omega arith in
      let tier : 1 + (place.tier - 1) ≡ place.tier = let counts = at.tier_counts in omega arith in
      let low = few at.number (place.row - 1) (place.tier - 1) (place.bay, at.rows) at.tiers c at.bay_there at.row_there at.container_there in
      let found = in_flat (λ (bay : StackedBay). records_of_rows bay.0 1 bay.1) yard.bays at.number (place.bay, at.rows) (fields_at place.bay (1 + (place.row - 1)) (1 + (place.tier - 1)) c) at.bay_there
      (in_rows place.bay 1 at.rows (place.row - 1) (place.tier - 1) at.tiers c at.row_there at.container_there) in
      let whole : ◌≡◌ {A = Entry} (record { bay = place.bay; row = 1 + (place.row - 1); tier = 1 + (place.tier - 1) }, c) (place, c) = λ i. (record { bay = place.bay; row = row i; tier = tier i }, c) in (
        found.0,
        in_mapped entry_of written found.0 (fields_at place.bay (1 + (place.row - 1)) (1 + (place.tier - 1)) c) found.1
            ∙ ap Some (entry-reads place.bay (1 + (place.row - 1)) (1 + (place.tier - 1)) c low.0 (omega (arith, low.1)) (omega (arith, low.2)) ∙ whole),
      )

  stands : (place : YardPlace) (c : List ℕ) (i : ℕ) → slice_get (map entry_of written) i ≡ Some (place, c) → StandsAt yard place c
  stands place c i e =
      let fields = of_mapped entry_of written i (place, c) e in
      let bay = of_flat (λ (b : StackedBay). records_of_rows b.0 1 b.1) yard.bays fields.0 i fields.1 in
      let at = of_rows bay.1.0 1 bay.1.1 fields.0 bay.3.0 bay.3.1 in
      let low = few bay.0 at.r at.k bay.1 at.stack at.c bay.2 at.row_there at.container_there in
      let entry : ◌≡◌ {A = Entry} (record { bay = bay.1.0; row = 1 + at.r; tier = 1 + at.k }, at.c) (place, c) =
      sym (entry-reads bay.1.0 (1 + at.r) (1 + at.k) at.c low.0 (omega (arith, low.1)) (omega (arith, low.2))) ∙ ap entry_of at.says ∙ fields.2 in
      let r : 1 + at.r - 1 ≡ at.r = omega arith in
      let k : 1 + at.k - 1 ≡ at.k = omega arith in
      let here : StandsAt yard (record { bay = bay.1.0; row = 1 + at.r; tier = 1 + at.k }) at.c = record {
        number = bay.0;
        rows = bay.1.1;
        bay_there = bay.2;
        row_counts = omega arith;
        tiers = at.stack;
        row_there = ap (slice_get bay.1.1) r ∙ at.row_there;
        tier_counts = omega arith;
        container_there = ap (slice_get at.stack) k ∙ at.container_there;
      } in
      subst (λ (e : Entry). StandsAt yard e.0 e.1) entry here

  pub read_back : (sizes : YardSizes) (read : Inventory) → IsYardListOf sizes (yard_text yard) read → (place : YardPlace) (c : List ℕ) → StandsAt yard place c ↔ StandsAt read place c
  read_back sizes read list place c = (
    λ at. let found = said place c at in has.stands found.0 (place, c) found.1,
    λ at. let found = has.stated place c at in stands place c found.0 found.1,
  )
    where
      faultless : first_fault sizes (records_of (yard_text yard)) ≡ None
      faultless = by (nat_le (length (yard_text yard)) max_bytes) list.faultless
        where
          by : (b : Bool) → (if b then first_fault sizes (records_of (yard_text yard)) else Some TooLarge) ≡ None → first_fault sizes (records_of (yard_text yard)) ≡ None
          by true e = e
          by false e = absurd (cc e)

      has : HasEntries (map entry_of written) read
      has =
          let own = all_places sizes (records_of (yard_text yard)) faultless in
          let made = subst (λ (r : Inventory). HasEntries (entries_of (records_of (yard_text yard))) r) (sym list.stands) own in
          subst (λ (es : List Entry). HasEntries es read) (ap entries_of (reads_back yard)) made
