-- No container stands in two places of an inventory, where no entry names it a second time.
use Prim.Native.Nat.{zero}
use Rattle.std.proofs.Common.{◌≡◌, ◌≤◌, ◌+◌, ℕ, suc, Bool, true, false, List, [], ◌∷◌, map, flat_map, length, Some, refl, sym, ap, ◌∙◌, arith, cond}
use Rattle.std.specs.Prelude.{◌==◌, ◌&&◌, option_to_list}
use Rattle.std.specs.List.{IsDistinct, AllByRecursion}
use Rattle.std.specs.Str.{bytes_eq}
use Rattle.std.proofs.lemmas.Bool.{true≢false}
use Rattle.std.proofs.lemmas.List.Concat.{flat_map-append}
use Rattle.std.proofs.lemmas.List.{append-nil}
use Rattle.crp_plan.specs.BayNames.{YardBay, same_bay}
use Rattle.crp_sizes.proofs.Bays.{same_bay_is, same_bay_self}
use Rattle.crp_sizes.specs.Sizes.{YardSizes, heights_at}
use Rattle.crp_yard.specs.Places.{same_place}
use Rattle.crp_yard.specs.Records.{Entry, height_of}
use Rattle.crp_yard.specs.Inventory.{container_at, stack_up_to, stacks_up_to, stacked, times, containers_of}
use Rattle.crp_yard.specs.Listings.{entry_names}
use Rattle.crp_yard.proofs.ListingSteps.{times-append}
use Rattle.crp_yard.proofs.Sums.{up_sum, list_sum, when, up_split, up_below, up_none, list_split, list_below, at_one_place, below_then}

-- how often the container stands at the place
abbrev pub hit : List Entry → List ℕ → YardBay → ℕ → ℕ → ℕ
hit entries c bay row tier = times c (option_to_list (container_at entries (record { bay = bay; row = row; tier = tier })))

stack_times : (entries : List Entry) (c : List ℕ) (bay : YardBay) (row n : ℕ) → times c (stack_up_to entries bay row n) ≡ up_sum (hit entries c bay row) n
stack_times entries c bay row zero = refl
stack_times entries c bay row (suc n) =
    times-append c (stack_up_to entries bay row n) (option_to_list (container_at entries (record { bay = bay; row = row; tier = suc n })))
    ∙ ap (λ k. k + hit entries c bay row (suc n)) (stack_times entries c bay row n)

stacks_times : (entries : List Entry) (c : List ℕ) (bay : YardBay) (heights : List ℕ) (n : ℕ)
    → times c (flat_map (λ (s : List (List ℕ)). s) (stacks_up_to entries bay heights n)) ≡ up_sum (λ row. up_sum (hit entries c bay row) (height_of heights row)) n
stacks_times entries c bay heights zero = refl
stacks_times entries c bay heights (suc n) =
    let last = stack_up_to entries bay (suc n) (height_of heights (suc n)) in
    let before = stacks_up_to entries bay heights n in
    rw (flat_map-append (λ (s : List (List ℕ)). s) before (last ∷ []), append-nil last, times-append c (flat_map (λ (s : List (List ℕ)). s) before) last, stacks_times entries c bay heights n, stack_times entries c bay (suc n) (height_of heights (suc n))) refl

abbrev pub total : YardSizes → List Entry → List ℕ → List YardBay → ℕ
total sizes entries c bays = list_sum (λ bay. up_sum (λ row. up_sum (hit entries c bay row) (height_of (heights_at sizes bay) row)) (length (heights_at sizes bay))) bays

pub bays_times : (sizes : YardSizes) (entries : List Entry) (c : List ℕ) (bays : List YardBay) → times c (containers_of (map (stacked sizes entries) bays)) ≡ total sizes entries c bays
bays_times sizes entries c [] = refl
bays_times sizes entries c (bay ∷ bays) =
    rw (times-append c (flat_map (λ (s : List (List ℕ)). s) (stacks_up_to entries bay (heights_at sizes bay) (length (heights_at sizes bay)))) (containers_of (map (stacked sizes entries) bays)), stacks_times entries c bay (heights_at sizes bay) (length (heights_at sizes bay)), bays_times sizes entries c bays) refl

-- what one entry adds at the place
abbrev put : Entry → List ℕ → YardBay → ℕ → ℕ → ℕ
put entry c bay row tier = when (same_place (record { bay = bay; row = row; tier = tier }) entry.0) (when (bytes_eq c entry.1) 1)

hit_split : (entry : Entry) (entries : List Entry) (c : List ℕ) (bay : YardBay) (row tier : ℕ) → hit (entry ∷ entries) c bay row tier ≤ put entry c bay row tier + hit entries c bay row tier
hit_split entry entries c bay row tier = by (same_place (record { bay = bay; row = row; tier = tier }) entry.0)
  where
    by : (b : Bool) → times c (option_to_list (cond b (Some entry.1) (container_at entries (record { bay = bay; row = row; tier = tier })))) ≤ when b (when (bytes_eq c entry.1) 1) + hit entries c bay row tier
    by true = omega arith
    by false = omega arith

-- the same, one coordinate after the other
put_apart : (entry : Entry) (c : List ℕ) (bay : YardBay) (row tier : ℕ)
    → put entry c bay row tier ≤ when (tier == entry.0.tier) (when (row == entry.0.row) (when (same_bay bay entry.0.bay) (when (bytes_eq c entry.1) 1)))
put_apart entry c bay row tier = by (same_bay bay entry.0.bay) (row == entry.0.row) (tier == entry.0.tier) (when (bytes_eq c entry.1) 1)
  where
    by : (p q r : Bool) (w : ℕ) → when (p && (q && r)) w ≤ when r (when q (when p w))
    by false q r w = omega arith
    by true false r w = omega arith
    by true true false w = omega arith
    by true true true w = omega arith

no_other : (bay k : YardBay) (w : ℕ) (bays : List YardBay) → same_bay bay k ≡ true → AllByRecursion (λ y. same_bay bay y ≡ false) bays → list_sum (λ y. when (same_bay y k) w) bays ≡ 0
no_other bay k w [] e d = refl
no_other bay k w (y ∷ bays) e d = by (same_bay y k) refl (no_other bay k w bays e d.1)
  where
    by : (b : Bool) → same_bay y k ≡ b → list_sum (λ z. when (same_bay z k) w) bays ≡ 0 → when (same_bay y k) w + list_sum (λ z. when (same_bay z k) w) bays ≡ 0
    by true h rest =
        let this : y ≡ k = same_bay_is y k h in
        let that : bay ≡ k = same_bay_is bay k e in
        absurd (true≢false (sym (same_bay_self k) ∙ sym (λ i. same_bay (that i) (this i)) ∙ d.0))
    by false h rest = rw h (omega (arith, rest))

one_bay : (k : YardBay) (w : ℕ) (bays : List YardBay) → IsDistinct same_bay bays → list_sum (λ bay. when (same_bay bay k) w) bays ≤ w
unfolding Rattle.std.specs.List.IsDistinct
one_bay k w [] d = omega arith
one_bay k w (bay ∷ bays) d = by (same_bay bay k) refl (no_other bay k w bays) (one_bay k w bays d.1)
  where
    by : (b : Bool) → same_bay bay k ≡ b → (same_bay bay k ≡ true → AllByRecursion (λ y. same_bay bay y ≡ false) bays → list_sum (λ y. when (same_bay y k) w) bays ≡ 0)
        → list_sum (λ y. when (same_bay y k) w) bays ≤ w → when (same_bay bay k) w + list_sum (λ y. when (same_bay y k) w) bays ≤ w
    by true e none rest = let rest_none : list_sum (λ y. when (same_bay y k) w) bays ≡ 0 = none e d.0 in rw e (omega (arith, rest_none))
    by false e none rest = rw e (omega (arith, rest))

put_once : (sizes : YardSizes) (entry : Entry) (c : List ℕ) (bays : List YardBay) → IsDistinct same_bay bays
    → list_sum (λ bay. up_sum (λ row. up_sum (put entry c bay row) (height_of (heights_at sizes bay) row)) (length (heights_at sizes bay))) bays ≤ when (bytes_eq c entry.1) 1
put_once sizes entry c bays once =
    let w = when (bytes_eq c entry.1) 1 in
    let k = entry.0 in
    let in_row = λ (bay : YardBay) (row : ℕ).
    below_then (up_below (put entry c bay row) (λ tier. when (tier == k.tier) (when (row == k.row) (when (same_bay bay k.bay) w))) (put_apart entry c bay row) (height_of (heights_at sizes bay) row)) (at_one_place k.tier (when (row == k.row) (when (same_bay bay k.bay) w)) (height_of (heights_at sizes bay) row)) in
    let in_bay = λ (bay : YardBay).
    below_then (up_below (λ row. up_sum (put entry c bay row) (height_of (heights_at sizes bay) row)) (λ row. when (row == k.row) (when (same_bay bay k.bay) w)) (in_row bay) (length (heights_at sizes bay))) (at_one_place k.row (when (same_bay bay k.bay) w) (length (heights_at sizes bay))) in
    below_then (list_below (λ bay. up_sum (λ row. up_sum (put entry c bay row) (height_of (heights_at sizes bay) row)) (length (heights_at sizes bay))) (λ bay. when (same_bay bay k.bay) w) in_bay bays) (one_bay k.bay w bays once)

none_stand : (sizes : YardSizes) (c : List ℕ) (bays : List YardBay) → total sizes [] c bays ≡ 0
none_stand sizes c [] = refl
none_stand sizes c (bay ∷ bays) = omega (arith, none_stand sizes c bays, up_below (λ row. up_sum (hit [] c bay row) (height_of (heights_at sizes bay) row)) (λ _. 0) (λ row. omega (arith, up_none (height_of (heights_at sizes bay) row))) (length (heights_at sizes bay)), up_none (length (heights_at sizes bay)))

-- in an inventory a container stands as often as its entries name it, at most
pub few_times : (sizes : YardSizes) (entries : List Entry) (c : List ℕ) (bays : List YardBay) → IsDistinct same_bay bays → total sizes entries c bays ≤ times c (entry_names entries)
few_times sizes [] c bays once = omega (arith, none_stand sizes c bays)
few_times sizes (entry ∷ entries) c bays once =
    let parted : total sizes (entry ∷ entries) c bays ≤ list_sum (λ bay. up_sum (λ row. up_sum (put entry c bay row) (height_of (heights_at sizes bay) row)) (length (heights_at sizes bay))) bays + total sizes entries c bays =
    list_split (λ bay. up_sum (λ row. up_sum (hit (entry ∷ entries) c bay row) (height_of (heights_at sizes bay) row)) (length (heights_at sizes bay))) (λ bay. up_sum (λ row. up_sum (put entry c bay row) (height_of (heights_at sizes bay) row)) (length (heights_at sizes bay))) (λ bay. up_sum (λ row. up_sum (hit entries c bay row) (height_of (heights_at sizes bay) row)) (length (heights_at sizes bay)))
    (λ bay. up_split (λ row. up_sum (hit (entry ∷ entries) c bay row) (height_of (heights_at sizes bay) row)) (λ row. up_sum (put entry c bay row) (height_of (heights_at sizes bay) row)) (λ row. up_sum (hit entries c bay row) (height_of (heights_at sizes bay) row))
    (λ row. up_split (hit (entry ∷ entries) c bay row) (put entry c bay row) (hit entries c bay row) (hit_split entry entries c bay row) (height_of (heights_at sizes bay) row)) (length (heights_at sizes bay))) bays in
    omega (arith, parted, put_once sizes entry c bays once, few_times sizes entries c bays once)
