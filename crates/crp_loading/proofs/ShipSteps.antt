-- The numbers of names, and the slots of orders.
use Rattle.std.proofs.Common.{◌≡◌, ◌∙◌, ℕ, suc, ◌+◌, ◌-◌, ◌<◌, ◌≤◌, arith, Bool, true, false, cond, Some, None, List, [], ◌∷◌, length, map, drop, get_or, refl, sym, ap}
use Rattle.std.specs.Prelude.{option_map}
use Rattle.std.specs.Str.{bytes_eq}
use Rattle.std.proofs.lemmas.List.{drop_more, length-map}
use Rattle.std.proofs.lemmas.Option.{same_Some, none-some}
use denote.Ref.{Bor}
use Rattle.crp_movins.specs.declared.order.Order.{Order}
use Rattle.crp_movins.specs.Accepted.{ordered_containers}
use Rattle.crp_loading.specs.Turns.{number_from, slot_for}

-- one name more has its number
pub one_more_name : (names : List (Bor (List ℕ))) (i : ℕ) (d : Bor (List ℕ)) (c : List ℕ) → 0 < i → i - 1 < length names
    → cond (bytes_eq (get_or names (i - 1) d).now c) (Some (i - 1)) (number_from i (map (λ n. n.now) (drop i names)) c) ≡ number_from (i - 1) (map (λ n. n.now) (drop (i - 1) names)) c
one_more_name names i d c some lt =
    let name = get_or names (i - 1) d in
    let behind : i ≡ i - 1 + 1 = omega arith in
    let next : i ≡ suc (i - 1) = omega arith in
    ap (λ k. cond (bytes_eq name.now c) (Some (i - 1)) (number_from k (map (λ (n : Bor (List ℕ)). n.now) (drop i names)) c)) next
    ∙ ap (λ l. number_from (i - 1) (map (λ (n : Bor (List ℕ)). n.now) l) c) (ap (λ k. name ∷ drop k names) behind ∙ sym (drop_more names (i - 1) d lt))

-- ---- numbers

pub next_number : (n : ℕ) (names : List (List ℕ)) (c : List ℕ) → number_from (suc n) names c ≡ option_map suc (number_from n names c)
next_number n [] c = refl
next_number n (name ∷ names) c = go (bytes_eq name c) (next_number (suc n) names c)
  where
    go : (b : Bool) → number_from (suc (suc n)) names c ≡ option_map suc (number_from (suc n) names c)
        → cond b (Some (suc n)) (number_from (suc (suc n)) names c) ≡ option_map suc (cond b (Some n) (number_from (suc n) names c))
    go true rest = refl
    go false rest = rest

-- a number is one of the list's
pub number_within : (n : ℕ) (names : List (List ℕ)) (c : List ℕ) (i : ℕ) → number_from n names c ≡ Some i → (n ≤ i) × (i < n + length names)
number_within n [] c i e = absurd (none-some i e)
number_within n (name ∷ names) c i e = go (bytes_eq name c) e (number_within (suc n) names c i)
  where
    go : (b : Bool) → cond b (Some n) (number_from (suc n) names c) ≡ Some i → (number_from (suc n) names c ≡ Some i → (suc n ≤ i) × (i < suc n + length names)) → (n ≤ i) × (i < n + suc (length names))
    go true k rest = let same : n ≡ i = same_Some n i k in (omega arith, omega arith)
    go false k rest = let h = rest k in (omega (arith, h.0), omega (arith, h.1))

-- ---- slots

-- the slot of the order with this number
pub slot_found : (n : ℕ) (orders : List Order) (c : List ℕ) (i : ℕ) (d : Order) → number_from n (ordered_containers orders) c ≡ Some i → slot_for orders c ≡ Some (get_or orders (i - n) d).slot
slot_found n [] c i d e = absurd (none-some i e)
slot_found n (order ∷ orders) c i d e = go (bytes_eq order.container c) e (slot_found (suc n) orders c i d) (number_within (suc n) (ordered_containers orders) c i)
  where
    go : (b : Bool) → cond b (Some n) (number_from (suc n) (ordered_containers orders) c) ≡ Some i
        → (number_from (suc n) (ordered_containers orders) c ≡ Some i → slot_for orders c ≡ Some (get_or orders (i - suc n) d).slot)
        → (number_from (suc n) (ordered_containers orders) c ≡ Some i → (suc n ≤ i) × (i < suc n + length (ordered_containers orders)))
        → cond b (Some order.slot) (slot_for orders c) ≡ Some (get_or (order ∷ orders) (i - n) d).slot
    go true k rest within = let same : n ≡ i = same_Some n i k in let zero_is : i - n ≡ 0 = omega arith in ap (λ j. Some (get_or (order ∷ orders) j d).slot) (sym zero_is)
    go false k rest within =
        let h = within k in
        let next : i - n ≡ suc (i - suc n) = omega (arith, h.0) in
        rest k ∙ ap (λ j. Some (get_or (order ∷ orders) j d).slot) (sym next)

pub no_slot : (n : ℕ) (orders : List Order) (c : List ℕ) → number_from n (ordered_containers orders) c ≡ None → slot_for orders c ≡ None
no_slot n [] c e = refl
no_slot n (order ∷ orders) c e = go (bytes_eq order.container c) e (no_slot (suc n) orders c)
  where
    go : (b : Bool) → cond b (Some n) (number_from (suc n) (ordered_containers orders) c) ≡ None → (number_from (suc n) (ordered_containers orders) c ≡ None → slot_for orders c ≡ None)
        → cond b (Some order.slot) (slot_for orders c) ≡ None
    go true k rest = absurd (none-some n (sym k))
    go false k rest = rest k

pub place_within : (orders : List Order) (c : List ℕ) (i : ℕ) → number_from 0 (ordered_containers orders) c ≡ Some i → i < length orders
place_within orders c i e = omega (arith, (number_within 0 (ordered_containers orders) c i e).1, length-map orders (λ (order : Order). order.container))

pub slot_there : (orders : List Order) (c : List ℕ) (i : ℕ) (d : Order) → number_from 0 (ordered_containers orders) c ≡ Some i → slot_for orders c ≡ Some (get_or orders i d).slot
slot_there orders c i d e = let same : i - 0 ≡ i = omega arith in slot_found 0 orders c i d e ∙ ap (λ j. Some (get_or orders j d).slot) same
