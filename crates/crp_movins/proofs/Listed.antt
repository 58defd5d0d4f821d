-- The vacant groups, as they are counted, and the orders, as they are listed, are those of the relations of places.
use Prim.Native.Nat.{zero}
use Rattle.std.proofs.Common.{◌≡◌, ℕ, suc, ◌+◌, ◌<◌, ◌≤◌, ◌-◌, Bool, true, false, not, cond, List, ◌++◌, length, length-append, map, slice_get, Option, Some, None, refl, sym, ap, subst, ◌∙◌, inl, inr, ⊎_elim, arith}
use Rattle.std.specs.Prelude.{◌==◌, ◌||◌, if◌then◌else◌, unwrap_or, option_to_list}
use Rattle.std.specs.Option.{option_map}
use Rattle.std.proofs.lemmas.Bool.{cases_eq, eqb-true, eq-eqb, true≢false, false≢true, or_cases, not-true, cases_Bool, cases_lt}
use Rattle.std.proofs.lemmas.List.{map-append}
use Rattle.std.proofs.lemmas.Option.{slice_get_past, cond_some}
use Rattle.crp_movins.specs.declared.kind.Kind.{Kind}
use Rattle.crp_movins.specs.declared.kind.Kind.TheVariants.{Other}
use Rattle.edi_text.specs.Parts.{SegmentParts, no_segment}
use Rattle.crp_movins.specs.Loading.{Loading}
use Rattle.crp_movins.specs.declared.order.Order.{Order}
use Rattle.crp_movins.specs.Kinds.{kind_of, is_slot_group, is_equipment}
use Rattle.crp_movins.specs.Places.{kind_at, ordered_group, opens_loading_group}
use Rattle.crp_movins.specs.LoadOrders.{order_at, orders_before, is_place_number, is_filled, is_vacant, count_below, vacant_before, load_orders_of}
use Rattle.crp_movins.specs.ByPlaces.{IsOrdered, IsVacant, AreVacant, AreOrdered}
use Rattle.crp_movins.proofs.Meaning.{mapped, group-means, group-given, filling-means, filling-given, order-means, order-given, and-both}
use Rattle.crp_movins.proofs.Rising.{all_below, has_all}

number-is : (place : Option ℕ) (j : ℕ) → is_place_number place j ≡ true → place ≡ Some j
number-is None j h = absurd (false≢true h)
number-is (Some k) j h = ap Some (eqb-true k j h)

is-number : (place : Option ℕ) (j : ℕ) → place ≡ Some j → is_place_number place j ≡ true
is-number None j h = absurd (cc)
is-number (Some k) j h = let same : k ≡ j = cc in eq-eqb k j same

-- some segment before this one fills the group
filled-by : (segments : List SegmentParts) (loading : Loading) (n j : ℕ) → is_filled segments loading n j ≡ true → (i : ℕ) × (ordered_group segments loading i ≡ Some j)
filled-by segments loading zero j h = absurd (false≢true h)
filled-by segments loading (suc n) j h =
    ⊎_elim (λ here. (n, number-is (ordered_group segments loading n) j here)) (λ before. filled-by segments loading n j before)
    (or_cases (is_place_number (ordered_group segments loading n) j) (is_filled segments loading n j) h)

fills : (segments : List SegmentParts) (loading : Loading) (n i j : ℕ) → i < n → ordered_group segments loading i ≡ Some j → is_filled segments loading n j ≡ true
fills segments loading zero i j below h = absurd (omega arith)
fills segments loading (suc n) i j below h =
    elim (cases_eq i n) [
      | inl e ↦
          let here : is_place_number (ordered_group segments loading n) j ≡ true = is-number (ordered_group segments loading n) j (subst (λ (x : ℕ). ordered_group segments loading x ≡ Some j) e h) in
          rw here refl
      | inr ne ↦ by (is_place_number (ordered_group segments loading n) j) (fills segments loading n i j (omega arith) h)
    ]
  where
    by : (b : Bool) → is_filled segments loading n j ≡ true → (b || is_filled segments loading n j) ≡ true
    by true h = refl
    by false h = h

-- no segment has a number past the last
past : (segments : List SegmentParts) (i : ℕ) → length segments + 1 ≤ i → kind_at segments i ≡ Other
unfolding kind_at kind_of
past segments i beyond = ap kind_of (by (i == 0)) ∙ refl
  where
    by : (b : Bool) → unwrap_or (cond b None (slice_get segments (i - 1))) no_segment ≡ no_segment
    by true = refl
    by false = ap (λ o. unwrap_or o no_segment) (slice_get_past segments (i - 1) (omega arith))

is_there : (test : Kind → Bool) (segments : List SegmentParts) (i : ℕ) → test Other ≡ false → test (kind_at segments i) ≡ true → i < length segments + 1
is_there test segments i other such =
    elim (cases_lt i (length segments + 1)) [
      | inl below ↦ below
      | inr beyond ↦ absurd (true≢false (sym such ∙ ap test (past segments i beyond) ∙ other))
    ]

module _ (segments : List SegmentParts) (loading : Loading) where
  vacant-means : (j : ℕ) → is_vacant segments loading (length segments + 1) j ≡ true → IsVacant segments loading j
  vacant-means j h =
      let parts = and-both (opens_loading_group segments loading j) (not (is_filled segments loading (length segments + 1) j)) h in
      let open_slots = not-true (is_filled segments loading (length segments + 1) j) parts.1 in
      record {
        loading_group = group-means segments loading j parts.0;
        empty = λ i stands.
            let below = is_there is_equipment segments i refl stands.equipment in
            false≢true (sym open_slots ∙ fills segments loading (length segments + 1) i j below (filling-given segments loading i j stands parts.0));
      }

  vacant-given : (j : ℕ) → IsVacant segments loading j → (j < length segments + 1) × (is_vacant segments loading (length segments + 1) j ≡ true)
  vacant-given j h =
      let opens = group-given segments loading j h.loading_group in
      let unfilled : is_filled segments loading (length segments + 1) j ≡ false =
      elim (cases_Bool (is_filled segments loading (length segments + 1) j)) [
        | inl e ↦ let filled = filled-by segments loading (length segments + 1) j e in absurd (h.empty filled.0 (filling-means segments loading filled.0 j filled.1).0)
        | inr e ↦ e
      ] in
      (is_there is_slot_group segments j refl h.loading_group.slot_group, rw (opens, unfilled) refl)

  -- the number of a vacant group
  abbrev vacant_at : ℕ → Option ℕ
  vacant_at j = if is_vacant segments loading (length segments + 1) j then Some j else None

  as_many : (n : ℕ) → length (all_below ℕ (λ j. j) vacant_at n) ≡ count_below (is_vacant segments loading (length segments + 1)) n
  as_many zero = refl
  as_many (suc n) = omega (arith, length-append (all_below ℕ (λ j. j) vacant_at n) (option_to_list (vacant_at n)), as_many n, by (is_vacant segments loading (length segments + 1) n) (count_below (is_vacant segments loading (length segments + 1)) n))
    where
      by : (b : Bool) (m : ℕ) → m + length (option_to_list (if b then Some n else None)) ≡ (if b then m + 1 else m)
      by true m = refl
      by false m = omega arith

  pub vacant-counted : (groups : List ℕ) × AreVacant segments loading groups × ((load_orders_of segments loading).vacant ≡ length groups)
  unfolding vacant_before
  vacant-counted = (
    all_below ℕ (λ j. j) vacant_at (length segments + 1),
    has_all ℕ (λ j. j) (IsVacant segments loading) vacant_at (length segments + 1)
        (λ k j e. let parts = cond_some (is_vacant segments loading (length segments + 1) k) k j e in (sym parts.1, vacant-means j (ap (is_vacant segments loading (length segments + 1)) (sym parts.1) ∙ parts.0)))
        (λ j vacant. let own = vacant-given j vacant in (own.0, rw (own.1) refl)),
    sym (as_many (length segments + 1)),
  )

  -- an order with the number of the segment that gives it
  abbrev placed_at : ℕ → Option (ℕ × Order)
  placed_at i = option_map (λ order. (i, order)) (order_at segments loading i)

  orders-of : (n : ℕ) → orders_before segments loading n ≡ map (λ p. p.1) (all_below (ℕ × Order) (λ p. p.0) placed_at n)
  orders-of zero = refl
  orders-of (suc n) =
      ap (λ orders. orders ++ option_to_list (order_at segments loading n)) (orders-of n)
      ∙ ap (λ last. map (λ p. p.1) (all_below (ℕ × Order) (λ p. p.0) placed_at n) ++ last) (by (order_at segments loading n))
      ∙ sym (map-append (λ (p : ℕ × Order). p.1) (all_below (ℕ × Order) (λ p. p.0) placed_at n) (option_to_list (placed_at n)))
    where
      by : (o : Option Order) → option_to_list o ≡ map (λ (p : ℕ × Order). p.1) (option_to_list (option_map (λ order. (n, order)) o))
      by None = refl
      by (Some order) = refl

  pub orders-placed : (placed : List (ℕ × Order)) × AreOrdered segments loading placed × ((load_orders_of segments loading).list ≡ map (λ p. p.1) placed)
  orders-placed = (
    all_below (ℕ × Order) (λ p. p.0) placed_at (length segments + 1),
    has_all (ℕ × Order) (λ p. p.0) (λ p. IsOrdered segments loading p.0 p.1) placed_at (length segments + 1)
        (λ k p e. let found = mapped (λ (order : Order). let q : ℕ × Order = (k, order) in q) (order_at segments loading k) p e in
        (sym (ap (λ (q : ℕ × Order). q.0) found.2), subst (λ (q : ℕ × Order). IsOrdered segments loading q.0 q.1) found.2 (order-means segments loading k found.0 found.1)))
        (λ p ordered. (is_there is_equipment segments p.0 refl ordered.stands.equipment, ap (option_map (λ order. (p.0, order))) (order-given segments loading p.0 p.1 ordered))),
    orders-of (length segments + 1),
  )
