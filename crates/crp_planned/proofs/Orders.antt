-- A message that is accepted orders 10000 containers at most.
use Rattle.std.proofs.Common.{◌≡◌, ◌∙◌, ◌<◌, ◌≤◌, ◌+◌, ℕ, zero, suc, Bool, true, false, not, cond, List, [], ◌∷◌, ◌++◌, length, length-append, Option, Some, None, refl, sym, ap, subst, arith}
use Rattle.std.specs.Prelude.{codes, option_to_list, option_map}
use Rattle.std.specs.Option.{option_or}
use Rattle.std.specs.Str.{bytes_eq}
use Rattle.std.proofs.lemmas.Bool.{true≢false}
use Rattle.std.proofs.lemmas.List.{length-map}
use Rattle.std.proofs.lemmas.List.Sorted.{length_permutation}
use Rattle.edi_text.specs.Parts.{SegmentParts}
use Rattle.crp_plan.specs.BayNames.{YardBay}
use Rattle.crp_yard.specs.Inventory.{Inventory, stands}
use Rattle.crp_movins.specs.Loading.{Loading}
use Rattle.crp_movins.specs.declared.order.Order.{Order}
use Rattle.crp_movins.specs.declared.fault.MovinsFault.{MovinsFault}
use Rattle.crp_movins.specs.Accepted.{max_orders}
use Rattle.crp_movins.specs.Kinds.{kind_of, names_container, names_slot, is_equipment}
use Rattle.crp_movins.specs.Places.{segment_numbered, kind_at, text_at, loading_group}
use Rattle.crp_movins.specs.Digits.{slot_of}
use Rattle.crp_movins.specs.LoadOrders.{LoadOrders, orders_before, load_orders_of}
use Rattle.crp_movins.specs.Faults.{fault_at, first_fault, first_fault_before, end_fault}
use Rattle.crp_movins.proofs.Least.{faultless-before}
use Rattle.crp_movins.proofs.StandingSteps.{order-faultless}
use Rattle.crp_order.specs.declared.sequences.Mode.{Mode}
use Rattle.crp_order.specs.declared.sequences.Mode.TheVariants.{Listed, Stowage}
use Rattle.crp_order.specs.Sequences.{IsSequence}
use Rattle.crp_order.specs.OfBays.{other_bays, IsSequenceOf}
use Rattle.crp_order.proofs.ChosenSteps.{fewer}

-- of three one passes a test where the others do not
only_one : {K : Type 0} (test : K → Bool) (t u : Bool) (a b c : K) → test b ≡ false → test c ≡ false → test (cond t (cond u a b) c) ≡ true → cond t (cond u a b) c ≡ a
only_one test true true a b c other last e = refl
only_one test true false a b c other last e = absurd (true≢false (sym e ∙ other))
only_one test false u a b c other last e = absurd (true≢false (sym e ∙ last))

none_of : {K : Type 0} (test : K → Bool) (t : Bool) (a b : K) → test a ≡ false → test b ≡ false → test (cond t a b) ≡ false
none_of test true a b one other = one
none_of test false a b one other = other

-- an order that is not faulty finds room
has_room : (segments : List SegmentParts) (loading : Loading) (i j : ℕ) → fault_at segments loading i ≡ None → is_equipment (kind_at segments i) ≡ true → loading_group segments loading i ≡ Some j
    → length (orders_before segments loading i) < max_orders
unfolding kind_at kind_of
has_room segments loading i j none e g =
    let s = segment_numbered segments i in
    let at : List ℕ → Bool = bytes_eq s.tag in
    (
    order-faultless segments loading i (slot_of (text_at segments j 2 1)) none
    (only_one is_equipment (at (codes "EQD")) (names_container s) _ _ _ refl
    (none_of is_equipment (at (codes "LOC")) _ _ (none_of is_equipment (names_slot s) _ _ refl refl)
    (none_of is_equipment (at (codes "HAN")) _ _ refl
    (none_of is_equipment (at (codes "UNB")) _ _ refl
    (none_of is_equipment (at (codes "UNH")) _ _ refl
    (none_of is_equipment (at (codes "UNT")) _ _ refl
    (none_of is_equipment (at (codes "UNZ")) _ _ refl
    (none_of is_equipment (at (codes "UNG")) _ _ refl
    (none_of is_equipment (at (codes "UNE")) _ _ refl refl))))))))
    e)
    (ap (option_map (λ k. slot_of (text_at segments k 2 1))) g)
    ).1

few_before : (segments : List SegmentParts) (loading : Loading) (i : ℕ) → ((k : ℕ) → k < i → fault_at segments loading k ≡ None) → length (orders_before segments loading i) ≤ 10000
few_before segments loading zero faultless = omega arith
few_before segments loading (suc i) faultless =
    let before = few_before segments loading i (λ k below. faultless k (omega (arith, below))) in
    let none = faultless i (omega arith) in
    by (is_equipment (kind_at segments i)) (loading_group segments loading i) refl refl before none
  where
    given : ℕ → Order
    given j = record { container = text_at segments i 2 1; slot = slot_of (text_at segments j 2 1) }

    by : (t : Bool) (group : Option ℕ) → is_equipment (kind_at segments i) ≡ t → loading_group segments loading i ≡ group → length (orders_before segments loading i) ≤ 10000
        → fault_at segments loading i ≡ None → length (orders_before segments loading i ++ option_to_list (option_map (λ j. record { container = text_at segments i 2 1; slot = slot_of (text_at segments j 2 1) }) (cond t group None))) ≤ 10000
    by false group e g before none = omega (arith, before, length-append (orders_before segments loading i) [])
    by true None e g before none = omega (arith, before, length-append (orders_before segments loading i) [])
    by true (Some j) e g before none =
        let room = has_room segments loading i j none e g in
        omega (arith, room, length-append (orders_before segments loading i) (given j ∷ []))

neither : (first second : Option MovinsFault) → option_or first second ≡ None → first ≡ None
neither None second h = refl
neither (Some fault) second h = absurd (cc)

few_ordered : (segments : List SegmentParts) (loading : Loading) → first_fault segments loading ≡ None → length (orders_before segments loading (length segments + 1)) ≤ 10000
few_ordered segments loading e =
    few_before segments loading (length segments + 1)
    (faultless-before segments loading (length segments + 1) (neither (first_fault_before segments loading (length segments + 1)) (end_fault segments) e))

pub few_sequenced : (mode : Mode) (names : List YardBay) (segments : List SegmentParts) (loading : Loading) (yard : Inventory) (orders : LoadOrders) (sequence : List (List ℕ)) → first_fault segments loading ≡ None
    → orders ≡ load_orders_of segments loading → IsSequenceOf mode names yard orders.list sequence → length sequence ≤ 10000
few_sequenced mode names segments loading yard orders sequence none are is =
    let few : length orders.list ≤ 10000 = subst (λ (o : LoadOrders). length o.list ≤ 10000) (sym are) (few_ordered segments loading none) in
    let left = fewer (λ container. not (stands (other_bays names yard.bays) container)) is.whole in
    omega (arith, ap length is.chosen, left, by mode is.whole is.ordered few)
  where
    by : (m : Mode) (sequence : List (List ℕ)) → IsSequence m orders.list sequence → length orders.list ≤ 10000 → length sequence ≤ 10000
    by Listed sequence e few = omega (arith, few, ap length e, length-map orders.list (λ (order : Order). order.container))
    by Stowage sequence (stowed, stowage, e) few =
        omega (arith, few, ap length e, length-map stowed (λ (order : Order). order.container), length_permutation orders.list stowed stowage.same_orders)
