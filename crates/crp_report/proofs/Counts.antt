-- The three numbers of a report are small.
use Rattle.std.proofs.Common.{◌≡◌, ◌∙◌, ℕ, zero, suc, ◌+◌, ◌≤◌, List, [], ◌∷◌, ◌++◌, length, Option, Some, None, sym, ap, subst, arith, length-append}
use Rattle.std.specs.Prelude.{option_to_list, not}
use Rattle.std.proofs.lemmas.List.{length-map}
use Rattle.std.proofs.lemmas.List.Sums.{count_by-le-length}
use Rattle.std.proofs.lemmas.List.Sorted.{length_permutation}
use Rattle.edi_text.specs.Parts.{SegmentParts}
use Rattle.edi_text.specs.Spelling.{max_text, SpellsSegments, Spells}
use Rattle.edi_text.proofs.BodySteps.{marks-long}
use Rattle.crp_plan.specs.BayNames.{YardBay}
use Rattle.crp_movins.specs.Loading.{Loading}
use Rattle.crp_movins.specs.declared.order.Order.{Order}
use Rattle.crp_movins.specs.LoadOrders.{LoadOrders, order_at, orders_before}
use Rattle.crp_movins.proofs.StandingSteps.{vacant-bound}
use Rattle.crp_yard.specs.Inventory.{Inventory, stands}
use Rattle.crp_order.specs.declared.sequences.Mode.{Mode}
use Rattle.crp_order.specs.declared.sequences.Mode.TheVariants.{Listed, Stowage}
use Rattle.crp_order.specs.Sequences.{IsSequence}
use Rattle.crp_order.specs.OfBays.{other_bays, IsSequenceOf}
use Rattle.crp_order.proofs.ChosenSteps.{fewer}
use Rattle.crp_said.specs.Spelled.{AreSmall}
use Rattle.crp_report.specs.Runs.{AreOrders, numbers_of}

-- a text has no more segments than bytes
few_segments : (signs : _) (segments : List SegmentParts) (text : List ℕ) → SpellsSegments signs segments text → length segments ≤ length text
few_segments signs [] text spelled = omega arith
few_segments signs (segment ∷ segments) text spelled =
    let own = spelled.of_front in
    let more = spelled.of_back in
    let some = marks-long signs _ _ spelled.front own.spelled in
    let rest = few_segments signs segments more.back more.of_back in
    let a : length text ≡ length spelled.front + length spelled.back = ap length spelled.whole ∙ length-append spelled.front spelled.back in
    let b : length spelled.back ≡ length more.front + length more.back = ap length more.whole ∙ length-append more.front more.back in
    omega (arith, some, rest, a, b)

segments_bound : (text : List ℕ) (segments : List SegmentParts) → Spells text segments → length segments ≤ max_text
segments_bound text segments spelled =
    let reads = spelled.reads in
    let few = few_segments spelled.signs segments spelled.body reads.spelled in
    let whole : length text ≡ length spelled.opening + (length spelled.body + 0) = ap length reads.whole ∙ length-append spelled.opening (spelled.body ++ []) ∙ ap (λ n. length spelled.opening + n) (length-append spelled.body []) in
    let within = spelled.within in
    omega (arith, few, whole, within)

orders_bound : (segments : List SegmentParts) (loading : Loading) (i : ℕ) → length (orders_before segments loading i) ≤ i
orders_bound segments loading zero = omega arith
orders_bound segments loading (suc i) =
    omega (arith, orders_bound segments loading i, length-append (orders_before segments loading i) (option_to_list (order_at segments loading i)), one (order_at segments loading i))
  where
    one : (o : Option Order) → length (option_to_list o) ≤ 1
    one None = omega arith
    one (Some order) = omega arith

sequence_bound : (mode : Mode) (orders : List Order) (sequence : List (List ℕ)) → IsSequence mode orders sequence → length sequence ≤ length orders
sequence_bound Listed orders sequence is = omega (arith, ap length is, length-map orders (λ order. order.container))
sequence_bound Stowage orders sequence (stowed, is, containers) =
    omega (arith, ap length containers, length-map stowed (λ order. order.container), length_permutation orders stowed is.same_orders)

pub numbers_small : (mode : Mode) (names : List YardBay) (loading : Loading) (message : List ℕ) (yard : Inventory) (orders : LoadOrders) (sequence : List (List ℕ)) → AreOrders loading message orders
    → IsSequenceOf mode names yard orders.list sequence → AreSmall (numbers_of yard orders sequence)
numbers_small mode names loading message yard orders sequence are is =
    let segments = are.segments in
    let few = segments_bound message segments are.spelled in
    let last = length segments + 1 in
    let list : length orders.list ≤ last = subst (λ (o : LoadOrders). length o.list ≤ last) (sym are.orders_are) (orders_bound segments loading last) in
    let vacant : orders.vacant ≤ last = subst (λ (o : LoadOrders). o.vacant ≤ last) (sym are.orders_are) (vacant-bound segments loading last) in
    let order = sequence_bound mode orders.list is.whole is.ordered in
    let left = ap length is.chosen in
    let fewer = fewer (λ container. not (stands (other_bays names yard.bays) container)) is.whole in
    let absent = count_by-le-length (λ container. not (stands yard.bays container)) sequence in
    record { orders = omega (arith, few, list); vacant = omega (arith, few, vacant); absent = omega (arith, few, list, order, left, fewer, absent) }
