use Rattle.std.proofs.Common.{◌≡◌, ℕ, ◌+◌, List, [], ◌∷◌, ◌++◌, map, take, get_or, refl, ap, ◌∙◌}
use Rattle.std.proofs.lemmas.List.{take_all}
use Rattle.std.proofs.lemmas.List.Sums.{fold-append}
use Rattle.crp_notes.specs.Repeated.{times, kept_with, each_once}
use Rattle.crp_notes.specs.Unread.{is_same}
use Rattle.crp_notes.specs.Orders.{ordered}
use Rattle.crp_notes.proofs.Counting.{no_order, more}
use Rattle.crp_notes.proofs.unread.counted.Goals as goal

pub loop-order-init : goal.loop-order-init
loop-order-init c = (λ a. rw c.new-kept.ensures.empty refl, rw c.new-found.ensures.items refl)

pub loop-order-preserved : goal.loop-order-preserved
loop-order-preserved c =
    let all = map ordered c.args.orders.now in
    let known = map ordered (take c.loop-order.order-index c.args.orders.now) in
    let x = get_or c.args.orders.now c.loop-order.order-index no_order in
    let e : each_once is_same (map ordered (take (c.loop-order.order-index + 1) c.args.orders.now)) ≡ kept_with is_same (each_once is_same known) (ordered x) =
    ap (each_once is_same) (more c.args.orders.now c.loop-order.order-index c.loop-order-test.true) ∙ fold-append (kept_with is_same) [] known (ordered x ∷ []) in
    rw e (c.in_ok-keep.ensures all (each_once is_same known) (c.count_of.ensures c.args.orders.now c.in_ok-counts.ensures) c.loop-order.invariant)

pub returns : goal.returns
returns c =
    let all = take_all c.loop-order.order-index c.args.orders.now c.loop-order-test.false in
    c.loop-order.invariant.1 ∙ ap (λ ys. map (λ (o : ℕ × List ℕ). let q : ℕ × List ℕ × ℕ = (o.0, o.1, times is_same o (map ordered c.args.orders.now)) in q) (each_once is_same (map ordered ys))) all
