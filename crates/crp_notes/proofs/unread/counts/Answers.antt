use Rattle.std.proofs.Common.{◌≡◌, ◌≤◌, ◌+◌, [], ◌∷◌, ◌++◌, map, take, get_or, length, refl, subst, ◌∙◌, arith}
use Rattle.std.specs.Map.{lookup}
use Rattle.std.proofs.lemmas.List.{take_all}
use Rattle.crp_notes.specs.Unread.{is_same}
use Rattle.crp_notes.specs.Orders.{ordered, HasCounts}
use Rattle.crp_notes.proofs.Repeating.{codes_of_messages}
use Rattle.crp_notes.proofs.Counting.{no_order, more, count-more, times-few}
use Rattle.crp_notes.proofs.unread.counts.Goals as goal

pub loop-order-init : goal.loop-order-init
loop-order-init c = λ a. rw c.new-counts.ensures.empty refl

pub overflow_add-count : goal.overflow_add-count
overflow_add-count c =
    let known = take c.loop-order.order-index c.args.orders.now in
    let is = c.count_of-count.ensures known c.loop-order.invariant in
    let few = times-few (ordered (get_or c.args.orders.now c.loop-order.order-index no_order)) c.loop-order.order-index c.args.orders.now in
    omega (arith, is, few)

pub loop-order-preserved : goal.loop-order-preserved
loop-order-preserved c =
    let known = take c.loop-order.order-index c.args.orders.now in
    let x = get_or c.args.orders.now c.loop-order.order-index no_order in
    let e : map ordered (take (c.loop-order.order-index + 1) c.args.orders.now) ≡ map ordered known ++ ordered x ∷ [] = more c.args.orders.now c.loop-order.order-index c.loop-order-test.true in
    λ a. rw (e, c.in_ok-insert.ensures.updates.0 a) (count-more (ordered a) (ordered x) (map ordered known) (lookup (λ k. is_same (ordered a) (ordered k)) c.loop-order.counts.entries) c.count_of-count.result (is_same (ordered x) (ordered a)) refl (codes_of_messages.symm (ordered a) (ordered x)) (c.loop-order.invariant a) (c.count_of-count.ensures known c.loop-order.invariant))

pub returns : goal.returns
returns c = subst (HasCounts c.loop-order.counts.entries) (take_all c.loop-order.order-index c.args.orders.now c.loop-order-test.false) c.loop-order.invariant
