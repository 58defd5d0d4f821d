use Rattle.std.proofs.Common.{◌≡◌, ◌+◌, length, map, filter, refl, ap, subst, arith}
use Rattle.std.specs.Prelude.{nat_lt}
use Rattle.std.specs.Option.{option_map}
use Rattle.crp_movins.specs.Kinds.{kind_of, is_message_header}
use Rattle.crp_movins.specs.Places.{kind_at, count_before}
use Rattle.crp_notes.specs.Unread.{orders_before, is_unread}
use Rattle.crp_notes.specs.Orders.{ordered}
use Rattle.crp_notes.proofs.Counting.{unread-more}
use Rattle.crp_notes.proofs.unread.unread.Goals as goal

pub loop-i-init : goal.loop-i-init
unfolding kind_at kind_of
loop-i-init c = record {
  few = let none : c.start-standing.result.messages ≡ 0 = (c.start-standing.ensures c.args.segments.now c.args.loading.now).messages in omega (arith, none);
  stands = c.start-standing.ensures c.args.segments.now c.args.loading.now;
  unread = rw c.new-orders.ensures.items refl;
}

pub after-standing-requires : goal.after-standing-requires
after-standing-requires c = omega (arith, c.loop-i.invariant.few, c.loop-i-test.true, c.count-i-end.ensures.small)

pub loop-i-preserved : goal.loop-i-preserved
loop-i-preserved c =
    let segments = c.args.segments.now in
    let loading = c.args.loading.now in
    let h = c.loop-i.invariant in
    record {
      few = omega (arith, h.few, c.after-standing.ensures.few);
      stands = c.after-standing.ensures.stands segments (c.loop-i.i + 1) h.stands c.said_by-says.ensures;
      unread = unread-more segments loading (c.loop-i.i + 1) _ (map ordered c.loop-i.orders.items) (map ordered c.push.new.orders.items) (c.ordered.ensures segments loading (c.loop-i.i + 1) h.stands c.said_by-says.ensures) h.unread c.in_ok-push.ensures;
    }

pub returns-clause-orders : goal.returns-clause-orders
returns-clause-orders c =
    let all : c.loop-i.i ≡ length c.args.segments.now = omega (arith, c.loop-i-test.false, c.count-i-end.ensures.value) in
    subst (λ n. map ordered c.loop-i.orders.items ≡ filter (is_unread c.args.loading.now) (orders_before c.args.segments.now c.args.loading.now (n + 1))) all c.loop-i.invariant.unread

pub returns-clause-several : goal.returns-clause-several
returns-clause-several c =
    let all : c.loop-i.i ≡ length c.args.segments.now = omega (arith, c.loop-i-test.false, c.count-i-end.ensures.value) in
    subst (λ n. nat_lt 1 c.loop-i.standing.messages ≡ nat_lt 1 (count_before is_message_header c.args.segments.now (n + 1))) all (ap (nat_lt 1) c.loop-i.invariant.stands.messages)
