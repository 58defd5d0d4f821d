use Rattle.std.proofs.Common.{vec_len, subst, ◌≡◌, ◌∷◌, [], List, length, map, All, arith, ap, sym, ◌∙◌}
use Rattle.std.proofs.lemmas.List.{map-append, map-id, length-map}
use Rattle.std.proofs.lemmas.Iterator.Adapters.{YieldsList-from_vec}
use Rattle.std.proofs.lemmas.Iterator.Consumers.{YieldsList-end, YieldsList-turn}
use Rattle.std.specs.Prelude.{Vec}
use Rattle.std.specs.declared.alloc.Global.{Global}
use Rattle.crp_pool.specs.Weigh.{weigh}
use Rattle.crp_pool.specs.Deques.{Way, DequeId, way_hand, row_ways, own_deque, shape, guest}
use Rattle.crp_pool.specs.Seats.{seat_deque}
use Rattle.crp_pool.proofs.Hands.{weigh-append}
use Rattle.crp_pool.proofs.Orders.{puts_moved, takes_moved, in_order}
use Rattle.crp_pool.proofs.Splits.{finished}
use Rattle.crp_pool.proofs.pool.Pool.finish.Goals as goal

pub loop-links-preserved : goal.loop-links-preserved
loop-links-preserved c =
    let before = c.loop-links.invariant in
    record {
      can = tt;
      ends = tt;
      deques = c.give_back.ensures.deques ∙ before.deques;
      shares = c.give_back.ensures.shares;
      sums = λ f adds.
          let a = c.give_back.ensures.sums f adds in
          let b = before.sums f adds in
          rw (map-append row_ways c.loop-links.yielded (c.in-Some.links ∷ [])) (omega (arith, weigh-append (λ (r : List Way). weigh f (map way_hand r)) (map row_ways c.loop-links.yielded) (row_ways c.in-Some.links ∷ [])));
    }

pub invariant_of-result : goal.invariant_of-result
invariant_of-result c =
    let gives = c.into_iter-links-iterator.ensures.into_iter_gives in
    let end = YieldsList-end (YieldsList-from_vec {s = c.into_iter-links-iterator.result} c.unseat.new.rows.items gives.0 (gives.1 ∙ c.unseat.new.rows.ok.0)) c.loop-links.yielded c.loop-links.links-iterator c.loop-links.yielded_by c.next.result c.next.new.self c.in-None.is c.next.ensures.steps in
    let whole : c.loop-links.yielded ≡ c.unseat.new.rows.items = sym (map-id c.loop-links.yielded) ∙ end.0 in
    let all = finished c.put_in_order.new.seats.items c.unseat.new.owners.items c.loop-links.owners.items (map row_ways c.unseat.new.rows.items) c.unseat.ensures.sums c.loop-links.invariant.deques (λ f adds. rw whole at (c.loop-links.invariant.sums f adds)) in
    (all.0, c.loop-links.invariant.shares)

pub returns-clause-puts : goal.returns-clause-puts
returns-clause-puts c =
    let gives = c.into_iter-links-iterator.ensures.into_iter_gives in
    let end = YieldsList-end (YieldsList-from_vec {s = c.into_iter-links-iterator.result} c.unseat.new.rows.items gives.0 (gives.1 ∙ c.unseat.new.rows.ok.0)) c.loop-links.yielded c.loop-links.links-iterator c.loop-links.yielded_by c.next.result c.next.new.self c.in-None.is c.next.ensures.steps in
    let whole : c.loop-links.yielded ≡ c.unseat.new.rows.items = sym (map-id c.loop-links.yielded) ∙ end.0 in
    let all = finished c.put_in_order.new.seats.items c.unseat.new.owners.items c.loop-links.owners.items (map row_ways c.unseat.new.rows.items) c.unseat.ensures.sums c.loop-links.invariant.deques (λ f adds. rw whole at (c.loop-links.invariant.sums f adds)) in
    λ h. all.1 h ∙ puts_moved c.args.seats.items c.put_in_order.new.seats.items c.put_in_order.ensures.moved h

pub returns-clause-takes : goal.returns-clause-takes
returns-clause-takes c =
    let gives = c.into_iter-links-iterator.ensures.into_iter_gives in
    let end = YieldsList-end (YieldsList-from_vec {s = c.into_iter-links-iterator.result} c.unseat.new.rows.items gives.0 (gives.1 ∙ c.unseat.new.rows.ok.0)) c.loop-links.yielded c.loop-links.links-iterator c.loop-links.yielded_by c.next.result c.next.new.self c.in-None.is c.next.ensures.steps in
    let whole : c.loop-links.yielded ≡ c.unseat.new.rows.items = sym (map-id c.loop-links.yielded) ∙ end.0 in
    let all = finished c.put_in_order.new.seats.items c.unseat.new.owners.items c.loop-links.owners.items (map row_ways c.unseat.new.rows.items) c.unseat.ensures.sums c.loop-links.invariant.deques (λ f adds. rw whole at (c.loop-links.invariant.sums f adds)) in
    λ h. all.2 h ∙ takes_moved c.args.seats.items c.put_in_order.new.seats.items c.put_in_order.ensures.moved h

pub unseat-requires-clause-room : goal.unseat-requires-clause-room
unseat-requires-clause-room c =
    let new = c.put_in_order.new.seats in
    let o = in_order c.args.self c.args.seats.items new.items c.put_in_order.ensures.moved c.put_in_order.ensures.sorted c.requires in
    let a = length-map new.items seat_deque in
    let b = length-map c.self.inside.known.value.items own_deque in
    let e = ap (length {A = DequeId}) o.0 in
    let f = ap (length {A = DequeId}) c.self.view_is in
    let r = c.self.invariant.room in
    let q = c.self.invariant.room_for_ways in
    let l : vec_len new ≡ length new.items = new.ok.0 in
    (omega arith, omega arith)

pub give_back-requires-clause-ways : goal.give_back-requires-clause-ways
give_back-requires-clause-ways c =
    let o = in_order c.args.self c.args.seats.items c.put_in_order.new.seats.items c.put_in_order.ensures.moved c.put_in_order.ensures.sorted c.requires in
    let rows = c.unseat.new.rows.items in
    let P : Vec Way Global → Type 0 = λ r. map shape r.items ≡ map guest c.args.self in
    let all : All P rows = c.unseat.ensures.ways c.args.self o.1 in
    let gives = c.into_iter-links-iterator.ensures.into_iter_gives in
    let turn = YieldsList-turn (YieldsList-from_vec {s = c.into_iter-links-iterator.result} rows gives.0 (gives.1 ∙ c.unseat.new.rows.ok.0)) c.loop-links.yielded c.loop-links.links-iterator c.loop-links.yielded_by c.next.result c.next.new.self c.in-Some.links c.in-Some.is c.next.ensures.steps in
    let mine : P c.in-Some.links = subst P (sym turn.1) (all (length c.loop-links.yielded) c.in-Some.links turn.0) in
    let deques : map own_deque c.loop-links.owners.items ≡ c.args.self = c.loop-links.invariant.deques ∙ c.unseat.ensures.deques ∙ o.0 in
    mine ∙ ap (map guest) (sym deques)
