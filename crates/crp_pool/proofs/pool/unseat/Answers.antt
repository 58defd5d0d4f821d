use Rattle.std.proofs.Common.{◌<◌, ◌∷◌, [], ◌++◌, map, arith, ap, sym, ◌∙◌, length-append}
use Rattle.std.proofs.lemmas.List.{map-append}
use Rattle.std.proofs.lemmas.List.Elements.{All-append}
use Rattle.crp_pool.specs.Deques.{Own, own_deque, row_ways}
use Rattle.crp_pool.specs.Seats.{seat_deque}
use Rattle.crp_pool.proofs.Splits.{split_step, ways_step, all_of_one}
use Rattle.crp_pool.proofs.pool.unseat.Goals as goal

pub loop-seat-preserved : goal.loop-seat-preserved
loop-seat-preserved c =
    let before = c.loop-seat.invariant in
    let owns = c.loop-seat.owners.items in
    let rows = c.loop-seat.rows.items in
    let s = c.in-Some.seat in
    let own = c.seat.inside.owner in
    let links = c.seat.inside.links in
    record {
      can = tt;
      ends = tt;
      count = let n = length-append c.loop-seat.yielded (s ∷ []) in (omega arith, omega arith);
      room = (omega arith, omega arith);
      deques = rw c.push_reserved.ensures.items (map-append own_deque owns (own ∷ []) ∙ ap (λ l. l ++ own.deque ∷ []) before.deques ∙ ap (λ d. map seat_deque c.loop-seat.yielded ++ d ∷ []) (ap seat_deque c.seat.view_is) ∙ sym (map-append seat_deque c.loop-seat.yielded (s ∷ [])));
      shares = rw c.push_reserved.ensures.items (All-append (λ (o : Own). 0 < o.hand.shares) owns (own ∷ []) before.shares (all_of_one (λ (o : Own). 0 < o.hand.shares) own c.seat.invariant.share));
      ways = rw c.push_reserved-in-loop-seat.ensures.items (ways_step c.seat.inside.number c.loop-seat.yielded rows s own links c.seat.inside.capacity c.seat.view_is c.seat.invariant before.ways);
      sums = rw (c.push_reserved.ensures.items, c.push_reserved-in-loop-seat.ensures.items, map-append row_ways rows (links ∷ [])) (split_step c.seat.inside.number c.loop-seat.yielded owns (map row_ways rows) s own links.items c.seat.inside.capacity c.seat.view_is c.seat.invariant before.sums);
    }
