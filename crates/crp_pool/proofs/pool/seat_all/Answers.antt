use Rattle.std.proofs.Common.{◌≡◌, ◌-◌, ◌+◌, ◌∷◌, [], ◌++◌, length, length-append, map, Some, arith, ap, sym, ◌∙◌, subst}
use Rattle.std.specs.Prelude.{Vec}
use Rattle.std.specs.declared.alloc.Global.{Global}
use Rattle.std.proofs.lemmas.List.{map-append, length-map}
use Rattle.std.proofs.lemmas.List.Elements.{All-append, All-pop}
use Rattle.std.proofs.lemmas.Iterator.Adapters.{YieldsList-from_vec}
use Rattle.std.proofs.lemmas.Iterator.Consumers.{YieldsList-turn}
use Rattle.crp_pool.specs.Hand.{all_deque_shares}
use Rattle.crp_pool.specs.Deques.{Own, Way, own_deque, fresh_way, IsFresh}
use Rattle.crp_pool.specs.Seats.{PoolSeat, seat_deque, seat_of, IsNewSeat}
use Rattle.crp_pool.proofs.Pools.{new_seat}
use Rattle.crp_pool.proofs.Orders.{numbers_step}
use Rattle.crp_pool.proofs.Splits.{all_of_one}
use Rattle.crp_pool.proofs.pool.seat_all.Goals as goal

pub invariant_of-push : goal.invariant_of-push
invariant_of-push c =
    let owns = c.args.owners.items in
    let rows = c.loop-owner.rows.items in
    let links = c.in-Some-pop.links in
    let gives = c.into_iter-owner-iterator.ensures.into_iter_gives in
    let turn = YieldsList-turn (YieldsList-from_vec {s = c.into_iter-owner-iterator.result} owns gives.0 (gives.1 ∙ c.args.owners.ok.0)) c.loop-owner.yielded c.loop-owner.owner-iterator c.loop-owner.yielded_by c.next.result c.next.new.self c.in-Some.owner c.in-Some.is c.next.ensures.steps in
    let fresh = subst (λ (o : Own). IsFresh (all_deque_shares - length owns) c.args.capacity o) (sym turn.1) (c.requires.fresh (length c.loop-owner.yielded) c.in-Some.owner turn.0) in
    let popped = All-pop (λ (r : Vec Way Global). r.items ≡ map fresh_way (map own_deque owns)) rows c.pop.new.self.items (Some links) c.in-Some-pop.ensures.items c.loop-owner.invariant.rows in
    let made = new_seat c.loop-owner.number c.in-Some.owner links.items (map own_deque owns) (length owns) c.args.capacity fresh c.requires.count.1 (length-map owns own_deque) popped.1 in
    made.0

pub loop-owner-preserved : goal.loop-owner-preserved
loop-owner-preserved c =
    let owns = c.args.owners.items in
    let rows = c.loop-owner.rows.items in
    let links = c.in-Some-pop.links in
    let gives = c.into_iter-owner-iterator.ensures.into_iter_gives in
    let turn = YieldsList-turn (YieldsList-from_vec {s = c.into_iter-owner-iterator.result} owns gives.0 (gives.1 ∙ c.args.owners.ok.0)) c.loop-owner.yielded c.loop-owner.owner-iterator c.loop-owner.yielded_by c.next.result c.next.new.self c.in-Some.owner c.in-Some.is c.next.ensures.steps in
    let fresh = subst (λ (o : Own). IsFresh (all_deque_shares - length owns) c.args.capacity o) (sym turn.1) (c.requires.fresh (length c.loop-owner.yielded) c.in-Some.owner turn.0) in
    let popped = All-pop (λ (r : Vec Way Global). r.items ≡ map fresh_way (map own_deque owns)) rows c.pop.new.self.items (Some links) c.in-Some-pop.ensures.items c.loop-owner.invariant.rows in
    let made = new_seat c.loop-owner.number c.in-Some.owner links.items (map own_deque owns) (length owns) c.args.capacity fresh c.requires.count.1 (length-map owns own_deque) popped.1 in
    let seat : PoolSeat = seat_of c.loop-owner.number c.in-Some.owner links.items c.args.capacity in
    let P : PoolSeat → Type 0 = IsNewSeat (map own_deque owns) c.args.capacity in
    record {
      can = tt;
      ends = tt;
      count = (let a = length-append c.loop-owner.yielded (c.in-Some.owner ∷ []) in let b : length rows ≡ length c.pop.new.self.items + 1 = ap length c.in-Some-pop.ensures.items ∙ length-append c.pop.new.self.items (links ∷ []) in let d = c.loop-owner.invariant.count in omega arith);
      rows = popped.0;
      deques = rw c.in_ok-push.ensures.items (map-append seat_deque c.loop-owner.seats.items (seat ∷ []) ∙ ap (λ l. l ++ c.in-Some.owner.deque ∷ []) c.loop-owner.invariant.deques ∙ sym (map-append own_deque c.loop-owner.yielded (c.in-Some.owner ∷ [])));
      number = (let a = length-append c.loop-owner.yielded (c.in-Some.owner ∷ []) in let d = c.loop-owner.invariant.number in omega arith);
      numbers = rw c.in_ok-push.ensures.items (numbers_step c.loop-owner.seats.items seat (length c.loop-owner.yielded) _ c.loop-owner.invariant.numbers c.loop-owner.invariant.number (let a = length-append c.loop-owner.yielded (c.in-Some.owner ∷ []) in omega arith));
      new = rw c.in_ok-push.ensures.items (All-append P c.loop-owner.seats.items (seat ∷ []) c.loop-owner.invariant.new (all_of_one P seat made.1));
    }
