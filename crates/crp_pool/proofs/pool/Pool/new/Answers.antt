use Rattle.std.proofs.Common.{length, map, arith, ap, sym, ◌∙◌}
use Rattle.crp_pool.specs.Deques.{DequeId, own_deque}
use Rattle.crp_pool.specs.Seats.{seat_deque, numbers}
use Rattle.std.proofs.lemmas.List.{length-map}
use Rattle.crp_pool.proofs.Orders.{new_every}
use Rattle.crp_pool.proofs.Pools.{same_count, all_fresh}
use Rattle.crp_pool.proofs.pool.Pool.new.Goals as goal

pub seat_all-requires-clause-fresh : goal.seat_all-requires-clause-fresh
seat_all-requires-clause-fresh c =
    let n = same_count c.link_rows.new.owners.items c.in_ok-owners.owners.items c.in_ok-rows.ensures.deques in
    all_fresh c.link_rows.new.owners.items (length c.in_ok-owners.owners.items) (length c.link_rows.new.owners.items) c.args.capacity (sym n) (c.in_ok-rows.ensures.fresh c.args.capacity c.in_ok-owners.ensures.1)

pub returns-clause-seats : goal.returns-clause-seats
returns-clause-seats c =
    let owns = c.link_rows.new.owners.items in
    let n = same_count owns c.in_ok-owners.owners.items c.in_ok-rows.ensures.deques in
    let m = length-map c.in_ok-seats.seats.items seat_deque in
    let k = length-map owns own_deque in
    let e = ap (length {A = DequeId}) c.in_ok-seats.ensures.deques in
    rw c.of-known.ensures
    (omega (arith, n, m, k, e, c.in_ok-owners.ensures.0), new_every (map own_deque owns) c.in_ok-seats.seats.items c.args.capacity c.in_ok-seats.ensures.deques c.in_ok-seats.ensures.new (c.in_ok-seats.ensures.numbers ∙ ap (numbers 0) (sym k)))

pub returns-clause-in_order : goal.returns-clause-in_order
returns-clause-in_order c =
    let n = same_count c.link_rows.new.owners.items c.in_ok-owners.owners.items c.in_ok-rows.ensures.deques in
    c.in_ok-seats.ensures.numbers ∙ ap (numbers 0) (n ∙ c.in_ok-owners.ensures.0)
