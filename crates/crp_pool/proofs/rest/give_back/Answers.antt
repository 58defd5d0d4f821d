use Rattle.std.proofs.Common.{set, get_or, ◌≡◌, ◌<◌, ℕ, List, length, map, rules, arith, ap, ◌∙◌}
use Rattle.std.proofs.lemmas.List.Elements.{All-set}
use Rattle.std.proofs.Math.Seq.{map-set_same}
use Rattle.std.proofs.lemmas.List.{length-map}
use Rattle.crp_pool.specs.Deques.{DequeId, Own, own_deque, guest}
use Rattle.crp_pool.proofs.Owns.{pop_way, guest_at, gave}
use Rattle.crp_pool.proofs.rest.give_back.Goals as goal

pub absorb-requires-clause-deque : goal.absorb-requires-clause-deque
absorb-requires-clause-deque c =
    let gs : List (DequeId × ℕ × List (List ℕ)) = map guest (map own_deque c.loop-link.owners.items) in
    let last = pop_way c.pop.new.self.items c.in-Some.link gs (rw c.in-Some.ensures.items at c.loop-link.invariant.ways) in
    let o = c.index_mut.result.now in
    let at : c.len-at.result ≡ length c.pop.new.self.items = search rules in
    let e = last.2 (guest o.deque) ∙ guest_at c.loop-link.owners.items (length c.pop.new.self.items) o in
    let there : c.in-Some.link.deque ≡ (get_or c.loop-link.owners.items (length c.pop.new.self.items) o).deque = ap (λ (t : DequeId × ℕ × List (List ℕ)). t.0) e in
    let is : o ≡ get_or c.loop-link.owners.items c.len-at.result o = c.index_mut.ensures.value in
    cc

pub loop-link-preserved : goal.loop-link-preserved
loop-link-preserved c =
    let gs : List (DequeId × ℕ × List (List ℕ)) = map guest (map own_deque c.loop-link.owners.items) in
    let last = pop_way c.pop.new.self.items c.in-Some.link gs (rw c.in-Some.ensures.items at c.loop-link.invariant.ways) in
    let deques : map own_deque (set c.loop-link.owners.items c.len-at.result c.absorb.new.self) ≡ map own_deque c.loop-link.owners.items = map-set_same own_deque _ _ _ c.index_mut.result.now (search rules) in
    let m = length-map c.loop-link.owners.items own_deque in
    let n = length-map (map own_deque c.loop-link.owners.items) guest in
    let p = last.1 in
    record {
      shares = All-set (λ (o : Own). 0 < o.hand.shares) _ _ _ (search rules) c.loop-link.invariant.shares;
      ways = rw deques last.0;
      deques = deques ∙ c.loop-link.invariant.deques;
      sums = λ f adds. gave f c.loop-link.owners.items c.len-at.result c.index_mut.result.now c.absorb.new.self c.pop.new.self.items c.in-Some.link _ (omega arith) (search rules) c.absorb.ensures.rule adds (rw c.in-Some.ensures.items at (c.loop-link.invariant.sums f adds));
    }
