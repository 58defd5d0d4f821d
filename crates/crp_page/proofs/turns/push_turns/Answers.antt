use Rattle.std.proofs.Common.{◌≡◌, ◌<◌, ◌≤◌, ◌-◌, List, ℕ, length, take, drop, get_or, refl, sym, subst, append-nil, arith}
use Rattle.crp_page.proofs.Walking.{none_yet, one_turn, all_turns, rest_is, fewer_left}
use Rattle.crp_page.proofs.turns.push_turns.Goals as goal

pub offset_bounds-rest-count : goal.offset_bounds-rest-count
offset_bounds-rest-count c = omega (arith, c.count_leading-count.ensures.within, c.loop-i.invariant.few)

pub loop-i-init : goal.loop-i-init
loop-i-init c = record {
  so = λ records sorted. none_yet c.args.ship.now records c.args.text.now.items c.args.moves.now sorted (sym (append-nil c.args.text.now.items));
  few = omega arith;
}

pub loop-i-preserved : goal.loop-i-preserved
loop-i-preserved c =
    let ship = c.args.ship.now in
    let i = c.loop-i.i in
    let name = c.index-sequence-i.result in
    let rest = c.loop-i.rest.now in
    let low : i < length ship.sequence = subst (λ (s : List (List ℕ)). i < length s) c.sequence-sequence.ensures.value c.loop-i-test.true in
    let at : name ≡ get_or ship.sequence i name = subst (λ (s : List (List ℕ)). name ≡ get_or s i name) c.sequence-sequence.ensures.value c.index-sequence-i.is in
    let count = c.count_leading-count.result in
    record {
      so = λ records sorted.
          one_turn ship records c.args.text.now.items _ _ rest (take count rest) (take (length rest - count) (drop count rest)) i count name c.slot_for.result low at c.slot_for.ensures
          (c.loop-i.invariant.so records sorted) c.count_leading-count.ensures.value refl (sym (rest_is count rest)) c.in_ok-push_turn.ensures;
      few = omega (arith, fewer_left count rest, c.loop-i.invariant.few);
    }

pub returns : goal.returns
returns c records sorted =
    let ship = c.args.ship.now in
    let all : length ship.sequence ≤ c.loop-i.i = subst (λ (s : List (List ℕ)). length s ≤ c.loop-i.i) c.sequence-sequence.ensures.value (omega (arith, c.loop-i-test.false)) in
    all_turns ship records c.args.text.now.items _ _ c.loop-i.i all (c.loop-i.invariant.so records sorted)
