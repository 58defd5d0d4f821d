use Rattle.std.proofs.Common.{◌≡◌, ◌<◌, ◌≤◌, ◌+◌, true, false, length, take, get_or, refl, sym, ap, ◌∙◌, subst, arith}
use Rattle.std.proofs.lemmas.List.{take_more}
use Rattle.crp_bay.specs.Positions.{can_shift}
use Rattle.crp_bay.specs.Back.{PlaceAndTrail}
use Rattle.crp_checker.specs.Pending.{rows_behind}
use Rattle.crp_checker.specs.Passed.{ArePassed}
use Rattle.crp_checker.proofs.Onward.{none_left, none_behind, is_next, is_passed}
use Rattle.crp_checker.proofs.PassedOver.{none_passed, passed_on}
use Rattle.crp_checker.proofs.passing.pass.Goals as goal

pub loop-next-init : goal.loop-next-init
loop-next-init c = record {
  within = c.requires;
  passed = none_passed c.args.least c.args.place.now.place (rows_behind c.args.row c.args.place.now.place) (take c.args.taken c.args.piece.now);
}

pub returns-then-turn-ordered-clause-passed : goal.returns-then-turn-ordered-clause-passed
returns-then-turn-ordered-clause-passed c =
    let place = c.args.place.now.place in
    let bytes = take c.args.taken c.args.piece.now in
    let passed_all : c.position-position.result.now.place.ordered < c.position-position.result.now.place.next = omega (arith, c.if-turn-ordered.true, c.next-turn.ensures.value, c.ordered.ensures.value) in
    let none = none_left place c.args.row (subst (λ (s : PlaceAndTrail). s.place.ordered < s.place.next) c.position-position.ensures passed_all) in
    subst (λ left. ArePassed c.args.least place (rows_behind c.args.row place) left bytes bytes) none (none_passed c.args.least place (rows_behind c.args.row place) bytes)

pub is_right-requires-clause-mover : goal.is_right-requires-clause-mover
is_right-requires-clause-mover c =
    let left : c.position-position.result.now.place.next ≤ c.position-position.result.now.place.ordered = omega (arith, c.if-turn-ordered.false, c.next-turn.ensures.value, c.ordered.ensures.value) in
    c.mover-mover.ensures (subst (λ (s : PlaceAndTrail). s.place.next ≤ s.place.ordered) c.position-position.ensures left)

pub returns-then-not-is_right-clause-passed : goal.returns-then-not-is_right-clause-passed
returns-then-not-is_right-clause-passed c =
    let place = c.args.place.now.place in
    let next = c.loop-next.next in
    let there : next < length c.position-position.result.now.place.heights = omega (arith, c.loop-next-test.true, c.rows-rows.ensures.value) in
    let within = subst (λ (s : PlaceAndTrail). next < length s.place.heights) c.position-position.ensures there in
    let legal : can_shift place (next + 1) ≡ true = ap (λ (s : PlaceAndTrail). can_shift s.place (next + 1)) (sym c.position-position.ensures) ∙ sym c.is_legal.ensures ∙ c.if-is_legal.true in
    subst (λ left. ArePassed c.args.least place (rows_behind c.args.row place) left (take c.args.taken c.args.piece.now) (take c.loop-next.taken c.args.piece.now))
    (is_next place next (next + 1) refl within legal) c.loop-next.invariant.passed

pub loop-next-preserved-then-is_legal : goal.loop-next-preserved-then-is_legal
loop-next-preserved-then-is_legal c =
    let place = c.args.place.now.place in
    let next = c.loop-next.next in
    let taken = c.loop-next.taken in
    let piece = c.args.piece.now in
    let there : next < length c.position-position.result.now.place.heights = omega (arith, c.loop-next-test.true, c.rows-rows.ensures.value) in
    let within = subst (λ (s : PlaceAndTrail). next < length s.place.heights) c.position-position.ensures there in
    let legal : can_shift place (next + 1) ≡ true = ap (λ (s : PlaceAndTrail). can_shift s.place (next + 1)) (sym c.position-position.ensures) ∙ sym c.is_legal.ensures ∙ c.if-is_legal.true in
    let right = c.if-not-is_right.false in
    let lt = c.is_right.ensures.there right in
    record {
      within = omega (arith, lt);
      passed = passed_on c.args.least place (rows_behind c.args.row place) (rows_behind (next + 1) place) (next + 1) (get_or piece taken 0) (take c.args.taken piece) (take taken piece) (take (taken + 1) piece)
          (subst (λ left. ArePassed c.args.least place (rows_behind c.args.row place) left (take c.args.taken piece) (take taken piece)) (is_next place next (next + 1) refl within legal) c.loop-next.invariant.passed)
          (record { cut = c.is_right.ensures.cut right; high = c.is_right.ensures.right right })
          (take_more piece taken 0 lt);
    }

pub loop-next-preserved : goal.loop-next-preserved
loop-next-preserved c =
    let place = c.args.place.now.place in
    let next = c.loop-next.next in
    let there : next < length c.position-position.result.now.place.heights = omega (arith, c.loop-next-test.true, c.rows-rows.ensures.value) in
    let within = subst (λ (s : PlaceAndTrail). next < length s.place.heights) c.position-position.ensures there in
    let legal : can_shift place (next + 1) ≡ false = ap (λ (s : PlaceAndTrail). can_shift s.place (next + 1)) (sym c.position-position.ensures) ∙ sym c.is_legal.ensures ∙ c.if-is_legal.false in
    record {
      within = c.loop-next.invariant.within;
      passed = subst (λ left. ArePassed c.args.least place (rows_behind c.args.row place) left (take c.args.taken c.args.piece.now) (take c.loop-next.taken c.args.piece.now))
          (is_passed place next (next + 1) refl within legal) c.loop-next.invariant.passed;
    }

pub returns-clause-passed : goal.returns-clause-passed
returns-clause-passed c =
    let place = c.args.place.now.place in
    let next = c.loop-next.next in
    let all : length c.position-position.result.now.place.heights ≤ next = omega (arith, c.loop-next-test.false, c.rows-rows.ensures.value) in
    subst (λ left. ArePassed c.args.least place (rows_behind c.args.row place) left (take c.args.taken c.args.piece.now) (take c.loop-next.taken c.args.piece.now))
    (none_behind place next (subst (λ (s : PlaceAndTrail). length s.place.heights ≤ next) c.position-position.ensures all)) c.loop-next.invariant.passed
