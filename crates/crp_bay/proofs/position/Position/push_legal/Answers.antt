use Rattle.std.proofs.Common.{◌≡◌, ◌-◌, ◌<◌, [], length, get_or, set, refl, sym, ap, ◌∙◌, subst, arith, lit<}
use Rattle.crp_bay.specs.Positions.{top, without_top}
use Rattle.crp_bay.proofs.Reaching.{reached_ordered}
use Rattle.crp_bay.specs.Back.{place_of}
use Rattle.crp_bay.proofs.Reading.{short_trail}
use Rattle.crp_bay.proofs.Pushing.{started, told, push_of, located_landed, ended_at, seen_after, to_there, to_room, push_room}
use Rattle.crp_bay.proofs.position.Position.push_legal.Goals as goal

pub overflow_sub-left : goal.overflow_sub-left
overflow_sub-left c = omega (arith, c.requires.from)

pub lift-rank-requires-clause-there : goal.lift-rank-requires-clause-there
lift-rank-requires-clause-there c =
    let v = c.as_mut_slice-stacks.result.now in
    let st = started c.self.inside.pushes.items c.self.inside.row_of c.self.inside.heights.items c.self.inside.ordered c.self.inside.next c.args.row c.self.inside.stacks.items v c.args.self.now c.as_mut_slice-stacks.ensures.value c.self.invariant c.self.view_is c.requires.legal in
    let e = told _ _ _ _ _ _ _ _ _ _ st c.as_mut_slice-stacks.ensures.value c.self.view_is c.requires.from in
    subst (λ i. i < length v) (sym e) st.steps.low_row

pub lift-rank-requires-clause-some : goal.lift-rank-requires-clause-some
lift-rank-requires-clause-some c =
    let v = c.as_mut_slice-stacks.result.now in
    let st = started c.self.inside.pushes.items c.self.inside.row_of c.self.inside.heights.items c.self.inside.ordered c.self.inside.next c.args.row c.self.inside.stacks.items v c.args.self.now c.as_mut_slice-stacks.ensures.value c.self.invariant c.self.view_is c.requires.legal in
    let e = told _ _ _ _ _ _ _ _ _ _ st c.as_mut_slice-stacks.ensures.value c.self.view_is c.requires.from in
    subst (λ i. 0 < length (get_or v i [])) (sym e) st.steps.turn_at.some

pub land-requires-clause-there : goal.land-requires-clause-there
land-requires-clause-there c =
    let v = c.as_mut_slice-stacks.result.now in
    let st = started c.self.inside.pushes.items c.self.inside.row_of c.self.inside.heights.items c.self.inside.ordered c.self.inside.next c.args.row c.self.inside.stacks.items v c.args.self.now c.as_mut_slice-stacks.ensures.value c.self.invariant c.self.view_is c.requires.legal in
    let e = told _ _ _ _ _ _ _ _ _ _ st c.as_mut_slice-stacks.ensures.value c.self.view_is c.requires.from in
    to_there _ _ _ st.steps c.lift-rank.new.stacks (subst (λ i. c.lift-rank.new.stacks ≡ set v i (without_top (get_or v i []))) e c.lift-rank.ensures.rest)

pub land-requires-clause-room : goal.land-requires-clause-room
land-requires-clause-room c =
    let v = c.as_mut_slice-stacks.result.now in
    let st = started c.self.inside.pushes.items c.self.inside.row_of c.self.inside.heights.items c.self.inside.ordered c.self.inside.next c.args.row c.self.inside.stacks.items v c.args.self.now c.as_mut_slice-stacks.ensures.value c.self.invariant c.self.view_is c.requires.legal in
    let e = told _ _ _ _ _ _ _ _ _ _ st c.as_mut_slice-stacks.ensures.value c.self.view_is c.requires.from in
    to_room _ _ _ st.kept.reached st.steps c.lift-rank.new.stacks (subst (λ i. c.lift-rank.new.stacks ≡ set v i (without_top (get_or v i []))) e c.lift-rank.ensures.rest)

pub bounds-self-inside-rank : goal.bounds-self-inside-rank
bounds-self-inside-rank c =
    let v = c.as_mut_slice-stacks.result.now in
    let st = started c.self.inside.pushes.items c.self.inside.row_of c.self.inside.heights.items c.self.inside.ordered c.self.inside.next c.args.row c.self.inside.stacks.items v c.args.self.now c.as_mut_slice-stacks.ensures.value c.self.invariant c.self.view_is c.requires.legal in
    let e = told _ _ _ _ _ _ _ _ _ _ st c.as_mut_slice-stacks.ensures.value c.self.view_is c.requires.from in
    let is = subst (λ i. c.lift-rank.result ≡ top (get_or v i [])) e c.lift-rank.ensures.value in
    omega (arith, is, st.steps.rank_is, st.steps.shifts_by.rank_few)

pub settle-self-inside-requires-clause-few : goal.settle-self-inside-requires-clause-few
settle-self-inside-requires-clause-few c = reached_ordered _ c.self.invariant.reached

pub settle-self-inside-requires-clause-located : goal.settle-self-inside-requires-clause-located
settle-self-inside-requires-clause-located c =
    let v = c.as_mut_slice-stacks.result.now in
    let st = started c.self.inside.pushes.items c.self.inside.row_of c.self.inside.heights.items c.self.inside.ordered c.self.inside.next c.args.row c.self.inside.stacks.items v c.args.self.now c.as_mut_slice-stacks.ensures.value c.self.invariant c.self.view_is c.requires.legal in
    let e = told _ _ _ _ _ _ _ _ _ _ st c.as_mut_slice-stacks.ensures.value c.self.view_is c.requires.from in
    located_landed _ _ _ _ _ _ _ _ _ _ _ st c.as_slice.ensures.value (subst (λ i. c.lift-rank.result ≡ top (get_or v i [])) e c.lift-rank.ensures.value)
    (subst (λ i. c.lift-rank.new.stacks ≡ set v i (without_top (get_or v i []))) e c.lift-rank.ensures.rest) c.land.ensures

pub push-requires : goal.push-requires
push-requires c =
    let st = started c.self.inside.pushes.items c.self.inside.row_of c.self.inside.heights.items c.self.inside.ordered c.self.inside.next c.args.row c.self.inside.stacks.items c.self.inside.stacks.items c.args.self.now refl c.self.invariant c.self.view_is c.requires.legal in
    (lit< tt, push_room _ _ _ _ st.kept st.steps.can)

pub invariant_of-self : goal.invariant_of-self
invariant_of-self c =
    let v = c.as_mut_slice-stacks.result.now in
    let st0 = started c.self.inside.pushes.items c.self.inside.row_of c.self.inside.heights.items c.self.inside.ordered c.self.inside.next c.args.row c.self.inside.stacks.items c.self.inside.stacks.items c.args.self.now refl c.self.invariant c.self.view_is c.requires.legal in
    let st = started c.self.inside.pushes.items c.self.inside.row_of c.self.inside.heights.items c.self.inside.ordered c.self.inside.next c.args.row c.self.inside.stacks.items v c.args.self.now c.as_mut_slice-stacks.ensures.value c.self.invariant c.self.view_is c.requires.legal in
    let e = told _ _ _ _ _ _ _ _ _ _ st c.as_mut_slice-stacks.ensures.value c.self.view_is c.requires.from in
    let value = subst (λ i. c.lift-rank.result ≡ top (get_or v i [])) e c.lift-rank.ensures.value in
    let rest = subst (λ i. c.lift-rank.new.stacks ≡ set v i (without_top (get_or v i []))) e c.lift-rank.ensures.rest in
    let same : length c.settle-self-inside.new.stacks ≡ length c.self.inside.stacks.items = omega (arith, c.settle-self-inside.auto.stacks, c.land.auto.stacks, c.lift-rank.auto.stacks, ap length c.as_mut_slice-stacks.ensures.value) in
    let er = value ∙ ap (λ w. top (get_or w (get_or c.self.inside.row_of c.self.inside.next 0) [])) c.as_mut_slice-stacks.ensures.value ∙ st0.steps.rank_is in
    let et = ended_at c.self.inside.pushes.items c.self.inside.row_of c.self.inside.heights.items c.as_slice.result.now c.self.inside.ordered c.self.inside.next c.settle-self-inside.result c.args.row c.lift-rank.result c.self.inside.stacks.items v c.lift-rank.new.stacks c.land.new.stacks c.settle-self-inside.new.stacks st
    c.as_slice.ensures.value c.as_mut_slice-stacks.ensures.value value rest c.land.ensures c.settle-self-inside.ensures same in
    (seen_after c.self.inside.pushes.items c.push.new.self.items c.self.inside.row_of (place_of c.self.inside.heights.items c.self.inside.ordered c.self.inside.next c.self.inside.stacks.items) _ c.args.row c.lift-rank.result (push_of (c.args.from - 1) (c.args.row - 1) c.self.inside.next) c.args.self.now c.self.invariant st0.steps er et
    (ap (λ f. push_of f (c.args.row - 1) c.self.inside.next) e) c.push.ensures.items c.self.view_is).0

pub returns-clause-pushed : goal.returns-clause-pushed
returns-clause-pushed c =
    let v = c.as_mut_slice-stacks.result.now in
    let st0 = started c.self.inside.pushes.items c.self.inside.row_of c.self.inside.heights.items c.self.inside.ordered c.self.inside.next c.args.row c.self.inside.stacks.items c.self.inside.stacks.items c.args.self.now refl c.self.invariant c.self.view_is c.requires.legal in
    let st = started c.self.inside.pushes.items c.self.inside.row_of c.self.inside.heights.items c.self.inside.ordered c.self.inside.next c.args.row c.self.inside.stacks.items v c.args.self.now c.as_mut_slice-stacks.ensures.value c.self.invariant c.self.view_is c.requires.legal in
    let e = told _ _ _ _ _ _ _ _ _ _ st c.as_mut_slice-stacks.ensures.value c.self.view_is c.requires.from in
    let value = subst (λ i. c.lift-rank.result ≡ top (get_or v i [])) e c.lift-rank.ensures.value in
    let rest = subst (λ i. c.lift-rank.new.stacks ≡ set v i (without_top (get_or v i []))) e c.lift-rank.ensures.rest in
    let same : length c.settle-self-inside.new.stacks ≡ length c.self.inside.stacks.items = omega (arith, c.settle-self-inside.auto.stacks, c.land.auto.stacks, c.lift-rank.auto.stacks, ap length c.as_mut_slice-stacks.ensures.value) in
    let er = value ∙ ap (λ w. top (get_or w (get_or c.self.inside.row_of c.self.inside.next 0) [])) c.as_mut_slice-stacks.ensures.value ∙ st0.steps.rank_is in
    let et = ended_at c.self.inside.pushes.items c.self.inside.row_of c.self.inside.heights.items c.as_slice.result.now c.self.inside.ordered c.self.inside.next c.settle-self-inside.result c.args.row c.lift-rank.result c.self.inside.stacks.items v c.lift-rank.new.stacks c.land.new.stacks c.settle-self-inside.new.stacks st
    c.as_slice.ensures.value c.as_mut_slice-stacks.ensures.value value rest c.land.ensures c.settle-self-inside.ensures same in
    (seen_after c.self.inside.pushes.items c.push.new.self.items c.self.inside.row_of (place_of c.self.inside.heights.items c.self.inside.ordered c.self.inside.next c.self.inside.stacks.items) _ c.args.row c.lift-rank.result (push_of (c.args.from - 1) (c.args.row - 1) c.self.inside.next) c.args.self.now c.self.invariant st0.steps er et
    (ap (λ f. push_of f (c.args.row - 1) c.self.inside.next) e) c.push.ensures.items c.self.view_is).1

pub returns-clause-few : goal.returns-clause-few
returns-clause-few c = short_trail _ _ _ (invariant_of-self c)
