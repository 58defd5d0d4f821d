use Rattle.std.proofs.Common.{◌≡◌, ℕ, ◌-◌, ◌<◌, [], length, get_or, sym, ap, subst, arith}
use Rattle.crp_bay.specs.Back.{place_of, all_back}
use Rattle.crp_bay.specs.Located.{StepsBack}
use Rattle.crp_bay.proofs.Shifting.{went_steps}
use Rattle.crp_bay.proofs.Popping.{last_push, went_back, finds, kept_before}
use Rattle.crp_bay.proofs.position.Position.pop.Goals as goal

pub go_back-requires-clause-within : goal.go_back-requires-clause-within
go_back-requires-clause-within c =
    let p = last_push c.self.inside.pushes.items c.pop.new.self.items c.in-Some.push c.self.inside.row_of (place_of c.self.inside.heights.items c.self.inside.ordered c.self.inside.next c.self.inside.stacks.items) c.in-Some.ensures.items c.self.invariant in
    (went_steps c.in-Some.push p.rows_t c.self.inside.row_of p.t (place_of c.self.inside.heights.items c.self.inside.ordered c.self.inside.next c.self.inside.stacks.items) p.reached p.located p.by).0

pub go_back-requires-clause-steps : goal.go_back-requires-clause-steps
go_back-requires-clause-steps c =
    let p = last_push c.self.inside.pushes.items c.pop.new.self.items c.in-Some.push c.self.inside.row_of (place_of c.self.inside.heights.items c.self.inside.ordered c.self.inside.next c.self.inside.stacks.items) c.in-Some.ensures.items c.self.invariant in
    subst (λ h. (j : ℕ) → j < c.self.inside.next - c.in-Some.push.next → StepsBack c.self.inside.row_of (all_back c.self.inside.row_of j (place_of h c.self.inside.ordered c.self.inside.next c.as_mut_slice-stacks.result.now))) (sym c.as_slice.ensures.value)
    (subst (λ v. (j : ℕ) → j < c.self.inside.next - c.in-Some.push.next → StepsBack c.self.inside.row_of (all_back c.self.inside.row_of j (place_of c.self.inside.heights.items c.self.inside.ordered c.self.inside.next v))) (sym c.as_mut_slice-stacks.ensures.value)
    (went_steps c.in-Some.push p.rows_t c.self.inside.row_of p.t (place_of c.self.inside.heights.items c.self.inside.ordered c.self.inside.next c.self.inside.stacks.items) p.reached p.located p.by).1)

pub lift-rank-requires-clause-there : goal.lift-rank-requires-clause-there
lift-rank-requires-clause-there c =
    let p = last_push c.self.inside.pushes.items c.pop.new.self.items c.in-Some.push c.self.inside.row_of (place_of c.self.inside.heights.items c.self.inside.ordered c.self.inside.next c.self.inside.stacks.items) c.in-Some.ensures.items c.self.invariant in
    let e = went_back c.self.inside.row_of c.self.inside.heights.items c.as_slice.result.now c.self.inside.ordered c.self.inside.next c.in-Some.push c.self.inside.stacks.items c.as_mut_slice-stacks.result.now c.go_back.new.stacks c.as_slice.ensures.value c.as_mut_slice-stacks.ensures.value c.go_back.ensures in
    let f = finds c.pop.new.self.items c.self.inside.row_of c.self.inside.heights.items c.self.inside.ordered c.self.inside.next c.in-Some.push c.self.inside.stacks.items c.go_back.new.stacks p e in f.to_there

pub lift-rank-requires-clause-some : goal.lift-rank-requires-clause-some
lift-rank-requires-clause-some c =
    let p = last_push c.self.inside.pushes.items c.pop.new.self.items c.in-Some.push c.self.inside.row_of (place_of c.self.inside.heights.items c.self.inside.ordered c.self.inside.next c.self.inside.stacks.items) c.in-Some.ensures.items c.self.invariant in
    let e = went_back c.self.inside.row_of c.self.inside.heights.items c.as_slice.result.now c.self.inside.ordered c.self.inside.next c.in-Some.push c.self.inside.stacks.items c.as_mut_slice-stacks.result.now c.go_back.new.stacks c.as_slice.ensures.value c.as_mut_slice-stacks.ensures.value c.go_back.ensures in
    let f = finds c.pop.new.self.items c.self.inside.row_of c.self.inside.heights.items c.self.inside.ordered c.self.inside.next c.in-Some.push c.self.inside.stacks.items c.go_back.new.stacks p e in f.to_some

pub land-requires-clause-there : goal.land-requires-clause-there
land-requires-clause-there c =
    let p = last_push c.self.inside.pushes.items c.pop.new.self.items c.in-Some.push c.self.inside.row_of (place_of c.self.inside.heights.items c.self.inside.ordered c.self.inside.next c.self.inside.stacks.items) c.in-Some.ensures.items c.self.invariant in
    let e = went_back c.self.inside.row_of c.self.inside.heights.items c.as_slice.result.now c.self.inside.ordered c.self.inside.next c.in-Some.push c.self.inside.stacks.items c.as_mut_slice-stacks.result.now c.go_back.new.stacks c.as_slice.ensures.value c.as_mut_slice-stacks.ensures.value c.go_back.ensures in
    let f = finds c.pop.new.self.items c.self.inside.row_of c.self.inside.heights.items c.self.inside.ordered c.self.inside.next c.in-Some.push c.self.inside.stacks.items c.go_back.new.stacks p e in
    let lt = f.from_there in omega (arith, ap length c.lift-rank.ensures.rest)

pub land-requires-clause-room : goal.land-requires-clause-room
land-requires-clause-room c =
    let p = last_push c.self.inside.pushes.items c.pop.new.self.items c.in-Some.push c.self.inside.row_of (place_of c.self.inside.heights.items c.self.inside.ordered c.self.inside.next c.self.inside.stacks.items) c.in-Some.ensures.items c.self.invariant in
    let e = went_back c.self.inside.row_of c.self.inside.heights.items c.as_slice.result.now c.self.inside.ordered c.self.inside.next c.in-Some.push c.self.inside.stacks.items c.as_mut_slice-stacks.result.now c.go_back.new.stacks c.as_slice.ensures.value c.as_mut_slice-stacks.ensures.value c.go_back.ensures in
    let f = finds c.pop.new.self.items c.self.inside.row_of c.self.inside.heights.items c.self.inside.ordered c.self.inside.next c.in-Some.push c.self.inside.stacks.items c.go_back.new.stacks p e in
    let lt = f.from_room in omega (arith, ap (λ v. length (get_or v c.in-Some.push.from [])) c.lift-rank.ensures.rest)

pub bounds-self-inside-rank : goal.bounds-self-inside-rank
bounds-self-inside-rank c =
    let p = last_push c.self.inside.pushes.items c.pop.new.self.items c.in-Some.push c.self.inside.row_of (place_of c.self.inside.heights.items c.self.inside.ordered c.self.inside.next c.self.inside.stacks.items) c.in-Some.ensures.items c.self.invariant in
    let e = went_back c.self.inside.row_of c.self.inside.heights.items c.as_slice.result.now c.self.inside.ordered c.self.inside.next c.in-Some.push c.self.inside.stacks.items c.as_mut_slice-stacks.result.now c.go_back.new.stacks c.as_slice.ensures.value c.as_mut_slice-stacks.ensures.value c.go_back.ensures in
    let f = finds c.pop.new.self.items c.self.inside.row_of c.self.inside.heights.items c.self.inside.ordered c.self.inside.next c.in-Some.push c.self.inside.stacks.items c.go_back.new.stacks p e in
    let lt = f.rank_few in omega (arith, c.lift-rank.ensures.value)

pub invariant_of-self-2 : goal.invariant_of-self-2
invariant_of-self-2 c =
    let p = last_push c.self.inside.pushes.items c.pop.new.self.items c.in-Some.push c.self.inside.row_of (place_of c.self.inside.heights.items c.self.inside.ordered c.self.inside.next c.self.inside.stacks.items) c.in-Some.ensures.items c.self.invariant in
    let e = went_back c.self.inside.row_of c.self.inside.heights.items c.as_slice.result.now c.self.inside.ordered c.self.inside.next c.in-Some.push c.self.inside.stacks.items c.as_mut_slice-stacks.result.now c.go_back.new.stacks c.as_slice.ensures.value c.as_mut_slice-stacks.ensures.value c.go_back.ensures in
    let same : length c.land.new.stacks ≡ length c.self.inside.stacks.items = omega (arith, c.land.auto.stacks, c.lift-rank.auto.stacks, c.go_back.auto.stacks, ap length c.as_mut_slice-stacks.ensures.value) in
    (kept_before c.pop.new.self.items c.self.inside.row_of c.self.inside.heights.items c.self.inside.ordered c.self.inside.next c.lift-rank.result c.in-Some.push c.self.inside.stacks.items c.go_back.new.stacks c.lift-rank.new.stacks c.land.new.stacks p e c.lift-rank.ensures.value c.lift-rank.ensures.rest c.land.ensures same).0
