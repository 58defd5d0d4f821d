use Rattle.std.proofs.Common.{◌≡◌, ◌+◌, ◌||◌, rules, refl, sym, subst, ap}
use Rattle.crp_incumbent.specs.Seats.{Seat}
use Rattle.crp_solve.specs.Desks.{refused_by, known_with}
use Rattle.crp_solve.specs.Groups.{RefusesAsBoth}
use Rattle.crp_solve.proofs.Grouped.{merged, not_short}
use Rattle.crp_solve.proofs.Stopped.{joined_refused}
use Rattle.crp_solve.proofs.workers.group.Crew.merge.Goals as goal

pub invariant_of-result : goal.invariant_of-result
invariant_of-result g c =
    let mine = c.self.inside in let others = c.other.inside in let seat = mine.seat in let other = others.seat in let keeps = g.A.Aim.keeps in
    let same : other.of ≡ seat.of = search rules in
    let kept = c.self.invariant.kept in
    let also = subst (λ o. keeps o (known_with others.stopped other.view) others.best others.parts.items) same c.other.invariant.kept in
    let stopped = mine.stopped || others.stopped in let some = joined_refused mine.stopped others.stopped seat.view other.view in
    let refused = refused_by stopped c.join.result.view.refused in
    let same_refused : refused ≡ refused_by stopped (seat.view.refused + other.view.refused) = ap (λ (s : Seat). refused_by stopped s.view.refused) c.join.ensures in
    let refuses = subst (RefusesAsBoth (known_with mine.stopped seat.view) (known_with others.stopped other.view)) (sym same_refused) some in
    merged keeps _ _ _ c.append-parts_fit.result c.append-places_fit.result c.self.invariant c.other.invariant same
    (ap (λ (s : Seat). s.of) c.join.ensures) (ap (λ (s : Seat). record s.view { refused = refused }) c.join.ensures)
    (c.better_of.ensures.kept.both seat.of (known_with mine.stopped seat.view) (known_with others.stopped other.view) refused mine.parts.items others.parts.items refuses kept also)
    (c.better_of.ensures.kept.mine seat.of (known_with mine.stopped seat.view) (known_with others.stopped other.view) refused mine.parts.items others.parts.items refuses kept also)
    c.append-parts_fit.ensures c.append-places_fit.ensures
    (not_short mine.short others.short c.append-parts_fit.result c.append-places_fit.result) refl
