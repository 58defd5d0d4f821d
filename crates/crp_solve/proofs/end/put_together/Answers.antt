use Rattle.std.proofs.Common.{◌≡◌, ◌+◌, false, rules, sym, subst, []}
use Rattle.crp_incumbent.specs.Seats.{Seat}
use Rattle.crp_pool.specs.Seats.{IsEverySeat}
use Rattle.crp_solve.specs.Desks.{refused_by, known_with}
use Rattle.crp_solve.specs.Rests.{IsDoneUpTo}
use Rattle.crp_solve.proofs.Joining.{done_with_left}
use Rattle.crp_solve.proofs.Stopped.{joined_refused}
use Rattle.crp_solve.proofs.end.put_together.Goals as goal

pub search_rest-requires-clause-done : goal.search_rest-requires-clause-done
search_rest-requires-clause-done g c =
    let old = c.all.inside in let of = c.args.common.now.of in let keeps = g.A.Aim.keeps in
    let ok : c.args.all.short ≡ false = search rules in
    let same : c.args.all.places ≡ old.places.items = search rules in
    let p = c.requires.places ok in
    let every : IsEverySeat c.args.pool old.places.items = subst (IsEverySeat c.args.pool) same p.0 in
    let at : old.seat.of ≡ of = search rules in
    let refused = refused_by old.stopped (c.args.left.view.refused + old.seat.view.refused) in
    let kept = c.better_of.ensures.kept.both of c.args.left.view (known_with old.stopped old.seat.view) refused [] old.parts.items (joined_refused false old.stopped c.args.left.view old.seat.view) c.requires.begins (subst (λ o. keeps o (known_with old.stopped old.seat.view) old.best old.parts.items) at c.all.invariant.kept) in
    subst (λ (s : Seat). IsDoneUpTo keeps of (known_with old.stopped s.view) c.better_of.result old.parts.items c.finish.result.puts c.finish.result.takes) (sym c.join.ensures)
    (done_with_left keeps of c.args.left _ refused c.better_of.result c.args.pool c.finish.result.puts c.finish.result.takes c.requires.left c.all.invariant at c.if-short.false p.1 every kept c.finish.ensures.puts c.finish.ensures.takes)

pub returns-then-short-clause-kept : goal.returns-then-short-clause-kept
returns-then-short-clause-kept g c =
    let old = c.all.inside in let of = c.args.common.now.of in let keeps = g.A.Aim.keeps in
    let at : old.seat.of ≡ of = search rules in
    let refused = refused_by old.stopped (c.args.left.view.refused + old.seat.view.refused) in
    subst (λ (s : Seat). keeps of (known_with old.stopped s.view) c.better_of.result old.parts.items) (sym c.join.ensures)
    (c.better_of.ensures.kept.both of c.args.left.view (known_with old.stopped old.seat.view) refused [] old.parts.items (joined_refused false old.stopped c.args.left.view old.seat.view) c.requires.begins (subst (λ o. keeps o (known_with old.stopped old.seat.view) old.best old.parts.items) at c.all.invariant.kept))
