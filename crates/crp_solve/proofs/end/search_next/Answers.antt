use Rattle.std.proofs.Common.{None, IfSome, subst}
use Rattle.crp_solve.specs.Desks.{known_with, IsCountedPart}
use Rattle.crp_solve.specs.Groups.{with_part}
use Rattle.crp_solve.proofs.Rested.{done_more}
use Rattle.crp_solve.proofs.end.search_next.Goals as goal

pub search_part-part-requires-clause-kept : goal.search_part-part-requires-clause-kept
search_part-part-requires-clause-kept g c = let d = c.requires.done in (c.args.done.parts.items, d.kept)

pub returns-clause-kept : goal.returns-clause-kept
returns-clause-kept g c =
    let new = c.search_part-part.result in let of = c.args.common.now.of in let old = c.args.done in let keeps = g.A.Aim.keeps in let d = c.requires.done in
    rw (c.push_reserved.ensures.items, c.reserve.ensures.items)
    (subst (λ o. keeps of (known_with new.stopped new.seat.view) new.best (with_part old.parts.items o)) c.in-Some-part.is
    (c.search_part-part.ensures.kept old.parts.items d.kept))

pub returns-clause-more : goal.returns-clause-more
returns-clause-more g c _ =
    let new = c.search_part-part.result in let of = c.args.common.now.of in let x = c.in-Some-part.part in let old = c.args.done in let keeps = g.A.Aim.keeps in let d = c.requires.done in
    let counted : IsCountedPart of.key.thin (known_with old.stopped old.seat.view) (known_with new.stopped new.seat.view) None new.place c.in-Some.name x = subst (λ o. IfSome o (IsCountedPart of.key.thin (known_with old.stopped old.seat.view) (known_with new.stopped new.seat.view) None new.place c.in-Some.name)) c.in-Some-part.is c.search_part-part.ensures.counted in
    let kept = subst (λ o. keeps of (known_with new.stopped new.seat.view) new.best (with_part old.parts.items o)) c.in-Some-part.is
    (c.search_part-part.ensures.kept old.parts.items d.kept) in (
      c.requires.enough,
      rw (c.push_reserved.ensures.items, c.reserve.ensures.items)
          (done_more keeps of (known_with old.stopped old.seat.view) (known_with new.stopped new.seat.view) old.best new.best old.parts.items x c.args.rest.now.puts c.args.rest.now.takes c.next.new.self.puts c.next.new.self.takes new.place c.in-Some.name
          d kept counted c.search_part-part.ensures.place c.in-Some.ensures.puts c.in-Some.ensures.taken),
    )
