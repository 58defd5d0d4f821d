use Rattle.std.proofs.Common.{◌≡◌, true, rules, refl, sym, ◌∙◌, ap, subst, Some, ◌∷◌, [], ◌++◌, IfSome}
use Rattle.crp_incumbent.specs.Seats.{Shared}
use Rattle.crp_solve.specs.Desks.{fixed_at, known_with, IsCountedPart}
use Rattle.crp_solve.specs.Groups.{with_part}
use Rattle.crp_solve.proofs.Tasks.{task_done}
use Rattle.crp_solve.proofs.workers.running.task.Goals as goal

pub search_part-part-requires-clause-kept : goal.search_part-part-requires-clause-kept
search_part-part-requires-clause-kept g c =
    let old = c.group.inside in let of : Shared = old.seat.of in
    let here : of ≡ c.args.common.now.of = search rules in
    (old.parts.items, subst (λ o. g.A.Aim.keeps o (known_with old.stopped old.seat.view) old.best old.parts.items) here c.group.invariant.kept)

pub invariant_of-group-2 : goal.invariant_of-group-2
invariant_of-group-2 g c =
    let old = c.group.inside in let new = c.search_part-part.result in let of : Shared = old.seat.of in let keeps = g.A.Aim.keeps in
    let here : c.args.common.now.of ≡ of = search rules in
    let name = c.in-Some-take.name in let q = c.in-Some.place in let r = c.take.new.self in let s = c.unwrap.result in let x = c.in-Some-part.part in
    let there : new.place ≡ Some s = c.unwrap.ensures in
    let counted : IsCountedPart of.key.thin (known_with old.stopped old.seat.view) (known_with new.stopped new.seat.view) (Some r) (Some s) name x =
    subst (λ o. IsCountedPart of.key.thin (known_with old.stopped old.seat.view) (known_with new.stopped new.seat.view) (Some r) o name x) there
    (subst (λ (w : Shared). IsCountedPart w.key.thin (known_with old.stopped old.seat.view) (known_with new.stopped new.seat.view) (Some r) new.place name x) here
    (subst (λ o. IfSome o (IsCountedPart c.args.common.now.of.key.thin (known_with old.stopped old.seat.view) (known_with new.stopped new.seat.view) (Some r) new.place name)) c.in-Some-part.is c.search_part-part.ensures.counted)) in
    let kept : keeps of (known_with new.stopped new.seat.view) new.best (old.parts.items ++ x ∷ []) =
    subst (λ o. keeps o (known_with new.stopped new.seat.view) new.best (old.parts.items ++ x ∷ [])) here
    (subst (λ o. keeps c.args.common.now.of (known_with new.stopped new.seat.view) new.best (with_part old.parts.items o)) c.in-Some-part.is
    (c.search_part-part.ensures.kept old.parts.items (subst (λ o. keeps o (known_with old.stopped old.seat.view) old.best old.parts.items) (sym here) c.group.invariant.kept))) in
    task_done keeps _ _ x c.pop.new.self.items q r s name c.group.invariant (c.search_part-part.ensures.words ∙ here)
    c.in-Some.ensures.items c.in-Some-take.ensures.same.0 c.in-Some-take.ensures.same.1 c.in-Some-take.ensures.taken
    (ap fixed_at (sym there) ∙ c.search_part-part.ensures.place) kept counted (search rules) (search rules) refl (λ yes. subst (λ (o : Shared). o.key.timed ≡ true) here (c.search_part-part.ensures.timely yes))
