use Rattle.std.proofs.Common.{not, Some, IfSome, [], ◌∷◌, ◌++◌, ap, sym, subst, ◌∙◌}
use Rattle.crp_solve.specs.Desks.{fixed_at, known_with, IsCountedPart}
use Rattle.crp_solve.specs.Groups.{with_part}
use Rattle.crp_solve.proofs.Begun.{begun_is_group, only_place, none_taken_at}
use Rattle.crp_solve.proofs.start.begun.Goals as goal

pub invariant_of-result : goal.invariant_of-result
invariant_of-result g c =
    let new = c.search_part-part.result in let q = c.in-Some.place in let s = c.unwrap.result in let v = c.args.seat.view in let w = known_with new.stopped new.seat.view in
    let only = only_place c.pop.new.self.items c.args.places.items q c.requires.first c.in-Some.ensures.items c.requires.places in
    let counted = subst (λ o. IfSome new.part (IsCountedPart c.args.common.now.of.key.thin v w (Some q) o [])) c.unwrap.ensures
    (subst (λ n. IfSome new.part (IsCountedPart c.args.common.now.of.key.thin v w (Some q) new.place n)) c.root.ensures c.search_part-part.ensures.counted) in
    begun_is_group g.A.Aim.keeps c.args.common.now.of v q s new.part _ c.search_part-part.ensures.words c.requires.seat.none_granted only.2 only.1 (ap fixed_at (sym c.unwrap.ensures) ∙ c.search_part-part.ensures.place) counted
    (c.search_part-part.ensures.kept [] c.requires.kept) (c.keep_found-found.ensures.parts ∙ ap (λ l. with_part l new.part) c.in_ok-parts.ensures.items) (c.push_reserved.ensures.items ∙ ap (λ l. l ++ s ∷ []) only.0)
    (ap not c.keep_found-found.ensures.found) c.search_part-part.ensures.timely

pub returns-clause-none_taken : goal.returns-clause-none_taken
returns-clause-none_taken g c =
    let q = c.in-Some.place in let s = c.unwrap.result in
    let only = only_place c.pop.new.self.items c.args.places.items q c.requires.first c.in-Some.ensures.items c.requires.places in
    none_taken_at q s c.push_reserved.new.self.items only.2 (ap fixed_at (sym c.unwrap.ensures) ∙ c.search_part-part.ensures.place) (c.push_reserved.ensures.items ∙ ap (λ l. l ++ s ∷ []) only.0)
