use Rattle.std.proofs.Common.{reverse, ◌∙◌, subst, ⊎_elim, arith}
use Rattle.std.proofs.lemmas.Bool.{cases_lt}
use Rattle.crp_bay.specs.Back.{PlaceAndTrail}
use Rattle.crp_bounds.specs.Leasts.{KnowsBounds}
use Rattle.crp_bounds.proofs.Leasts.{blocking_goes}
use Rattle.crp_bounds.proofs.Undone.{known_now, counted}
use Rattle.crp_bounds.proofs.in_place.Bounded.blocking_after.Goals as goal

pub onto-requires : goal.onto-requires
onto-requires c = c.requires.legal

pub blocking_with-requires : goal.blocking_with-requires
blocking_with-requires c =
    let k : KnowsBounds c.self.inside.leasts c.self.inside.blocking c.self.inside.position.place = known_now (reverse c.self.inside.undos.items) c.self.inside.position.trail c.self.inside.leasts c.self.inside.blocking c.self.inside.position.place c.self.invariant in
    let k' : KnowsBounds c.self.inside.leasts c.self.inside.blocking c.args.self.now.place = subst (λ (v : PlaceAndTrail). KnowsBounds c.self.inside.leasts c.self.inside.blocking v.place) c.self.view_is k in
    counted c.args.self.now.place c.args.row c.self.inside.leasts c.self.inside.blocking c.args.mover.rank c.onto.result k' c.requires.legal
    c.requires.mover.rank c.requires.mover.few c.onto.ensures

pub returns : goal.returns
returns c =
    let k : KnowsBounds c.self.inside.leasts c.self.inside.blocking c.self.inside.position.place = known_now (reverse c.self.inside.undos.items) c.self.inside.position.trail c.self.inside.leasts c.self.inside.blocking c.self.inside.position.place c.self.invariant in
    let k' : KnowsBounds c.self.inside.leasts c.self.inside.blocking c.args.self.now.place = subst (λ (v : PlaceAndTrail). KnowsBounds c.self.inside.leasts c.self.inside.blocking v.place) c.self.view_is k in
    let goes = blocking_goes c.args.self.now.place c.args.row k'.reached c.requires.legal (omega (arith, c.requires.mover.rank, c.requires.mover.few)) in
    let rank = c.requires.mover.rank in let onto = c.onto.ensures in let b = k'.blocks in
    c.from.ensures ∙ ⊎_elim
    (λ lt. let e = c.blocking_with.ensures.blocked lt in let f = goes.0 (omega arith) in omega arith)
    (λ le. let e = c.blocking_with.ensures.freed le in let f = goes.1 (omega arith) in omega arith)
    (cases_lt c.onto.result c.args.mover.rank)
