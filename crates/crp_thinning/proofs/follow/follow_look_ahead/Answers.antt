use Rattle.std.proofs.Common.{◌∷◌, ◌↔◌, sym, subst}
use Rattle.std.proofs.lemmas.Bool.{both_ways}
use Rattle.crp_thinning.specs.declared.path.Path.{Path}
use Rattle.crp_thinning.specs.Owed.{Following, Owes, Takes}
use Rattle.crp_thinning.specs.Branches.{behind, to_come}
use Rattle.crp_thinning.proofs.Opened.{by_look_ahead, not_look_ahead}
use Rattle.crp_thinning.proofs.follow.follow_look_ahead.Goals as goal

pub returns-then-look_ahead_reaches-clause-takes : goal.returns-then-look_ahead_reaches-clause-takes
returns-then-look_ahead_reaches-clause-takes c r text =
    let p : Path = c.args.path.now in
    subst (λ (f : Following). Takes f text ↔ Owes (to_come p) (76 ∷ text)) (sym (c.next_tree.ensures.trees r))
    (by_look_ahead p.place.place p.need (behind p) text (c.look_ahead_reaches.ensures.0 c.if-look_ahead_reaches.true))

pub returns-else-look_ahead_reaches-clause-takes : goal.returns-else-look_ahead_reaches-clause-takes
returns-else-look_ahead_reaches-clause-takes c r text =
    let p : Path = c.args.path.now in
    not_look_ahead p.place.place p.need (behind p) text (λ le. both_ways c.look_ahead_reaches.result c.if-look_ahead_reaches.false (c.look_ahead_reaches.ensures.1 le))
