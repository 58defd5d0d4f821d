use Rattle.std.proofs.Common.{◌∷◌, ◌↔◌, sym, subst}
use Rattle.crp_thinning.specs.declared.path.Path.{Path}
use Rattle.crp_thinning.specs.Owed.{Owes, EndsFamily}
use Rattle.crp_thinning.specs.Branches.{behind, to_come}
use Rattle.crp_thinning.proofs.Opened.{no_symbol}
use Rattle.crp_thinning.proofs.follow.follow_tree.Goals as goal

pub returns-then-symbol-eq84-clause-takes : goal.returns-then-symbol-eq84-clause-takes
returns-then-symbol-eq84-clause-takes c text =
    let p : Path = c.args.path.now in
    subst (λ b. EndsFamily p.place.place c.family_at.result (behind p) text ↔ Owes (to_come p) (b ∷ text)) (sym c.if-symbol-eq84.true) (c.family_at.ensures.takes text)

pub returns-clause-takes : goal.returns-clause-takes
returns-clause-takes c text =
    let p : Path = c.args.path.now in
    no_symbol p.place.place p.need (behind p) c.args.symbol text c.if-symbol-eq66.false c.if-symbol-eq76.false c.if-symbol-eq82.false c.if-symbol-eq70.false c.if-symbol-eq84.false
