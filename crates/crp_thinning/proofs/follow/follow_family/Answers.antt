use Rattle.std.proofs.Common.{◌∷◌, ◌↔◌, sym, subst}
use Rattle.crp_thinning.specs.declared.path.Path.{Path}
use Rattle.crp_thinning.specs.Owed.{Following, Takes, EndsFamily}
use Rattle.crp_thinning.specs.Branches.{behind}
use Rattle.crp_thinning.proofs.follow.follow_family.Goals as goal

pub returns-in-Ended-clause-takes : goal.returns-in-Ended-clause-takes
returns-in-Ended-clause-takes c text =
    let p : Path = c.args.path.now in
    let k = c.in-Ended.ensures.goes_on (behind p) text in
    subst (λ (f : Following). Takes f text ↔ EndsFamily p.place.place c.args.reading.now (behind p) (c.args.symbol ∷ text)) (sym (c.next_tree.ensures.trees c.read_family.new.reading)) (k.1, k.0)

pub returns-in-Wrong-clause-takes : goal.returns-in-Wrong-clause-takes
returns-in-Wrong-clause-takes c text = let p : Path = c.args.path.now in let k = c.in-Wrong.ensures.goes_on (behind p) text in (k.1, k.0)
