use Rattle.std.proofs.Common.{◌∷◌, ◌↔◌, sym, subst, arith}
use Rattle.crp_thinning.specs.declared.path.Path.{Path}
use Rattle.crp_thinning.specs.Owed.{Following, Owes, Takes}
use Rattle.crp_thinning.specs.Branches.{behind, to_come}
use Rattle.crp_thinning.proofs.Opened.{by_blocking, not_blocking}
use Rattle.crp_thinning.proofs.follow.follow_blocking.Goals as goal

pub returns-then-blocking-path-clause-takes : goal.returns-then-blocking-path-clause-takes
returns-then-blocking-path-clause-takes c r text =
    let p : Path = c.args.path.now in
    subst (λ (f : Following). Takes f text ↔ Owes (to_come p) (66 ∷ text)) (sym (c.next_tree.ensures.trees r))
    (by_blocking p.place.place p.need (behind p) text (omega (arith, c.if-blocking-path.true, c.blocking.ensures.value)))

pub returns-else-blocking-path-clause-takes : goal.returns-else-blocking-path-clause-takes
returns-else-blocking-path-clause-takes c r text =
    let p : Path = c.args.path.now in
    not_blocking p.place.place p.need (behind p) text (omega (arith, c.if-blocking-path.false, c.blocking.ensures.value))
