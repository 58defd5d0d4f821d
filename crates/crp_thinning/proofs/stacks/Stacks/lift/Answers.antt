use Rattle.std.proofs.Common.{◌<◌, List, ℕ, [], length, get_or, sym, ap, subst, arith}
use Rattle.crp_bay.specs.Located.{AreRowsOf}
use Rattle.crp_thinning.proofs.RowsOf.{rows_lifted, held_below}
use Rattle.crp_thinning.proofs.stacks.Stacks.lift.Goals as goal

pub invariant_of-self : goal.invariant_of-self
invariant_of-self c =
    let items : List (List ℕ) = c.self.inside.stacks.items in
    let lt : c.args.row < length items = omega (arith, c.requires.there, ap length c.self.view_is) in
    subst (λ l. AreRowsOf (length l) l c.self.inside.row_of) (sym c.lift.ensures.rest) (rows_lifted items c.self.inside.row_of c.args.row lt c.self.invariant (λ x. held_below x (get_or items c.args.row [])))
