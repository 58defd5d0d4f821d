use Rattle.std.proofs.Common.{◌<◌, ◌≤◌, ◌∷◌, ◌++◌, List, ℕ, [], length, get_or, set, sym, ap, subst, arith}
use Rattle.crp_plan.specs.Rows.{occurrences}
use Rattle.crp_bay.specs.Located.{AreRowsOf}
use Rattle.crp_thinning.proofs.RowsOf.{rows_landed}
use Rattle.crp_thinning.proofs.stacks.Stacks.land.Goals as goal

pub invariant_of-self : goal.invariant_of-self
invariant_of-self c =
    let items : List (List ℕ) = c.self.inside.stacks.items in
    let lt : c.args.row < length items = omega (arith, c.requires.there, ap length c.self.view_is) in
    let once : occurrences c.args.rank (set items c.args.row (get_or items c.args.row [] ++ c.args.rank ∷ [])) ≤ 1 =
    subst (λ l. occurrences c.args.rank (set l c.args.row (get_or l c.args.row [] ++ c.args.rank ∷ [])) ≤ 1) (sym c.self.view_is) c.requires.once in
    subst (λ l. AreRowsOf (length l) l (set c.self.inside.row_of c.args.rank c.args.row)) (sym c.land.ensures) (rows_landed items c.self.inside.row_of c.args.row c.args.rank lt (omega arith) c.self.invariant once)
