use Rattle.std.proofs.Common.{◌≡◌, ◌≤◌, ◌-◌, ◌∷◌, ◌↔◌, sym, ap, ◌∙◌, subst, arith}
use Rattle.crp_plan.specs.Bay.{Position}
use Rattle.crp_thinned.specs.Thinned.{free_row, child_at}
use Rattle.crp_thinning.specs.declared.path.Path.{Path}
use Rattle.crp_thinning.specs.Owed.{Owes}
use Rattle.crp_thinning.specs.Branches.{task, behind, to_come}
use Rattle.crp_thinning.proofs.Opened.{by_free, not_free}
use Rattle.crp_thinning.proofs.follow.follow_free.Goals as goal

pub returns-then-row-eq0-clause-takes : goal.returns-then-row-eq0-clause-takes
returns-then-row-eq0-clause-takes c r text =
    let p : Path = c.args.path.now in not_free p.place.place p.need (behind p) text (sym c.free_row-row.ensures.value ∙ c.if-row-eq0.true)

pub returns-clause-takes : goal.returns-clause-takes
returns-clause-takes c r text =
    let p : Path = c.args.path.now in
    let s : Position = p.place.place in
    let some : 1 ≤ free_row s = omega (arith, c.free_row-row.ensures.value, c.if-row-eq0.false) in
    let e : task (child_at s (free_row s)) (p.need - 1) ∷ behind p ≡ to_come c.branch_free.new.path = ap (λ row. task (child_at s row) (p.need - 1) ∷ behind p) (sym c.free_row-row.ensures.value) ∙ c.branch_free.ensures.tasks in
    subst (λ l. Owes l text ↔ Owes (to_come p) (70 ∷ text)) e (by_free s p.need (behind p) text some)
