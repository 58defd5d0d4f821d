use Rattle.std.proofs.Common.{◌≤◌, ◌∷◌, ◌↔◌, ⊎_elim, subst}
use Rattle.std.proofs.lemmas.Bool.{cases_lt, both_ways}
use Rattle.crp_plan.specs.Bay.{Position}
use Rattle.crp_thinning.specs.declared.path.Path.{Path}
use Rattle.crp_thinning.specs.Owed.{Owes}
use Rattle.crp_thinning.specs.Branches.{behind, to_come}
use Rattle.crp_thinning.proofs.Opened.{by_rows, not_rows}
use Rattle.crp_thinning.proofs.follow.follow_branch.Goals as goal

pub returns-then-is_done-clause-takes : goal.returns-then-is_done-clause-takes
returns-then-is_done-clause-takes c r text = let p : Path = c.args.path.now in not_rows p.place.place p.need (behind p) text (c.is_done.ensures.done.0 c.if-is_done.true)

pub returns-clause-takes : goal.returns-clause-takes
returns-clause-takes c r text =
    let p : Path = c.args.path.now in
    let s : Position = p.place.place in
    let le : s.next ≤ s.ordered = ⊎_elim (λ lt. absurd (both_ways c.is_done.result c.if-is_done.false (c.is_done.ensures.done.1 lt))) (λ ge. ge) (cases_lt s.ordered s.next) in
    subst (λ l. Owes l text ↔ Owes (to_come p) (82 ∷ text)) c.branch-path.ensures.tasks (by_rows s p.need (behind p) text le)
