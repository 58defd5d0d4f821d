use Rattle.std.proofs.Common.{◌≡◌, ◌∙◌, ◌+◌, ◌≤◌, ◌∷◌, ◌++◌, [], ℕ, List, sym, ap, subst, arith, length}
use Rattle.std.specs.Prelude.{IfSome}
use Rattle.crp_follow.specs.Crane.{Stack}
use Rattle.crp_follow.proofs.InYard.{row_more, all_rows}
use Rattle.crp_follow.proofs.bays.rows_of.Goals as goal

pub stack-requires-clause-there : goal.stack-requires-clause-there
stack-requires-clause-there c = subst (λ o. IfSome o (λ (heights : List ℕ). c.loop-i.i + 1 ≤ length heights)) (sym c.heights-heights.ensures.value) (omega arith)

pub loop-i-preserved : goal.loop-i-preserved
loop-i-preserved c =
    row_more c.args.yard.now c.args.bay c.loop-i.i c.stack.result.now c.loop-i.rows.items c.add.new.list.items c.loop-i.invariant c.stack.ensures
    (c.in_ok-add.ensures ∙ ap (λ (s : Stack). c.loop-i.rows.items ++ s ∷ []) c.in_ok-row.ensures)

pub returns : goal.returns
returns c =
    let count : c.loop-i.i ≡ length c.heights-heights.result.now = omega arith in
    all_rows c.args.yard.now c.args.bay c.heights-heights.result.now c.loop-i.rows.items c.loop-i.i c.heights-heights.ensures.yard c.heights-heights.ensures.value count c.loop-i.invariant
