use Rattle.std.proofs.Common.{◌≡◌, ◌-◌, sym, ap, ◌∙◌, arith}
use Rattle.crp_plan.specs.Rows.{holds, below}
use Rattle.crp_plan.specs.Bay.{Position}
use Rattle.crp_chains.proofs.Clear.{clear}
use Rattle.crp_chains.proofs.Kept.{turn_late}
use Rattle.crp_chains.proofs.Blockers.{above_reads}
use Rattle.crp_chains.proofs.linking.is_above.Goals as goal

pub row_of-row-requires-clause-waits : goal.row_of-row-requires-clause-waits
row_of-row-requires-clause-waits c = turn_late c.args.position.now.place c.args.upper (clear c.args.position.now.place c.requires.sound) c.requires.blocks

pub returns : goal.returns
returns c =
    let s : Position = c.args.position.now.place in
    let r = above_reads s c.args.upper (c.row_of-row.result - 1) c.stack.result.now c.args.lower (clear s c.requires.sound) c.requires.blocks (omega (arith, c.row_of-row.ensures.value)) c.stack.ensures.value in
    let is : c.has_rank.result ≡ holds c.args.lower (below c.args.upper.rank c.stack.result.now) = c.has_rank.ensures ∙ ap (holds c.args.lower) c.beneath.ensures in
    (λ h. r.0 (sym is ∙ h), λ u. is ∙ r.1 u)
