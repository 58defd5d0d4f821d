use Rattle.std.proofs.Common.{◌<◌, ◌-◌, [], length, get_or, Some, sym, ap, ◌∙◌, arith}
use Rattle.std.proofs.lemmas.Option.{slice_get-get_or}
use Rattle.crp_plan.specs.Bay.{Position}
use Rattle.crp_bay.proofs.Tops.{any_default}
use Rattle.crp_thinning.proofs.Clearly.{rows_thin}
use Rattle.crp_thinning.proofs.looking.stack.Goals as goal

pub bounds-stacks-row : goal.bounds-stacks-row
bounds-stacks-row c =
    omega (arith, c.requires.there, c.requires.counts, ap length c.stacks.ensures.value, rows_thin _ c.args.track.now.place c.stacks.ensures.fine)

pub returns-clause-value : goal.returns-clause-value
returns-clause-value c =
    let s : Position = c.args.track.now.place in
    let i = c.args.row - 1 in
    let lt : i < length s.stacks = omega (arith, c.requires.counts, c.requires.there, rows_thin _ s c.stacks.ensures.fine) in
    slice_get-get_or s.stacks i [] lt
    ∙ ap (λ l. Some l) (ap (λ l. get_or l i []) (sym c.stacks.ensures.value) ∙ any_default c.stacks.result.now i [] c.index-stacks-row.result (omega (arith, lt, ap length c.stacks.ensures.value)) ∙ sym c.index-stacks-row.is ∙ sym c.ranks.ensures.value)
