use Rattle.std.proofs.Common.{◌≢◌, ◌<◌, ◌≤◌, [], length, get_or, sym, ap, ◌∙◌, arith}
use Rattle.crp_plan.specs.Bay.{Position}
use Rattle.crp_bay.specs.Positions.{ends_in, source}
use Rattle.crp_bay.proofs.Tops.{any_default}
use Rattle.crp_thinned.specs.Thinned.{settled_over}
use Rattle.crp_thinning.specs.Steps.{PlaceAndSteps}
use Rattle.crp_thinning.proofs.Over.{missing_there, can_is, over_taken, over_passed, over_stays}
use Rattle.crp_thinning.proofs.settling.advance.Goals as goal

pub pass-requires : goal.pass-requires
pass-requires c =
    missing_there c.args.track.now.place (omega (arith, c.next-next.ensures.value, c.ordered.ensures.value, c.if-next-ordered.false))
    (sym c.source-row.ensures.value ∙ c.if-row-stacks.true ∙ ap length c.stacks-stacks.ensures.value)

pub returns-then-row-stacks-clause-on : goal.returns-then-row-stacks-clause-on
returns-then-row-stacks-clause-on c =
    ap (λ (v : PlaceAndSteps). settled_over v.place) c.pass.ensures.value
    ∙ over_passed c.args.track.now.place (omega (arith, c.next-next.ensures.value, c.ordered.ensures.value, c.if-next-ordered.false))
    (sym c.source-row.ensures.value ∙ c.if-row-stacks.true ∙ ap length c.stacks-stacks.ensures.value)

pub returns-then-not-is_on_top-clause-over : goal.returns-then-not-is_on_top-clause-over
returns-then-not-is_on_top-clause-over c =
    let s : Position = c.args.track.now.place in
    let le : s.next ≤ s.ordered = omega (arith, c.next-next.ensures.value, c.ordered.ensures.value, c.if-next-ordered.false) in
    let ne : source s ≢ length s.stacks = λ e. c.if-row-stacks.false (c.source-row.ensures.value ∙ e ∙ sym (ap length c.stacks-stacks.ensures.value)) in
    let lt : c.source-row.result < length c.stacks-stacks.result.now = omega (arith, c.source-row.ensures.value, c.source-row.ensures.within, ap length c.stacks-stacks.ensures.value, ne) in
    let here = ap (λ i. get_or s.stacks i []) (sym c.source-row.ensures.value) ∙ ap (λ l. get_or l c.source-row.result []) (sym c.stacks-stacks.ensures.value)
    ∙ any_default c.stacks-stacks.result.now c.source-row.result [] c.index-stacks-row.result lt ∙ sym c.index-stacks-row.is ∙ sym c.ranks.ensures.value in
    over_stays s (can_is s c.ranks.result.now le here ∙ ap (λ n. ends_in n c.ranks.result.now) (sym c.next-next.ensures.value) ∙ sym c.is_on_top.ensures ∙ c.if-not-is_on_top.true) ne

pub returns-clause-on : goal.returns-clause-on
returns-clause-on c =
    let s : Position = c.args.track.now.place in
    let le : s.next ≤ s.ordered = omega (arith, c.next-next.ensures.value, c.ordered.ensures.value, c.if-next-ordered.false) in
    let ne : source s ≢ length s.stacks = λ e. c.if-row-stacks.false (c.source-row.ensures.value ∙ e ∙ sym (ap length c.stacks-stacks.ensures.value)) in
    let lt : c.source-row.result < length c.stacks-stacks.result.now = omega (arith, c.source-row.ensures.value, c.source-row.ensures.within, ap length c.stacks-stacks.ensures.value, ne) in
    let here = ap (λ i. get_or s.stacks i []) (sym c.source-row.ensures.value) ∙ ap (λ l. get_or l c.source-row.result []) (sym c.stacks-stacks.ensures.value)
    ∙ any_default c.stacks-stacks.result.now c.source-row.result [] c.index-stacks-row.result lt ∙ sym c.index-stacks-row.is ∙ sym c.ranks.ensures.value in
    ap (λ (v : PlaceAndSteps). settled_over v.place) c.take.ensures.value
    ∙ over_taken s (can_is s c.ranks.result.now le here ∙ ap (λ n. ends_in n c.ranks.result.now) (sym c.next-next.ensures.value) ∙ sym c.is_on_top.ensures ∙ c.if-not-is_on_top.false)
