use Rattle.std.proofs.Common.{◌∙◌, get_or, sym, ap}
use Rattle.std.specs.Prelude.{max}
use Rattle.crp_plan.proofs.Heights.{tallest_next}
use Rattle.crp_plan.proofs.tally.tallest.Goals as goal

pub loop-height-preserved : goal.loop-height-preserved
loop-height-preserved c =
    c.max-tallest.ensures ∙ ap (λ t. max t (get_or c.args.heights.now c.loop-height.height-index 0)) c.loop-height.invariant
    ∙ sym (tallest_next c.args.heights.now c.loop-height.height-index c.loop-height-test.true)
