use Rattle.std.proofs.Common.{◌≡◌, arith}
use Rattle.crp_movins.specs.Kinds.{kind_of}
use Rattle.crp_movins.specs.Places.{kind_at}
use Rattle.crp_report.proofs.Shown.{shows_nothing, shows_then}
use Rattle.crp_notes.proofs.notes.Notes.functions.Goals as goal

pub loop-i-init : goal.loop-i-init
unfolding kind_at kind_of
loop-i-init g c =
    let none : c.start-standing.result.messages ≡ 0 = (c.start-standing.ensures c.args.segments.now c.args.loading.now).messages in
    (omega (arith, none), shows_nothing (g.E.Sink.contents c.args.errors.now))

pub loop-i-preserved : goal.loop-i-preserved
loop-i-preserved g c = (omega (arith, c.loop-i.invariant.0, c.after-standing.ensures.few), shows_then _ _ _ c.loop-i.invariant.1 c.function.ensures)
