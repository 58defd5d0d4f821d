use Rattle.crp_report.proofs.Shown.{shows_nothing, shows_then}
use Rattle.crp_notes.proofs.outside.note_outside.Goals as goal

pub loop-found-init : goal.loop-found-init
loop-found-init g c = shows_nothing _

pub loop-found-preserved : goal.loop-found-preserved
loop-found-preserved g c = shows_then _ _ _ c.loop-found.invariant c.note.ensures

pub returns : goal.returns
returns g c = shows_then _ _ _ c.loop-found.invariant c.end.ensures
