use Rattle.crp_report.proofs.Shown.{shows_then}
use Rattle.crp_notes.proofs.left.note_bays.Goals as goal

pub loop-bay-preserved : goal.loop-bay-preserved
loop-bay-preserved g c = shows_then _ _ _ c.loop-bay.invariant c.note_bay.ensures
