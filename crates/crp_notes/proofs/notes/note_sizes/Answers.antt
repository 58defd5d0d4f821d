use Rattle.crp_report.proofs.Shown.{shows_then}
use Rattle.crp_notes.proofs.notes.note_sizes.Goals as goal

pub loop-size-preserved : goal.loop-size-preserved
loop-size-preserved g c = shows_then _ _ _ c.loop-size.invariant c.note_size.ensures
