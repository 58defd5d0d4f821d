use Rattle.crp_report.proofs.Shown.{shows_then}
use Rattle.crp_notes.proofs.notes.Notes.unread.Goals as goal

pub loop-note-preserved : goal.loop-note-preserved
loop-note-preserved g c = shows_then _ _ _ c.loop-note.invariant c.note.ensures
