use Rattle.crp_report.proofs.Shown.{shows_then}
use Rattle.crp_notes.proofs.left.note_left.Goals as goal

pub returns : goal.returns
returns g c = shows_then _ _ _ (shows_then _ _ _ c.note_loaded.ensures c.note_bays.ensures) c.end.ensures
