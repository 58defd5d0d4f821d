use Rattle.crp_report.proofs.Shown.{shows_then}
use Rattle.crp_notes.proofs.notes.NotesWatch.answers.Goals as goal

pub returns : goal.returns
returns g c = shows_then _ _ _ c.bay.ensures c.size.ensures
