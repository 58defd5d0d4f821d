use Rattle.crp_report.proofs.Shown.{shows_then}
use Rattle.crp_notes.proofs.notes.Notes.bays_named.Goals as goal

pub loop-name-preserved : goal.loop-name-preserved
loop-name-preserved g c = shows_then _ _ _ c.loop-name.invariant c.bay_named.ensures
