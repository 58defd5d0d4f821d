use Rattle.crp_report.proofs.Shown.{shows_then}
use Rattle.crp_notes.proofs.notes.Notes.messages_named.Goals as goal

pub loop-reference-preserved : goal.loop-reference-preserved
loop-reference-preserved g c = shows_then _ _ _ c.loop-reference.invariant c.message_named.ensures
