-- Something may have been shown so far.
use Rattle.crp_report.specs.Watching.{ShowsMore}
use Rattle.crp_notes.proofs.notes.Notes.unread.Given as goal

abbrev pub invariant-loop-note : goal.invariant-loop-note
invariant-loop-note g l = ShowsMore (g.E.Sink.contents l.initial.errors) (g.E.Sink.contents l.errors)
