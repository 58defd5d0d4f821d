-- Something may have been shown so far.
use Rattle.crp_report.specs.Watching.{ShowsMore}
use Rattle.crp_notes.proofs.notes.Notes.messages_named.Given as goal

abbrev pub invariant-loop-reference : goal.invariant-loop-reference
invariant-loop-reference g l = ShowsMore (g.E.Sink.contents l.initial.errors) (g.E.Sink.contents l.errors)
