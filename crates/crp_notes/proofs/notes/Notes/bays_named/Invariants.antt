-- Something may have been shown so far.
use Rattle.crp_report.specs.Watching.{ShowsMore}
use Rattle.crp_notes.proofs.notes.Notes.bays_named.Given as goal

abbrev pub invariant-loop-name : goal.invariant-loop-name
invariant-loop-name g l = ShowsMore (g.E.Sink.contents l.initial.errors) (g.E.Sink.contents l.errors)
