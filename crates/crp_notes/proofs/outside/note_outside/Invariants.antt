-- Something may have been shown so far.
use Rattle.crp_report.specs.Watching.{ShowsMore}
use Rattle.crp_notes.proofs.outside.note_outside.Given as goal

abbrev pub invariant-loop-found : goal.invariant-loop-found
invariant-loop-found g l = ShowsMore (g.E.Sink.contents l.initial.errors) (g.E.Sink.contents l.errors)
