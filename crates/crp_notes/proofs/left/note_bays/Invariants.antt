-- Something may have been shown so far.
use Rattle.crp_report.specs.Watching.{ShowsMore}
use Rattle.crp_notes.proofs.left.note_bays.Given as goal

abbrev pub invariant-loop-bay : goal.invariant-loop-bay
invariant-loop-bay g l = ShowsMore (g.E.Sink.contents l.initial.errors) (g.E.Sink.contents l.errors)
