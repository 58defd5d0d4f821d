-- Something may have been shown so far, and no more messages have begun than there were segments.
use Rattle.std.proofs.Common.{◌≤◌}
use Rattle.crp_report.specs.Watching.{ShowsMore}
use Rattle.crp_notes.proofs.notes.Notes.functions.Given as goal

abbrev pub invariant-loop-i : goal.invariant-loop-i
invariant-loop-i g l = (l.standing.messages ≤ l.i) × ShowsMore (g.E.Sink.contents l.initial.errors) (g.E.Sink.contents l.errors)
