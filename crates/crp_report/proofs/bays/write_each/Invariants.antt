-- The bays so far are answered and written, and the others are still to come.
use Rattle.std.proofs.Common.{◌≡◌, List, ◌++◌, length}
use Rattle.crp_order.specs.declared.bay_problem.BayProblem.{BayProblem}
use Rattle.crp_report.specs.Writing.{sinks_of, AreSameSinks, WritesBays}
use Rattle.crp_report.specs.Watching.{ShowsMore}
use Rattle.crp_report.proofs.bays.write_each.Given as goal

abbrev pub invariant-loop-bay : goal.invariant-loop-bay
invariant-loop-bay g l = (before : List BayProblem) × (before ++ l.rest ≡ l.bays)
    × WritesBays l.settings before
    (sinks_of g.W.Sink.contents g.W.Sink.failures g.C.Sink.contents g.C.Sink.failures g.A.Sink.contents g.A.Sink.failures l.initial.sinks)
    (sinks_of g.W.Sink.contents g.W.Sink.failures g.C.Sink.contents g.C.Sink.failures g.A.Sink.contents g.A.Sink.failures l.sinks) l.done
    × ShowsMore (g.E.Sink.contents l.initial.errors) (g.E.Sink.contents l.errors) × AreSameSinks l.initial.sinks l.sinks

abbrev pub decreases-loop-bay : goal.decreases-loop-bay
decreases-loop-bay g l = length l.rest
