use Rattle.std.proofs.Common.{length, map}
use Rattle.std.specs.List.{AllByRecursion}
use Rattle.crp_plan.specs.Devices.{Transfers}
use Rattle.crp_order.specs.BayProblems.{IsNamedProblem}
use Rattle.crp_said.specs.Views.{bay_as}
use Rattle.crp_audit.specs.Headline.{handed}
use Rattle.crp_audit.proofs.Reading.{AreRightSoFar}
use Rattle.crp_audit.proofs.auditing.audit_into.Given as goal

abbrev pub invariant-loop-next : goal.invariant-loop-next
invariant-loop-next g l =
    let remaining = g.R.Source.remaining in
    let failures = g.R.Source.failures in
    let interrupted = g.R.Source.interrupted in
    record {
      named : AllByRecursion IsNamedProblem l.later;
      so : AreRightSoFar (handed l.fn.yard l.fn.orders l.fn.sequence l.fn.report) (remaining l.initial.certificates) l.fn.limit l.shown.items l.front.items l.later (map bay_as l.more) (remaining l.certificates) l.unread;
      transfers : Transfers 0 l.initial.interruptions l.interruptions (failures l.initial.certificates) (failures l.certificates) (interrupted l.initial.certificates) (interrupted l.certificates);
    }

abbrev pub decreases-loop-next : goal.decreases-loop-next
decreases-loop-next g l = length l.later
