-- What was read of the source was checked.
use Rattle.std.proofs.Common.{◌+◌, ◌≤◌}
use Rattle.crp_plan.specs.Devices.{most_interruptions}
use Rattle.crp_commands.specs.Check.{most_bytes}
use Rattle.crp_commands.specs.Checks.{StandsAfter}
use Rattle.crp_commands.proofs.checking.check.Given as goal

abbrev pub invariant-loop-block : goal.invariant-loop-block
invariant-loop-block g l =
    let remaining = g.R.Source.remaining in
    let reads = g.R.Source.failures in
    let contents = g.W.Sink.contents in
    let writes = g.W.Sink.failures in
    record {
      stands : StandsAfter (remaining l.initial.reader) (contents l.initial.writer) (most_bytes l.any_size) (record { remaining = remaining l.reader; holds = contents l.writer; files = l.files; number = l.number; left = l.left });
      room : l.number + l.left ≤ (most_bytes l.any_size) + 1;
      counted : reads l.reader + writes l.writer ≤ reads l.initial.reader + writes l.initial.writer + l.interruptions;
      source : reads l.initial.reader ≤ reads l.reader;
      sink : writes l.initial.writer ≤ writes l.writer;
      passed : l.interruptions ≤ most_interruptions;
    }

abbrev pub decreases-loop-block : goal.decreases-loop-block
decreases-loop-block g l = l.left
