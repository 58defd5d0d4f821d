-- The block is what was read of the source.
use Rattle.std.proofs.Common.{◌+◌, ◌-◌, ◌≤◌, ◌<◌, length}
use Rattle.std.specs.Io.KnownBytes.{Consumes}
use Rattle.crp_plan.specs.Devices.{most_interruptions}
use Rattle.crp_commands.proofs.blocks.fill.Given as goal

abbrev pub invariant-loop-size : goal.invariant-loop-size
invariant-loop-size g l =
    let remaining = g.R.Source.remaining in
    let failures = g.R.Source.failures in
    record {
      some : 0 < l.size;
      within : l.size ≤ l.most;
      got : Consumes (remaining l.initial.reader) (remaining l.reader) l.block.items;
      counted : failures l.reader + l.initial.interruptions ≤ failures l.initial.reader + l.interruptions;
      count : failures l.initial.reader ≤ failures l.reader;
      more : l.initial.interruptions ≤ l.interruptions;
      passed : l.interruptions ≤ most_interruptions;
    }

abbrev pub decreases-loop-size : goal.decreases-loop-size
decreases-loop-size g l = l.most - length l.block.items
