-- What was read is the front of what the source had.
use Rattle.std.proofs.Common.{◌+◌, ◌-◌, ◌≤◌, vec_len, vec_items}
use Rattle.std.specs.Io.KnownBytes.{Consumes}
use Rattle.crp_plan.specs.Devices.{Transfers, most_interruptions}
use Rattle.crp_plan.proofs.transfer.read_all.Given as goal

abbrev pub invariant-loop-bytes : goal.invariant-loop-bytes
invariant-loop-bytes g l = Consumes (g.R.Source.remaining l.initial.reader) (g.R.Source.remaining l.reader) (vec_items l.bytes)
    × (vec_len l.bytes ≤ l.limit) × Transfers 0 l.initial.interruptions l.interruptions (g.R.Source.failures l.initial.reader) (g.R.Source.failures l.reader) (g.R.Source.interrupted l.initial.reader) (g.R.Source.interrupted l.reader)

abbrev pub decreases-loop-bytes : goal.decreases-loop-bytes
decreases-loop-bytes g l = l.limit + most_interruptions - (vec_len l.bytes + l.interruptions)
