-- Nothing was read so far, and each failure was passed over.
use Rattle.std.proofs.Common.{◌≡◌, ◌-◌, length}
use Rattle.std.specs.Io.KnownBytes.{Keeps}
use Rattle.crp_plan.specs.Devices.{Transfers, most_interruptions}
use Rattle.crp_plan.proofs.transfer.read_some.Given as goal

abbrev pub invariant-loop-n : goal.invariant-loop-n
invariant-loop-n g l = Keeps (g.R.Source.remaining l.initial.reader) (g.R.Source.remaining l.reader)
    × (length l.piece ≡ length l.initial.piece) × Transfers 0 l.initial.interruptions l.interruptions (g.R.Source.failures l.initial.reader) (g.R.Source.failures l.reader) (g.R.Source.interrupted l.initial.reader) (g.R.Source.interrupted l.reader)

abbrev pub decreases-loop-n : goal.decreases-loop-n
decreases-loop-n g l = most_interruptions - l.interruptions
