-- What is gone from the text was appended.
use Rattle.std.proofs.Common.{◌≡◌, ℕ, ◌+◌, ◌-◌, length, take, drop}
use Rattle.std.specs.Io.KnownBytes.{Appends}
use Rattle.crp_plan.specs.Devices.{Transfers, most_interruptions}
use Rattle.crp_plan.proofs.transfer.write_all.Given as goal

abbrev pub invariant-loop-rest : goal.invariant-loop-rest
invariant-loop-rest g l = ((done : ℕ) × (l.rest ≡ drop done l.text)
    × Appends (g.W.Sink.contents l.initial.writer) (g.W.Sink.contents l.writer) (take done l.text))
    × Transfers 0 l.initial.interruptions l.interruptions (g.W.Sink.failures l.initial.writer) (g.W.Sink.failures l.writer) (g.W.Sink.interrupted l.initial.writer) (g.W.Sink.interrupted l.writer)

abbrev pub decreases-loop-rest : goal.decreases-loop-rest
decreases-loop-rest g l = length l.rest + most_interruptions - l.interruptions
