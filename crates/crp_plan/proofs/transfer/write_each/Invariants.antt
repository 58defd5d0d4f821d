-- The texts so far were appended.
use Rattle.std.proofs.Common.{take}
use Rattle.std.specs.Prelude.{flat_map}
use Rattle.std.specs.Io.KnownBytes.{Appends}
use Rattle.crp_plan.specs.Devices.{Transfers}
use Rattle.crp_plan.proofs.transfer.write_each.Given as goal

abbrev pub invariant-loop-text : goal.invariant-loop-text
invariant-loop-text g l = Appends (g.W.Sink.contents l.initial.writer) (g.W.Sink.contents l.writer) (flat_map (λ text. text.now) (take l.text-index l.texts))
    × Transfers 0 l.initial.interruptions l.interruptions (g.W.Sink.failures l.initial.writer) (g.W.Sink.failures l.writer) (g.W.Sink.interrupted l.initial.writer) (g.W.Sink.interrupted l.writer)
