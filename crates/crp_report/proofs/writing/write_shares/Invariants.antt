-- The shares so far were appended.
use Rattle.std.proofs.Common.{take}
use Rattle.std.specs.Prelude.{flat_map}
use Rattle.std.specs.Io.KnownBytes.{Appends}
use Rattle.crp_plan.specs.Devices.{Transfers}
use Rattle.crp_report.proofs.writing.write_shares.Given as goal

abbrev pub invariant-loop-share : goal.invariant-loop-share
invariant-loop-share g l = Appends (g.W.Sink.contents l.initial.sink) (g.W.Sink.contents l.sink) (flat_map (λ share. share.items) (take l.share-index l.shares))
    × Transfers 0 l.initial.interruptions l.interruptions (g.W.Sink.failures l.initial.sink) (g.W.Sink.failures l.sink) (g.W.Sink.interrupted l.initial.sink) (g.W.Sink.interrupted l.sink)
