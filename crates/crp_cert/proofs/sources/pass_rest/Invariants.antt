-- What was passed over, and what may still come.
use Rattle.std.proofs.Common.{◌≡◌, ℕ, ◌+◌, List, length}
use Rattle.std.specs.Io.KnownBytes.{Consumes}
use Rattle.crp_plan.specs.Devices.{Transfers}
use Rattle.crp_cert.proofs.sources.pass_rest.Given as goal

abbrev pub invariant-loop-n : goal.invariant-loop-n
invariant-loop-n g l = record {
  got : List ℕ;
  consumed : Consumes (g.R.Source.remaining l.initial.reader) (g.R.Source.remaining l.reader) got;
  counted : length got + l.room ≡ l.initial.room;
  transfers : Transfers 0 l.initial.interruptions l.interruptions (g.R.Source.failures l.initial.reader) (g.R.Source.failures l.reader) (g.R.Source.interrupted l.initial.reader) (g.R.Source.interrupted l.reader);
}

abbrev pub decreases-loop-n : goal.decreases-loop-n
decreases-loop-n g l = l.room
