-- What was taken so far was fed.
use Rattle.std.proofs.Common.{◌≡◌, ℕ, List, [], Option}
use Rattle.crp_plan.specs.Bay.{Problem}
use Rattle.crp_plan.specs.Devices.{Transfers}
use Rattle.crp_checker.specs.Fed.{HasRead}
use Rattle.crp_checker.specs.Watches.{IsUnended}
use Rattle.crp_checker.specs.Reading.{HasMore, AreTaken}
use Rattle.crp_checker.proofs.unread.feed_next.Given as goal

abbrev pub invariant-loop-unread : goal.invariant-loop-unread
invariant-loop-unread g l = record {
  text : List ℕ;
  taken : AreTaken (g.R.Source.remaining l.initial.source) l.initial.unread text (g.R.Source.remaining l.source) l.unread;
  read : (wanted : Option Problem) → HasRead wanted [] l.initial.checker → HasRead wanted text l.checker;
  unended : IsUnended text l.watch;
  begun : text ≡ [] → HasMore l.unread;
  transfers : Transfers 0 l.initial.interruptions l.interruptions (g.R.Source.failures l.initial.source) (g.R.Source.failures l.source) (g.R.Source.interrupted l.initial.source) (g.R.Source.interrupted l.source);
}

abbrev pub decreases-loop-unread : goal.decreases-loop-unread
decreases-loop-unread g l = l.unread.room
