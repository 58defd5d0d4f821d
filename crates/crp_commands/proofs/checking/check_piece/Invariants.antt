-- What is gone from the piece was checked.
use Rattle.std.proofs.Common.{◌≡◌, ℕ, ◌+◌, ◌≤◌, length, take, drop}
use Rattle.crp_plan.specs.Devices.{most_interruptions}
use Rattle.crp_commands.specs.Checks.{IsChecking, ChecksPiece}
use Rattle.crp_commands.proofs.checking.check_piece.Given as goal

abbrev pub invariant-loop-rest : goal.invariant-loop-rest
invariant-loop-rest g l =
    let contents = g.W.Sink.contents in
    let failures = g.W.Sink.failures in
    record {
      done : (n : ℕ) × (n ≤ length l.piece) × (l.rest ≡ drop n l.piece) × (l.number ≤ l.initial.number + n)
          × ChecksPiece (take n l.piece) (contents l.initial.writer) l.initial.files l.initial.number (contents l.writer) l.files l.number;
      reading : IsChecking (contents l.writer) l.files l.number;
      counted : failures l.writer + l.initial.interruptions ≤ failures l.initial.writer + l.interruptions;
      count : failures l.initial.writer ≤ failures l.writer;
      more : l.initial.interruptions ≤ l.interruptions;
      passed : l.interruptions ≤ most_interruptions;
    }

abbrev pub decreases-loop-rest : goal.decreases-loop-rest
decreases-loop-rest g l = length l.rest
