-- What stands before the place was checked, and what is left of the parts was found in the block.
use Rattle.std.proofs.Common.{◌+◌, ◌-◌, ◌≤◌, All, IfSome, length, take, drop}
use Rattle.crp_plan.specs.Devices.{most_interruptions}
use Rattle.crp_commands.specs.Apart.{IsFoundIn}
use Rattle.crp_commands.specs.Checks.{IsChecking, ChecksPiece}
use Rattle.crp_commands.proofs.apart.check_apart.Given as goal

abbrev pub invariant-loop-found : goal.invariant-loop-found
invariant-loop-found g l =
    let contents = g.W.Sink.contents in
    let failures = g.W.Sink.failures in
    record {
      parts : All (λ found. IfSome found (IsFoundIn l.block)) l.found-iterator.rest.items;
      behind : l.initial.at ≤ l.at;
      within : l.at ≤ length l.block;
      room : l.number + l.initial.at ≤ l.initial.number + l.at;
      done : ChecksPiece (take (l.at - l.initial.at) (drop l.initial.at l.block)) (contents l.initial.writer) l.initial.files l.initial.number (contents l.writer) l.files l.number;
      reading : IsChecking (contents l.writer) l.files l.number;
      counted : failures l.writer + l.initial.interruptions ≤ failures l.initial.writer + l.interruptions;
      count : failures l.initial.writer ≤ failures l.writer;
      more : l.initial.interruptions ≤ l.interruptions;
      passed : l.interruptions ≤ most_interruptions;
    }
