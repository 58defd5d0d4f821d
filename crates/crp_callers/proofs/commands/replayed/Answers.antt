use Rattle.std.proofs.Common.{Some, refl, ap}
use Rattle.crp_yard.specs.Reading.{IsTextOf}
use Rattle.crp_commands.specs.Calls.{CallSeen}
use Rattle.crp_commands.specs.Replay.{IsReplay}
use Rattle.crp_callers.proofs.Reporting.{report_written, relocations_counted}
use Rattle.crp_callers.proofs.commands.replayed.Goals as goal

pub returns : goal.returns
returns c =
    let text = c.replay.new.writer.bytes.items in
    let seen : CallSeen = record {
      given = Some c.args.bytes.now;
      held = Some c.new-out.result.bytes.items;
      holds = Some text;
      source_before = 0;
      source_after = 0;
      sink_before = c.new-out.result.failed;
      sink_after = c.replay.new.writer.failed;
    } in
    relocations_counted c.args.bytes.now text (report_written IsTextOf IsReplay c.args.bytes.now text seen (λ known input is. is)
    (record { given = refl; held = ap Some c.new-out.ensures.bytes; holds = refl }) c.in_ok-replay.ensures.0.1)
