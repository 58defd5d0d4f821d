use Rattle.std.proofs.Common.{Some, true, refl, ap}
use Rattle.crp_yard.specs.Reading.{IsTextOf}
use Rattle.crp_commands.specs.Calls.{CallSeen}
use Rattle.crp_commands.specs.Bound.{IsBound}
use Rattle.crp_callers.proofs.Reporting.{report_written, bound_below_plans}
use Rattle.crp_callers.proofs.commands.bounded_by_chains.Goals as goal

pub returns : goal.returns
returns c =
    let text = c.bound.new.writer.bytes.items in
    let seen : CallSeen = record {
      given = Some c.args.bytes.now;
      held = Some c.new-out.result.bytes.items;
      holds = Some text;
      source_before = 0;
      source_after = 0;
      sink_before = c.new-out.result.failed;
      sink_after = c.bound.new.writer.failed;
    } in
    bound_below_plans c.args.bytes.now text (report_written IsTextOf (IsBound true) c.args.bytes.now text seen (λ known input is. is)
    (record { given = refl; held = ap Some c.new-out.ensures.bytes; holds = refl }) c.in_ok-bound.ensures.0.1)
