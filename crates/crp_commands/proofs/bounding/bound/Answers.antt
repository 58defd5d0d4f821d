use Rattle.std.proofs.Common.{rules, subst, sym}
use Rattle.std.proofs.lemmas.Result.{err_from_is_err_and}
use Rattle.crp_plan.proofs.Interruptions.{has_failed}
use Rattle.crp_commands.specs.Calls.{CallSeen}
use Rattle.crp_commands.specs.Bound.{IsBound, IsNoBound, IsBoundReport}
use Rattle.crp_commands.proofs.Replayed.{no_head_reported, keeps_same}
use Rattle.crp_commands.specs.declared.heads.TheConstants.{MOST_BYTES}
use Rattle.crp_commands.proofs.bounding.bound.Goals as goal

pub returns-in_err-head : goal.returns-in_err-head
returns-in_err-head g c =
    let p = err_from_is_err_and c.from_residual.result c.from_residual.ensures.1 in
    let seen : CallSeen = record {
      given = g.R.Source.remaining c.args.reader.now;
      held = g.W.Sink.contents c.args.writer.now;
      holds = g.W.Sink.contents c.args.writer.now;
      source_before = g.R.Source.failures c.args.reader.now;
      source_after = g.R.Source.failures c.head_from.new.reader;
      sink_before = g.W.Sink.failures c.args.writer.now;
      sink_after = g.W.Sink.failures c.args.writer.now;
    } in
    rw (p.1, p.2) (no_head_reported MOST_BYTES (IsBound c.args.chains) IsNoBound seen c.in_err-head.field-0.0 (keeps_same _) (λ bytes f first. first) c.in_err-head.ensures.none, search rules)

pub returns-in_err-write_all : goal.returns-in_err-write_all
returns-in_err-write_all g c =
    let p = err_from_is_err_and c.from_residual-in_err-write_all.result c.from_residual-in_err-write_all.ensures.1 in
    let stated = subst (IsBoundReport c.args.chains c.in_ok-head.head) (sym c.deref.ensures.value) c.in_ok-report.ensures in
    let found = c.in_ok-head.ensures.found in
    rw (p.1, p.2)
    ((has_failed c.in_err-write_all.ensures.gave_up, (found.text, c.deref.result.now, found.text_is, (c.in_ok-head.head, found.head_is, stated), c.in_err-write_all.ensures.part)), search rules)
