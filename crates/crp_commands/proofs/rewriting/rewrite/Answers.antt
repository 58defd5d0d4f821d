use Rattle.std.proofs.Common.{◌≡◌, ◌⊎◌, ℕ, List, rules, subst}
use Rattle.std.proofs.lemmas.Result.{err_from_is_err_and}
use Rattle.crp_follow.specs.declared.fault.FollowFault.TheVariants as followed
use Rattle.crp_follow.specs.Rewritten.{IsEditedFault}
use Rattle.crp_commands.specs.Calls.{CallSeen}
use Rattle.crp_commands.proofs.Replayed.{keeps_same}
use Rattle.crp_commands.proofs.NotRewritten.{not_rewritten, unread_report}
use Rattle.crp_commands.proofs.rewriting.rewrite.Goals as goal

pub returns-in_err-anew-clause-done : goal.returns-in_err-anew-clause-done
returns-in_err-anew-clause-done g c =
    let p = err_from_is_err_and c.from_residual-in_err-anew.result c.from_residual-in_err-anew.ensures.1 in
    let f = c.in_err-anew.field-0.0 in
    let text = c.in_ok-text.text.items in
    let seen : CallSeen = record {
      given = g.R.Source.remaining c.args.reader.now;
      held = g.W.Sink.contents c.args.writer.now;
      holds = g.W.Sink.contents c.args.writer.now;
      source_before = g.R.Source.failures c.args.reader.now;
      source_after = g.R.Source.failures c.report_from.new.source;
      sink_before = g.W.Sink.failures c.args.writer.now;
      sink_after = g.W.Sink.failures c.args.writer.now;
    } in
    rw (p.1, p.2) (not_rewritten seen text f (keeps_same _) c.in_ok-text.ensures.read (subst (λ (l : List ℕ). (f ≡ followed.Memory) ⊎ IsEditedFault l f) c.deref.ensures.value c.in_err-anew.ensures.refused), search rules)

pub returns-in_err-text-clause-done : goal.returns-in_err-text-clause-done
returns-in_err-text-clause-done g c =
    let p = err_from_is_err_and c.from_residual.result c.from_residual.ensures.1 in
    let seen : CallSeen = record {
      given = g.R.Source.remaining c.args.reader.now;
      held = g.W.Sink.contents c.args.writer.now;
      holds = g.W.Sink.contents c.args.writer.now;
      source_before = g.R.Source.failures c.args.reader.now;
      source_after = g.R.Source.failures c.report_from.new.source;
      sink_before = g.W.Sink.failures c.args.writer.now;
      sink_after = g.W.Sink.failures c.args.writer.now;
    } in
    rw (p.1, p.2) (unread_report seen c.in_err-text.field-0.0 (keeps_same _) c.in_err-text.ensures.refused, search rules)
