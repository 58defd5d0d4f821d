use Rattle.std.proofs.Common.{rules, ◌∷◌, [], ◌++◌, inr, refl, subst, arith}
use Rattle.std.proofs.lemmas.Result.{err_from_is_err_and}
use Rattle.std.proofs.KnownBytes.{Keeps-refl}
use Rattle.crp_plan.specs.BayNames.{YardBay}
use Rattle.crp_checker.specs.declared.verdict.Verdict.{Verdict}
use Rattle.crp_checker.specs.FedFiles.{ShowsLast}
use Rattle.crp_commands.specs.Check.{most_bytes, verdict_lines}
use Rattle.crp_commands.proofs.Noted.{tells_more}
use Rattle.crp_commands.proofs.Checked.{seen_by, earlier_check, all_checked, appends_line, last_stops, last_refused}
use Rattle.crp_commands.proofs.checking.check.Goals as goal

pub returns-in_err-check_next-clause-done : goal.returns-in_err-check_next-clause-done
returns-in_err-check_next-clause-done g c =
    let p = err_from_is_err_and c.from_residual.result c.from_residual.ensures.1 in
    let inv = c.loop-block.invariant in
    let step = c.in_err-check_next.ensures in
    let given = g.R.Source.remaining c.args.reader.now in
    let held = g.W.Sink.contents c.args.writer.now in
    rw (p.1, p.2)
    ((earlier_check (most_bytes c.args.any_size) given held _ _ _ _ _ _ _ c.in_err-check_next.field-0.0 inv.source step.count.0 inv.sink step.count.1 (step.fault given held (most_bytes c.args.any_size) inv.stands)), search rules)

pub returns-in_err-write_verdict-in-Ok-Some-clause-done : goal.returns-in_err-write_verdict-in-Ok-Some-clause-done
returns-in_err-write_verdict-in-Ok-Some-clause-done g c =
    let p = err_from_is_err_and c.from_residual-in_err-write_verdict-in-Ok-Some.result c.from_residual-in_err-write_verdict-in-Ok-Some.ensures.1 in
    let inv = c.loop-block.invariant in
    let step = c.in_ok-check_next.ensures in
    let stated : YardBay × Verdict = (c.in-Ok-Some.bay, c.in-Ok-Some.verdict) in
    let line = c.in_err-write_verdict-in-Ok-Some in
    let given = g.R.Source.remaining c.args.reader.now in
    let held = g.W.Sink.contents c.args.writer.now in
    let holds = g.W.Sink.contents c.check_next.new.writer in
    let source = g.R.Source.failures c.args.reader.now in
    let after = g.R.Source.failures c.check_next.new.reader in
    let sink = g.W.Sink.failures c.args.writer.now in
    let first = g.W.Sink.failures c.check_next.new.writer in
    let last = g.W.Sink.failures c.write_verdict.new.writer in
    let all = all_checked given held (most_bytes c.args.any_size) _ (step.on given held (most_bytes c.args.any_size) inv.stands) (step.end c.if-branch.false) in
    let shows = subst (ShowsLast all.file all.verdicts) c.in-Ok-Some.field-0-is (c.in-Ok-Some.ensures.last all.file all.verdicts all.checked.read) in
    let seen = seen_by given held (g.W.Sink.contents c.write_verdict.new.writer) source after first last in
    let tells = last_stops (most_bytes c.args.any_size) seen holds all.file all.verdicts stated c.check_next.new.files c.check_next.new.number line.field-0.0 all.text all.read all.checked shows line.ensures.fault in
    rw (p.1, p.2) ((earlier_check (most_bytes c.args.any_size) given held _ source source after sink first last line.field-0.0 (omega arith) (omega (arith, inv.source, step.count)) (omega (arith, inv.sink, step.count)) line.ensures.count tells), search rules)

pub returns-in-Ok-None-clause-done : goal.returns-in-Ok-None-clause-done
returns-in-Ok-None-clause-done g c =
    let inv = c.loop-block.invariant in
    let step = c.in_ok-check_next.ensures in
    let given = g.R.Source.remaining c.args.reader.now in
    let held = g.W.Sink.contents c.args.writer.now in
    let all = all_checked given held (most_bytes c.args.any_size) _ (step.on given held (most_bytes c.args.any_size) inv.stands) (step.end c.if-branch.false) in
    let shows = subst (ShowsLast all.file all.verdicts) c.in-Ok-None.field-0-is (c.in-Ok-None.ensures.last all.file all.verdicts all.checked.read) in
    ((refl, (all.file, verdict_lines all.verdicts, all.text, (all.verdicts, shows, refl), all.checked.written)), search rules)

pub returns-in_ok-write_verdict-in-Ok-Some-clause-done : goal.returns-in_ok-write_verdict-in-Ok-Some-clause-done
returns-in_ok-write_verdict-in-Ok-Some-clause-done g c =
    let inv = c.loop-block.invariant in
    let step = c.in_ok-check_next.ensures in
    let stated : YardBay × Verdict = (c.in-Ok-Some.bay, c.in-Ok-Some.verdict) in
    let given = g.R.Source.remaining c.args.reader.now in
    let held = g.W.Sink.contents c.args.writer.now in
    let all = all_checked given held (most_bytes c.args.any_size) _ (step.on given held (most_bytes c.args.any_size) inv.stands) (step.end c.if-branch.false) in
    let shows = subst (ShowsLast all.file all.verdicts) c.in-Ok-Some.field-0-is (c.in-Ok-Some.ensures.last all.file all.verdicts all.checked.read) in
    let lines = verdict_lines (all.verdicts ++ stated ∷ []) in
    let written = appends_line held _ _ all.verdicts stated all.checked.written c.in_ok-write_verdict-in-Ok-Some.ensures.all in
    ((refl, (all.file, lines, all.text, (all.verdicts ++ stated ∷ [], shows, refl), written)), search rules)

pub returns-in-Err-clause-done : goal.returns-in-Err-clause-done
returns-in-Err-clause-done g c =
    let inv = c.loop-block.invariant in
    let step = c.in_ok-check_next.ensures in
    let given = g.R.Source.remaining c.args.reader.now in
    let held = g.W.Sink.contents c.args.writer.now in
    let holds = g.W.Sink.contents c.check_next.new.writer in
    let all = all_checked given held (most_bytes c.args.any_size) _ (step.on given held (most_bytes c.args.any_size) inv.stands) (step.end c.if-branch.false) in
    let source = g.R.Source.failures c.args.reader.now in
    let after = g.R.Source.failures c.check_next.new.reader in
    let sink = g.W.Sink.failures c.args.writer.now in
    let last = g.W.Sink.failures c.check_next.new.writer in
    let seen = seen_by given held holds source after sink last in
    (last_refused (most_bytes c.args.any_size) seen all.file all.verdicts c.check_next.new.files c.check_next.new.number c.in-Err.refused c.refused_at.result all.text all.read all.checked c.refused_at.ensures (inr c.in-Err.ensures.refused), search rules)

pub returns-in_err-check_next-clause-noted : goal.returns-in_err-check_next-clause-noted
returns-in_err-check_next-clause-noted g c =
    let p = err_from_is_err_and c.from_residual.result c.from_residual.ensures.1 in
    rw (p.1) (Keeps-refl _, refl)

pub returns-in_err-write_verdict-in-Ok-Some-clause-noted : goal.returns-in_err-write_verdict-in-Ok-Some-clause-noted
returns-in_err-write_verdict-in-Ok-Some-clause-noted g c =
    let p = err_from_is_err_and c.from_residual-in_err-write_verdict-in-Ok-Some.result c.from_residual-in_err-write_verdict-in-Ok-Some.ensures.1 in
    rw (p.1) (Keeps-refl _, refl)

pub returns-in-Ok-None-clause-noted : goal.returns-in-Ok-None-clause-noted
returns-in-Ok-None-clause-noted g c =
    let inv = c.loop-block.invariant in
    let step = c.in_ok-check_next.ensures in
    let given = g.R.Source.remaining c.args.reader.now in
    let held = g.W.Sink.contents c.args.writer.now in
    let all = all_checked given held (most_bytes c.args.any_size) _ (step.on given held (most_bytes c.args.any_size) inv.stands) (step.end c.if-branch.false) in
    (all.verdicts, all.checked.written, c.note_if_none.ensures all.verdicts all.checked.next)

pub returns-in_ok-write_verdict-in-Ok-Some-clause-noted : goal.returns-in_ok-write_verdict-in-Ok-Some-clause-noted
returns-in_ok-write_verdict-in-Ok-Some-clause-noted g c =
    let inv = c.loop-block.invariant in
    let step = c.in_ok-check_next.ensures in
    let stated : YardBay × Verdict = (c.in-Ok-Some.bay, c.in-Ok-Some.verdict) in
    let given = g.R.Source.remaining c.args.reader.now in
    let held = g.W.Sink.contents c.args.writer.now in
    let all = all_checked given held (most_bytes c.args.any_size) _ (step.on given held (most_bytes c.args.any_size) inv.stands) (step.end c.if-branch.false) in
    let written = appends_line held _ _ all.verdicts stated all.checked.written c.in_ok-write_verdict-in-Ok-Some.ensures.all in
    (all.verdicts ++ stated ∷ [], written, tells_more all.verdicts stated _ (Keeps-refl _, refl))
