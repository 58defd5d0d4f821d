use Rattle.std.proofs.Common.{◌∙◌, ℕ, List, ap, refl, sym, inl, subst}
use Rattle.std.proofs.lemmas.Result.{err_from_is_err_and}
use Rattle.crp_sizes.specs.Sizes.{YardSizes}
use Rattle.crp_report.specs.Chosen.{InputChosen}
use Rattle.crp_report.specs.Runs.{SinkSeen, sink_seen}
use Rattle.crp_jobs.specs.declared.job.Job.{Job}
use Rattle.crp_jobs.specs.Sized.{separator_of}
use Rattle.crp_commands.specs.Noted.{IsNoted}
use Rattle.crp_commands.specs.Performing.{JobSeen, job_seen}
use Rattle.crp_commands.proofs.AsSized.{done_unsized, done_sized, was_read, unsized, no_room, noted_sized}
use Rattle.crp_commands.proofs.Replayed.{keeps_same}
use Rattle.crp_commands.proofs.over_files.run_job.Goals as goal

pub returns-in_default-clause-done : goal.returns-in_default-clause-done
returns-in_default-clause-done g c =
    let seen : JobSeen = job_seen g.F.Files.known g.F.Files.failures g.R.Source.remaining g.R.Source.failures g.W.Sink.contents g.W.Sink.failures c.args.files.now c.do_job.new.files c.args.streams.now c.do_job.new.streams in
    done_unsized c.args.job.now seen c.do_job.result (sym c.in_default.ensures) c.do_job.ensures.done

pub returns-in_err-sizes-clause-done : goal.returns-in_err-sizes-clause-done
returns-in_err-sizes-clause-done g c =
    let p = err_from_is_err_and c.from_residual.result c.from_residual.ensures.1 in
    let list : List ℕ × InputChosen = (c.in-Some.name.now, c.in-Some.input.now) in
    let seen : JobSeen = job_seen g.F.Files.known g.F.Files.failures g.R.Source.remaining g.R.Source.failures g.W.Sink.contents g.W.Sink.failures c.args.files.now c.sizes_of.new.files c.args.streams.now c.args.streams.now in
    rw (p.1, p.2) (inl (unsized c.args.job.now seen list c.in_err-sizes.field-0.0 c.separator.result (sym c.in-Some.ensures) c.separator.ensures c.in_err-sizes.ensures.refused c.in_err-sizes.ensures.kept refl (keeps_same _, refl)))

pub returns-in_err-sized-clause-done : goal.returns-in_err-sized-clause-done
returns-in_err-sized-clause-done g c =
    let p = err_from_is_err_and c.from_residual-in_err-sized.result c.from_residual-in_err-sized.ensures.1 in
    let list : List ℕ × InputChosen = (c.in-Some.name.now, c.in-Some.input.now) in
    let seen : JobSeen = job_seen g.F.Files.known g.F.Files.failures g.R.Source.remaining g.R.Source.failures g.W.Sink.contents g.W.Sink.failures c.args.files.now c.sizes_of.new.files c.args.streams.now c.args.streams.now in
    let common = c.common.ensures.value ∙ ap (λ (s : YardSizes). s.common) c.sizes.ensures.value in
    let read = was_read seen.files.known seen.files.before c.separator.result (separator_of c.args.job.now) seen.files.after list c.common.result.now c.in_ok-sizes.sizes c.separator.ensures common c.in_ok-sizes.ensures.accepted c.in_ok-sizes.ensures.read in
    rw (p.1, p.2) (inl (unsized c.args.job.now seen list _ (separator_of c.args.job.now) (sym c.in-Some.ensures) refl (no_room seen.files (separator_of c.args.job.now) list c.in_ok-sizes.sizes read) c.in_ok-sizes.ensures.kept refl (keeps_same _, refl)))

pub returns-clause-done : goal.returns-clause-done
returns-clause-done g c =
    let list : List ℕ × InputChosen = (c.in-Some.name.now, c.in-Some.input.now) in
    let seen : JobSeen = job_seen g.F.Files.known g.F.Files.failures g.R.Source.remaining g.R.Source.failures g.W.Sink.contents g.W.Sink.failures c.args.files.now c.do_job-2.new.files c.args.streams.now c.do_job-2.new.streams in
    let common = c.common.ensures.value ∙ ap (λ (s : YardSizes). s.common) c.sizes.ensures.value in
    let failures : ℕ = g.F.Files.failures c.sizes_of.new.files in
    let read = was_read seen.files.known seen.files.before c.separator.result (separator_of c.args.job.now) failures list c.common.result.now c.in_ok-sizes.sizes c.separator.ensures common c.in_ok-sizes.ensures.accepted c.in_ok-sizes.ensures.read in
    done_sized c.args.job.now c.in_ok-sized.sized seen list c.in_ok-sizes.sizes (g.F.Files.known c.sizes_of.new.files) failures c.do_job-2.result (sym c.in-Some.ensures) c.in_ok-sized.ensures
    c.in_ok-sizes.ensures.kept read c.do_job-2.ensures.done

pub returns-clause-noted : goal.returns-clause-noted
returns-clause-noted g c =
    let shown : SinkSeen = sink_seen g.E.Sink.contents g.E.Sink.failures c.args.streams.now.errors c.do_job-2.new.streams.errors in
    noted_sized c.args.job.now c.in_ok-sizes.sizes shown (subst (λ (j : Job). IsNoted j shown) c.in_ok-sized.ensures c.do_job-2.ensures.noted)
