use Rattle.std.proofs.Common.{◌∙◌, ap, refl}
use Rattle.crp_report.specs.Runs.{RunSeen, sink_seen, source_seen}
use Rattle.crp_files.specs.Known.{KnownFiles}
use Rattle.crp_commands.proofs.Finished.{more_from, written, written_from}
use Rattle.crp_commands.proofs.OpenedLists.{list_bytes, list_closed, list_failures, list_opened}
use Rattle.crp_commands.proofs.Replayed.{keeps_same}
use Rattle.crp_commands.proofs.Solved.{Counts, ended_job, ended_over, yard_after_refused}
use Rattle.crp_commands.proofs.TwoFiles.{Times, there_from}
use Rattle.crp_commands.proofs.over_yard_files.solve_to.Goals as goal

pub returns-in_default-create-2-clause-ended : goal.returns-in_default-create-2-clause-ended
returns-in_default-create-2-clause-ended g c =
    let opened = c.in-Ok-open.ensures.count ∙ c.in-Ok.ensures.count in
    yard_after_refused c.args.asked.now.names.now c.args.asked.now.settings.now _ _ (g.F.Files.known c.prepare_wanted-2.new.files) (g.F.Files.known c.create.new.files)
    g.C.Named.name g.A.Named.name c.requires.yard_after
    (there_from _ _ _ _ _ _ _ _ refl refl (c.in-Ok-open.ensures.kept ∙ c.in-Ok.ensures.kept) c.prepare_wanted.ensures.prepared c.prepare_wanted-2.ensures.prepared)
    c.in_default-first_shared.ensures.none c.in-Ok-create.ensures.changed c.in_default-create-2.ensures.refused
    (more_from _ _ _ _ (c.in-Ok-create.ensures.count ∙ c.prepare_wanted-2.ensures.count ∙ c.prepare_wanted.ensures.count ∙ opened) c.in_default-create-2.ensures.count)
    (keeps_same _, refl)

pub returns-clause-ended : goal.returns-clause-ended
returns-clause-ended g c =
    let names = c.args.asked.now.names.now in
    let seen : RunSeen = record {
      yard = source_seen (list_bytes g.F.Input.Source.remaining) (list_failures g.F.Input.Source.failures) c.with_commas.result c.run_watched-answer.new.devices.yard;
      movins = source_seen g.F.Input.Source.remaining g.F.Input.Source.failures c.in-Ok-open.movins c.run_watched-answer.new.devices.movins;
      report = sink_seen g.W.Sink.contents g.W.Sink.failures c.args.out.now c.run_watched-answer.new.out;
      certificates = record {
        held = c.in-Ok-create.certificates.contents;
        holds = c.run_watched-answer.new.devices.certificates.contents;
        before = c.in-Ok-create.certificates.failures;
        after = c.run_watched-answer.new.devices.certificates.failures;
      };
      yard_after = record {
        held = c.in-Ok-create-2.yard_after.contents;
        holds = c.run_watched-answer.new.devices.yard_after.contents;
        before = c.in-Ok-create-2.yard_after.failures;
        after = c.run_watched-answer.new.devices.yard_after.failures;
      };
      separator = names.separator;
    } in
    let times : Times = record {
      first = g.F.Files.known c.args.files.now;
      opened = g.F.Files.known c.prepare_wanted-2.new.files;
      one_made = g.F.Files.known c.create.new.files;
      made = g.F.Files.known c.create-2.new.files;
      one_finished = g.F.Files.known c.finish-certified.new.files;
      finished = g.F.Files.known c.finish-left.new.files;
      last = g.F.Files.known c.close-2.new.self;
    } in
    let counts : Counts = record {
      first = g.F.Files.failures c.args.files.now;
      one_finished = g.F.Files.failures c.finish-certified.new.files;
      finished = g.F.Files.failures c.finish-left.new.files;
      one_closed = g.F.Files.failures c.close.new.self;
      last = g.F.Files.failures c.close-2.new.self;
    } in
    let opened = c.in-Ok-open.ensures.count ∙ c.in-Ok.ensures.count in
    let same = c.in-Ok-create-2.ensures.count ∙ c.in-Ok-create.ensures.count ∙ c.prepare_wanted-2.ensures.count ∙ c.prepare_wanted.ensures.count ∙ opened in
    ended_job names c.args.asked.now.settings.now _ _ c.unless_unfinished.result c.of_job.result c.of_job.ensures.done c.of_job.ensures.failed
    (ended_over names c.args.asked.now.settings.now g.C.Named.name g.A.Named.name times counts seen c.run_watched-answer.result c.finish-certified.result c.finish-left.result
    c.unless_unfinished-answer.result c.unless_unfinished.result c.requires.certificates c.requires.yard_after
    (record {
      yard = list_opened _ _ _ seen.yard _ _ c.with_commas.ensures.bytes c.with_commas.ensures.count c.in-Ok.ensures.bytes c.in-Ok.ensures.new;
      movins = record {
        bytes = c.in-Ok-open.ensures.bytes ∙ ap (λ (k : KnownFiles). k.given names.movins.now) c.in-Ok.ensures.kept;
        new = c.in-Ok-open.ensures.new;
      };
      apart = c.in_default-first_shared.ensures.none;
      written = record {
        begun = there_from _ _ g.C.Named.name g.A.Named.name times.first _ _ times.opened c.requires.certificates c.requires.yard_after (c.in-Ok-open.ensures.kept ∙ c.in-Ok.ensures.kept) c.prepare_wanted.ensures.prepared
            c.prepare_wanted-2.ensures.prepared;
        one_changed = c.in-Ok-create.ensures.changed;
        two_changed = c.in-Ok-create-2.ensures.changed;
        one_written = written_from g.C.Named.name times.opened times.made times.one_finished _ _ _ _ seen.certificates same (written g.C.Named.name times.opened times.made times.one_finished (g.F.Files.failures c.create-2.new.files) counts.one_finished c.finish-certified.result seen.certificates
            c.in-Ok-create.ensures.new c.in-Ok-create.ensures.empty c.finish-certified.ensures.changed c.finish-certified.ensures.left c.finish-certified.ensures.unwanted
            c.finish-certified.ensures.count);
        two_written = written g.A.Named.name times.one_made times.one_finished times.finished counts.one_finished counts.finished c.finish-left.result seen.yard_after
            c.in-Ok-create-2.ensures.new c.in-Ok-create-2.ensures.empty c.finish-left.ensures.changed c.finish-left.ensures.left c.finish-left.ensures.unwanted
            c.finish-left.ensures.count;
        ended = c.close-2.ensures.kept ∙ c.close.ensures.kept;
      };
      yard_closed = list_closed _ _ _ _ c.into_file.ensures.count c.close.ensures.count;
      movins_closed = c.close-2.ensures.count;
      separator = refl;
    }) c.run_watched-answer.ensures.written
    (record {
      failed = c.unless_unfinished-answer.ensures.failed;
      done = c.unless_unfinished-answer.ensures.done;
      unfinished = c.unless_unfinished-answer.ensures.unfinished;
    })
    (record {
      failed = c.unless_unfinished.ensures.failed;
      done = c.unless_unfinished.ensures.done;
      unfinished = c.unless_unfinished.ensures.unfinished;
    }))
