use Rattle.std.proofs.Common.{◌∙◌, refl}
use Rattle.crp_report.specs.Runs.{SinkSeen}
use Rattle.crp_commands.proofs.Finished.{written, written_from}
use Rattle.crp_commands.proofs.FollowedFiles.{texts_ended}
use Rattle.crp_commands.proofs.TwoFiles.{Times, there_from}
use Rattle.crp_commands.proofs.over_follow_files.follow_to.Goals as goal

pub returns-clause-ended : goal.returns-clause-ended
returns-clause-ended g c =
    let page : SinkSeen = record {
      held = c.in-Ok.page.contents;
      holds = c.follow-answer.new.files.page.contents;
      before = c.in-Ok.page.failures;
      after = c.follow-answer.new.files.page.failures;
    } in
    let left : SinkSeen = record {
      held = c.in-Ok-create.list.contents;
      holds = c.follow-answer.new.files.list.contents;
      before = c.in-Ok-create.list.failures;
      after = c.follow-answer.new.files.list.failures;
    } in
    let times : Times = record {
      first = g.F.Files.known c.args.files.now;
      opened = g.F.Files.known c.prepare_wanted-2.new.files;
      one_made = g.F.Files.known c.create.new.files;
      made = g.F.Files.known c.create-2.new.files;
      one_finished = g.F.Files.known c.finish-paged.new.files;
      finished = g.F.Files.known c.finish-left.new.files;
      last = g.F.Files.known c.finish-left.new.files;
    } in
    let named = c.list_of-loaded.ensures.name ∙ c.requires.list in
    let same = c.in-Ok-create.ensures.count ∙ c.in-Ok.ensures.count ∙ c.prepare_wanted-2.ensures.count ∙ c.prepare_wanted.ensures.count in
    texts_ended _ c.args.asked.now.names.now g.P.Named.name g.A.Named.name times (g.F.Files.failures c.args.files.now) (g.F.Files.failures c.finish-paged.new.files)
    (g.F.Files.failures c.finish-left.new.files) _ _ page left c.is_some-2.result c.is_some-3.result c.follow-answer.result c.finish-paged.result c.finish-left.result
    c.unless_unfinished-answer.result c.unless_unfinished.result c.requires.page c.requires.list c.is_some-2.ensures c.is_some-3.ensures
    (record {
      begun = there_from _ _ g.P.Named.name g.A.Named.name times.first times.first _ times.opened c.requires.page named refl c.prepare_wanted.ensures.prepared
          c.prepare_wanted-2.ensures.prepared;
      one_changed = c.in-Ok.ensures.changed;
      two_changed = c.in-Ok-create.ensures.changed;
      one_written = written_from g.P.Named.name times.opened times.made times.one_finished _ _ _ _ page same
          (written g.P.Named.name times.opened times.made times.one_finished (g.F.Files.failures c.create-2.new.files) (g.F.Files.failures c.finish-paged.new.files)
          c.finish-paged.result page c.in-Ok.ensures.new c.in-Ok.ensures.empty c.finish-paged.ensures.changed c.finish-paged.ensures.left c.finish-paged.ensures.unwanted
          c.finish-paged.ensures.count);
      two_written = written g.A.Named.name times.one_made times.one_finished times.finished (g.F.Files.failures c.finish-paged.new.files)
          (g.F.Files.failures c.finish-left.new.files) c.finish-left.result left c.in-Ok-create.ensures.new c.in-Ok-create.ensures.empty c.finish-left.ensures.changed
          c.finish-left.ensures.left c.finish-left.ensures.unwanted c.finish-left.ensures.count;
      ended = refl;
    })
    c.in_default.ensures.none (rw c.is_some.ensures at (rw c.list_of-loaded.ensures.loaded at c.follow-answer.ensures.ended))
    (record {
      failed = c.unless_unfinished-answer.ensures.failed;
      done = c.unless_unfinished-answer.ensures.done;
      unfinished = c.unless_unfinished-answer.ensures.unfinished;
    })
    (record {
      failed = c.unless_unfinished.ensures.failed;
      done = c.unless_unfinished.ensures.done;
      unfinished = c.unless_unfinished.ensures.unfinished;
    })
