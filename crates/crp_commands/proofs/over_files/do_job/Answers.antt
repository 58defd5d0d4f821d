use Rattle.std.proofs.Common.{refl}
use Rattle.crp_report.specs.Runs.{source_seen, sink_seen}
use Rattle.crp_commands.specs.Performing.{JobSeen}
use Rattle.crp_commands.proofs.Performed.{absent_job, audit_job, solved_job}
use Rattle.crp_commands.proofs.over_files.do_job.Goals as goal

pub returns-in-Absent-clause-done : goal.returns-in-Absent-clause-done
returns-in-Absent-clause-done g c =
    let seen : JobSeen = record {
      files = record {
        known = g.F.Files.known c.args.files.now;
        left = g.F.Files.known c.absent_files.new.files;
        before = g.F.Files.failures c.args.files.now;
        after = g.F.Files.failures c.absent_files.new.files;
      };
      input = source_seen g.R.Source.remaining g.R.Source.failures c.args.streams.now.input c.args.streams.now.input;
      out = sink_seen g.W.Sink.contents g.W.Sink.failures c.args.streams.now.out c.absent_files.new.out;
    } in
    rw c.in-Absent.is (absent_job c.in-Absent.names c.in-Absent.settings seen c.absent_files.result refl c.absent_files.ensures)

pub returns-in-Audit-clause-done : goal.returns-in-Audit-clause-done
returns-in-Audit-clause-done g c =
    let seen : JobSeen = record {
      files = record {
        known = g.F.Files.known c.args.files.now;
        left = g.F.Files.known c.audit_files.new.files;
        before = g.F.Files.failures c.args.files.now;
        after = g.F.Files.failures c.audit_files.new.files;
      };
      input = source_seen g.R.Source.remaining g.R.Source.failures c.args.streams.now.input c.args.streams.now.input;
      out = sink_seen g.W.Sink.contents g.W.Sink.failures c.args.streams.now.out c.audit_files.new.out;
    } in
    rw c.in-Audit.is (audit_job c.in-Audit.names c.in-Audit.settings seen c.audit_files.result refl c.audit_files.ensures.ended)

pub returns-in-Audit-clause-noted : goal.returns-in-Audit-clause-noted
returns-in-Audit-clause-noted g c = rw c.in-Audit.is c.audit_files.ensures.noted

pub returns-in-Follow-clause-done : goal.returns-in-Follow-clause-done
returns-in-Follow-clause-done g c = rw c.in-Follow.is c.follow_files.ensures.ended

pub returns-in-Follow-clause-noted : goal.returns-in-Follow-clause-noted
returns-in-Follow-clause-noted g c = rw c.in-Follow.is c.follow_files.ensures.noted

pub returns-in-Compare-clause-done : goal.returns-in-Compare-clause-done
returns-in-Compare-clause-done g c = rw c.in-Compare.is c.compare_files.ensures.ended

pub returns-in-Compare-clause-noted : goal.returns-in-Compare-clause-noted
returns-in-Compare-clause-noted g c = rw c.in-Compare.is c.compare_files.ensures.noted

pub returns-in-Solve-clause-done : goal.returns-in-Solve-clause-done
returns-in-Solve-clause-done g c =
    let seen : JobSeen = record {
      files = record {
        known = g.F.Files.known c.args.files.now;
        left = g.F.Files.known c.solve.new.files;
        before = g.F.Files.failures c.args.files.now;
        after = g.F.Files.failures c.solve.new.files;
      };
      input = source_seen g.R.Source.remaining g.R.Source.failures c.args.streams.now.input c.args.streams.now.input;
      out = sink_seen g.W.Sink.contents g.W.Sink.failures c.args.streams.now.out c.solve.new.out;
    } in
    rw c.in-Solve.is (solved_job _ _ c.in-Solve.quiet c.in-Solve.progress seen c.solve.result refl c.solve.ensures.ended)
