-- What a job does: a command over the bytes of one file, and any job, as its files, the standard input and the sink of its report see it.
use Rattle.std.specs.Prelude.{◌≡◌, ◌≢◌, ℕ, ◌≤◌, ◌⊎◌, List, Option, codes, IsTrue}
use Rattle.crp_plan.specs.Devices.{most_interruptions}
use Rattle.crp_report.specs.declared.status.Status.{Status}
use Rattle.crp_report.specs.declared.status.Status.TheVariants as status
use Rattle.crp_jobs.specs.declared.job.FileCommand.{FileCommand}
use Rattle.crp_jobs.specs.declared.job.FileCommand.TheVariants as command
use Rattle.crp_jobs.specs.declared.job.Job.{Job}
use Rattle.crp_jobs.specs.declared.job.Job.TheVariants as job
use Rattle.crp_jobs.specs.declared.outcome.Statement.TheVariants as statement
use Rattle.crp_jobs.specs.declared.outcome.ToolFault.{ToolFault}
use Rattle.crp_jobs.specs.declared.outcome.ToolFault.TheVariants as fault
use Rattle.crp_report.specs.Runs.{SourceSeen, SinkSeen, source_seen, sink_seen}
use Rattle.crp_jobs.specs.Opened.{FilesSeen, FilesFail, IsFileOpened, IsOneRefused, AreFilesKept, AreFilesLeftAlone, IsSourceLeftAlone, IsLeftAlone}
use Rattle.crp_commands.specs.Solving.{RunReportsOverFiles, SolveFailsOverFiles}
use Rattle.crp_commands.specs.Absent.{AbsentReportsOverFiles, AbsentFailsOverFiles}
use Rattle.crp_commands.specs.Audit.{AuditReportsOverFiles, AuditFailsOverFiles}
use Rattle.crp_commands.specs.Follow.{FollowReportsOverFiles, FollowFailsOverFiles}
use Rattle.crp_commands.specs.Compare.{CompareReportsOverFiles, CompareFailsOverFiles}
use Rattle.crp_commands.specs.Calls.{CallSeen, call_failures, most_call_failures, IsTextWithin, WritesReport, CallFailsWith}
use Rattle.crp_yard.specs.Reading.{IsTextOf}
use Rattle.crp_commands.specs.Replay.{IsReplay, IsNoReplay}
use Rattle.crp_commands.specs.Bound.{IsBound, IsNoBound}
use Rattle.crp_commands.specs.Check.{IsCheck, CheckFailsWith, most_bytes}
use Rattle.crp_commands.specs.Prove.{IsProof, IsSomeProof, IsNoProof}
use Rattle.crp_follow.specs.Rewritten.{IsRewritten}
use Rattle.crp_commands.specs.Rewrite.{RewriteFailsWith}
use Rattle.crp_files.specs.Known.{KnownFiles}
use Rattle.crp_commands.specs.declared.heads.TheConstants.{MOST_BYTES}
use Rattle.crp_commands.specs.declared.streams.Streams.{Streams}

-- the command was done, and ended with this status: its whole report was written, and nothing else
abbrev pub Performs : FileCommand → Status → CallSeen → Type 0
Performs command.Replay ended s = (ended ≡ status.Decided) × WritesReport IsTextOf IsReplay s
Performs (command.Bound chains json) ended s = (ended ≡ status.Decided) × WritesReport IsTextOf (IsBound chains) s
Performs (command.Check any_size workers json) ended s = (ended ≡ status.Decided) × WritesReport (IsTextWithin (most_bytes any_size)) IsCheck s
Performs (command.Prove search) ended s = WritesReport IsTextOf (IsProof search ended) s
Performs command.Rewrite ended s = (ended ≡ status.Decided) × WritesReport IsTextOf IsRewritten s

-- what a fault says of the command
abbrev pub CommandFailsWith : FileCommand → CallSeen → ToolFault → Type 0
CommandFailsWith command.Replay s f = CallFailsWith MOST_BYTES IsReplay IsNoReplay s f
CommandFailsWith (command.Bound chains json) s f = CallFailsWith MOST_BYTES (IsBound chains) IsNoBound s f
CommandFailsWith (command.Check any_size workers json) s f = CheckFailsWith (most_bytes any_size) s f
CommandFailsWith (command.Prove search) s f = CallFailsWith MOST_BYTES (IsSomeProof search) IsNoProof s f
CommandFailsWith command.Rewrite s f = RewriteFailsWith s f

-- what a call saw, of a source and of a sink
abbrev pub call_of : SourceSeen → SinkSeen → CallSeen
call_of source sink = record {
  given = source.given;
  held = sink.held;
  holds = sink.holds;
  source_before = source.before;
  source_after = source.after;
  sink_before = sink.before;
  sink_after = sink.after;
}

-- the command was done in a call, and no more calls of its devices failed than may be passed over
abbrev pub PerformsIn : FileCommand → CallSeen → Status → Type 0
PerformsIn c s ended = Performs c ended s × (call_failures s ≤ most_interruptions)

-- what a fault says of the command in a call, in which no more calls of its devices failed than may be passed over and the one that is stated
abbrev pub CommandFailsInCall : FileCommand → CallSeen → ToolFault → Type 0
CommandFailsInCall c s f = CommandFailsWith c s f × (call_failures s ≤ most_call_failures f)

-- what a job saw of the files, of the standard input, and of the sink of its report
pub record JobSeen : Type 0 where
  pub files : FilesSeen
  pub input : SourceSeen
  pub out : SinkSeen

-- so it is of the values of the files and of the streams, by what each states
abbrev pub job_seen : {F R W E : Type 0} → (F → KnownFiles) → (F → ℕ) → (R → Option (List ℕ)) → (R → ℕ) → (W → Option (List ℕ)) → (W → ℕ) → F → F → Streams R W E → Streams R W E
    → JobSeen
job_seen known files_failed remaining read_failed contents write_failed files left streams after = record {
  files = record { known = known files; left = known left; before = files_failed files; after = files_failed left };
  input = source_seen remaining read_failed streams.input after.input;
  out = sink_seen contents write_failed streams.out after.out;
}

-- the source is the standard input, and the files were left alone
pub record IsFromInput (seen : JobSeen) (source : SourceSeen) : Type 0 where
  pub is : source ≡ seen.input
  pub alone : AreFilesLeftAlone seen.files

-- the source is the file of this name, opened for the job: what failed of the files is what failed of it, none has changed, and the standard input was left
-- alone
pub record IsFromFile (name : List ℕ) (seen : JobSeen) (source : SourceSeen) : Type 0 where
  pub opened : IsFileOpened seen.files.known name source
  pub failed : FilesFail seen.files source.after
  pub kept : AreFilesKept seen.files
  pub alone : IsSourceLeftAlone seen.input

-- the source is what the name stands for: `-` is the standard input, any other name that of a file
abbrev pub IsFrom : List ℕ → JobSeen → SourceSeen → Type 0
IsFrom name seen source = ((name ≡ codes "-") × IsFromInput seen source) ⊎ ((name ≢ codes "-") × IsFromFile name seen source)

-- that the file of a command could not be read
abbrev pub unread_by : FileCommand → ToolFault
unread_by command.Rewrite = fault.ReadOf statement.Report
unread_by command.Replay = fault.Read
unread_by (command.Bound chains json) = fault.Read
unread_by (command.Check any_size workers json) = fault.Read
unread_by (command.Prove search) = fault.Read

-- the file of this name cannot be opened, as the standard input always can: this is a failed read, and all else was left alone
pub record IsUnopened (name : List ℕ) (c : FileCommand) (seen : JobSeen) (f : ToolFault) : Type 0 where
  pub named : name ≢ codes "-"
  pub refused : IsTrue (seen.files.known.may_not_open name)
  pub one : IsOneRefused seen.files
  pub stated : f ≡ unread_by c
  pub input : IsSourceLeftAlone seen.input
  pub out : IsLeftAlone seen.out

-- the command was done over what the name stands for
abbrev pub ReportsFile : List ℕ → FileCommand → JobSeen → Status → Type 0
ReportsFile name c seen ended = (source : SourceSeen) × IsFrom name seen source × PerformsIn c (call_of source seen.out) ended

-- what a fault says of the command over what the name stands for: the file cannot be opened, or it is so in a call from that source
abbrev pub FileFailsWith : List ℕ → FileCommand → JobSeen → ToolFault → Type 0
FileFailsWith name c seen f =
    IsUnopened name c seen f ⊎ ((source : SourceSeen) × IsFrom name seen source × CommandFailsInCall c (call_of source seen.out) f)

-- the job was done
abbrev pub ReportsOverFiles : Job → JobSeen → Status → Type 0
ReportsOverFiles (job.OneFile file c stop) seen ended = ReportsFile file.now c seen ended
ReportsOverFiles (job.Absent names settings) seen ended = IsSourceLeftAlone seen.input × AbsentReportsOverFiles names settings seen.files seen.out ended
ReportsOverFiles (job.Audit names settings) seen ended = IsSourceLeftAlone seen.input × AuditReportsOverFiles names settings seen.files seen.out ended
ReportsOverFiles (job.Follow names settings) seen ended = FollowReportsOverFiles names settings seen.files seen.input seen.out ended
ReportsOverFiles (job.Compare names settings) seen ended = CompareReportsOverFiles names settings seen.files seen.input seen.out ended
ReportsOverFiles (job.Solve names settings quiet progress) seen ended = IsSourceLeftAlone seen.input × RunReportsOverFiles names settings seen.files seen.out ended

-- what a fault says of the job
abbrev pub FailsOverFiles : Job → JobSeen → ToolFault → Type 0
FailsOverFiles (job.OneFile file c stop) seen f = FileFailsWith file.now c seen f
FailsOverFiles (job.Absent names settings) seen f = IsSourceLeftAlone seen.input × AbsentFailsOverFiles names settings seen.files seen.out f
FailsOverFiles (job.Audit names settings) seen f = IsSourceLeftAlone seen.input × AuditFailsOverFiles names settings seen.files seen.out f
FailsOverFiles (job.Follow names settings) seen f = FollowFailsOverFiles names settings seen.files seen.input seen.out f
FailsOverFiles (job.Compare names settings) seen f = CompareFailsOverFiles names settings seen.files seen.input seen.out f
FailsOverFiles (job.Solve names settings quiet progress) seen f = IsSourceLeftAlone seen.input × SolveFailsOverFiles names settings seen.files seen.out f
