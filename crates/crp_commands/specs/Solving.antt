-- What `solve` does over its files: what the run over them saw, how it ended, and which file could not be opened.
use Rattle.std.specs.Prelude.{◌≡◌, ℕ, Bool, false, ◌+◌, ◌⊎◌, List, Option, Some, None, option_map, IfSome, MatchOption, IsSome, IsTrue, ⊤}
use Rattle.crp_report.specs.declared.fault.Fault.{Fault}
use Rattle.crp_report.specs.declared.fault.Fault.TheVariants as run
use Rattle.crp_report.specs.declared.fault.Input.{Input}
use Rattle.crp_report.specs.declared.fault.Input.TheVariants as input
use Rattle.crp_report.specs.declared.fault.Output.{Output}
use Rattle.crp_report.specs.declared.fault.Output.TheVariants as output
use Rattle.crp_report.specs.declared.status.Status.{Status}
use Rattle.crp_report.specs.Chosen.{RunChosen}
use Rattle.crp_report.specs.Runs.{RunSeen, SinkSeen, RunEnds, RunFails, sink_of}
use Rattle.crp_files.specs.Known.{KnownFiles}
use Rattle.crp_files.specs.Roles.{IsShared}
use Rattle.crp_files.specs.declared.roles.Shared.{Shared}
use Rattle.crp_jobs.specs.declared.job.RunFiles.{RunFiles}
use Rattle.crp_jobs.specs.declared.outcome.ToolFault.{ToolFault}
use Rattle.crp_jobs.specs.declared.outcome.ToolFault.TheVariants as fault
use Rattle.crp_jobs.specs.Names.{named_in_run}
use Rattle.crp_jobs.specs.Opened.{FilesSeen, FilesFail, AreFilesKept, AreUnemptied, IsFileOpened, IsWanted, IsLeft, IsOneRefused, IsLeftAlone}
use Rattle.crp_commands.specs.Lists.{IsListOpened}

-- ---- the files of the outputs

-- the name of the file to which the output goes, where one is asked for; the report goes to none
abbrev pub file_of : RunFiles → Output → Option (List ℕ)
file_of names output.Report = None
file_of names output.Certificates = option_map (λ name. name.now) names.cert
file_of names output.YardAfter = option_map (λ name. name.now) names.after

-- the output goes somewhere: the report always does, the certificates and the yard after where their files are asked for
abbrev pub IsAskedFor : RunFiles → Output → Type 0
IsAskedFor names output.Report = ⊤
IsAskedFor names output.Certificates = IsSome names.cert
IsAskedFor names output.YardAfter = IsSome names.after

-- how often the file of each output could not be finished: of those that were, not at all, and else once
pub record Unfinished : Type 0 where
  pub certificates : ℕ
  pub yard_after : ℕ

abbrev pub all_finished : Unfinished
all_finished = record { certificates = 0; yard_after = 0 }

abbrev pub unfinished_of : Unfinished → Output → ℕ
unfinished_of u output.Report = 0
unfinished_of u output.Certificates = u.certificates
unfinished_of u output.YardAfter = u.yard_after

-- the files that the run writes, where it writes two, are known to be two
abbrev pub AreTwo : KnownFiles → RunFiles → Type 0
AreTwo known names = IfSome (file_of names output.YardAfter) (λ after. IfSome (file_of names output.Certificates) (λ cert. known.are_one after cert ≡ Some false))

-- this name is known to lead to none of the files that the run writes
abbrev pub IsNotWritten : KnownFiles → RunFiles → List ℕ → Type 0
IsNotWritten known names other = (each : Output) → IfSome (file_of names each) (λ name. known.are_one name other ≡ Some false)

-- ---- faults

-- a failed write is one to an output that is asked for
abbrev pub FailsWhereAsked : RunFiles → Fault → Type 0
FailsWhereAsked names (run.Write sink) = IsAskedFor names sink
FailsWhereAsked names (run.Read source) = ⊤
FailsWhereAsked names (run.Yard f) = ⊤
FailsWhereAsked names (run.Interchange f) = ⊤
FailsWhereAsked names (run.Message f) = ⊤
FailsWhereAsked names run.Memory = ⊤

-- the fault states that the file of an output could not be finished, as a failed write to it
abbrev pub IsUnfinished : Unfinished → Fault → Type 0
IsUnfinished u f = (sink : Output) × (f ≡ run.Write sink) × (unfinished_of u sink ≡ 1)

-- a run over these devices ended with the fault; or it was done, and then a file that it wrote could not be finished
abbrev pub RunStops : RunChosen → Unfinished → RunSeen → Fault → Type 0
RunStops chosen u s f = RunFails chosen s f ⊎ (IsUnfinished u f × ((ended : Status) × RunEnds chosen s ended))

-- the file of the input may be refused to who would read it
abbrev pub IsInputRefused : (List ℕ → Bool) → RunFiles → Input → Type 0
IsInputRefused may_not_open names input.Yard = IsTrue (may_not_open names.yard.now)
IsInputRefused may_not_open names input.Movins = IsTrue (may_not_open names.movins.now)

-- the file of the output, which is asked for, may be refused to who would write it
abbrev pub IsOutputRefused : (List ℕ → Bool) → RunFiles → Output → Type 0
IsOutputRefused may_not_create names sink = MatchOption (file_of names sink) ⊥ (λ name. IsTrue (may_not_create name))

-- the fault states that a file cannot be opened: an input as a failed read of it, and then the files are as they were; an output as a failed write to it, and
-- then no file that is written is known to be another one
abbrev pub IsOfRefused : FilesSeen → RunFiles → Fault → Type 0
IsOfRefused files names (run.Read source) = IsInputRefused files.known.may_not_open names source × AreFilesKept files
IsOfRefused files names (run.Write sink) = IsOutputRefused files.known.may_not_create names sink × (IsShared files.known (named_in_run names) → ⊥)
IsOfRefused files names f = ⊥

-- ---- over files

-- what a run saw that opens its inputs by their names, and makes the files of the certificates and of the yard after where they are asked for; its report goes
-- to a sink of the caller's. What failed of the files is what failed of these devices, and of finishing the two. Where files state what is written to them,
-- what each of the two sinks holds stands under the name that was given for it, unless it could not be finished; and no other file has changed. No file that it
-- writes is known to be another one of its files, or to stand behind a standard stream. The yard after has the separator of the yard list
pub record IsOverFiles (files : FilesSeen) (names : RunFiles) (out : SinkSeen) (u : Unfinished) (s : RunSeen) : Type 0 where
  pub yard : IsListOpened files.known names.separator names.yard.now s.yard
  pub movins : IsFileOpened files.known names.movins.now s.movins
  pub report : s.report ≡ out
  pub certificates : IsWanted files.known (file_of names output.Certificates) u.certificates s.certificates
  pub yard_after : IsWanted files.known (file_of names output.YardAfter) u.yard_after s.yard_after
  pub separator : s.separator ≡ names.separator
  pub failed : FilesFail files (s.yard.after + (s.movins.after + ((s.certificates.after + u.certificates) + (s.yard_after.after + u.yard_after))))
  pub left : AreTwo files.known names → (each : Output) → IsLeft files (file_of names each) (unfinished_of u each) (sink_of s each)
  pub others : (other : List ℕ) → IsNotWritten files.known names other → files.left.given other ≡ files.known.given other
  pub apart : IsShared files.known (named_in_run names) → ⊥

-- a run over files was done, what it wrote to files was finished, and this is what it saw of them and of the sink of its report
abbrev pub RunReportsOverFiles : RunFiles → RunChosen → FilesSeen → SinkSeen → Status → Type 0
RunReportsOverFiles names chosen files out ended = (s : RunSeen) × IsOverFiles files names out all_finished s × RunEnds chosen s ended

-- a file could not be opened, which the fault states; nothing else has failed, and the sink of the report was left alone
pub record IsRefused (names : RunFiles) (files : FilesSeen) (out : SinkSeen) (f : Fault) : Type 0 where
  pub stated : IsOfRefused files names f
  pub one : IsOneRefused files
  pub alone : IsLeftAlone out

-- what a fault says of a run over files, where this is what it saw of the files and of the sink of its report
abbrev pub RunFailsOverFiles : RunFiles → RunChosen → FilesSeen → SinkSeen → Fault → Type 0
RunFailsOverFiles names chosen files out f = IsRefused names files out f
    ⊎ ((s : RunSeen) × (u : Unfinished) × IsOverFiles files names out u s × FailsWhereAsked names f × RunStops chosen u s f)

-- a file that the run would write may be another one, and so nothing was done: no call of a file has failed, and the sink of the report was left alone
pub record IsSharedInRun (names : RunFiles) (files : FilesSeen) (out : SinkSeen) (s : Shared) : Type 0 where
  pub unemptied : AreUnemptied (named_in_run names) files.known files.left s
  pub none_failed : files.after ≡ files.before
  pub alone : IsLeftAlone out

-- what a fault says of the job
abbrev pub SolveFailsOverFiles : RunFiles → RunChosen → FilesSeen → SinkSeen → ToolFault → Type 0
SolveFailsOverFiles names chosen files out (fault.Run f) = RunFailsOverFiles names chosen files out f
SolveFailsOverFiles names chosen files out (fault.OneFile s) = IsSharedInRun names files out s
SolveFailsOverFiles names chosen files out f = ⊥
