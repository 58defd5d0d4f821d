-- A command over what a name stands for, from what a call saw of that source.
use Rattle.std.proofs.Common.{◌≡◌, ◌≢◌, ℕ, List, Bool, Result, Ok, Err, MatchResult, codes, inl, inr, refl}
use Rattle.crp_report.specs.declared.status.Status.{Status}
use Rattle.crp_report.specs.Runs.{SourceSeen}
use Rattle.crp_jobs.specs.declared.job.FileCommand.{FileCommand}
use Rattle.crp_jobs.specs.declared.outcome.ToolFault.{ToolFault}
use Rattle.crp_jobs.specs.declared.job.Job.TheVariants as job
use Rattle.crp_jobs.specs.declared.job.AbsentFiles.{AbsentFiles}
use Rattle.crp_jobs.specs.declared.job.AuditFiles.{AuditFiles}
use Rattle.crp_jobs.specs.declared.job.RunFiles.{RunFiles}
use Rattle.crp_report.specs.Chosen.{InputChosen, RunChosen}
use Rattle.crp_jobs.specs.Opened.{AreFilesLeftAlone, IsSourceLeftAlone}
use Rattle.crp_commands.specs.Absent.{AbsentReportsOverFiles, AbsentFailsOverFiles}
use Rattle.crp_commands.specs.Audit.{AuditReportsOverFiles, AuditFailsOverFiles}
use Rattle.crp_commands.specs.Solving.{RunReportsOverFiles, SolveFailsOverFiles}
use Rattle.crp_commands.specs.Performing.{ReportsOverFiles, FailsOverFiles, JobSeen, IsFrom, IsFromFile, call_of, PerformsIn, CommandFailsInCall, ReportsFile, FileFailsWith}

-- how a command ended in a call from this source
abbrev HasEnded : FileCommand → SourceSeen → JobSeen → Result Status ToolFault → Type 0
HasEnded c source seen answer = MatchResult answer (PerformsIn c (call_of source seen.out)) (CommandFailsInCall c (call_of source seen.out))

-- and over what a name stands for
abbrev HasEndedOver : List ℕ → FileCommand → JobSeen → Result Status ToolFault → Type 0
HasEndedOver name c seen answer = MatchResult answer (ReportsFile name c seen) (FileFailsWith name c seen)

from_source : (name : List ℕ) (c : FileCommand) (seen : JobSeen) (source : SourceSeen) (answer : Result Status ToolFault) → IsFrom name seen source →
    HasEnded c source seen answer → HasEndedOver name c seen answer
from_source name c seen source (Ok status) from is = (source, from, is)
from_source name c seen source (Err fault) from is = inr (source, from, is)

pub from_input : (name : List ℕ) (c : FileCommand) (seen : JobSeen) (answer : Result Status ToolFault) → name ≡ codes "-" → AreFilesLeftAlone seen.files →
    HasEnded c seen.input seen answer → HasEndedOver name c seen answer
from_input name c seen answer named alone is = from_source name c seen seen.input answer (inl (named, record { is = refl; alone = alone })) is

pub from_file : (name : List ℕ) (c : FileCommand) (seen : JobSeen) (source : SourceSeen) (answer : Result Status ToolFault) → name ≢ codes "-" →
    IsFromFile name seen source → HasEnded c source seen answer → HasEndedOver name c seen answer
from_file name c seen source answer named from is = from_source name c seen source answer (inr (named, from)) is

-- a list over files is the job that was asked for
pub absent_job : (names : AbsentFiles) (chosen : InputChosen) (seen : JobSeen) (answer : Result Status ToolFault) → IsSourceLeftAlone seen.input
    → MatchResult answer (AbsentReportsOverFiles names chosen seen.files seen.out) (AbsentFailsOverFiles names chosen seen.files seen.out)
    → MatchResult answer (ReportsOverFiles (job.Absent names chosen) seen) (FailsOverFiles (job.Absent names chosen) seen)
absent_job names chosen seen (Ok ended) alone is = (alone, is)
absent_job names chosen seen (Err f) alone is = (alone, is)

-- an audit over files is the job that was asked for
pub audit_job : (names : AuditFiles) (chosen : InputChosen) (seen : JobSeen) (answer : Result Status ToolFault) → IsSourceLeftAlone seen.input
    → MatchResult answer (AuditReportsOverFiles names chosen seen.files seen.out) (AuditFailsOverFiles names chosen seen.files seen.out)
    → MatchResult answer (ReportsOverFiles (job.Audit names chosen) seen) (FailsOverFiles (job.Audit names chosen) seen)
audit_job names chosen seen (Ok ended) alone is = (alone, is)
audit_job names chosen seen (Err f) alone is = (alone, is)

-- a run over files is the job that was asked for
pub solved_job : (names : RunFiles) (chosen : RunChosen) (quiet progress : Bool) (seen : JobSeen) (answer : Result Status ToolFault) → IsSourceLeftAlone seen.input
    → MatchResult answer (RunReportsOverFiles names chosen seen.files seen.out) (SolveFailsOverFiles names chosen seen.files seen.out)
    → MatchResult answer (ReportsOverFiles (job.Solve names chosen quiet progress) seen) (FailsOverFiles (job.Solve names chosen quiet progress) seen)
solved_job names chosen quiet progress seen (Ok ended) alone is = (alone, is)
solved_job names chosen quiet progress seen (Err f) alone is = (alone, is)
