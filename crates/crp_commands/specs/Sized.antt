-- A job with the sizes of its list: the list is read before anything else is opened.
use Rattle.std.specs.Prelude.{◌≡◌, ℕ, ◌+◌, ◌≤◌, ◌⊎◌, List, MatchOption, IsSomeAnd, IsTrue}
use Rattle.crp_plan.specs.Devices.{CountsMore, most_interruptions}
use Rattle.crp_sizes.specs.declared.fault.SizesFault.{SizesFault}
use Rattle.crp_sizes.specs.Fields.{IsTextOf}
use Rattle.crp_sizes.specs.Sizes.{YardSizes}
use Rattle.crp_sizes.specs.Records.{IsSizesListOf}
use Rattle.crp_sizes.specs.Reading.{ReadingFailsWith, failures_of_sizes}
use Rattle.crp_report.specs.declared.status.Status.{Status}
use Rattle.crp_report.specs.Runs.{SourceSeen}
use Rattle.crp_jobs.specs.declared.job.Job.{Job}
use Rattle.crp_jobs.specs.declared.outcome.ToolFault.{ToolFault}
use Rattle.crp_jobs.specs.declared.outcome.ToolFault.TheVariants as fault
use Rattle.crp_jobs.specs.Opened.{FilesSeen, FilesFail, AreFilesKept, IsOneRefused, IsSourceLeftAlone, IsLeftAlone}
use Rattle.crp_jobs.specs.Outcomes.{fault_of_sizes}
use Rattle.crp_jobs.specs.Sized.{list_named, separator_of, with_sizes}
use Rattle.crp_separated.specs.Inputs.{comma_list_of}
use Rattle.crp_commands.specs.Lists.{IsListOpened}
use Rattle.crp_commands.specs.Performing.{JobSeen, ReportsOverFiles, FailsOverFiles}
use Rattle.crp_commands.specs.Headlines.{KeepsHeadline, KeepsHeadlineSoFar}

-- what a job saw behind its list of sizes, when so many calls of the files had failed
abbrev pub behind : ℕ → JobSeen → JobSeen
behind failures seen = record seen { files = record seen.files { before = failures } }

-- this holds of the job and of what it saw, where it names no list of sizes; else of the job with the sizes of its list, as far as the bytes of that file are
-- known, and of what it saw behind the list, in reading which no more calls failed than may be passed over
abbrev pub AsSized : Job → JobSeen → (Job → JobSeen → Type 0) → Type 0
AsSized j seen Holds = MatchOption (list_named j) (Holds j seen) (λ list. (text : List ℕ) × (sizes : YardSizes) × (n : ℕ) × (failures : ℕ)
    × IsTextOf (comma_list_of (separator_of j) (seen.files.known.given list.0)) text × IsSizesListOf list.1.sizes.common text sizes × (n ≤ most_interruptions)
    × CountsMore n seen.files.before failures × Holds (with_sizes sizes j) (behind failures seen))

-- the list of this name, with this byte between its fields, was not read: its file cannot be opened; or it was read, and this is its fault, or memory is lacking
abbrev pub IsNoList : FilesSeen → ℕ → List ℕ → ToolFault → Type 0
IsNoList files separator name f = (IsTrue (files.known.may_not_open name) × IsOneRefused files × (f ≡ fault.ReadSizes))
    ⊎ ((list : SourceSeen) × (g : SizesFault) × IsListOpened files.known separator name list × (f ≡ fault_of_sizes g) × ReadingFailsWith list.given list.before list.after g
    × FilesFail files list.after × (list.after ≤ most_interruptions + failures_of_sizes g))

-- the list of sizes of the job was not read, for which the fault states why; and nothing else was opened, read or written
pub record IsUnsized (j : Job) (seen : JobSeen) (f : ToolFault) : Type 0 where
  pub list : IsSomeAnd (list_named j) (λ list. IsNoList seen.files (separator_of j) list.0 f)
  pub kept : AreFilesKept seen.files
  pub input : IsSourceLeftAlone seen.input
  pub out : IsLeftAlone seen.out

-- the job was done with its sizes, and of a run the headline holds
abbrev pub IsDone : Job → JobSeen → Status → Type 0
IsDone j seen ended = AsSized j seen (λ sized s. ReportsOverFiles sized s ended × KeepsHeadline sized s)

-- what a fault says of the job: it is that of its list of sizes; or the job ended so with its sizes, and of a run the headline holds as far as it wrote
abbrev pub IsFailed : Job → JobSeen → ToolFault → Type 0
IsFailed j seen f = IsUnsized j seen f ⊎ AsSized j seen (λ sized s. FailsOverFiles sized s f × KeepsHeadlineSoFar sized s)
