-- How the program ends: what its sinks got, what it did over its files, and its exit status.
use Rattle.std.specs.Prelude.{◌≡◌, ℕ, ◌⊎◌, List, [], ◌∷◌, ◌++◌, Option, Some, None, Ok, Err, codes, string_bytes}
use Rattle.crp_plan.specs.Devices.{HasFailed}
use Rattle.crp_report.specs.declared.status.Status.{Status}
use Rattle.crp_report.specs.Runs.{SinkSeen, Gets, GetsPart}
use Rattle.crp_files.specs.Known.{KnownFiles}
use Rattle.crp_jobs.specs.declared.job.Job.{Job}
use Rattle.crp_jobs.specs.declared.outcome.ToolFault.{ToolFault}
use Rattle.crp_jobs.specs.Advice.{IsPlainLine, failed_words}
use Rattle.crp_jobs.specs.Found.{IsPlainText}
use Rattle.crp_jobs.specs.FaultLines.{IsPlacedLine}
use Rattle.crp_jobs.specs.Outcomes.{exit_code}
use Rattle.crp_jobs.specs.Opened.{AreFilesLeftAlone, IsSourceLeftAlone, IsLeftAlone}
use Rattle.crp_commands.specs.Performing.{JobSeen}
use Rattle.crp_commands.specs.Sized.{IsDone, IsFailed}
use Rattle.crp_commands.specs.Noted.{GetsLines, IsNoted}
use Rattle.crp_words.specs.declared.usage.Mistake.TheVariants as mistake
use Rattle.crp_words.specs.declared.usage.Usage.{Usage}
use Rattle.crp_words.specs.declared.usage.Usage.TheVariants as usage
use Rattle.crp_words.specs.Words.{WordsAsk, Refuses}

-- ---- lines for the user

-- what stands before the advice where a read or a write has failed, or files are one: where to look, or which they are
abbrev pub place_part : Option (List ℕ) → List ℕ
place_part None = []
place_part (Some place) = place ++ codes ": "

-- the two lines that explain what went wrong: what it is, behind `crp: `, and the advice, behind the place where a read or a write has failed, or behind the
-- names of one file
abbrev pub fault_lines : List ℕ → Option (List ℕ) → List ℕ → List ℕ
fault_lines text place advice = codes "crp: " ++ (text ++ (10 ∷ (place_part place ++ (advice ++ 10 ∷ []))))

-- the sink got the two lines of some fault and of some line of advice, with this place
abbrev pub IsExplained : Option (List ℕ) → SinkSeen → Type 0
IsExplained place s = (text : List ℕ) × (advice : List ℕ) × IsPlainLine advice × GetsLines s (fault_lines text place advice)

-- the same two lines, and a third one, on what was found
abbrev pub three_lines : List ℕ → List ℕ → List ℕ → List ℕ
three_lines text advice found = codes "crp: " ++ (text ++ (10 ∷ (advice ++ (10 ∷ (found ++ 10 ∷ [])))))

-- the sink got the two lines of some fault and of some line of advice, and this line
abbrev pub IsExplainedWith : List ℕ → SinkSeen → Type 0
IsExplainedWith found s = (text : List ℕ) × (advice : List ℕ) × IsPlainLine advice × GetsLines s (three_lines text advice found)

-- the sink got the two lines of a fault of the job, with the place where a read or a write has failed, or the names of one file; or, where there is no such
-- place, a third one, which says where in a file of the job the fault stands and what stands there, or what the file looks like, as the files are now
abbrev pub IsExplainedOf : KnownFiles → Job → ToolFault → SinkSeen → Type 0
IsExplainedOf known j f s = IsExplained (failed_words j f) s
    ⊎ ((failed_words j f ≡ None) × (found : List ℕ) × IsPlainText found × IsPlacedLine known j f found × IsExplainedWith found s)

-- ---- words that ask for nothing

-- help was shown, with status 0; or a write of it has failed, with status 5
abbrev pub HelpEnds : List ℕ → SinkSeen → SinkSeen → ℕ → Type 0
HelpEnds text out errors status = (Gets out text × IsLeftAlone errors × (status ≡ 0))
    ⊎ (GetsPart out text × HasFailed out.before out.after × IsExplained (Some (codes "look at the standard output")) errors × (status ≡ 5))

-- how the program ends whose words ask for nothing: help goes to the standard output; what is wrong with the words is written to the standard error,
-- with status 2; and so is that memory is lacking, with status 4
abbrev pub UsageEnds : Usage → SinkSeen → SinkSeen → ℕ → Type 0
UsageEnds (usage.Help text) out errors status = HelpEnds (string_bytes text) out errors status
UsageEnds (usage.Wrong (mistake.Words text)) out errors status = IsLeftAlone out × GetsLines errors (string_bytes text) × (status ≡ 2)
UsageEnds (usage.Wrong (mistake.Setting f)) out errors status = IsLeftAlone out × IsExplained None errors × (status ≡ 2)
UsageEnds usage.Memory out errors status = IsLeftAlone out × IsExplained None errors × (status ≡ 4)

-- ---- a job

-- the sink got the notes of the job, and then this
pub record BehindNotes (j : Job) (Then : SinkSeen → Type 0) (s : SinkSeen) : Type 0 where
  pub between : Option (List ℕ)
  pub failures : ℕ
  pub noted : IsNoted j (record { held = s.held; holds = between; before = s.before; after = failures })
  pub behind : Then (record { held = between; holds = s.holds; before = failures; after = s.after })

-- how the program ends that does this job: done, and then the headline holds of a run, and nothing but its notes is written to the standard error; or
-- with a fault, which is explained there behind the notes, and then the headline holds of the texts whose fronts a run wrote
abbrev pub JobEnds : Job → JobSeen → SinkSeen → ℕ → Type 0
JobEnds j seen errors status =
    ((ended : Status) × IsDone j seen ended × IsNoted j errors × (status ≡ exit_code (Ok ended)))
    ⊎ ((f : ToolFault) × IsFailed j seen f × BehindNotes j (IsExplainedOf seen.files.left j f) errors × (status ≡ exit_code (Err f)))

-- ---- the program

-- the program ends with this refusal, and neither a file nor the standard input is touched
abbrev pub EndsUntouched : Usage → JobSeen → SinkSeen → ℕ → Type 0
EndsUntouched u seen errors status = AreFilesLeftAlone seen.files × IsSourceLeftAlone seen.input × UsageEnds u seen.out errors status

-- how the program ends by these words: they ask for a job, and it is done or fails; or they ask for nothing
abbrev pub ProgramEnds : List (List ℕ) → JobSeen → SinkSeen → ℕ → Type 0
ProgramEnds words seen errors status =
    ((j : Job) × WordsAsk words j × JobEnds j seen errors status) ⊎ ((u : Usage) × Refuses words u × EndsUntouched u seen errors status)
