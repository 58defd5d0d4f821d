-- What a run over files promises of what it wrote: the headline.
use Rattle.std.specs.Prelude.{◌≡◌, ℕ, ◌⊎◌, List, Some, IfSome, IsTrue, take, ⊤}
use Rattle.crp_audit.specs.Headline.{IsHeadline}
use Rattle.crp_headline.specs.Accepted.{handed_of}
use Rattle.crp_report.specs.declared.fault.Output.{Output}
use Rattle.crp_report.specs.Chosen.{RunChosen}
use Rattle.crp_report.specs.Runs.{RunSeen, Made, IsMade, Gets, GetsFront, GetsNothing, sink_of, text_for}
use Rattle.crp_jobs.specs.declared.job.Job.{Job}
use Rattle.crp_jobs.specs.declared.job.Job.TheVariants as job
use Rattle.crp_jobs.specs.declared.job.RunFiles.{RunFiles}
use Rattle.crp_commands.specs.Performing.{JobSeen}
use Rattle.crp_commands.specs.Solving.{Unfinished, IsOverFiles, all_finished, unfinished_of, file_of, AreTwo, IsNotWritten}

-- what is said of a run over these files, where the job is one
abbrev pub ForRun : Job → (RunFiles → RunChosen → Type 0) → Type 0
ForRun (job.OneFile file command stop) P = ⊤
ForRun (job.Absent names settings) P = ⊤
ForRun (job.Audit names settings) P = ⊤
ForRun (job.Follow names settings) P = ⊤
ForRun (job.Compare names settings) P = ⊤
ForRun (job.Solve names chosen quiet progress) P = P names chosen

-- the texts were made of the files of these names, as far as their bytes are known; the sink of the report got the report, and the files of the
-- certificates and of the yard after got theirs where they are asked for, and nothing else. Where files state what is written to them, the file that is named
-- for the certificates then holds just these, and so does that of the yard after, where they are known to be two; and no other file has changed
pub record AreWritten (names : RunFiles) (chosen : RunChosen) (seen : JobSeen) (made : Made) : Type 0 where
  pub saw : RunSeen
  pub over : IsOverFiles seen.files names seen.out all_finished saw
  pub is_made : IsMade chosen saw made
  pub written : (each : Output) → Gets (sink_of saw each) (text_for made each)
  pub left : IsTrue seen.files.known.states → AreTwo seen.files.known names → (each : Output)
      → IfSome (file_of names each) (λ name. seen.files.left.given name ≡ Some (text_for made each))
  pub others : (other : List ℕ) → IsNotWritten seen.files.known names other → seen.files.left.given other ≡ seen.files.known.given other

-- the same, but each of them got a front of its text, and the file that is named for it holds just this front, unless it could not be finished
pub record AreFrontsWritten (names : RunFiles) (chosen : RunChosen) (seen : JobSeen) (made : Made) : Type 0 where
  pub saw : RunSeen
  pub unfinished : Unfinished
  pub over : IsOverFiles seen.files names seen.out unfinished saw
  pub is_made : IsMade chosen saw made
  pub written : (each : Output) → GetsFront (sink_of saw each) (text_for made each)
  pub left : IsTrue seen.files.known.states → AreTwo seen.files.known names → (each : Output) → unfinished_of unfinished each ≡ 0
      → IfSome (file_of names each) (λ name. (n : ℕ) × (seen.files.left.given name ≡ Some (take n (text_for made each))))
  pub others : (other : List ℕ) → IsNotWritten seen.files.known names other → seen.files.left.given other ≡ seen.files.known.given other

-- a run wrote texts of which the headline holds
abbrev pub KeepsHeadline : Job → JobSeen → Type 0
KeepsHeadline j seen = ForRun j (λ names chosen. (made : Made) × IsHeadline (handed_of made) × AreWritten names chosen seen made)

-- a run wrote fronts of texts of which the headline holds, or nothing
abbrev pub KeepsHeadlineSoFar : Job → JobSeen → Type 0
KeepsHeadlineSoFar j seen = ForRun j (λ names chosen. GetsNothing seen.out ⊎ ((made : Made) × IsHeadline (handed_of made) × AreFrontsWritten names chosen seen made))
