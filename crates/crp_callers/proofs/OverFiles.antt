-- What a job over files says of the bytes of these files, and of a sink that was empty.
use Rattle.std.proofs.Common.{◌≡◌, ◌≢◌, ◌∙◌, ◌⊎◌, ◌≤◌, ℕ, Bool, List, [], Some, None, Option, Result, Ok, Err, take, subst, inl, inr}
use Rattle.std.specs.Prelude.{codes, IfSome, IsTrue, MatchOption, MatchResult, OnOk, option_map}
use Rattle.std.specs.Io.KnownBytes.{Keeps}
use denote.Ref.{Bor}
use Rattle.crp_plan.specs.Devices.{CountsMore, most_interruptions}
use Rattle.crp_sizes.specs.Sizes.{YardSizes}
use Rattle.crp_sizes.specs.Records.{IsSizesListOf}
use Rattle.crp_yard.specs.Inventory.{Inventory}
use Rattle.crp_yard.specs.Reading.{IsTextOf, IsYardListOf}
use Rattle.crp_report.specs.declared.fault.Output.TheVariants as output
use Rattle.crp_report.specs.declared.status.Status.{Status}
use Rattle.crp_report.specs.Chosen.{InputChosen, RunChosen}
use Rattle.crp_report.specs.Runs.{SinkSeen, Made, Gets, GetsFront, GetsNothing}
use Rattle.crp_audit.specs.Headline.{IsHeadline}
use Rattle.crp_headline.specs.Accepted.{handed_of}
use Rattle.crp_jobs.specs.declared.job.FileCommand.{FileCommand}
use Rattle.crp_jobs.specs.declared.job.Job.{Job}
use Rattle.crp_jobs.specs.declared.job.Job.TheVariants.{Solve}
use Rattle.crp_jobs.specs.declared.job.RunFiles.{RunFiles}
use Rattle.crp_jobs.specs.declared.outcome.ToolFault.{ToolFault}
use Rattle.crp_jobs.specs.Sized.{with_sizes}
use Rattle.crp_commands.specs.Headlines.{KeepsHeadline, KeepsHeadlineSoFar}
use Rattle.crp_commands.specs.Performing.{JobSeen, ReportsFile, ReportsOverFiles, FailsOverFiles, call_of}
use Rattle.crp_commands.specs.Sized.{AsSized, IsDone, IsFailed, behind}
use Rattle.crp_commands.specs.Solving.{AreTwo, file_of}
use Rattle.crp_separated.specs.Inputs.{comma_list_of}
use Rattle.crp_callers.specs.CommandReports.{IsReportOf, IsSizedList}
use Rattle.crp_callers.proofs.Reporting.{command_reported}
use Rattle.crp_callers.proofs.WrittenTexts.{IsFilled, got}

pub file_reported : (name : List ℕ) (command : FileCommand) (seen : JobSeen) (ended : Status) (bytes lines : List ℕ) → name ≢ codes "-"
    → seen.files.known.given name ≡ Some bytes → IsFilled seen.out lines → ReportsFile name command seen ended → IsReportOf command bytes lines
file_reported name command seen ended bytes lines file known filled (source, inl (dash, from), done) = absurd (file dash)
file_reported name command seen ended bytes lines file known filled (source, inr (other, from), done) =
    command_reported command ended bytes lines (call_of source seen.out) (record { given = from.opened.bytes ∙ known; held = filled.held; holds = filled.holds }) done.0

-- ---- a run, with the sizes of its list

-- it was done, or failed
abbrev pub Done : Status → Job → JobSeen → Type 0
Done ended j seen = ReportsOverFiles j seen ended × KeepsHeadline j seen

abbrev pub Failed : ToolFault → Job → JobSeen → Type 0
Failed f j seen = FailsOverFiles j seen f × KeepsHeadlineSoFar j seen

-- a run with these sizes, and what it saw behind its list of sizes, of which this holds; and what a list of bays of these sizes is to the run
pub record IsRunSized (names : RunFiles) (chosen : RunChosen) (quiet progress : Bool) (seen : JobSeen) (Holds : Job → JobSeen → Type 0) (name : Option (List ℕ)) : Type 0 where
  pub sizes : YardSizes
  pub failures : ℕ
  pub sized : (list : List ℕ) (yard : Inventory) → IsYardListOf sizes list yard → IsSizedList seen.files.known names.separator name chosen.input.sizes list yard
  pub holds : Holds (with_sizes sizes (Solve names chosen quiet progress)) (behind failures seen)

pub as_run : (names : RunFiles) (chosen : RunChosen) (quiet progress : Bool) (seen : JobSeen) (Holds : Job → JobSeen → Type 0)
    → AsSized (Solve names chosen quiet progress) seen Holds → IsRunSized names chosen quiet progress seen Holds (option_map (λ name. name.now) names.sizes)
as_run names chosen quiet progress seen Holds = by_name names.sizes
  where
    by_name : (o : Option (Bor (List ℕ)))
        → MatchOption {T = List ℕ × InputChosen} (option_map (λ name. (name.now, chosen.input)) o) (Holds (Solve names chosen quiet progress) seen) (λ list. (text : List ℕ) × (sizes : YardSizes) × (n : ℕ)
        × (failures : ℕ) × IsTextOf (comma_list_of names.separator (seen.files.known.given list.0)) text × IsSizesListOf list.1.sizes.common text sizes × (n ≤ most_interruptions)
        × CountsMore n seen.files.before failures × Holds (with_sizes sizes (Solve names chosen quiet progress)) (behind failures seen))
        → IsRunSized names chosen quiet progress seen Holds (option_map (λ name. name.now) o)
    by_name None holds = record { sizes = chosen.input.sizes; failures = seen.files.before; sized = λ list yard is. is; holds = holds }
    by_name (Some name) (text, sizes, n, failures, given, listed, few, counts, holds) =
        record { sizes = sizes; failures = failures; sized = λ list yard is. (text, sizes, given, listed, is); holds = holds }

-- the report of a run that was made of the files, on a sink that was empty
abbrev pub IsReported : RunFiles → RunChosen → JobSeen → List ℕ → Type 0
IsReported names chosen seen lines = (made : Made) × IsHeadline (handed_of made) × (lines ≡ made.report) × IsTextOf (comma_list_of names.separator (seen.files.known.given names.yard.now)) made.list
    × IsSizedList seen.files.known names.separator (option_map (λ name. name.now) names.sizes) chosen.input.sizes made.list made.yard

pub run_reported : (names : RunFiles) (chosen : RunChosen) (quiet progress : Bool) (seen : JobSeen) (ended : Status) (lines : List ℕ) → IsFilled seen.out lines
    → IsDone (Solve names chosen quiet progress) seen ended → IsReported names chosen seen lines
run_reported names chosen quiet progress seen ended lines filled done =
    let run = as_run names chosen quiet progress seen (Done ended) done in
    let (made, headline, written) = run.holds.1 in (
      made,
      headline,
      got seen.out lines made.report filled (subst (λ (s : SinkSeen). Gets s made.report) written.over.report (written.written output.Report)),
      subst (λ (o : Option (List ℕ)). IsTextOf o made.list) written.over.yard.bytes written.is_made.given_list,
      run.sized made.list made.yard written.is_made.listed,
    )

-- a front of that report, or nothing
abbrev pub IsReportedSoFar : RunFiles → RunChosen → JobSeen → List ℕ → Type 0
IsReportedSoFar names chosen seen lines = (lines ≡ []) ⊎ ((made : Made) × IsHeadline (handed_of made) × ((n : ℕ) × (lines ≡ take n made.report))
    × IsTextOf (comma_list_of names.separator (seen.files.known.given names.yard.now)) made.list
    × IsSizedList seen.files.known names.separator (option_map (λ name. name.now) names.sizes) chosen.input.sizes made.list made.yard)

nothing_reported : (seen : JobSeen) (lines : List ℕ) → IsFilled seen.out lines → GetsNothing seen.out → lines ≡ []
nothing_reported seen lines filled nothing =
    let kept = subst (λ (o : Option (List ℕ)). Keeps o seen.out.holds) filled.held nothing in
    subst (λ (o : Option (List ℕ)). Keeps (Some []) o) filled.holds kept

pub reported_so_far : (names : RunFiles) (chosen : RunChosen) (quiet progress : Bool) (seen : JobSeen) (f : ToolFault) (lines : List ℕ) → IsFilled seen.out lines
    → IsFailed (Solve names chosen quiet progress) seen f → IsReportedSoFar names chosen seen lines
reported_so_far names chosen quiet progress seen f lines filled (inl unsized) = inl (nothing_reported seen lines filled unsized.out.0)
reported_so_far names chosen quiet progress seen f lines filled (inr failed) =
    let run = as_run names chosen quiet progress seen (Failed f) failed in
    elim run.holds.1 [
      | inl nothing ↦ inl (nothing_reported seen lines filled nothing)
      | inr (made, headline, fronts) ↦
          let (n, gets) = subst (λ (s : SinkSeen). GetsFront s made.report) fronts.over.report (fronts.written output.Report) in inr (
            made,
            headline,
            (n, got seen.out lines (take n made.report) filled gets),
            subst (λ (o : Option (List ℕ)). IsTextOf o made.list) fronts.over.yard.bytes fronts.is_made.given_list,
            run.sized made.list made.yard fronts.is_made.listed,
          )
    ]

-- what stands under the names that were given for the outputs
pub files_left : (names : RunFiles) (chosen : RunChosen) (quiet progress : Bool) (seen : JobSeen) (answer : Result Status ToolFault) → IsTrue seen.files.known.states
    → AreTwo seen.files.known names → MatchResult answer (IsDone (Solve names chosen quiet progress) seen) (IsFailed (Solve names chosen quiet progress) seen)
    → OnOk answer ((made : Made) × IsHeadline (handed_of made)
    × IfSome (file_of names output.Certificates) (λ name. seen.files.left.given name ≡ Some made.certificates)
    × IfSome (file_of names output.YardAfter) (λ name. seen.files.left.given name ≡ Some made.yard_after))
files_left names chosen quiet progress seen (Ok ended) states two done =
    let (made, headline, written) = (as_run names chosen quiet progress seen (Done ended) done).holds.1 in
    (made, headline, written.left states two output.Certificates, written.left states two output.YardAfter)
files_left names chosen quiet progress seen (Err f) states two is = tt
