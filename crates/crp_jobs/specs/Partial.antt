-- A report that may end early, with its last line where that is lacking.
use Rattle.std.specs.Prelude.{◌≡◌, ℕ, Bool, true, false, List, Option, Some, None}
use Rattle.crp_yard.specs.Inventory.{Inventory}
use Rattle.crp_said.specs.Completed.{IsCompleted}
use Rattle.crp_audit.specs.Part.{first_sequence}
use Rattle.crp_jobs.specs.declared.job.Job.{Job}
use Rattle.crp_jobs.specs.declared.job.Job.TheVariants as job
use Rattle.crp_jobs.specs.Placed.{IsOfFront}

-- the reports of a job may end early
abbrev pub is_partial : Job → Bool
is_partial (job.OneFile file command stop) = false
is_partial (job.Absent names settings) = false
is_partial (job.Audit names settings) = names.partial
is_partial (job.Follow names settings) = names.partial
is_partial (job.Compare names settings) = names.partial
is_partial (job.Solve names settings quiet progress) = false

-- the report that a text is: one that may end early with its last line, of which so many bays stand there where that was lacking; and any other as it is
abbrev pub IsReportIn : Bool → List ℕ → List ℕ → Option ℕ → Type 0
IsReportIn true text report bays = IsCompleted text report bays
IsReportIn false text report bays = (report ≡ text) × (bays ≡ None)

-- the sequence that it is audited by: that of the bays that stand there, where it ends early
abbrev pub part_of : Option ℕ → Inventory → List (List ℕ) → List (List ℕ)
part_of None yard sequence = sequence
part_of (Some bays) yard sequence = first_sequence bays yard sequence

-- it is so of the report that a file has, as far as its bytes are known
abbrev pub IsOfReport : Bool → Option (List ℕ) → (List ℕ → Option ℕ → Type 0) → Type 0
IsOfReport partial given Holds =
    IsOfFront given (λ text. (report : List ℕ) × (bays : Option ℕ) × IsReportIn partial text report bays × Holds report bays)
