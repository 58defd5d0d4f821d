-- What is said of a fault of a report.
use Rattle.std.specs.Prelude.{◌≡◌, ◌⊎◌, ℕ, List, Option}
use Rattle.crp_audit.specs.declared.fault.AuditFault.{AuditFault}
use Rattle.crp_audit.specs.declared.fault.AuditFault.TheVariants as audited
use Rattle.crp_follow.specs.declared.fault.FollowFault.{FollowFault}
use Rattle.crp_follow.specs.declared.fault.FollowFault.TheVariants as followed
use Rattle.crp_loading.specs.declared.fault.LoadingFault.{LoadingFault}
use Rattle.crp_loading.specs.declared.fault.LoadingFault.TheVariants as loading
use Rattle.crp_files.specs.Known.{KnownFiles}
use Rattle.crp_jobs.specs.declared.job.Job.{Job}
use Rattle.crp_jobs.specs.declared.move_words.Wrong.{Wrong}
use Rattle.crp_jobs.specs.declared.move_words.Wrong.TheVariants as wrong
use Rattle.crp_jobs.specs.Moves.{IsMoveLine}
use Rattle.crp_jobs.specs.OtherSettings.{IsMisfitLine, IsNumbersLine}
use Rattle.crp_jobs.specs.ReportLines.{IsAuditedLine, IsFollowedLine, IsNoReportLine}

-- the line on a move that a crane cannot make: on what could be moved there, by what stands in the bay before it; or the bytes of its line
abbrev pub IsWrongLine : KnownFiles → Job → Option (List ℕ) → Wrong → ℕ → List ℕ → Type 0
IsWrongLine known j given what n line = IsMoveLine known j given what n line ⊎ IsFollowedLine given n line

-- the line on a report that cannot be followed: on its kind where it is none and begins as another kind of file does, and else on the line of its fault
abbrev pub IsFollowLine : KnownFiles → Job → Option (List ℕ) → FollowFault → List ℕ → Type 0
IsFollowLine known j given (followed.Orders n) line = IsNoReportLine given line ⊎ IsFollowedLine given n line
IsFollowLine known j given (followed.NoLine n) line = IsFollowedLine given n line
IsFollowLine known j given (followed.Count n) line = IsFollowedLine given n line
IsFollowLine known j given (followed.NoBay n) line = IsFollowedLine given n line
IsFollowLine known j given (followed.Again n) line = IsFollowedLine given n line
IsFollowLine known j given (followed.Relocations n) line = IsFollowedLine given n line
IsFollowLine known j given (followed.Lift n) line = IsWrongLine known j given wrong.Lift n line
IsFollowLine known j given (followed.Container n) line = IsWrongLine known j given wrong.Container n line
IsFollowLine known j given (followed.SetDown n) line = IsWrongLine known j given wrong.SetDown n line
IsFollowLine known j given followed.TooLong line = ⊥
IsFollowLine known j given followed.Memory line = ⊥

-- and on one that does not load the ship in its order
abbrev pub IsLoadingLine : Option (List ℕ) → LoadingFault → List ℕ → Type 0
IsLoadingLine given (loading.OutOfOrder n) line = IsFollowedLine given n line
IsLoadingLine given (loading.NotOrdered n) line = IsFollowedLine given n line
IsLoadingLine given loading.Memory line = ⊥

-- the line on one of which this line is none of a report: on its kind where it begins as another kind of file does, and else on that line
abbrev pub IsSpellingLine : Option (List ℕ) → ℕ → List ℕ → Type 0
IsSpellingLine given n line = ((n ≡ 1) × IsNoReportLine given line) ⊎ IsAuditedLine given n line

-- and on one that is audited; of faults that name no line none is said. On a move that is not legal and on numbers that are not those of the input only the
-- bytes of the line are said where the yard list, the message or the report cannot be read again
abbrev pub IsAuditLine : KnownFiles → Job → Option (List ℕ) → AuditFault → List ℕ → Type 0
IsAuditLine known j given (audited.Spelling n) line = IsSpellingLine given n line
IsAuditLine known j given audited.Numbers line = IsNumbersLine known j given line ⊎ IsAuditedLine given 1 line
IsAuditLine known j given (audited.Bay n wanted) line = IsAuditedLine given n line
IsAuditLine known j given (audited.Move n) line = IsMisfitLine known j given n line ⊎ IsAuditedLine given n line
IsAuditLine known j given (audited.Plan bay) line = ⊥
IsAuditLine known j given (audited.Certificate bay refused) line = ⊥
IsAuditLine known j given (audited.Other bay) line = ⊥
IsAuditLine known j given (audited.Lacking bay) line = ⊥
IsAuditLine known j given audited.LeftOver line = ⊥
IsAuditLine known j given audited.Closing line = ⊥
IsAuditLine known j given (audited.Outside bay) line = ⊥
IsAuditLine known j given audited.Memory line = ⊥
