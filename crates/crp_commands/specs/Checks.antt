-- A check that is under way.
use Rattle.std.specs.Prelude.{◌≡◌, ◌≢◌, ℕ, ◌+◌, List, ◌++◌, length, Option}
use Rattle.std.specs.Io.KnownBytes.{Appends, Keeps, Consumes}
use Rattle.crp_plan.specs.BayNames.{YardBay}
use Rattle.crp_plan.specs.Devices.{AppendsPart, HasFailed}
use Rattle.crp_checker.specs.declared.verdict.Verdict.{Verdict}
use Rattle.crp_checker.specs.declared.refused.Refused.TheVariants as refused
use Rattle.crp_checker.specs.declared.file_checker.FileChecker.{FileChecker}
use Rattle.crp_checker.specs.FedFiles.{HasReadFile, IsEndedFront}
use Rattle.crp_jobs.specs.declared.outcome.ToolFault.{ToolFault}
use Rattle.crp_jobs.specs.declared.outcome.ToolFault.TheVariants as fault
use Rattle.crp_commands.specs.Check.{verdict_lines, IsCheckBefore, CheckFailsWith}

-- what a fault says of a text that was to be written: nothing of it was, because memory ran out, or a write has failed, after a front of it
-- that is not all of it
abbrev pub TextFailsWith : Option (List ℕ) → Option (List ℕ) → ℕ → ℕ → List ℕ → ToolFault → Type 0
TextFailsWith held holds before after text fault.Memory = Keeps held holds
TextFailsWith held holds before after text fault.Write = HasFailed before after × AppendsPart held holds text
TextFailsWith held holds before after text f = ⊥

-- the checker has read the file, this is the number of the certificate that comes next, and the lines of those that have ended were written
pub record HasChecked (held holds : Option (List ℕ)) (file : List ℕ) (verdicts : List (YardBay × Verdict)) (files : FileChecker) (number : ℕ) : Type 0 where
  pub read : HasReadFile file verdicts files
  pub next : number ≡ length verdicts + 1
  pub written : Appends held holds (verdict_lines verdicts)

-- some file was checked so
abbrev pub IsChecking : Option (List ℕ) → FileChecker → ℕ → Type 0
IsChecking holds files number = (held : Option (List ℕ)) × (file : List ℕ) × (verdicts : List (YardBay × Verdict)) × HasChecked held holds file verdicts files number

-- whatever was checked before, now this piece was too
abbrev pub ChecksPiece : List ℕ → Option (List ℕ) → FileChecker → ℕ → Option (List ℕ) → FileChecker → ℕ → Type 0
ChecksPiece piece holds files number new_holds new_files new_number =
    (held : Option (List ℕ)) (file : List ℕ) (verdicts : List (YardBay × Verdict)) → HasChecked held holds file verdicts files number →
    (new : List (YardBay × Verdict)) × HasChecked held new_holds (file ++ piece) new new_files new_number

-- the certificates that have ended in some bytes at the front of these show this
pub record AreEndedIn (bytes : List ℕ) (verdicts : List (YardBay × Verdict)) : Type 0 where
  pub read : List ℕ
  pub after : List ℕ
  pub rest : List ℕ
  pub is : bytes ≡ read ++ after
  pub front : IsEndedFront read verdicts rest

-- what a fault says of bytes that were to be checked, whatever follows them
abbrev pub BytesFailWith : Option (List ℕ) → Option (List ℕ) → ℕ → ℕ → List ℕ → ToolFault → Type 0
BytesFailWith held holds before after bytes (fault.Checked number why) = (why ≢ refused.Memory)
    × ((report : List ℕ) × ((more : List ℕ) → IsCheckBefore (bytes ++ more) number why report) × Appends held holds report)
BytesFailWith held holds before after bytes fault.Write = HasFailed before after
    × ((verdicts : List (YardBay × Verdict)) × AreEndedIn bytes verdicts × AppendsPart held holds (verdict_lines verdicts))
BytesFailWith held holds before after bytes fault.Memory =
    (verdicts : List (YardBay × Verdict)) × AreEndedIn bytes verdicts × Appends held holds (verdict_lines verdicts)
BytesFailWith held holds before after bytes f = ⊥

-- whatever was checked before, this is what a fault says of it and this piece
abbrev pub PieceFailsWith : List ℕ → Option (List ℕ) → FileChecker → ℕ → Option (List ℕ) → ℕ → ℕ → ToolFault → Type 0
PieceFailsWith piece holds files number new_holds before after f =
    (held : Option (List ℕ)) (file : List ℕ) (verdicts : List (YardBay × Verdict)) → HasChecked held holds file verdicts files number →
    BytesFailWith held new_holds before after (file ++ piece) f

-- where a check stands: what its source has left and its sink holds, its checker, the number of the certificate that comes next, and how many
-- bytes are left of the limit
pub record CheckState : Type 0 where
  pub remaining : Option (List ℕ)
  pub holds : Option (List ℕ)
  pub files : FileChecker
  pub number : ℕ
  pub left : ℕ

-- the file, whose certificates that have ended show this, was read from what the source had, and checked
pub record IsUnderWay (given held : Option (List ℕ)) (limit : ℕ) (file : List ℕ) (verdicts : List (YardBay × Verdict)) (at : CheckState) : Type 0 where
  pub checked : HasChecked held at.holds file verdicts at.files at.number
  pub consumed : Consumes given at.remaining file
  pub within : length file + at.left ≡ limit

-- some file was read and checked so
abbrev pub StandsAfter : Option (List ℕ) → Option (List ℕ) → ℕ → CheckState → Type 0
StandsAfter given held limit at = (file : List ℕ) × (verdicts : List (YardBay × Verdict)) × IsUnderWay given held limit file verdicts at

-- whatever was checked before, the check has gone on to here
abbrev pub CheckHasGoneOn : CheckState → CheckState → Type 0
CheckHasGoneOn old new = (given held : Option (List ℕ)) (limit : ℕ) → StandsAfter given held limit old → StandsAfter given held limit new

-- whatever was checked before, this is what a fault says of the check, with these counts of failures before and after
abbrev pub CheckStopsAt : CheckState → Option (List ℕ) → ℕ → ℕ → ℕ → ℕ → ToolFault → Type 0
CheckStopsAt old holds source_before source_after sink_before sink_after f =
    (given held : Option (List ℕ)) (limit : ℕ) → StandsAfter given held limit old →
    CheckFailsWith limit (record { given = given; held = held; holds = holds; source_before = source_before; source_after = source_after; sink_before = sink_before; sink_after = sink_after }) f
