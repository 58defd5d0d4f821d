-- How far the texts of a run are written where it ends before all of them are: the certificates keep step with the lines of the bays.
use Rattle.std.specs.Prelude.{◌≡◌, ◌<◌, ◌⊎◌, ℕ, List, [], ◌∷◌, ◌++◌, length, take, Some}
use Rattle.crp_report.specs.declared.fault.Fault.{Fault}
use Rattle.crp_report.specs.declared.fault.Fault.TheVariants as fault
use Rattle.crp_report.specs.declared.fault.Output.{Output}
use Rattle.crp_report.specs.declared.fault.Output.TheVariants as output
use Rattle.crp_report.specs.Answered.{Answered}
use Rattle.crp_report.specs.Chosen.{RunChosen}
use Rattle.crp_report.specs.Report.{AreBayLines, AreLinesOfBays, last_line, certificate_of, certificates_text}
use Rattle.crp_report.specs.Runs.{RunSeen, Made, IsMade, first_line}

-- a run over these two texts makes this
abbrev pub IsMadeOf : RunChosen → List ℕ → List ℕ → Made → Type 0
IsMadeOf chosen yard movins m = (seen : RunSeen) × (seen.yard.given ≡ Some yard) × (seen.movins.given ≡ Some movins) × IsMade chosen seen m

-- the first line of the report
abbrev pub front : Made → List ℕ
front m = first_line m.yard m.orders m.sequence

-- what the report has behind some bays: the lines of the next one, or the last line where these are left
abbrev pub IsNext : Made → List Answered → List ℕ → Type 0
IsNext m [] text = text ≡ last_line m.answered
IsNext m (bay ∷ left) text = AreBayLines bay text

-- the report has its first line, the lines of some bays, and a front of what comes next; and the certificates are those of these bays, each whole
pub record HaveBays (m : Made) (report certificates : List ℕ) : Type 0 where
  pub done : List Answered
  pub left : List Answered
  pub answered_are : m.answered ≡ done ++ left
  pub lines : List ℕ
  pub are_lines : AreLinesOfBays done lines
  pub next : List ℕ
  pub is_next : IsNext m left next
  pub taken : ℕ
  pub report_is : report ≡ front m ++ (lines ++ take taken next)
  pub certificates_are : certificates ≡ certificates_text done

-- so it is, or the report has a front of its first line, and there is no certificate
abbrev pub AreInStep : Made → List ℕ → List ℕ → Type 0
AreInStep m report certificates = ((n : ℕ) × (report ≡ take n (front m)) × (certificates ≡ [])) ⊎ HaveBays m report certificates

-- the certificates end within that of a bay, whose lines are the last that the report has
pub record EndWithinCertificate (m : Made) (report certificates : List ℕ) : Type 0 where
  pub done : List Answered
  pub bay : Answered
  pub left : List Answered
  pub answered_are : m.answered ≡ done ++ bay ∷ left
  pub lines : List ℕ
  pub are_lines : AreLinesOfBays done lines
  pub last : List ℕ
  pub are_last : AreBayLines bay last
  pub taken : ℕ
  pub not_all : taken < length (certificate_of bay)
  pub report_is : report ≡ front m ++ (lines ++ last)
  pub certificates_are : certificates ≡ certificates_text done ++ take taken (certificate_of bay)

-- how far the writing came that stopped within the text for this sink
abbrev pub StopsWithin : Output → Made → List ℕ → List ℕ → Type 0
StopsWithin output.Report m report certificates = AreInStep m report certificates
StopsWithin output.Certificates m report certificates = EndWithinCertificate m report certificates
StopsWithin output.YardAfter m report certificates = (report ≡ m.report) × (certificates ≡ certificates_text m.answered)

abbrev pub AreEmpty : List ℕ → List ℕ → Type 0
AreEmpty report certificates = (report ≡ []) × (certificates ≡ [])

-- the report and the certificates of a run over these two texts that ended for this fault
abbrev pub EndsFor : RunChosen → List ℕ → List ℕ → Fault → List ℕ → List ℕ → Type 0
EndsFor chosen yard movins (fault.Write sink) report certificates = (m : Made) × IsMadeOf chosen yard movins m × StopsWithin sink m report certificates
EndsFor chosen yard movins fault.Memory report certificates =
    AreEmpty report certificates ⊎ ((m : Made) × IsMadeOf chosen yard movins m × AreInStep m report certificates)
EndsFor chosen yard movins f report certificates = AreEmpty report certificates
