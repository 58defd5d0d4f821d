-- How a report is spelled, whoever wrote it, and the first line that is not as said.
use Rattle.std.specs.Prelude.{◌≡◌, ◌≢◌, ◌⊎◌, ℕ, ◌+◌, ◌≤◌, ◌==◌, List, [], ◌∷◌, ◌++◌, flat_map, count_by, IfSome, IsTrue}
use Rattle.std.specs.List.{AllByRecursion}
use Rattle.crp_plan.specs.BayNames.{YardBay, IsYardBay}
use Rattle.crp_yard.specs.Records.{is_container}
use Rattle.crp_said.specs.declared.numbers.Numbers.{Numbers}
use Rattle.crp_said.specs.declared.said.Said.{Said}
use Rattle.crp_said.specs.declared.said.Said.TheVariants.{Optimal, First, NoPlan, Between, Outside}
use Rattle.crp_said.specs.declared.moves.Place.{Place}
use Rattle.crp_said.specs.declared.moves.SaidMove.{SaidMove}
use Rattle.crp_said.specs.declared.moves.SaidMove.TheVariants.{Shift, Take}
use Rattle.crp_said.specs.Said.{counts_line, words_of_bay, bays_line, BaySaid, bay_text}

-- the most that a number of a report can be
abbrev pub most : ℕ
most = 4294967295

-- numbers that can be read
pub record AreSmall (n : Numbers) : Type 0 where
  pub orders : n.orders ≤ most
  pub vacant : n.vacant ≤ most
  pub absent : n.absent ≤ most

abbrev pub IsSmall : Said → Type 0
IsSmall (Optimal count) = count ≤ most
IsSmall (First count) = count ≤ most
IsSmall NoPlan = Unit {0}
IsSmall (Between lower upper why) = (lower ≤ most) × IfSome upper (λ count. count ≤ most)
IsSmall (Outside count) = count ≤ most

-- a place whose numbers can be read
abbrev pub IsSmallPlace : Place → Type 0
IsSmallPlace p = (p.row ≤ most) × (p.tier ≤ most)

-- a move that a line can state: of a container whose name has 1 to 35 bytes from 0x20 to 0xFF
abbrev pub CanBeStated : SaidMove → Type 0
CanBeStated (Shift from to container) = IsSmallPlace from × IsSmallPlace to × IsTrue (is_container container)
CanBeStated (Take from container) = IsSmallPlace from × IsTrue (is_container container)

-- a line of a bay's moves without its LF: it has some bytes, and does not begin with the letter b
pub record IsMoveBody (body : List ℕ) : Type 0 where
  pub first : ℕ
  pub rest : List ℕ
  pub is : body ≡ first ∷ rest
  pub other : first ≢ 98
  pub one_line : AllByRecursion (λ b. b ≢ 10) body

abbrev pub ended : List ℕ → List ℕ
ended body = body ++ 10 ∷ []

-- such lines, one after the other
pub record AreMoves (text : List ℕ) : Type 0 where
  pub bodies : List (List ℕ)
  pub each : AllByRecursion IsMoveBody bodies
  pub is : text ≡ flat_map ended bodies

-- what can be said of a bay
pub record IsSayable (b : BaySaid) : Type 0 where
  pub named : IsYardBay b.bay
  pub small : IsSmall b.said
  pub lines : AreMoves b.lines

-- what a report says as it is spelled: three numbers, the bays, and the two numbers of the last line
pub record ReportSaid : Type 0 where
  pub numbers : Numbers
  pub bays : List BaySaid
  pub count : ℕ
  pub settled : ℕ

pub record IsReportSaid (r : ReportSaid) : Type 0 where
  pub numbers : AreSmall r.numbers
  pub bays : AllByRecursion IsSayable r.bays
  pub count : r.count ≤ most
  pub settled : r.settled ≤ most

-- the first line and the bays
abbrev pub front_text : Numbers → List BaySaid → List ℕ
front_text n bays = counts_line n ++ flat_map bay_text bays

abbrev pub spelled : ReportSaid → List ℕ
spelled r = front_text r.numbers r.bays ++ bays_line r.count r.settled

-- the text spells this
abbrev pub SpellsReport : List ℕ → ReportSaid → Type 0
SpellsReport text r = IsReportSaid r × (text ≡ spelled r)

-- the number of the line that stands behind these bytes, from 1
abbrev pub line_behind : List ℕ → ℕ
line_behind front = 1 + count_by (λ b. b == 10) front

-- what a line can be, by its bytes without its LF: that of the three numbers
abbrev pub IsOrdersLine : List ℕ → Type 0
IsOrdersLine line = (n : Numbers) × AreSmall n × (ended line ≡ counts_line n)

-- that of a bay
abbrev pub IsBayLine : List ℕ → Type 0
IsBayLine line = (bay : YardBay) × (said : Said) × IsYardBay bay × IsSmall said × (line ≡ words_of_bay bay said)

-- a last line, whatever it counts
abbrev pub IsLastLine : List ℕ → Type 0
IsLastLine line = (count : ℕ) × (settled : ℕ) × (count ≤ most) × (settled ≤ most) × (ended line ≡ bays_line count settled)

-- the text begins with such a line
abbrev pub BeginsWithLine : (List ℕ → Type 0) → List ℕ → Type 0
BeginsWithLine P text = (line : List ℕ) × (rest : List ℕ) × P line × (text ≡ line ++ 10 ∷ rest)

-- the lines before this one are a first line and those of bays, and this one is none that may follow
pub record StopsAtLine (text : List ℕ) (line : ℕ) : Type 0 where
  pub numbers : Numbers
  pub bays : List BaySaid
  pub rest : List ℕ
  pub small : AreSmall numbers
  pub sayable : AllByRecursion IsSayable bays
  pub is : text ≡ front_text numbers bays ++ rest
  pub line_is : line ≡ line_behind (front_text numbers bays)
  pub no_bay : ¬ BeginsWithLine IsBayLine rest
  pub no_move : bays ≢ [] → ¬ BeginsWithLine IsMoveBody rest
  pub no_last : ¬ BeginsWithLine IsLastLine rest

-- bytes follow the last line of a report
pub record GoesOnBehind (text : List ℕ) (line : ℕ) : Type 0 where
  pub report : ReportSaid
  pub more : List ℕ
  pub is_report : IsReportSaid report
  pub is : text ≡ spelled report ++ more
  pub some : more ≢ []
  pub line_is : line ≡ line_behind (spelled report)

-- the first line of a text that is not as said
abbrev pub IsMisspelled : List ℕ → ℕ → Type 0
IsMisspelled text line = ((line ≡ 1) × ¬ BeginsWithLine IsOrdersLine text) ⊎ (StopsAtLine text line ⊎ GoesOnBehind text line)
