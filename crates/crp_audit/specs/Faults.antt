-- Why a report and its certificates are refused: the first fault, and the bays before it, of which all that is promised is so.
use Rattle.std.specs.Prelude.{◌≡◌, ◌≢◌, ◌⊎◌, ℕ, List, [], ◌∷◌, ◌++◌, length, map, filter, count_by, All, Option, Some, None, MatchOption, IsSome, ⊤}
use Rattle.crp_plan.specs.declared.moves.Move.{Move}
use Rattle.crp_plan.specs.Bay.{start, path_of}
use Rattle.crp_plan.specs.BayNames.{YardBay}
use Rattle.crp_yard.specs.Inventory.{StackedBay}
use Rattle.crp_order.specs.BayProblems.{ranked, is_called}
use Rattle.crp_cert.specs.declared.script.Script.{Script}
use Rattle.crp_checker.specs.declared.verdict.Verdict.{Verdict}
use Rattle.crp_checker.specs.declared.refused.Refused.TheVariants as refused
use Rattle.crp_checker.specs.AcceptedTexts.{IsAcceptedText}
use Rattle.crp_checker.specs.Verdicts.{IsVerdict}
use Rattle.crp_checker.specs.Files.{BeginsWithTexts}
use Rattle.crp_checker.specs.Refusals.{IsRefusal}
use Rattle.crp_said.specs.MoveLines.{AreMoveLines}
use Rattle.crp_said.specs.declared.said.Said.{Said}
use Rattle.crp_said.specs.declared.said.Said.TheVariants.{First, Outside}
use Rattle.crp_said.specs.declared.report.ReportFault.{ReportFault}
use Rattle.crp_said.specs.declared.report.ReportFault.TheVariants as report
use Rattle.crp_said.specs.Said.{BaySaid, bay_line, is_settled, count_said}
use Rattle.crp_said.specs.Spelled.{ReportSaid, SpellsReport, front_text, line_behind, IsMisspelled}
use Rattle.crp_audit.specs.Headline.{Handed, Reported, numbers_in, said_of, problem_in, PrintsPlan, verdict_in, IsBorneOut, IsTrueOf}
use Rattle.crp_audit.specs.Replayed.{StopsBehind}
use Rattle.crp_audit.specs.Printed.{AreOtherLines}
use Rattle.crp_audit.specs.declared.fault.AuditFault.{AuditFault}
use Rattle.crp_audit.specs.declared.fault.AuditFault.TheVariants as fault

-- ---- one bay

-- the lines are those of a plan with the relocations that are said; where none is said there are none
abbrev pub PrintsSaid : Handed → Reported → Type 0
PrintsSaid h b = MatchOption (count_said b.said) (b.lines ≡ []) (PrintsPlan h b)

-- these lines are those of legal moves, and the next one is that of no move that is legal then
abbrev pub IsWrongMove : Handed → Reported → List ℕ → Type 0
IsWrongMove h b before = StopsBehind (ranked h.sequence b.bay.1) (start (problem_in h b)) b.lines before

-- where the first plan is said, these are the moves of the certificate's
abbrev pub IsItsPlan : Said → List Move → Script → Type 0
IsItsPlan (First count) moves script = script.head.plan ≡ Some (path_of moves)
IsItsPlan said moves script = Unit {0}

-- an accepted certificate says the same as the report: it is the bay's, its verdict bears out what is said, and where the first plan is said it is
-- the printed one
pub record SaysTheSame (h : Handed) (b : Reported) (script : Script) : Type 0 where
  pub bay : script.head.bay ≡ b.bay.0
  pub verdict : (v : Verdict) × IsVerdict script v × IsBorneOut h b v
  pub plan : (moves : List Move) → AreMoveLines (ranked h.sequence b.bay.1) (start (problem_in h b)) moves b.lines → IsItsPlan b.said moves script

-- this is the next certificate
abbrev pub IsNextText : List ℕ → List ℕ → Type 0
IsNextText certificates text = (after : List ℕ) × BeginsWithTexts certificates (text ∷ []) after

-- the first fault of a bay whose name is right, behind this front of the report, where these certificates are left: in the order of its lines, then
-- as a plan, then its certificate
abbrev pub IsBayFault : Handed → Reported → List ℕ → List ℕ → AuditFault → Type 0
IsBayFault h b left front (fault.Move line) =
    IsSome (count_said b.said) × ((before : List ℕ) × IsWrongMove h b before × (line ≡ line_behind (front ++ (bay_line b.bay.0 b.said ++ before))))
IsBayFault h b left front (fault.Plan bay) = (bay ≡ b.bay.0) × AreOtherLines (ranked h.sequence b.bay.1) (problem_in h b) b.lines (count_said b.said)
IsBayFault h b left front (fault.Lacking bay) = (bay ≡ b.bay.0) × PrintsSaid h b × (left ≡ [])
IsBayFault h b left front (fault.Certificate bay why) =
    (bay ≡ b.bay.0) × PrintsSaid h b × (why ≢ refused.Memory) × ((text : List ℕ) × IsNextText left text × IsRefusal (Some (problem_in h b)) text why)
IsBayFault h b left front (fault.Other bay) =
    (bay ≡ b.bay.0) × PrintsSaid h b
    × ((text : List ℕ) × (script : Script) × IsNextText left text × IsAcceptedText (Some (problem_in h b)) text script × ¬ SaysTheSame h b script)
IsBayFault h b left front f = ⊥

-- nothing is claimed of the bay: its moves are said to be outside the rule
abbrev pub IsOutside : Said → Type 0
IsOutside (Outside count) = ⊤
IsOutside said = ⊥

-- the first fault of a bay whose name is right and of which this is said: that nothing is claimed of it, before all others
abbrev pub IsFaultOf : Said → Handed → Reported → List ℕ → List ℕ → AuditFault → Type 0
IsFaultOf (Outside count) h b left front f = f ≡ fault.Outside b.bay.0
IsFaultOf said h b left front f = IsBayFault h b left front f

-- ---- all bays

-- the fault of a text that is no report
abbrev pub of_spelling : ReportFault → AuditFault
of_spelling (report.Line line) = fault.Spelling line
of_spelling report.Memory = fault.Memory

-- a bay of the yard with what is said of it, and its certificate
abbrev pub reported_as : StackedBay → BaySaid → List ℕ → Reported
reported_as bay s text = record { bay = bay; said = s.said; lines = s.lines; certificate = text }

-- the name of the next bay, if there is one
abbrev pub next_called : List StackedBay → Option YardBay
next_called [] = None
next_called (bay ∷ later) = Some bay.0

abbrev pub next_said : List BaySaid → Option YardBay
next_said [] = None
next_said (s ∷ more) = Some s.bay

-- the last line counts the bays and those that are settled
abbrev pub CountsRight : ReportSaid → Type 0
CountsRight r = (r.count ≡ length r.bays) × (r.settled ≡ count_by (λ s. is_settled s.said) r.bays)

-- the first fault behind bays that are right, where these bays of the yard are still to come, this is said of further bays, these certificates are
-- left, and this front of the report is behind
abbrev pub IsNextFault : Handed → ReportSaid → List StackedBay → List BaySaid → List ℕ → List ℕ → AuditFault → Type 0
IsNextFault h r later more left front (fault.Bay line wanted) =
    (line ≡ line_behind front) × (wanted ≡ next_called later) × (next_said more ≢ next_called later)
IsNextFault h r [] [] left front fault.LeftOver = left ≢ []
IsNextFault h r [] [] left front fault.Closing = (left ≡ []) × ¬ CountsRight r
IsNextFault h r [] more left front f = ⊥
IsNextFault h r (bay ∷ later) [] left front f = ⊥
IsNextFault h r (bay ∷ later) (s ∷ more) left front f = (s.bay ≡ bay.0) × IsFaultOf s.said h (reported_as bay s []) left front f

-- these bays come first, of the yard, in the report and by their certificates, and all that is promised of them is so
pub record ComeFirst (h : Handed) (r : ReportSaid) (before : List Reported) : Type 0 where
  pub later : List StackedBay
  pub more : List BaySaid
  pub left : List ℕ
  pub called : filter (is_called h.sequence) h.yard.bays ≡ map (λ b. b.bay) before ++ later
  pub bays : r.bays ≡ map said_of before ++ more
  pub certificates : BeginsWithTexts h.certificates (map (λ b. b.certificate) before) left
  pub each_true : All (IsTrueOf h) before

-- and then comes the fault
pub record IsFaultBehind (h : Handed) (r : ReportSaid) (before : List Reported) (f : AuditFault) : Type 0 where
  pub first : ComeFirst h r before
  pub next : IsNextFault h r first.later first.more first.left (front_text r.numbers (map said_of before)) f

-- the report is spelled as one, it has the three numbers, and the fault comes behind these bays
abbrev pub IsFaultIn : Handed → List Reported → AuditFault → Type 0
IsFaultIn h before f = (r : ReportSaid) × SpellsReport h.report r × (r.numbers ≡ numbers_in h) × IsFaultBehind h r before f

-- the bays that are right so far: none, or the first ones, where the report is spelled as one and has the three numbers
abbrev pub AreRightFirst : Handed → List Reported → Type 0
AreRightFirst h before = (before ≡ []) ⊎ ((r : ReportSaid) × SpellsReport h.report r × (r.numbers ≡ numbers_in h) × ComeFirst h r before)

-- the first fault of what is handed in, and the bays before it. All of the report is read before any of it is looked at. That memory is wanting is no
-- fault of it
abbrev pub IsFirstFault : Handed → List Reported → AuditFault → Type 0
IsFirstFault h before (fault.Spelling line) = (before ≡ []) × IsMisspelled h.report line
IsFirstFault h before fault.Numbers =
    (before ≡ []) × ((r : ReportSaid) × SpellsReport h.report r × (r.numbers ≢ numbers_in h))
IsFirstFault h before fault.Memory = AreRightFirst h before
IsFirstFault h before f = IsFaultIn h before f

-- the verdicts on these bays
abbrev pub verdicts_of : (h : Handed) → List Reported → List (YardBay × Verdict)
verdicts_of h bays = map (λ b. (b.bay.0, verdict_in h b)) bays

-- this is shown of bays that are right so far
abbrev pub ShowsFirst : Handed → List (YardBay × Verdict) → Type 0
ShowsFirst h shown = (before : List Reported) × (shown ≡ verdicts_of h before) × AreRightFirst h before

-- why it is refused, and what the bays before show
pub record IsAuditRefusal (h : Handed) (shown : List (YardBay × Verdict)) (f : AuditFault) : Type 0 where
  pub before : List Reported
  pub shown_is : shown ≡ verdicts_of h before
  pub first : IsFirstFault h before f
