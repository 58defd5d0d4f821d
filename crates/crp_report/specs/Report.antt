-- The report of a run, and the texts beside it. Each line ends with LF.
use Rattle.std.specs.Prelude.{◌≡◌, ℕ, List, [], ◌∷◌, ◌++◌, length, flat_map, count_by, Option, Some, None}
use Rattle.crp_plan.specs.declared.moves.Move.{Move}
use Rattle.crp_plan.specs.Bay.{Problem, start, IsPlan, path_of}
use Rattle.crp_plan.specs.BayNames.{YardBay}
use Rattle.crp_plan.specs.Plans.{ProblemPath}
use Rattle.crp_solve.specs.declared.answer.Answer.{Answer}
use Rattle.crp_solve.specs.declared.answer.Answer.TheVariants as answer
use Rattle.crp_cert.specs.Writing.{certificate_text, first_certificate_text}
use Rattle.crp_yard.specs.Inventory.{Inventory}
use Rattle.crp_yard.specs.After.{IsAfter}
use Rattle.crp_yard.specs.Text.{yard_text}
use Rattle.crp_separated.specs.Inputs.{with_separator}
use Rattle.crp_said.specs.declared.numbers.Numbers.{Numbers}
use Rattle.crp_said.specs.Said.{counts_line, bay_line, bays_line}
use Rattle.crp_said.specs.MoveLines.{AreMoveLines}
use Rattle.crp_report.specs.Answered.{Answered, plan_in, said_by, status_of, is_decided, bay_plans}

-- the line of a bay
abbrev pub answer_line : YardBay → Answer → List ℕ
answer_line bay found = bay_line bay (said_by found)

-- the move lines of a plan: those of the complete plan with its path
abbrev pub ArePlanLines : List (List ℕ) → ProblemPath → List ℕ → Type 0
ArePlanLines names plan text = (moves : List Move) × IsPlan plan.problem moves × (path_of moves ≡ plan.path) × AreMoveLines names (start plan.problem) moves text

-- the move lines of a plan, if there is one
abbrev pub MayBePlanLines : List (List ℕ) → Option ProblemPath → List ℕ → Type 0
MayBePlanLines names None text = text ≡ []
MayBePlanLines names (Some plan) text = ArePlanLines names plan text

-- the line of a bay, and then the move lines of its plan, if there is one
abbrev pub AreBayLines : Answered → List ℕ → Type 0
AreBayLines bay text = (lines : List ℕ) × MayBePlanLines bay.stated.names (plan_in bay.solved.answer) lines × (text ≡ answer_line bay.stated.bay bay.solved.answer ++ lines)

-- the lines of bays, one bay after the other
abbrev pub AreLinesOfBays : List Answered → List ℕ → Type 0
AreLinesOfBays [] text = text ≡ []
AreLinesOfBays (bay ∷ bays) text = (first : List ℕ) × (rest : List ℕ) × AreBayLines bay first × AreLinesOfBays bays rest × (text ≡ first ++ rest)

-- how many bays are optimal or without a plan
abbrev pub decided : List Answered → ℕ
decided answered = count_by (λ bay. is_decided (status_of bay.solved.answer)) answered

-- the last line
abbrev pub last_line : List Answered → List ℕ
last_line answered = bays_line (length answered) (decided answered)

-- the report: the three numbers, the bays, and how many there are
abbrev pub IsReport : Numbers → List Answered → List ℕ → Type 0
IsReport n answered text = (lines : List ℕ) × AreLinesOfBays answered lines × (text ≡ counts_line n ++ (lines ++ last_line answered))

-- the text of the certificate of an answer to a problem, under the name of a bay: that of a first best plan claims it to be that
abbrev pub text_of : YardBay → Problem → Answer → List ℕ
text_of bay p (answer.Optimal plan cert) = certificate_text bay p cert (Some plan)
text_of bay p (answer.First plan cert) = first_certificate_text bay p cert plan
text_of bay p (answer.NoPlan cert) = certificate_text bay p cert None
text_of bay p (answer.Between lower cert plan why) = certificate_text bay p cert plan

-- the certificate of a bay
abbrev pub certificate_of : Answered → List ℕ
certificate_of bay = text_of bay.stated.bay bay.stated.problem bay.solved.answer

-- the certificates, one for each bay, in the order of the report
abbrev pub certificates_text : List Answered → List ℕ
certificates_text answered = flat_map certificate_of answered

-- the text of the yard as the plans leave it, with this byte between fields
abbrev pub IsYardTextAfter : ℕ → Inventory → List Answered → List ℕ → Type 0
IsYardTextAfter separator yard answered text = (after : Inventory) × IsAfter yard (bay_plans answered) after × (text ≡ with_separator separator (yard_text after))
