-- What a report and a file of certificates promise of each bay of a yard, whoever made them. The problem of a bay and its legal moves are those of
-- crp_plan's Bay, the lines of moves those of crp_said's MoveLines, the text of a report that of crp_said's Said, and what the checker accepts that of
-- crp_checker's Shown.
use Rattle.std.specs.Prelude.{◌≡◌, ℕ, ◌≤◌, ◌==◌, List, [], length, map, filter, All, Option, Some, None, MatchOption, if◌then◌else◌}
use Rattle.crp_plan.specs.declared.moves.Move.{Move}
use Rattle.crp_plan.specs.Bay.{Problem, cap, start, IsPlan, path_of, relocations}
use Rattle.crp_plan.specs.BayNames.{YardBay}
use Rattle.crp_tree.specs.First.{IsFirstBest}
use Rattle.crp_sizes.specs.Sizes.{heights_at}
use Rattle.crp_yard.specs.Inventory.{Inventory, StackedBay}
use Rattle.crp_movins.specs.LoadOrders.{LoadOrders}
use Rattle.crp_order.specs.BayProblems.{leaving, ranked, problem_of, is_called, absent_of}
use Rattle.crp_cert.specs.declared.script.Script.{Script}
use Rattle.crp_checker.specs.declared.verdict.Verdict.{Verdict}
use Rattle.crp_checker.specs.declared.verdict.Verdict.TheVariants as verdict
use Rattle.crp_checker.specs.AcceptedTexts.{IsAcceptedText}
use Rattle.crp_checker.specs.Verdicts.{IsVerdict}
use Rattle.crp_checker.specs.Files.{BeginsWithTexts}
use Rattle.crp_said.specs.declared.numbers.Numbers.{Numbers}
use Rattle.crp_said.specs.declared.said.SaidCause.TheVariants as cause
use Rattle.crp_said.specs.declared.said.Said.{Said}
use Rattle.crp_said.specs.declared.said.Said.TheVariants.{Optimal, First, NoPlan, Between, Outside}
use Rattle.crp_said.specs.MoveLines.{AreMoveLines}
use Rattle.crp_said.specs.TakeLines.{taken_in}
use Rattle.crp_said.specs.Said.{BaySaid, report_text}

-- what is handed in: what stands in the yard, the load orders, the sequence in which the ordered containers leave, and two texts, whoever made them
pub record Handed : Type 0 where
  pub yard : Inventory
  pub orders : LoadOrders
  pub sequence : List (List ℕ)
  pub report : List ℕ
  pub certificates : List ℕ

abbrev pub handed : Inventory → LoadOrders → List (List ℕ) → List ℕ → List ℕ → Handed
handed yard orders sequence report certificates =
    record { yard = yard; orders = orders; sequence = sequence; report = report; certificates = certificates }

-- its three numbers: the load orders, the loading groups without a container, and the ordered containers that are not in the yard
abbrev pub numbers_in : Handed → Numbers
numbers_in h = record { orders = length h.orders.list; vacant = h.orders.vacant; absent = absent_of h.yard h.sequence }

-- a bay of the report: the bay as it stands in the yard, what the report says of its fewest relocations, the lines of its moves, and its certificate
pub record Reported : Type 0 where
  pub bay : StackedBay
  pub said : Said
  pub lines : List ℕ
  pub certificate : List ℕ

-- what the report says of it
abbrev pub said_of : Reported → BaySaid
said_of b = record { bay = b.bay.0; said = b.said; lines = b.lines }

-- its problem: its rows have the heights that the yard has for the bay, and the containers of the sequence that stand in it are to leave, in the order of the sequence
abbrev pub problem_in : Handed → Reported → Problem
problem_in h b = problem_of (heights_at h.yard.sizes b.bay.0) h.sequence b.bay.1

-- the printed lines are those of a complete plan, with so many relocations, and its take lines name the containers of the sequence that stand in
-- the bay, in the order of the sequence
pub record PrintsPlan (h : Handed) (b : Reported) (count : ℕ) : Type 0 where
  pub moves : List Move
  pub complete : IsPlan (problem_in h b) moves
  pub printed : AreMoveLines (ranked h.sequence b.bay.1) (start (problem_in h b)) moves b.lines
  pub counted : relocations moves ≡ count
  pub in_order : taken_in b.lines ≡ leaving h.sequence b.bay.1

-- no complete plan has fewer relocations
abbrev pub NoneHasFewer : Handed → Reported → ℕ → Type 0
NoneHasFewer h b count = (moves : List Move) → IsPlan (problem_in h b) moves → count ≤ relocations moves

-- it is the first best plan: no complete plan has fewer relocations, and of those with as many none has a path that comes before its own
pub record PrintsFirst (h : Handed) (b : Reported) (count : ℕ) : Type 0 where
  pub plan : PrintsPlan h b count
  pub first : IsFirstBest (problem_in h b) (path_of plan.moves)

-- there is no complete plan
abbrev pub NoneThere : Handed → Reported → Type 0
NoneThere h b = (moves : List Move) → IsPlan (problem_in h b) moves → ⊥

-- what is said is so. `optimal`: the printed plan has so many relocations, and no plan has fewer. `optimal .. first`: the same, and the printed plan
-- is the first best one. `no plan`: there is none. `between`, for whatever cause: no plan has fewer than the lower number, and the printed plan, if
-- there is one, has as many as the upper one. `outside the rule`: nothing is promised of such a bay, so no headline has one
abbrev pub IsSo : Handed → Reported → Said → Type 0
IsSo h b (Optimal count) = PrintsPlan h b count × NoneHasFewer h b count
IsSo h b (First count) = PrintsFirst h b count × NoneHasFewer h b count
IsSo h b NoPlan = NoneThere h b × (b.lines ≡ [])
IsSo h b (Between lower upper why) = NoneHasFewer h b lower × MatchOption upper (b.lines ≡ []) (PrintsPlan h b)
IsSo h b (Outside count) = ⊥

-- what a lower bound, the cap and the relocations of a plan, if there is one, show
abbrev pub shown_by : ℕ → ℕ → Option ℕ → Verdict
shown_by lower most None = if lower == most then verdict.NoPlan else verdict.Bounds lower None
shown_by lower most (Some count) =
    if count == lower then verdict.Optimal lower else (if lower == most then verdict.NoPlan else verdict.Bounds lower (Some count))

-- the verdict on a problem with this cap that says the same as the report. On a bay that was left open these are its bounds; where memory ran out,
-- what its bounds show, since they may meet; where its moves were edited, its bounds, also where they meet, since the certificate may have another plan;
-- and where they are outside the rule, bounds that say nothing
abbrev pub verdict_said : ℕ → Said → Verdict
verdict_said most (Optimal count) = verdict.Optimal count
verdict_said most (First count) = verdict.First count
verdict_said most NoPlan = verdict.NoPlan
verdict_said most (Between lower upper cause.Budget) = verdict.Bounds lower upper
verdict_said most (Between lower upper cause.Memory) = shown_by lower most upper
verdict_said most (Between lower upper cause.Time) = verdict.Bounds lower upper
verdict_said most (Between lower upper cause.Edited) = verdict.Bounds lower upper
verdict_said most (Outside count) = verdict.Bounds 0 (Some count)

-- the lower bound that a verdict has: that there is no plan is none
abbrev pub lower_shown : Verdict → Option ℕ
lower_shown (verdict.Optimal count) = Some count
lower_shown (verdict.First count) = Some count
lower_shown (verdict.Bounds lower upper) = Some lower
lower_shown verdict.NoPlan = None

-- a certificate with this verdict bears out what is said on a problem with this cap: its verdict says the same; but where the moves were edited, it may
-- be the certificate of another plan, and its verdict has the lower bound that is said. Of moves outside the rule none bears out anything
abbrev pub BearsOut : ℕ → Said → Verdict → Type 0
BearsOut most (Optimal count) v = v ≡ verdict_said most (Optimal count)
BearsOut most (First count) v = v ≡ verdict_said most (First count)
BearsOut most NoPlan v = v ≡ verdict_said most NoPlan
BearsOut most (Between lower upper cause.Budget) v = v ≡ verdict_said most (Between lower upper cause.Budget)
BearsOut most (Between lower upper cause.Memory) v = v ≡ verdict_said most (Between lower upper cause.Memory)
BearsOut most (Between lower upper cause.Time) v = v ≡ verdict_said most (Between lower upper cause.Time)
BearsOut most (Between lower upper cause.Edited) v = lower_shown v ≡ Some lower
BearsOut most (Outside count) v = ⊥

-- the text is an accepted certificate of the bay of this name and of this problem, and this is what it shows
abbrev pub IsShownOf : YardBay → Problem → List ℕ → Verdict → Type 0
IsShownOf bay p text v = (script : Script) × IsAcceptedText (Some p) text script × (script.head.bay ≡ bay) × IsVerdict script v

-- the verdict on a bay that says the same as the report
abbrev pub verdict_in : Handed → Reported → Verdict
verdict_in h b = verdict_said (cap (problem_in h b)) b.said

-- a certificate with this verdict bears out what is said of the bay
abbrev pub IsBorneOut : Handed → Reported → Verdict → Type 0
IsBorneOut h b v = BearsOut (cap (problem_in h b)) b.said v

-- what the report says of a bay is so, and the checker accepts its certificate, for the bay of this name and its problem, with a verdict that bears
-- out what is said
pub record IsTrueOf (h : Handed) (b : Reported) : Type 0 where
  pub so : IsSo h b b.said
  pub certified : Verdict
  pub borne_out : IsBorneOut h b certified
  pub shown : IsShownOf b.bay.0 (problem_in h b) b.certificate certified

-- the report is a line of three numbers, the lines of the bays from which a container of the sequence leaves, in the yard's order, and a line that
-- counts them; the certificates are theirs, in that order, and no others; and what is said of each is so
pub record IsHeadline (h : Handed) : Type 0 where
  pub bays : List Reported
  pub called : map (λ b. b.bay) bays ≡ filter (is_called h.sequence) h.yard.bays
  pub report : h.report ≡ report_text (numbers_in h) (map said_of bays)
  pub certificates : BeginsWithTexts h.certificates (map (λ b. b.certificate) bays) []
  pub each_true : All (IsTrueOf h) bays

-- the bays with their verdicts, as a headline has them: what is printed of it
abbrev pub shown_in : (h : Handed) → IsHeadline h → List (YardBay × Verdict)
shown_in h is = map (λ b. (b.bay.0, verdict_in h b)) is.bays
