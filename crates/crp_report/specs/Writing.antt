-- What the three sinks of a run got of pieces, and what a run makes and writes of its bays. Only private clauses speak of it.
use Rattle.std.specs.Prelude.{◌≡◌, ℕ, ◌+◌, ◌≤◌, List, [], ◌∷◌, ◌++◌, length, Option}
use Rattle.std.specs.Io.KnownBytes.{Appends}
use Rattle.crp_plan.specs.Devices.{HasFailed, most_interruptions}
use Rattle.crp_yard.specs.Inventory.{Inventory}
use Rattle.crp_yard.specs.After.{IsAfter}
use Rattle.crp_yard.specs.Text.{yard_text}
use Rattle.crp_separated.specs.Inputs.{with_separator}
use Rattle.crp_yard.specs.declared.bay_plan.BayPlan.{BayPlan}
use Rattle.crp_order.specs.declared.bay_problem.BayProblem.{BayProblem}
use Rattle.crp_said.specs.Said.{bays_line}
use Rattle.crp_solve.specs.Solved.{IsSolved}
use Rattle.crp_solve.specs.Chosen.{Chosen}
use Rattle.crp_solve.specs.declared.answer.Solved.{Solved}
use Rattle.crp_report.specs.declared.fault.Fault.{Fault}
use Rattle.crp_report.specs.declared.fault.Fault.TheVariants as fault
use Rattle.crp_report.specs.declared.fault.Output.{Output}
use Rattle.crp_report.specs.declared.fault.Output.TheVariants as output
use Rattle.crp_report.specs.declared.kept.BaysDone.{BaysDone}
use Rattle.crp_report.specs.declared.writing.RunSinks.{RunSinks}
use Rattle.crp_report.specs.Answered.{Answered, AreTrueAnswers, bay_plans, status_of_all}
use Rattle.crp_report.specs.Report.{decided, IsYardTextAfter}
use Rattle.crp_report.specs.Pieces.{Piece, piece, bytes_for, AreBayPieces, ArePieces, Stop, wanted, written}

-- what a sink holds, and its count of failures
pub record SinkNow : Type 0 where
  pub holds : Option (List ℕ)
  pub failures : ℕ

-- the three sinks of a run, and how many interruptions it has passed over
pub record Sinks : Type 0 where
  pub report : SinkNow
  pub certificates : SinkNow
  pub yard_after : SinkNow
  pub passed : ℕ

-- so it is by what the value of each sink states
abbrev pub sinks_of : {W C A : Type 0} → (W → Option (List ℕ)) → (W → ℕ) → (C → Option (List ℕ)) → (C → ℕ) → (A → Option (List ℕ)) → (A → ℕ) → RunSinks W C A → Sinks
sinks_of report report_failures certificates certificates_failures yard_after yard_after_failures s = record {
  report = record { holds = report s.report.now; failures = report_failures s.report.now };
  certificates = record { holds = certificates s.certificates.now; failures = certificates_failures s.certificates.now };
  yard_after = record { holds = yard_after s.yard_after.now; failures = yard_after_failures s.yard_after.now };
  passed = s.interruptions;
}

-- and by what the values of three sinks that stand alone state
abbrev pub sinks_at : {W C A : Type 0} → (W → Option (List ℕ)) → (W → ℕ) → (C → Option (List ℕ)) → (C → ℕ) → (A → Option (List ℕ)) → (A → ℕ) → W → C → A → ℕ → Sinks
sinks_at report report_failures certificates certificates_failures yard_after yard_after_failures w c a passed = record {
  report = record { holds = report w; failures = report_failures w };
  certificates = record { holds = certificates c; failures = certificates_failures c };
  yard_after = record { holds = yard_after a; failures = yard_after_failures a };
  passed = passed;
}

-- they are the same sinks as before
pub record AreSameSinks {W C A : Type 0} (before after : RunSinks W C A) : Type 0 where
  pub report : after.report.ghost_name ≡ before.report.ghost_name
  pub certificates : after.certificates.ghost_name ≡ before.certificates.ghost_name
  pub yard_after : after.yard_after.ghost_name ≡ before.yard_after.ghost_name

abbrev pub sink_now : Sinks → Output → SinkNow
sink_now s output.Report = s.report
sink_now s output.Certificates = s.certificates
sink_now s output.YardAfter = s.yard_after

abbrev pub failures_of_sinks : Sinks → ℕ
failures_of_sinks s = s.report.failures + (s.certificates.failures + s.yard_after.failures)

-- from before to after each sink got its bytes of these pieces, and nothing else; the calls that failed are no more than the interruptions that were
-- passed over, and so many besides
pub record SinksGet (pieces : List Piece) (besides : ℕ) (before after : Sinks) : Type 0 where
  pub got : (each : Output) → Appends (sink_now before each).holds (sink_now after each).holds (bytes_for each pieces)
  pub grown : (each : Output) → (sink_now before each).failures ≤ (sink_now after each).failures
  pub counted : failures_of_sinks after + before.passed ≤ failures_of_sinks before + after.passed + besides
  pub few : after.passed ≤ most_interruptions

-- the pieces were written
abbrev pub Writes : List Piece → Sinks → Sinks → Type 0
Writes pieces before after = SinksGet pieces 0 before after

-- the writing of these pieces ended before the last of them, for this fault: within a piece whose write failed, or between two pieces, for want of
-- memory
abbrev pub StopsWith : List Piece → Sinks → Sinks → Fault → Type 0
StopsWith pieces before after (fault.Write sink) = (stop : Stop) × (pieces ≡ wanted stop) × (stop.failed.to ≡ sink) × SinksGet (written stop) 1 before after
    × HasFailed (sink_now before sink).failures (sink_now after sink).failures
StopsWith pieces before after fault.Memory = (done : List Piece) × (behind : List Piece) × (pieces ≡ done ++ behind) × Writes done before after
StopsWith pieces before after f = ⊥

-- the pieces of answered bays were written, or not all of them, for this fault
abbrev pub WritesAnswers : List Answered → Sinks → Sinks → Type 0
WritesAnswers answered before after = (pieces : List Piece) × AreBayPieces answered pieces × Writes pieces before after

abbrev pub StopsAnswers : List Answered → Sinks → Sinks → Fault → Type 0
StopsAnswers answered before after f = (pieces : List Piece) × AreBayPieces answered pieces × StopsWith pieces before after f

-- so it is of the true answer to the problem of one bay, and of true answers to the problems of several
abbrev pub WritesBay : Chosen → BayProblem → Sinks → Sinks → Solved → Type 0
WritesBay chosen stated before after solved = IsSolved stated.problem chosen solved × WritesAnswers (record { stated = stated; solved = solved } ∷ []) before after

abbrev pub StopsBay : Chosen → BayProblem → Sinks → Sinks → Fault → Type 0
StopsBay chosen stated before after f =
    (solved : Solved) × IsSolved stated.problem chosen solved × StopsAnswers (record { stated = stated; solved = solved } ∷ []) before after f

abbrev pub StopsBays : Chosen → List BayProblem → Sinks → Sinks → Fault → Type 0
StopsBays chosen problems before after f = (answered : List Answered) × AreTrueAnswers chosen problems answered × StopsAnswers answered before after f

-- what is kept of answered bays
pub record AreKept (answered : List Answered) (kept : BaysDone) : Type 0 where
  pub bays : kept.bays ≡ length answered
  pub plans : kept.plans.items ≡ bay_plans answered
  pub decided : kept.decided ≡ decided answered
  pub status : kept.status ≡ status_of_all answered

-- the bays were answered and written, and this is kept of them
abbrev pub WritesBays : Chosen → List BayProblem → Sinks → Sinks → BaysDone → Type 0
WritesBays chosen problems before after kept = (answered : List Answered) × AreTrueAnswers chosen problems answered × WritesAnswers answered before after × AreKept answered kept

-- the text of the yard as these plans leave it, with this byte between fields
abbrev pub IsTextAfter : ℕ → Inventory → List BayPlan → List ℕ → Type 0
IsTextAfter separator yard plans text = (left : Inventory) × IsAfter yard plans left × (text ≡ with_separator separator (yard_text left))

-- the last two pieces: the line that counts the bays, and the yard after
abbrev pub end_pieces : ℕ → ℕ → List ℕ → List Piece
end_pieces bays decided yard_after = piece output.Report (bays_line bays decided) ∷ piece output.YardAfter yard_after ∷ []

abbrev pub WritesEnd : ℕ → Inventory → BaysDone → Sinks → Sinks → Type 0
WritesEnd separator yard kept before after = (text : List ℕ) × IsTextAfter separator yard kept.plans.items text × Writes (end_pieces kept.bays kept.decided text) before after

abbrev pub StopsEnd : ℕ → Inventory → BaysDone → Sinks → Sinks → Fault → Type 0
StopsEnd separator yard kept before after f = (text : List ℕ) × IsTextAfter separator yard kept.plans.items text × StopsWith (end_pieces kept.bays kept.decided text) before after f

-- the pieces of a run with this first line over the problems of a yard, and with this byte between the fields of the yard after
pub record AreRunPieces (separator : ℕ) (chosen : Chosen) (yard : Inventory) (first : List ℕ) (problems : List BayProblem) (answered : List Answered) (pieces : List Piece) : Type 0 where
  pub true_answers : AreTrueAnswers chosen problems answered
  pub text : List ℕ
  pub after : IsYardTextAfter separator yard answered text
  pub are : ArePieces first answered text pieces

abbrev pub WritesRun : ℕ → Chosen → Inventory → List ℕ → List BayProblem → Sinks → Sinks → List Answered → Type 0
WritesRun separator chosen yard first problems before after answered = (pieces : List Piece) × AreRunPieces separator chosen yard first problems answered pieces × Writes pieces before after

abbrev pub StopsRun : ℕ → Chosen → Inventory → List ℕ → List BayProblem → Sinks → Sinks → Fault → Type 0
StopsRun separator chosen yard first problems before after f =
    (answered : List Answered) × (pieces : List Piece) × AreRunPieces separator chosen yard first problems answered pieces × StopsWith pieces before after f
