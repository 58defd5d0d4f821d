-- What a run states, from what its parts state.
use Rattle.std.proofs.Common.{◌≡◌, ◌∙◌, ℕ, ◌+◌, ◌≤◌, List, [], ◌∷◌, ◌++◌, length, map, All, inl, inr, Result, Ok, Err, refl, sym, ap, subst, arith, append-nil}
use Rattle.std.specs.Prelude.{MatchResult}
use Rattle.std.specs.List.{IsDistinct}
use Rattle.std.proofs.lemmas.List.Elements.{recursion_from_All}
use Rattle.crp_plan.specs.Bay.{IsProblem}
use Rattle.crp_plan.specs.BayNames.{same_bay}
use Rattle.crp_plan.specs.Devices.{HasFailed, most_interruptions}
use Rattle.crp_plan.proofs.Fronts.{Appends-front}
use Rattle.crp_movins.specs.LoadOrders.{LoadOrders}
use Rattle.crp_yard.specs.Inventory.{Inventory}
use Rattle.crp_yard.specs.Reading.{IsTextOf}
use Rattle.crp_yard.specs.After.{IsPlanForBay, IsCompletePlan}
use Rattle.crp_yard.specs.declared.bay_plan.BayPlan.{BayPlan}
use Rattle.crp_yard.proofs.YardLeft.{yard_left}
use Rattle.crp_order.specs.declared.bay_problem.BayProblem.{BayProblem}
use Rattle.crp_order.specs.BayProblems.{IsNamed, problems_of}
use Rattle.crp_order.specs.OfBays.{IsSequenceOf}
use Rattle.crp_said.specs.Said.{bays_line}
use Rattle.crp_solve.specs.Chosen.{Chosen}
use Rattle.crp_report.specs.declared.fault.Fault.{Fault}
use Rattle.crp_report.specs.declared.fault.Fault.TheVariants as fault
use Rattle.crp_report.specs.declared.fault.Input.TheVariants as input
use Rattle.crp_report.specs.declared.fault.Output.{Output}
use Rattle.crp_report.specs.declared.fault.Output.TheVariants as output
use Rattle.crp_report.specs.declared.kept.BaysDone.{BaysDone}
use Rattle.crp_report.specs.declared.status.Status.{Status}
use Rattle.crp_report.specs.Answered.{Answered, AreTrueAnswers, bay_plans, status_of_all}
use Rattle.crp_report.specs.Chosen.{RunChosen}
use Rattle.crp_report.specs.Report.{AreLinesOfBays, certificate_of, certificates_text, decided, last_line, IsYardTextAfter}
use Rattle.crp_report.specs.Runs.{RunSeen, Made, IsMade, IsListed, AreOrders, first_line, sink_of, Gets, GetsFront, GetsPart, text_for, AreMadePieces, WritesNothing, WritesTexts, IsYardAccepted, RunFailsWith, RunEnds, RunFails, failures_of_fault}
use Rattle.crp_report.specs.Pieces.{Piece, piece, AreBayPieces, bytes_for, wanted, written}
use Rattle.crp_report.specs.BayTexts.{AreFailuresCounted, IsNoYard, IsNoMessage}
use Rattle.crp_report.specs.Writing.{Sinks, sink_now, failures_of_sinks, SinksGet, Writes, StopsWith, WritesBays, StopsBays, AreKept, IsTextAfter, end_pieces, WritesEnd, StopsEnd, AreRunPieces, WritesRun, StopsRun}
use Rattle.crp_report.proofs.Written.{more_for, gets_then, stops_behind, stops_before, stops_first, stop_front, stop_part}
use Rattle.crp_report.proofs.Stating.{can_be_answered}
use Rattle.crp_report.proofs.Leaving.{plans_are, plans_complete, plans_once}
use Rattle.crp_report.proofs.Taken.{each_sink, holding}

-- a yard list that is refused
pub list_refused : (chosen : RunChosen) (s : RunSeen) (f : Fault) → WritesNothing s → IsNoYard chosen.input.sizes s.yard.given s.yard.before s.yard.after f → RunFailsWith chosen s f
list_refused chosen s (fault.Yard f) nothing (read, memory, first) = (nothing, read, memory, first)
list_refused chosen s (fault.Read input.Yard) nothing failed = (nothing, tt, failed)
list_refused chosen s (fault.Read input.Movins) nothing none = absurd none
list_refused chosen s fault.Memory nothing h = inl nothing
list_refused chosen s (fault.Interchange f) nothing none = absurd none
list_refused chosen s (fault.Message f) nothing none = absurd none
list_refused chosen s (fault.Write sink) nothing none = absurd none

-- a message that is refused
pub message_refused : (chosen : RunChosen) (s : RunSeen) (f : Fault) → WritesNothing s → IsYardAccepted chosen s → IsNoMessage chosen.input.loading s.movins.given s.movins.before s.movins.after f → RunFailsWith chosen s f
message_refused chosen s (fault.Interchange f) nothing yard (text, given, (real, first)) = (nothing, real, yard, (text, given, first))
message_refused chosen s (fault.Message f) nothing yard (text, given, (real, (segments, spelled, first))) = (nothing, real, yard, (text, segments, given, spelled, first))
message_refused chosen s (fault.Read input.Movins) nothing yard failed = (nothing, yard, failed)
message_refused chosen s (fault.Read input.Yard) nothing yard none = absurd none
message_refused chosen s fault.Memory nothing yard h = inl nothing
message_refused chosen s (fault.Yard f) nothing yard none = absurd none
message_refused chosen s (fault.Write sink) nothing yard none = absurd none

-- the problems of a yard are problems
pub named_problems : (yard : Inventory) (problems : List BayProblem) → All (IsNamed yard) problems → All (λ bay. IsProblem bay.problem) problems
named_problems yard problems named = λ i d below. let is = named i d below in is.is_problem

-- ---- the end of a run

-- plans leave some yard
some_text : (separator : ℕ) (yard : Inventory) (plans : List BayPlan) → All IsCompletePlan plans → (text : List ℕ) × IsTextAfter separator yard plans text
some_text separator yard plans complete = let (left, after) = yard_left yard plans complete in (_, (left, after, refl))

-- nothing of it was written
pub end_not_made : (separator : ℕ) (yard : Inventory) (done : BaysDone) (s : Sinks) → s.passed ≤ most_interruptions → All IsCompletePlan done.plans.items → StopsEnd separator yard done s s fault.Memory
end_not_made separator yard done s few complete =
    let (text, is) = some_text separator yard done.plans.items complete in
    (text, is, stops_first (end_pieces done.bays done.decided text) s few)

-- the line that counts the bays was not all written
pub line_not_written : (separator : ℕ) (yard : Inventory) (done : BaysDone) (line text : List ℕ) (a b : Sinks) (f : Fault) → line ≡ bays_line done.bays done.decided
    → IsTextAfter separator yard done.plans.items text → StopsWith (piece output.Report line ∷ []) a b f → StopsEnd separator yard done a b f
line_not_written separator yard done line text a b f e is stop =
    (text, is, stops_before (piece output.Report (bays_line done.bays done.decided) ∷ []) (piece output.YardAfter text ∷ []) a b f (rw e at stop))

-- it was, and how the write of the yard after ended
pub end_written : {T : Type 0} (r : Result T Fault) (separator : ℕ) (yard : Inventory) (done : BaysDone) (line text : List ℕ) (a b c : Sinks) → line ≡ bays_line done.bays done.decided
    → IsTextAfter separator yard done.plans.items text → Writes (piece output.Report line ∷ []) a b
    → MatchResult r (λ _. Writes (piece output.YardAfter text ∷ []) b c) (StopsWith (piece output.YardAfter text ∷ []) b c)
    → MatchResult r (λ _. WritesEnd separator yard done a c) (StopsEnd separator yard done a c)
end_written (Ok v) separator yard done line text a b c e is first next =
    (text, is, gets_then (piece output.Report (bays_line done.bays done.decided) ∷ []) (piece output.YardAfter text ∷ []) 0 a b c (rw e at first) next)
end_written (Err f) separator yard done line text a b c e is first stop =
    (text, is, stops_behind (piece output.Report (bays_line done.bays done.decided) ∷ []) (piece output.YardAfter text ∷ []) a b c f (rw e at first) stop)

-- ---- the pieces of a run

-- from those of its bays
run_pieces : (separator : ℕ) (chosen : Chosen) (yard : Inventory) (first text : List ℕ) (problems : List BayProblem) (answered : List Answered) (bays : List Piece) → AreTrueAnswers chosen problems answered
    → AreBayPieces answered bays → IsYardTextAfter separator yard answered text
    → AreRunPieces separator chosen yard first problems answered (piece output.Report first ∷ (bays ++ end_pieces (length answered) (decided answered) text))
run_pieces separator chosen yard first text problems answered bays true_answers are after =
    record { true_answers = true_answers; text = text; after = after; are = (bays, are, refl) }

-- the first line was not all written
pub run_stops_first : (separator : ℕ) (chosen : Chosen) (yard : Inventory) (first : List ℕ) (problems : List BayProblem) (a b : Sinks) (f : Fault) → All (IsNamed yard) problems
    → StopsWith (piece output.Report first ∷ []) a b f → StopsRun separator chosen yard first problems a b f
run_stops_first separator chosen yard first problems a b f named stop =
    let can = can_be_answered chosen problems (recursion_from_All (λ (x : BayProblem). IsProblem x.problem) problems (named_problems yard problems named)) in
    let (text, after) = some_text separator yard (bay_plans can.answered) (plans_complete chosen problems can.answered can.true_answers) in
    let behind : List Piece = can.pieces ++ end_pieces (length can.answered) (decided can.answered) text in (
      can.answered,
      piece output.Report first ∷ behind,
      run_pieces separator chosen yard first text problems can.answered can.pieces can.true_answers can.are after,
      stops_before (piece output.Report first ∷ []) behind a b f stop,
    )

-- the bays were not
pub run_stops_in_bays : (separator : ℕ) (chosen : Chosen) (yard : Inventory) (first : List ℕ) (problems : List BayProblem) (a b c : Sinks) (f : Fault) → Writes (piece output.Report first ∷ []) a b
    → StopsBays chosen problems b c f → StopsRun separator chosen yard first problems a c f
run_stops_in_bays separator chosen yard first problems a b c f got (answered, true_answers, (bays, are, stop)) =
    let (text, after) = some_text separator yard (bay_plans answered) (plans_complete chosen problems answered true_answers) in
    let end : List Piece = end_pieces (length answered) (decided answered) text in (
      answered,
      piece output.Report first ∷ (bays ++ end),
      run_pieces separator chosen yard first text problems answered bays true_answers are after,
      stops_behind (piece output.Report first ∷ []) (bays ++ end) a b c f got (stops_before bays end b c f stop),
    )

-- the plans that are kept leave the yard that the answers do
after_kept : (separator : ℕ) (yard : Inventory) (answered : List Answered) (done : BaysDone) (text : List ℕ) → AreKept answered done → IsTextAfter separator yard done.plans.items text → IsYardTextAfter separator yard answered text
after_kept separator yard answered done text kept is = subst (λ (plans : List BayPlan). IsTextAfter separator yard plans text) kept.plans is

end_is : (answered : List Answered) (done : BaysDone) (text : List ℕ) → AreKept answered done → end_pieces done.bays done.decided text ≡ end_pieces (length answered) (decided answered) text
end_is answered done text kept = ap (λ n. end_pieces n done.decided text) kept.bays ∙ ap (λ n. end_pieces (length answered) n text) kept.decided

-- the end was not
pub run_stops_at_end : (separator : ℕ) (chosen : Chosen) (yard : Inventory) (first : List ℕ) (problems : List BayProblem) (a b c d : Sinks) (done : BaysDone) (f : Fault)
    → Writes (piece output.Report first ∷ []) a b → WritesBays chosen problems b c done → StopsEnd separator yard done c d f → StopsRun separator chosen yard first problems a d f
run_stops_at_end separator chosen yard first problems a b c d done f got (answered, true_answers, (bays, are, took), kept) (text, after, stop) =
    let end : List Piece = end_pieces (length answered) (decided answered) text in
    let here : StopsWith end c d f = subst (λ (l : List Piece). StopsWith l c d f) (end_is answered done text kept) stop in (
      answered,
      piece output.Report first ∷ (bays ++ end),
      run_pieces separator chosen yard first text problems answered bays true_answers are (after_kept separator yard answered done text kept after),
      stops_behind (piece output.Report first ∷ []) (bays ++ end) a b d f got (stops_behind bays end b c d f took here),
    )

-- all was written
pub run_written : (separator : ℕ) (chosen : Chosen) (yard : Inventory) (first : List ℕ) (problems : List BayProblem) (a b c d : Sinks) (done : BaysDone)
    → Writes (piece output.Report first ∷ []) a b → WritesBays chosen problems b c done → WritesEnd separator yard done c d
    → (answered : List Answered) × WritesRun separator chosen yard first problems a d answered × (done.status ≡ status_of_all answered)
run_written separator chosen yard first problems a b c d done got (answered, true_answers, (bays, are, took), kept) (text, after, rest) =
    let end : List Piece = end_pieces (length answered) (decided answered) text in
    let here : Writes end c d = subst (λ (l : List Piece). Writes l c d) (end_is answered done text kept) rest in (
      answered,
      (
        piece output.Report first ∷ (bays ++ end),
        run_pieces separator chosen yard first text problems answered bays true_answers are (after_kept separator yard answered done text kept after),
        gets_then (piece output.Report first ∷ []) (bays ++ end) 0 a b d got (gets_then bays end 0 b c d took here),
      ),
      kept.status,
    )

-- ---- what its parts ask for

pub kept_plans : (yard : Inventory) (chosen : Chosen) (problems : List BayProblem) (a b : Sinks) (done : BaysDone) → All (IsNamed yard) problems → WritesBays chosen problems a b done
    → All (IsPlanForBay yard) done.plans.items
kept_plans yard chosen problems a b done named (answered, true_answers, written, kept) =
    subst (All (IsPlanForBay yard)) (sym kept.plans) (plans_are yard chosen problems answered true_answers named)

pub kept_complete : (chosen : Chosen) (problems : List BayProblem) (a b : Sinks) (done : BaysDone) → WritesBays chosen problems a b done → All IsCompletePlan done.plans.items
kept_complete chosen problems a b done (answered, true_answers, written, kept) = subst (All IsCompletePlan) (sym kept.plans) (plans_complete chosen problems answered true_answers)

pub kept_once : (chosen : Chosen) (problems : List BayProblem) (a b : Sinks) (done : BaysDone) → IsDistinct same_bay (map (λ stated. stated.bay) problems) → WritesBays chosen problems a b done
    → IsDistinct same_bay (map (λ plan. plan.bay) done.plans.items)
kept_once chosen problems a b done once (answered, true_answers, written, kept) =
    subst (λ (plans : List BayPlan). IsDistinct same_bay (map (λ (plan : BayPlan). plan.bay) plans)) (sym kept.plans) (plans_once chosen problems answered true_answers once)

-- ---- its texts

-- what the sinks get of the pieces of bays
reports_for : (answered : List Answered) (bays : List Piece) → AreBayPieces answered bays → AreLinesOfBays answered (bytes_for output.Report bays)
reports_for [] bays is = ap (bytes_for output.Report) is
reports_for (a ∷ answered) bays (lines, rest, stated, are, is) =
    (lines, bytes_for output.Report rest, stated, reports_for answered rest are, ap (bytes_for output.Report) is)

certificates_for : (answered : List Answered) (bays : List Piece) → AreBayPieces answered bays → bytes_for output.Certificates bays ≡ certificates_text answered
certificates_for [] bays is = ap (bytes_for output.Certificates) is
certificates_for (a ∷ answered) bays (lines, rest, stated, are, is) =
    ap (bytes_for output.Certificates) is ∙ ap (λ l. certificate_of a ++ l) (certificates_for answered rest are)

nothing_for : (answered : List Answered) (bays : List Piece) → AreBayPieces answered bays → bytes_for output.YardAfter bays ≡ []
nothing_for [] bays is = ap (bytes_for output.YardAfter) is
nothing_for (a ∷ answered) bays (lines, rest, stated, are, is) = ap (bytes_for output.YardAfter) is ∙ nothing_for answered rest are

-- what they get of all pieces
report_for : (first text : List ℕ) (answered : List Answered) (bays : List Piece)
    → bytes_for output.Report (piece output.Report first ∷ (bays ++ end_pieces (length answered) (decided answered) text)) ≡ first ++ (bytes_for output.Report bays ++ last_line answered)
report_for first text answered bays =
    ap (λ l. first ++ l) (more_for output.Report bays (end_pieces (length answered) (decided answered) text) ∙ ap (λ l. bytes_for output.Report bays ++ l) (append-nil (last_line answered)))

all_certificates_for : (first text : List ℕ) (answered : List Answered) (bays : List Piece) → AreBayPieces answered bays
    → bytes_for output.Certificates (piece output.Report first ∷ (bays ++ end_pieces (length answered) (decided answered) text)) ≡ certificates_text answered
all_certificates_for first text answered bays are =
    more_for output.Certificates bays (end_pieces (length answered) (decided answered) text) ∙ append-nil (bytes_for output.Certificates bays) ∙ certificates_for answered bays are

yard_after_for : (first text : List ℕ) (answered : List Answered) (bays : List Piece) → AreBayPieces answered bays
    → bytes_for output.YardAfter (piece output.Report first ∷ (bays ++ end_pieces (length answered) (decided answered) text)) ≡ text
yard_after_for first text answered bays are =
    more_for output.YardAfter bays (end_pieces (length answered) (decided answered) text) ∙ ap (λ l. l ++ (text ++ [])) (nothing_for answered bays are) ∙ append-nil text

-- ---- what it made

-- of accepted input
pub record AreAccepted (chosen : RunChosen) (s : RunSeen) (list message : List ℕ) (yard : Inventory) (orders : LoadOrders) (sequence : List (List ℕ)) : Type 0 where
  pub given_list : IsTextOf s.yard.given list
  pub given_message : IsTextOf s.movins.given message
  pub listed : IsListed chosen list yard
  pub ordered : AreOrders chosen.input.loading message orders
  pub in_sequence : IsSequenceOf chosen.input.mode chosen.input.bays yard orders.list sequence

abbrev AreOfRun : ℕ → RunChosen → Inventory → LoadOrders → List (List ℕ) → List Answered → List Piece → Type 0
AreOfRun separator chosen yard orders sequence answered pieces = AreRunPieces separator chosen.search yard (first_line yard orders sequence) (problems_of yard sequence) answered pieces

abbrev made : (list message : List ℕ) (yard : Inventory) (orders : LoadOrders) (sequence : List (List ℕ)) (answered : List Answered) (pieces : List Piece) (text : List ℕ) → Made
made list message yard orders sequence answered pieces text = record {
  list = list;
  message = message;
  yard = yard;
  orders = orders;
  sequence = sequence;
  answered = answered;
  report = bytes_for output.Report pieces;
  certificates = bytes_for output.Certificates pieces;
  yard_after = text;
}

is_made : (chosen : RunChosen) (s : RunSeen) (list message : List ℕ) (yard : Inventory) (orders : LoadOrders) (sequence : List (List ℕ)) (answered : List Answered) (pieces : List Piece)
    → AreAccepted chosen s list message yard orders sequence → (are : AreOfRun s.separator chosen yard orders sequence answered pieces) → IsMade chosen s (made list message yard orders sequence answered pieces are.text)
is_made chosen s list message yard orders sequence answered pieces accepted are =
    let (bays, of_bays, is) = are.are in
    record {
      given_list = accepted.given_list;
      given_message = accepted.given_message;
      listed = accepted.listed;
      ordered = accepted.ordered;
      in_sequence = accepted.in_sequence;
      true_answers = are.true_answers;
      report = (bytes_for output.Report bays, reports_for answered bays of_bays, ap (bytes_for output.Report) is ∙ report_for (first_line yard orders sequence) are.text answered bays);
      certificates = ap (bytes_for output.Certificates) is ∙ all_certificates_for (first_line yard orders sequence) are.text answered bays of_bays;
      yard_after = are.after;
    }

made_up : (chosen : RunChosen) (s : RunSeen) (list message : List ℕ) (yard : Inventory) (orders : LoadOrders) (sequence : List (List ℕ)) (answered : List Answered) (pieces : List Piece)
    → (are : AreOfRun s.separator chosen yard orders sequence answered pieces) → AreMadePieces (made list message yard orders sequence answered pieces are.text) pieces
made_up chosen s list message yard orders sequence answered pieces are =
    let (bays, of_bays, is) = are.are in (
      are.are,
      each_sink (λ each. bytes_for each pieces ≡ text_for (made list message yard orders sequence answered pieces are.text) each) refl refl
          (ap (bytes_for output.YardAfter) is ∙ yard_after_for (first_line yard orders sequence) are.text answered bays of_bays),
    )

-- ---- what was seen of it

abbrev pub sinks_before : RunSeen → ℕ → Sinks
sinks_before s passed = record {
  report = holding s.report.held s.report.before;
  certificates = holding s.certificates.held s.certificates.before;
  yard_after = holding s.yard_after.held s.yard_after.before;
  passed = passed;
}

abbrev pub sinks_after : RunSeen → ℕ → Sinks
sinks_after s passed = record {
  report = holding s.report.holds s.report.after;
  certificates = holding s.certificates.holds s.certificates.after;
  yard_after = holding s.yard_after.holds s.yard_after.after;
  passed = passed;
}

seen_of : (s : RunSeen) (p q : ℕ) (pieces : List Piece) (n : ℕ) → SinksGet pieces n (sinks_before s p) (sinks_after s q) → (each : Output) → Gets (sink_of s each) (bytes_for each pieces)
seen_of s p q pieces n get = each_sink (λ each. Gets (sink_of s each) (bytes_for each pieces)) (get.got output.Report) (get.got output.Certificates) (get.got output.YardAfter)

failed_of : (s : RunSeen) (p q : ℕ) (sink : Output) → HasFailed (sink_now (sinks_before s p) sink).failures (sink_now (sinks_after s q) sink).failures
    → HasFailed (sink_of s sink).before (sink_of s sink).after
failed_of s p q output.Report failed = failed
failed_of s p q output.Certificates failed = failed
failed_of s p q output.YardAfter failed = failed

pub run_done : (chosen : RunChosen) (s : RunSeen) (p q : ℕ) (list message : List ℕ) (yard : Inventory) (orders : LoadOrders) (sequence : List (List ℕ)) (status : Status) (answered : List Answered)
    → AreAccepted chosen s list message yard orders sequence
    → WritesRun s.separator chosen.search yard (first_line yard orders sequence) (problems_of yard sequence) (sinks_before s p) (sinks_after s q) answered → status ≡ status_of_all answered
    → WritesTexts chosen s status
run_done chosen s p q list message yard orders sequence status answered accepted (pieces, are, get) is =
    let m : Made = made list message yard orders sequence answered pieces are.text in
    let up = made_up chosen s list message yard orders sequence answered pieces are in
    let got = seen_of s p q pieces 0 get in (
      m,
      is_made chosen s list message yard orders sequence answered pieces accepted are,
      is,
      got output.Report,
      got output.Certificates,
      subst (Gets s.yard_after) (up.1 output.YardAfter) (got output.YardAfter),
    )

pub run_stopped : (chosen : RunChosen) (s : RunSeen) (p q : ℕ) (list message : List ℕ) (yard : Inventory) (orders : LoadOrders) (sequence : List (List ℕ)) (f : Fault)
    → AreAccepted chosen s list message yard orders sequence
    → StopsRun s.separator chosen.search yard (first_line yard orders sequence) (problems_of yard sequence) (sinks_before s p) (sinks_after s q) f → RunFailsWith chosen s f
run_stopped chosen s p q list message yard orders sequence (fault.Write sink) accepted (answered, pieces, are, (stop, wanted_is, to, get, failed)) =
    let m : Made = made list message yard orders sequence answered pieces are.text in
    let up : AreMadePieces m (wanted stop) = subst (AreMadePieces m) wanted_is (made_up chosen s list message yard orders sequence answered pieces are) in
    let got = seen_of s p q (written stop) 1 get in (
      (
        m,
        is_made chosen s list message yard orders sequence answered pieces accepted are,
        λ each. subst (GetsFront (sink_of s each)) (up.1 each) (stop_front stop each (sink_of s each).held (sink_of s each).holds (got each)),
        subst (GetsPart (sink_of s sink)) (up.1 sink) (stop_part stop sink (sink_of s sink).held (sink_of s sink).holds to (got sink)),
        (stop, up, to, got),
      ),
      failed_of s p q sink failed,
    )
run_stopped chosen s p q list message yard orders sequence fault.Memory accepted (answered, pieces, are, (done, behind, is, get)) =
    let m : Made = made list message yard orders sequence answered pieces are.text in
    let up : AreMadePieces m (done ++ behind) = subst (AreMadePieces m) is (made_up chosen s list message yard orders sequence answered pieces are) in
    let got = seen_of s p q done 0 get in
    inr (
      m,
      is_made chosen s list message yard orders sequence answered pieces accepted are,
      λ each. subst (GetsFront (sink_of s each)) (sym (more_for each done behind) ∙ up.1 each) (Appends-front (sink_of s each).held (sink_of s each).holds (bytes_for each done) (bytes_for each behind) (got each)),
      (done, behind, up, got),
    )
run_stopped chosen s p q list message yard orders sequence (fault.Yard f) accepted (answered, pieces, are, none) = absurd none
run_stopped chosen s p q list message yard orders sequence (fault.Interchange f) accepted (answered, pieces, are, none) = absurd none
run_stopped chosen s p q list message yard orders sequence (fault.Message f) accepted (answered, pieces, are, none) = absurd none
run_stopped chosen s p q list message yard orders sequence (fault.Read source) accepted (answered, pieces, are, none) = absurd none

-- ---- how many calls failed

pub record AreSinksCounted (s : RunSeen) (p q n : ℕ) : Type 0 where
  pub counted : failures_of_sinks (sinks_after s q) + p ≤ failures_of_sinks (sinks_before s p) + q + n
  pub report : s.report.before ≤ s.report.after
  pub certificates : s.certificates.before ≤ s.certificates.after
  pub yard_after : s.yard_after.before ≤ s.yard_after.after
  pub few : q ≤ most_interruptions

counts : (s : RunSeen) (p q n : ℕ) (pieces : List Piece) → SinksGet pieces n (sinks_before s p) (sinks_after s q) → AreSinksCounted s p q n
counts s p q n pieces get =
    record { counted = get.counted; report = get.grown output.Report; certificates = get.grown output.Certificates; yard_after = get.grown output.YardAfter; few = get.few }

pub done_counted : (separator : ℕ) (chosen : Chosen) (yard : Inventory) (first : List ℕ) (problems : List BayProblem) (s : RunSeen) (p q : ℕ) (answered : List Answered)
    → WritesRun separator chosen yard first problems (sinks_before s p) (sinks_after s q) answered → AreSinksCounted s p q 0
done_counted separator chosen yard first problems s p q answered (pieces, are, get) = counts s p q 0 pieces get

pub stopped_counted : (separator : ℕ) (chosen : Chosen) (yard : Inventory) (first : List ℕ) (problems : List BayProblem) (s : RunSeen) (p q : ℕ) (f : Fault)
    → StopsRun separator chosen yard first problems (sinks_before s p) (sinks_after s q) f → AreSinksCounted s p q (failures_of_fault f)
stopped_counted separator chosen yard first problems s p q (fault.Write sink) (answered, pieces, are, (stop, wanted_is, to, get, failed)) = counts s p q 1 (written stop) get
stopped_counted separator chosen yard first problems s p q fault.Memory (answered, pieces, are, (done, behind, is, get)) = counts s p q 0 done get
stopped_counted separator chosen yard first problems s p q (fault.Yard f) (answered, pieces, are, none) = absurd none
stopped_counted separator chosen yard first problems s p q (fault.Interchange f) (answered, pieces, are, none) = absurd none
stopped_counted separator chosen yard first problems s p q (fault.Message f) (answered, pieces, are, none) = absurd none
stopped_counted separator chosen yard first problems s p q (fault.Read source) (answered, pieces, are, none) = absurd none

-- how a run over accepted input ends, from how its writing does
pub run_ended : (r : Result Status Fault) (chosen : RunChosen) (s : RunSeen) (one p q : ℕ) (list message : List ℕ) (yard : Inventory) (orders : LoadOrders) (sequence : List (List ℕ)) (first : List ℕ)
    (problems : List BayProblem) → AreAccepted chosen s list message yard orders sequence → first ≡ first_line yard orders sequence → problems ≡ problems_of yard sequence
    → AreFailuresCounted 0 s.yard.before s.yard.after 0 one → AreFailuresCounted 0 s.movins.before s.movins.after one p → s.movins.before ≤ s.movins.after
    → MatchResult r (λ status. (answered : List Answered) × WritesRun s.separator chosen.search yard first problems (sinks_before s p) (sinks_after s q) answered × (status ≡ status_of_all answered))
    (StopsRun s.separator chosen.search yard first problems (sinks_before s p) (sinks_after s q))
    → MatchResult r (RunEnds chosen s) (RunFails chosen s)
run_ended (Ok status) chosen s one p q list message yard orders sequence first problems accepted first_is problems_are of_list of_message grown (answered, written, is) =
    let here = rw (first_is, problems_are) at written in
    let k = done_counted s.separator chosen.search yard (first_line yard orders sequence) (problems_of yard sequence) s p q answered here in
    (run_done chosen s p q list message yard orders sequence status answered accepted here is, omega (arith, of_list, of_message, grown, k.counted, k.report, k.certificates, k.yard_after, k.few))
run_ended (Err f) chosen s one p q list message yard orders sequence first problems accepted first_is problems_are of_list of_message grown stops =
    let here = rw (first_is, problems_are) at stops in
    let k = stopped_counted s.separator chosen.search yard (first_line yard orders sequence) (problems_of yard sequence) s p q f here in
    (run_stopped chosen s p q list message yard orders sequence f accepted here, omega (arith, of_list, of_message, grown, k.counted, k.report, k.certificates, k.yard_after, k.few))
