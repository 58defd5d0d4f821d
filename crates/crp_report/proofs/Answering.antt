-- Bays that are answered and written one after the other.
use Rattle.std.proofs.Common.{◌≡◌, ◌∙◌, ℕ, ◌≤◌, List, [], ◌∷◌, ◌++◌, length, map, All, refl, sym, ap, subst, arith, append-nil}
use Rattle.std.specs.List.{AllByRecursion}
use Rattle.std.proofs.lemmas.List.{map-append, length-map}
use Rattle.std.proofs.lemmas.List.Elements.{All-append, All-nil, All-cons, recursion_from_All}
use Rattle.crp_plan.specs.Bay.{IsProblem}
use Rattle.crp_plan.specs.Devices.{most_interruptions}
use Rattle.crp_order.specs.declared.bay_problem.BayProblem.{BayProblem}
use Rattle.crp_solve.specs.Solved.{IsSolved}
use Rattle.crp_solve.specs.Chosen.{Chosen}
use Rattle.crp_solve.specs.declared.answer.Solved.{Solved}
use Rattle.crp_solve.proofs.Answerable.{has_answer}
use Rattle.crp_report.specs.declared.fault.Fault.{Fault}
use Rattle.crp_report.specs.declared.fault.Fault.TheVariants as fault
use Rattle.crp_report.specs.declared.fault.Output.TheVariants as output
use Rattle.crp_report.specs.declared.kept.BaysDone.{BaysDone}
use Rattle.crp_report.specs.Answered.{Answered, AreTrueAnswers}
use Rattle.crp_report.specs.Report.{AreBayLines, certificate_of}
use Rattle.crp_report.specs.Pieces.{Piece, piece, AreBayPieces}
use Rattle.crp_report.specs.Writing.{Sinks, Writes, StopsWith, AreKept, WritesBay, StopsBay, WritesBays, StopsBays}
use Rattle.crp_report.proofs.Written.{gets_nothing, gets_then, stops_behind, stops_before, stops_first}
use Rattle.crp_report.proofs.Keeping.{few_decided}
use Rattle.crp_report.proofs.Stating.{bay_pieces, are_of_bay, can_be_stated, can_be_answered}

-- ---- one bay

abbrev answered_so : BayProblem → Solved → Answered
answered_so stated solved = record { stated = stated; solved = solved }

-- nothing of it was written
pub bay_not_stated : (chosen : Chosen) (stated : BayProblem) (solved : Solved) (s : Sinks) → s.passed ≤ most_interruptions → IsSolved stated.problem chosen solved
    → StopsBay chosen stated s s fault.Memory
bay_not_stated chosen stated solved s few is =
    let (lines, are) = can_be_stated chosen (answered_so stated solved) is in
    (solved, is, (bay_pieces lines (answered_so stated solved), are_of_bay (answered_so stated solved) lines are, stops_first (bay_pieces lines (answered_so stated solved)) s few))

pub bay_not_answered : (chosen : Chosen) (stated : BayProblem) (s : Sinks) → s.passed ≤ most_interruptions → IsProblem stated.problem → StopsBay chosen stated s s fault.Memory
bay_not_answered chosen stated s few problem = let (solved, is) = has_answer stated.problem chosen problem in bay_not_stated chosen stated solved s few is

-- its lines were not all written
pub lines_not_written : (chosen : Chosen) (stated : BayProblem) (solved : Solved) (lines : List ℕ) (a b : Sinks) (f : Fault) → IsSolved stated.problem chosen solved
    → AreBayLines (answered_so stated solved) lines → StopsWith (piece output.Report lines ∷ []) a b f → StopsBay chosen stated a b f
lines_not_written chosen stated solved lines a b f is are stop =
    let one : Answered = answered_so stated solved in
    (solved, is, (bay_pieces lines one, are_of_bay one lines are, stops_before (piece output.Report lines ∷ []) (piece output.Certificates (certificate_of one) ∷ []) a b f stop))

-- its certificate was not
pub certificate_not_written : (chosen : Chosen) (stated : BayProblem) (solved : Solved) (lines certificate : List ℕ) (a b c : Sinks) (f : Fault) → IsSolved stated.problem chosen solved
    → AreBayLines (answered_so stated solved) lines → certificate ≡ certificate_of (answered_so stated solved)
    → Writes (piece output.Report lines ∷ []) a b → StopsWith (piece output.Certificates certificate ∷ []) b c f → StopsBay chosen stated a c f
certificate_not_written chosen stated solved lines certificate a b c f is are e first stop =
    let one : Answered = answered_so stated solved in
    (solved, is, (bay_pieces lines one, are_of_bay one lines are, stops_behind (piece output.Report lines ∷ []) (piece output.Certificates (certificate_of one) ∷ []) a b c f first (rw e at stop)))

-- both were
pub bay_written : (chosen : Chosen) (stated : BayProblem) (solved : Solved) (lines certificate : List ℕ) (a b c : Sinks) → IsSolved stated.problem chosen solved
    → AreBayLines (answered_so stated solved) lines → certificate ≡ certificate_of (answered_so stated solved)
    → Writes (piece output.Report lines ∷ []) a b → Writes (piece output.Certificates certificate ∷ []) b c → WritesBay chosen stated a c solved
bay_written chosen stated solved lines certificate a b c is are e first next =
    let one : Answered = answered_so stated solved in
    (is, (bay_pieces lines one, are_of_bay one lines are, gets_then (piece output.Report lines ∷ []) (piece output.Certificates (certificate_of one) ∷ []) 0 a b c first (rw e at next)))

-- and it was not kept
pub bay_not_kept : (chosen : Chosen) (stated : BayProblem) (solved : Solved) (a b : Sinks) → WritesBay chosen stated a b solved → StopsBay chosen stated a b fault.Memory
bay_not_kept chosen stated solved a b (is, (pieces, are, got)) = (solved, is, (pieces, are, (pieces, [], sym (append-nil pieces), got)))

-- ---- several

-- the pieces of answers, and of more
pub pieces_then : (xs ys : List Answered) (p q : List Piece) → AreBayPieces xs p → AreBayPieces ys q → AreBayPieces (xs ++ ys) (p ++ q)
pieces_then [] ys p q is are = subst (λ (l : List Piece). AreBayPieces ys (l ++ q)) (sym is) are
pieces_then (x ∷ xs) ys p q (lines, rest, stated, more, is) are = (lines, rest ++ q, stated, pieces_then xs ys rest q more are, ap (λ l. l ++ q) is)

answers_then : (chosen : Chosen) (xs ys : List BayProblem) (found others : List Answered) → AreTrueAnswers chosen xs found → AreTrueAnswers chosen ys others → AreTrueAnswers chosen (xs ++ ys) (found ++ others)
answers_then chosen xs ys found others first next = record {
  one_for_each = map-append (λ (b : Answered). b.stated) found others ∙ ap (λ (l : List BayProblem). l ++ map (λ (b : Answered). b.stated) others) first.one_for_each
      ∙ ap (λ (l : List BayProblem). xs ++ l) next.one_for_each;
  each_true = All-append (λ (b : Answered). IsSolved b.stated.problem chosen b.solved) found others first.each_true next.each_true;
}

answer_then : (chosen : Chosen) (x : BayProblem) (solved : Solved) (ys : List BayProblem) (bs : List Answered) → IsSolved x.problem chosen solved → AreTrueAnswers chosen ys bs
    → AreTrueAnswers chosen (x ∷ ys) (answered_so x solved ∷ bs)
answer_then chosen x solved ys bs is next = record {
  one_for_each = ap (λ (l : List BayProblem). x ∷ l) next.one_for_each;
  each_true = All-cons (λ (b : Answered). IsSolved b.stated.problem chosen b.solved) (answered_so x solved) bs is next.each_true;
}

no_answers : (chosen : Chosen) → AreTrueAnswers chosen [] []
no_answers chosen = record { one_for_each = refl; each_true = All-nil (λ (b : Answered). IsSolved b.stated.problem chosen b.solved) }

-- what holds of all holds of those behind some
behind : {X : Type 0} (P : X → Type 0) (before rest : List X) → AllByRecursion P (before ++ rest) → AllByRecursion P rest
behind P [] rest all = all
behind P (x ∷ before) rest all = behind P before rest all.1

pub problems_behind : (before rest all : List BayProblem) → before ++ rest ≡ all → All (λ x. IsProblem x.problem) all → AllByRecursion (λ x. IsProblem x.problem) rest
problems_behind before rest all is each =
    behind (λ (x : BayProblem). IsProblem x.problem) before rest
    (subst (AllByRecursion (λ (x : BayProblem). IsProblem x.problem)) (sym is) (recursion_from_All (λ (x : BayProblem). IsProblem x.problem) all each))

-- before the first
pub no_bays : (chosen : Chosen) (s : Sinks) (done : BaysDone) → s.passed ≤ most_interruptions → AreKept [] done → WritesBays chosen [] s s done
no_bays chosen s done few kept = ([], no_answers chosen, ([], refl, gets_nothing s few), kept)

-- and one more
pub bays_more : (chosen : Chosen) (before : List BayProblem) (bay : BayProblem) (solved : Solved) (a b c : Sinks) (done next : BaysDone) → WritesBays chosen before a b done
    → WritesBay chosen bay b c solved → ((answered : List Answered) → AreKept answered done → AreKept (answered ++ answered_so bay solved ∷ []) next)
    → WritesBays chosen (before ++ bay ∷ []) a c next
bays_more chosen before bay solved a b c done next (answered, true_answers, (p, are, got), kept) (is, (q, own, took)) keeps = (
  answered ++ answered_so bay solved ∷ [],
  answers_then chosen before (bay ∷ []) answered (answered_so bay solved ∷ []) true_answers (answer_then chosen bay solved [] [] is (no_answers chosen)),
  (p ++ q, pieces_then answered (answered_so bay solved ∷ []) p q are own, gets_then p q 0 a b c got took),
  keeps answered kept,
)

-- or it stops there, and the others have answers too
pub bays_stop : (chosen : Chosen) (before : List BayProblem) (bay : BayProblem) (rest all : List BayProblem) (a b c : Sinks) (done : BaysDone) (f : Fault) → before ++ bay ∷ rest ≡ all
    → All (λ x. IsProblem x.problem) all → WritesBays chosen before a b done → StopsBay chosen bay b c f → StopsBays chosen all a c f
bays_stop chosen before bay rest all a b c done f whole each (answered, true_answers, (p, are, got), kept) (solved, is, (q, own, stop)) =
    let problems = problems_behind before (bay ∷ rest) all whole each in
    let others = can_be_answered chosen rest problems.1 in
    let r : List Piece = others.pieces in (
      answered ++ answered_so bay solved ∷ others.answered,
      subst (λ (l : List BayProblem). AreTrueAnswers chosen l (answered ++ answered_so bay solved ∷ others.answered)) whole
          (answers_then chosen before (bay ∷ rest) answered (answered_so bay solved ∷ others.answered) true_answers (answer_then chosen bay solved rest others.answered is others.true_answers)),
      (
        p ++ (q ++ r),
        pieces_then answered (answered_so bay solved ∷ others.answered) p (q ++ r) are (pieces_then (answered_so bay solved ∷ []) others.answered q r own others.are),
        stops_behind p (q ++ r) a b c f got (stops_before q r b c f stop),
      ),
    )

-- as many are kept as were answered
pub as_many : (chosen : Chosen) (problems : List BayProblem) (a b : Sinks) (done : BaysDone) → WritesBays chosen problems a b done → done.bays ≡ length problems
as_many chosen problems a b done (answered, true_answers, written, kept) =
    omega (arith, kept.bays, length-map answered (λ (x : Answered). x.stated), ap length true_answers.one_for_each)

-- and no more are decided
pub fewer_decided : (chosen : Chosen) (problems : List BayProblem) (a b : Sinks) (done : BaysDone) → WritesBays chosen problems a b done → done.decided ≤ done.bays
fewer_decided chosen problems a b done (answered, true_answers, written, kept) = few_decided answered done kept
