-- Every list of problems has true answers, and every true answer can be stated.
use Rattle.std.proofs.Common.{ℕ, List, [], ◌∷◌, ◌++◌, Option, Some, None, IfSome, refl, sym, ap, subst}
use Rattle.std.specs.List.{AllByRecursion}
use Rattle.std.proofs.lemmas.List.Elements.{All-nil, All-cons}
use Rattle.crp_plan.specs.declared.moves.Move.{Move}
use Rattle.crp_plan.specs.Bay.{Problem, IsProblem, Position, start, IsPlan, Runs}
use Rattle.crp_plan.specs.Plans.{ProblemPath}
use Rattle.crp_order.specs.declared.bay_problem.BayProblem.{BayProblem}
use Rattle.crp_solve.specs.Answers.{IsPlanOf}
use Rattle.crp_solve.specs.Solved.{IsSolved}
use Rattle.crp_solve.specs.Chosen.{Chosen}
use Rattle.crp_solve.proofs.Answerable.{has_answer}
use Rattle.crp_said.specs.MoveLines.{move_line, AreMoveLines}
use Rattle.crp_report.specs.declared.fault.Output.TheVariants as output
use Rattle.crp_report.specs.Answered.{Answered, AreTrueAnswers, plan_in}
use Rattle.crp_report.specs.Report.{answer_line, MayBePlanLines, AreBayLines, certificate_of}
use Rattle.crp_report.specs.Pieces.{Piece, piece, AreBayPieces}
use Rattle.crp_report.proofs.Leaving.{plan_is}

-- the lines of legal moves
lines_of : (names : List (List ℕ)) (s t : Position) (moves : List Move) → Runs s moves t → (text : List ℕ) × AreMoveLines names s moves text
lines_of names s t [] runs = ([], refl)
lines_of names s t (m ∷ moves) (u, legal, runs) = let (rest, are) = lines_of names u t moves runs in (move_line names s m ++ rest, (u, rest, legal, are, refl))

-- of a plan, if there is one
plan_lines_of : (names : List (List ℕ)) (p : Problem) (plan : Option ProblemPath) → IfSome plan (IsPlanOf p) → (text : List ℕ) × MayBePlanLines names plan text
plan_lines_of names p None is = ([], refl)
plan_lines_of names p (Some plan) is =
    let (moves, complete, path) = is.complete in
    let own : IsPlan plan.problem moves = subst (λ (q : Problem). IsPlan q moves) (sym is.of_problem) complete in
    let (end, runs, finished) = own in
    let (text, are) = lines_of names (start plan.problem) end moves runs in
    (text, (moves, own, path, are))

-- the lines of a bay
pub can_be_stated : (chosen : Chosen) (a : Answered) → IsSolved a.stated.problem chosen a.solved → (lines : List ℕ) × AreBayLines a lines
can_be_stated chosen a is =
    let (lines, are) = plan_lines_of a.stated.names a.stated.problem (plan_in a.solved.answer)
    (plan_is a.stated.problem chosen.budget a.solved.answer a.solved.expanded is.answer) in
    (answer_line a.stated.bay a.solved.answer ++ lines, (lines, are, refl))

-- the two pieces of a bay
abbrev pub bay_pieces : List ℕ → Answered → List Piece
bay_pieces lines a = piece output.Report lines ∷ piece output.Certificates (certificate_of a) ∷ []

pub are_of_bay : (a : Answered) (lines : List ℕ) → AreBayLines a lines → AreBayPieces (a ∷ []) (bay_pieces lines a)
are_of_bay a lines are = (lines, [], are, refl, refl)

-- true answers, and their pieces
pub record CanBeAnswered (chosen : Chosen) (problems : List BayProblem) : Type 0 where
  pub answered : List Answered
  pub true_answers : AreTrueAnswers chosen problems answered
  pub pieces : List Piece
  pub are : AreBayPieces answered pieces

pub can_be_answered : (chosen : Chosen) (problems : List BayProblem) → AllByRecursion (λ bay. IsProblem bay.problem) problems → CanBeAnswered chosen problems
can_be_answered chosen [] each = record {
  answered = [];
  true_answers = record { one_for_each = refl; each_true = All-nil (λ (a : Answered). IsSolved a.stated.problem chosen a.solved) };
  pieces = [];
  are = refl;
}
can_be_answered chosen (bay ∷ problems) each =
    let rest = can_be_answered chosen problems each.1 in
    let (solved, is) = has_answer bay.problem chosen each.0 in
    let a : Answered = record { stated = bay; solved = solved } in
    let (lines, stated) = can_be_stated chosen a is in
    let t = rest.true_answers in
    record {
      answered = a ∷ rest.answered;
      true_answers = record {
        one_for_each = ap (λ (l : List BayProblem). bay ∷ l) t.one_for_each;
        each_true = All-cons (λ (x : Answered). IsSolved x.stated.problem chosen x.solved) a rest.answered is t.each_true;
      };
      pieces = piece output.Report lines ∷ piece output.Certificates (certificate_of a) ∷ rest.pieces;
      are = (lines, rest.pieces, stated, rest.are, refl);
    }
