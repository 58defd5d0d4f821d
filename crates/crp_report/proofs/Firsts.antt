-- The lines of a first best plan are the same, however it was found.
use Rattle.std.proofs.Common.{◌≡◌, ℕ, List, [], ◌∷◌, ◌++◌, Contains, sym, ap, ◌∙◌, subst}
use Rattle.std.proofs.lemmas.List.Elements.{All-contains}
use Rattle.crp_plan.specs.declared.moves.Move.{Move}
use Rattle.crp_plan.specs.Bay.{Problem, IsProblem, Position, start}
use Rattle.crp_plan.specs.Plans.{ProblemPath}
use Rattle.crp_plan.proofs.Determined.{legal_is}
use Rattle.crp_plan.proofs.Paths.{same_plan}
use Rattle.crp_order.specs.declared.bay_problem.BayProblem.{BayProblem}
use Rattle.crp_solve.specs.declared.answer.Answer.{Answer}
use Rattle.crp_solve.specs.declared.answer.Answer.TheVariants as answer
use Rattle.crp_solve.specs.Answers.{IsTrueAnswer}
use Rattle.crp_solve.specs.Solved.{IsSolved}
use Rattle.crp_solve.specs.Chosen.{Chosen}
use Rattle.crp_solve.proofs.Agreeing.{one_first}
use Rattle.crp_said.specs.MoveLines.{move_line, AreMoveLines}
use Rattle.crp_said.specs.declared.said.Said.TheVariants.{First}
use Rattle.crp_report.specs.Answered.{Answered, plan_in, said_by}
use Rattle.crp_report.specs.Report.{answer_line, ArePlanLines, MayBePlanLines, AreBayLines}
use Rattle.crp_report.specs.Chosen.{RunChosen}
use Rattle.crp_report.specs.Runs.{RunSeen, Made, IsMade}
use Rattle.crp_report.specs.Said.{IsReportedFirst}

-- moves have one text
one_text : (names : List (List ℕ)) (s : Position) (moves : List Move) (text also : List ℕ) → AreMoveLines names s moves text → AreMoveLines names s moves also → text ≡ also
one_text names s [] text also stated again = stated ∙ sym again
one_text names s (m ∷ moves) text also (t, rest, legal, stated, is) (u, more, allowed, again, also-is) =
    let P : Position → Type 0 = λ v. AreMoveLines names v moves rest in
    let same = one_text names u moves rest more (subst P (legal_is s m t u legal allowed) stated) again in
    is ∙ ap (λ (l : List ℕ). move_line names s m ++ l) same ∙ sym also-is

-- so has a plan
plan_once : (names : List (List ℕ)) (plan : ProblemPath) (text also : List ℕ) → IsProblem plan.problem → ArePlanLines names plan text → ArePlanLines names plan also → text ≡ also
plan_once names plan text also problem (moves, complete, path, stated) (others, ended, way, again) =
    let P : List Move → Type 0 = λ l. AreMoveLines names (start plan.problem) l text in
    one_text names (start plan.problem) others text also (subst P (same_plan plan.problem moves others problem complete ended (path ∙ sym way)) stated) again

-- what is stated of an answer to the problem of a bay
abbrev IsTextOfAnswer : BayProblem → Answer → List ℕ → Type 0
IsTextOfAnswer stated found text = (lines : List ℕ) × MayBePlanLines stated.names (plan_in found) lines × (text ≡ answer_line stated.bay found ++ lines)

-- both are first best plans, so they are one
first_text_is_one : (stated : BayProblem) (budget other : ℕ) (found again : Answer) (expanded more : ℕ) (count twin : ℕ) (text also : List ℕ)
    → IsTrueAnswer stated.problem budget found expanded → IsTrueAnswer stated.problem other again more → said_by found ≡ First count → said_by again ≡ First twin
    → IsTextOfAnswer stated found text → IsTextOfAnswer stated again also → text ≡ also
first_text_is_one stated budget other (answer.Optimal plan cert) again expanded more count twin text also t u e f tells reprints = absurd (cc)
first_text_is_one stated budget other (answer.NoPlan cert) again expanded more count twin text also t u e f tells reprints = absurd (cc)
first_text_is_one stated budget other (answer.Between lower cert plan why) again expanded more count twin text also t u e f tells reprints = absurd (cc)
first_text_is_one stated budget other (answer.First plan cert) (answer.Optimal plan' cert') expanded more count twin text also t u e f tells reprints = absurd (cc)
first_text_is_one stated budget other (answer.First plan cert) (answer.NoPlan cert') expanded more count twin text also t u e f tells reprints = absurd (cc)
first_text_is_one stated budget other (answer.First plan cert) (answer.Between lower cert' plan' why) expanded more count twin text also t u e f tells reprints = absurd (cc)
first_text_is_one stated budget other (answer.First plan cert) (answer.First plan' cert') expanded more count twin text also t u e f (lines, tells, is) (others, reprints, also-is) =
    let ok = u.accepted in
    let first = u.says in
    let plan_is = first.plan_is in
    let same : plan ≡ plan' = one_first stated.problem plan plan' cert cert' t.says u.says in
    let P : ProblemPath → Type 0 = λ route. ArePlanLines stated.names route lines in
    let Q : Problem → Type 0 = λ p. IsProblem p in
    let problem : IsProblem plan'.problem = subst Q (sym plan_is.of_problem) ok.is_problem in
    let one : lines ≡ others = plan_once stated.names plan' lines others problem (subst P same tells) reprints in
    is ∙ ap (λ (l : List ℕ). answer_line stated.bay (answer.First plan cert) ++ l) one
    ∙ ap (λ (route : ProblemPath). answer_line stated.bay (answer.First route cert) ++ others) same ∙ sym also-is

pub same_first : (chosen other : Chosen) (bay again : Answered) (text also : List ℕ) → IsSolved bay.stated.problem chosen bay.solved → IsSolved again.stated.problem other again.solved
    → IsReportedFirst bay → IsReportedFirst again → bay.stated ≡ again.stated → AreBayLines bay text → AreBayLines again also → text ≡ also
same_first chosen other bay again text also is was (count, first) (twin, second) same tells reprints =
    let P : BayProblem → Type 0 = λ stated. IsTrueAnswer stated.problem chosen.budget bay.solved.answer bay.solved.expanded in
    let Q : BayProblem → Type 0 = λ stated. IsTextOfAnswer stated bay.solved.answer text in
    first_text_is_one again.stated chosen.budget other.budget bay.solved.answer again.solved.answer bay.solved.expanded again.solved.expanded count twin text also
    (subst P same is.answer) was.answer first second (subst Q same tells) reprints

-- so it is with the bays of two runs
pub same_firsts : (chosen other : RunChosen) (seen later : RunSeen) (made also : Made) (bay again : Answered) (text more : List ℕ) → IsMade chosen seen made → IsMade other later also
    → Contains made.answered bay → Contains also.answered again → IsReportedFirst bay → IsReportedFirst again → bay.stated ≡ again.stated → AreBayLines bay text → AreBayLines again more
    → text ≡ more
same_firsts chosen other seen later made also bay again text more is was here there first second same tells reprints =
    let t = is.true_answers in
    let u = was.true_answers in
    same_first chosen.search other.search bay again text more (All-contains (λ (a : Answered). IsSolved a.stated.problem chosen.search a.solved) made.answered bay t.each_true here)
    (All-contains (λ (a : Answered). IsSolved a.stated.problem other.search a.solved) also.answered again u.each_true there) first second same tells reprints
