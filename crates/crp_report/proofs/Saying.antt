-- What a run says, and that two runs with one report say the same.
use Rattle.std.proofs.Common.{◌≡◌, ℕ, ◌+◌, ◌≤◌, cond, List, [], ◌∷◌, ◌++◌, length, map, Option, Some, None, IfSome, refl, sym, ap, ◌∙◌, subst, arith, append_assoc}
use Rattle.std.specs.Prelude.{flat_map, count_by, fold, option_map}
use Rattle.std.specs.List.{AllByRecursion, AllZip}
use Rattle.std.proofs.lemmas.List.Elements.{recursion_from_All}
use Rattle.std.proofs.lemmas.Slice.Zip.{AllZip-long}
use Rattle.crp_plan.specs.Bay.{Problem, IsProblem, start}
use Rattle.crp_plan.specs.BayNames.{IsYardBay}
use Rattle.crp_plan.specs.Plans.{ProblemPath}
use Rattle.crp_plan.proofs.Tallies.{cap_low}
use Rattle.crp_yard.proofs.NamedBays.{yard_named}
use Rattle.crp_order.specs.BayProblems.{IsNamedProblem}
use Rattle.crp_order.proofs.NamedProblems.{problems_named}
use Rattle.crp_solve.specs.declared.answer.Answer.{Answer}
use Rattle.crp_solve.specs.declared.answer.Answer.TheVariants as answer
use Rattle.crp_solve.specs.declared.answer.Cause.TheVariants as cause
use Rattle.crp_solve.specs.Answers.{IsTrueAnswer, IsPlanOf}
use Rattle.crp_solve.specs.Solved.{IsSolved}
use Rattle.crp_solve.specs.Chosen.{Chosen}
use Rattle.crp_solve.proofs.Limits.{count_low}
use Rattle.crp_said.specs.declared.numbers.Numbers.{Numbers}
use Rattle.crp_said.specs.Said.{counts_line, bays_line, is_settled, BaySaid, bay_text, report_text}
use Rattle.crp_said.specs.Spelled.{most, AreSmall, IsSmall, AreMoves, IsSayable, front_text}
use Rattle.crp_said.proofs.Bytes.{IsPlain}
use Rattle.crp_said.proofs.MoveBodies.{are_moves}
use Rattle.crp_said.proofs.Takes.{plain_names}
use Rattle.crp_said.proofs.OneReport.{text_once}
use Rattle.crp_report.specs.Answered.{Answered, plan_in, said_by, status_of, is_decided}
use Rattle.crp_report.specs.Chosen.{RunChosen}
use Rattle.crp_report.specs.Report.{decided, MayBePlanLines, AreLinesOfBays}
use Rattle.crp_report.specs.Runs.{RunSeen, Made, IsMade, numbers_of}
use Rattle.crp_report.specs.Said.{IsSaidOf, SaysOfBays, SayTheSame}
use Rattle.crp_report.proofs.Counts.{numbers_small}

-- a bay of which something can be said
pub record IsReadable (bay : Answered) : Type 0 where
  pub named : IsYardBay bay.stated.bay
  pub plain : AllByRecursion IsPlain bay.stated.names
  pub small : IsSmall (said_by bay.solved.answer)

-- what is said of bays
pub record AreSaid (answered : List Answered) (text : List ℕ) : Type 0 where
  pub bays : List BaySaid
  pub of_each : AllZip IsSaidOf answered bays
  pub sayable : AllByRecursion IsSayable bays
  pub is : text ≡ flat_map bay_text bays

-- the lines of a plan are lines of moves
plan_moves : (names : List (List ℕ)) (plan : Option ProblemPath) (text : List ℕ) → AllByRecursion IsPlain names → MayBePlanLines names plan text → AreMoves text
plan_moves names None text plain stated = record { bodies = []; each = tt; is = stated }
plan_moves names (Some plan) text plain (moves, complete, path, stated) = are_moves names (start plan.problem) moves text plain stated

bays_said : (answered : List Answered) (text : List ℕ) → AllByRecursion IsReadable answered → AreLinesOfBays answered text → AreSaid answered text
bays_said [] text can stated = record { bays = []; of_each = tt; sayable = tt; is = stated }
bays_said (bay ∷ answered) text can (first, rest, (lines, plan, first-is), stated, is) =
    let k = can.0 in
    let more = bays_said answered rest can.1 stated in
    let b : BaySaid = record { bay = bay.stated.bay; said = said_by bay.solved.answer; lines = lines } in
    record {
      bays = b ∷ more.bays;
      of_each = (record { bay_is = refl; said_is = refl; lines_are = plan }, more.of_each);
      sayable = (record { named = k.named; small = k.small; lines = plan_moves bay.stated.names (plan_in bay.solved.answer) lines k.plain plan }, more.sayable);
      is = is ∙ ap (λ l. l ++ rest) first-is ∙ ap (λ l. bay_text b ++ l) more.is;
    }

-- as many are settled as are decided
settled : (found : Answer) → is_settled (said_by found) ≡ is_decided (status_of found)
settled (answer.Optimal plan cert) = refl
settled (answer.First plan cert) = refl
settled (answer.NoPlan cert) = refl
settled (answer.Between lower cert plan cause.Budget) = refl
settled (answer.Between lower cert plan cause.Memory) = refl
settled (answer.Between lower cert plan cause.Time) = refl

settled_from : (answered : List Answered) (bays : List BaySaid) → AllZip IsSaidOf answered bays → (n : ℕ)
    → fold (λ m (b : BaySaid). m + cond (is_settled b.said) 1 0) n bays ≡ fold (λ m (bay : Answered). m + cond (is_decided (status_of bay.solved.answer)) 1 0) n answered
settled_from [] [] said n = refl
settled_from [] (b ∷ bays) said n = absurd said
settled_from (bay ∷ answered) [] said n = absurd said
settled_from (bay ∷ answered) (b ∷ bays) said n =
    let first = said.0 in
    let e : is_settled b.said ≡ is_decided (status_of bay.solved.answer) = ap is_settled first.said_is ∙ settled bay.solved.answer in
    rw e (settled_from answered bays said.1 (n + cond (is_decided (status_of bay.solved.answer)) 1 0))

-- what is said of small numbers
small_answer : (p : Problem) (budget : ℕ) (found : Answer) (expanded : ℕ) → IsTrueAnswer p budget found expanded → IsSmall (said_by found)
small_answer p budget (answer.Optimal plan cert) expanded t =
    let o = t.says in
    let ok = t.accepted in
    let low = count_low p (Some plan) ok.is_problem o.plan_is in
    let few = cap_low p ok.is_problem in omega (arith, low, few)
small_answer p budget (answer.First plan cert) expanded t =
    let o = t.says in
    let ok = t.accepted in
    let low = count_low p (Some plan) ok.is_problem o.plan_is in
    let few = cap_low p ok.is_problem in omega (arith, low, few)
small_answer p budget (answer.NoPlan cert) expanded t = tt
small_answer p budget (answer.Between lower cert plan why) expanded t =
    let o = t.says in
    let ok = t.accepted in
    let few = cap_low p ok.is_problem in
    let within = ok.within_cap in
    let shown = o.shown in
    (omega (arith, few, within, shown), upper plan o.plan_is ok.is_problem)
  where
    upper : (plan : Option ProblemPath) → IfSome plan (IsPlanOf p) → IsProblem p → IfSome (option_map (λ (route : ProblemPath). length route.path) plan) (λ count. count ≤ most)
    upper None is problem = tt
    upper (Some route) is problem =
        let low = count_low p (Some route) problem is in
        let few = cap_low p problem in omega (arith, low, few)

readable : (chosen : Chosen) (answered : List Answered) → AllByRecursion IsNamedProblem (map (λ bay. bay.stated) answered)
    → AllByRecursion (λ bay. IsSolved bay.stated.problem chosen bay.solved) answered → AllByRecursion IsReadable answered
readable chosen [] named t = tt
readable chosen (bay ∷ answered) named t =
    let name = named.0 in
    let is = t.0 in (
      record {
        named = name.bay;
        plain = plain_names bay.stated.names name.names;
        small = small_answer bay.stated.problem chosen.budget bay.solved.answer bay.solved.expanded is.answer;
      },
      readable chosen answered named.1 t.1,
    )

-- the problems of a run have names
pub answered_named : (chosen : RunChosen) (seen : RunSeen) (m : Made) → IsMade chosen seen m → AllByRecursion IsNamedProblem (map (λ bay. bay.stated) m.answered)
answered_named chosen seen m is =
    let t = is.true_answers in
    subst (AllByRecursion IsNamedProblem) (sym t.one_for_each) (problems_named m.yard m.sequence (yard_named chosen.input.sizes m.list m.yard is.listed))

-- what a run says, and that it can be said
pub record HasSaid (m : Made) : Type 0 where
  pub bays : List BaySaid
  pub said : SaysOfBays m bays
  pub sayable : AllByRecursion IsSayable bays

pub run_says : (chosen : RunChosen) (seen : RunSeen) (m : Made) → IsMade chosen seen m → HasSaid m
run_says chosen seen m is =
    let t = is.true_answers in
    let each = recursion_from_All (λ (bay : Answered). IsSolved bay.stated.problem chosen.search bay.solved) m.answered t.each_true in
    let report = is.report in
    let are = bays_said m.answered report.0 (readable chosen.search m.answered (answered_named chosen seen m is) each) report.1 in
    let n = numbers_of m.yard m.orders m.sequence in
    let count : count_by (λ (b : BaySaid). is_settled b.said) are.bays ≡ decided m.answered = settled_from m.answered are.bays are.of_each 0 in
    record {
      bays = are.bays;
      said = record {
        of_each = are.of_each;
        report = report.2 ∙ ap (λ l. counts_line n ++ (l ++ bays_line (length m.answered) (decided m.answered))) are.is
            ∙ ap (λ k. counts_line n ++ (flat_map bay_text are.bays ++ bays_line k (decided m.answered))) (sym (AllZip-long IsSaidOf m.answered are.bays are.of_each))
            ∙ ap (λ k. counts_line n ++ (flat_map bay_text are.bays ++ bays_line (length are.bays) k)) (sym count);
      };
      sayable = are.sayable;
    }

pub small_numbers : (chosen : RunChosen) (seen : RunSeen) (m : Made) → IsMade chosen seen m → AreSmall (numbers_of m.yard m.orders m.sequence)
small_numbers chosen seen m is = numbers_small chosen.input.mode chosen.input.bays chosen.input.loading m.message m.yard m.orders m.sequence is.ordered is.in_sequence

-- two runs whose reports are the same bytes say the same
pub same_said : (chosen other : RunChosen) (seen again : RunSeen) (m n : Made) → IsMade chosen seen m → IsMade other again n → m.report ≡ n.report → SayTheSame m n
same_said chosen other seen again m n is-m is-n e =
    let a = run_says chosen seen m is-m in
    let b = run_says other again n is-n in
    let first = a.said in
    let second = b.said in
    let numbers : Made → Numbers = λ r. numbers_of r.yard r.orders r.sequence in
    let settled : List BaySaid → ℕ = λ bays. count_by (λ (b : BaySaid). is_settled b.said) bays in
    let front : (r : Made) (bays : List BaySaid) → front_text (numbers r) bays ++ bays_line (length bays) (settled bays) ≡ report_text (numbers r) bays =
    λ r bays. append_assoc (counts_line (numbers r)) (flat_map bay_text bays) (bays_line (length bays) (settled bays)) in
    let once = text_once (numbers m) (numbers n) a.bays b.bays _ _ (small_numbers chosen seen m is-m) (small_numbers other again n is-n) a.sayable b.sayable
    (front m a.bays ∙ sym first.report ∙ e ∙ second.report ∙ sym (front n b.bays)) in
    record { numbers = once.0; bays = a.bays; said = first; said_again = subst (SaysOfBays n) (sym once.1) second }
