-- What a run says of each bay is so.
use Rattle.std.proofs.Common.{◌≡◌, ℕ, List, [], ◌∷◌, length, map, filter, Option, Some, None, MatchOption, refl, sym, ap, ◌∙◌, subst}
use Rattle.std.specs.Prelude.{option_map}
use Rattle.std.specs.List.{AllByRecursion, AllZip}
use Rattle.std.proofs.lemmas.List.Elements.{All-from_recursion, recursion_from_All}
use Rattle.crp_plan.specs.Bay.{Problem, cap, path_of}
use Rattle.crp_plan.specs.BayNames.{YardBay}
use Rattle.crp_plan.specs.Plans.{ProblemPath}
use Rattle.crp_plan.proofs.Covered.{relocations-path}
use Rattle.crp_yard.specs.Inventory.{StackedBay}
use Rattle.crp_order.specs.declared.bay_problem.BayProblem.{BayProblem}
use Rattle.crp_order.specs.BayProblems.{leaving, staying, ranked, bay_problem_of, is_called, IsNamedProblem}
use Rattle.crp_solve.specs.declared.answer.Answer.{Answer}
use Rattle.crp_solve.specs.declared.answer.Answer.TheVariants as answer
use Rattle.crp_solve.specs.declared.answer.Cause.TheVariants as cause
use Rattle.crp_tree.specs.First.{IsFirstBest}
use Rattle.crp_solve.specs.Chosen.{Chosen}
use Rattle.crp_solve.specs.Answers.{IsTrueAnswer, IsPlanOf}
use Rattle.crp_solve.specs.Solved.{IsSolved}
use Rattle.crp_checker.specs.Files.{BeginsWithTexts}
use Rattle.crp_yard.specs.Naming.{FitsLine}
use Rattle.crp_said.specs.declared.said.Said.{Said}
use Rattle.crp_said.specs.Said.{BaySaid, report_text}
use Rattle.crp_said.proofs.Takes.{plan_takes}
use Rattle.crp_report.specs.Answered.{Answered, plan_in, said_by}
use Rattle.crp_report.specs.Chosen.{RunChosen}
use Rattle.crp_report.specs.Report.{ArePlanLines, MayBePlanLines, certificate_of}
use Rattle.crp_report.specs.Runs.{RunSeen, Made, IsMade, numbers_of}
use Rattle.crp_report.specs.Said.{IsSaidOf}
use Rattle.crp_report.proofs.Saying.{answered_named, run_says}
use Rattle.crp_audit.specs.Headline.{Handed, Reported, said_of, problem_in, PrintsPlan, PrintsFirst, IsSo, verdict_said, BearsOut, IsShownOf, IsTrueOf, IsHeadline}
use Rattle.crp_headline.specs.Accepted.{handed_of}
use Rattle.crp_headline.proofs.Accepted.{answer_accepted, run_cut}

-- ---- one bay

-- the lines of the plan of an answer are as they should be, and its moves have its path
plan_printed : (h : Handed) (b : Reported) (plan : ProblemPath) → IsPlanOf (problem_in h b) plan → ArePlanLines (ranked h.sequence b.bay.1) plan b.lines
    → AllByRecursion FitsLine (ranked h.sequence b.bay.1) → (prints : PrintsPlan h b (length plan.path)) × (path_of prints.moves ≡ plan.path)
plan_printed h b plan is stated fit =
    let P : Problem → Type 0 = λ p. ArePlanLines (ranked h.sequence b.bay.1) (record { problem = p; path = plan.path }) b.lines in
    let (moves, complete, path, lines) = subst P is.of_problem stated in (
      record {
        moves = moves;
        complete = complete;
        printed = lines;
        counted = relocations-path moves ∙ ap length path;
        in_order = plan_takes (problem_in h b) (leaving h.sequence b.bay.1) (staying h.sequence b.bay.1) moves b.lines
            (All-from_recursion FitsLine (ranked h.sequence b.bay.1) fit) refl complete lines;
      },
      path,
    )

-- so are those of a first best plan
first_printed : (h : Handed) (b : Reported) (plan : ProblemPath) → IsPlanOf (problem_in h b) plan → IsFirstBest (problem_in h b) plan.path
    → ArePlanLines (ranked h.sequence b.bay.1) plan b.lines → AllByRecursion FitsLine (ranked h.sequence b.bay.1) → PrintsFirst h b (length plan.path)
first_printed h b plan is first stated fit =
    let printed = plan_printed h b plan is stated fit in
    record { plan = printed.0; first = subst (IsFirstBest (problem_in h b)) (sym printed.1) first }

plan_if : (h : Handed) (b : Reported) (plan : Option ProblemPath) → MatchOption plan (Unit {0}) (IsPlanOf (problem_in h b)) → MayBePlanLines (ranked h.sequence b.bay.1) plan b.lines
    → AllByRecursion FitsLine (ranked h.sequence b.bay.1) → MatchOption (option_map (λ (route : ProblemPath). length route.path) plan) (b.lines ≡ []) (PrintsPlan h b)
plan_if h b None is stated fit = stated
plan_if h b (Some plan) is stated fit = (plan_printed h b plan is stated fit).0

answer_so : (h : Handed) (b : Reported) (budget : ℕ) (found : Answer) (expanded : ℕ) → IsTrueAnswer (problem_in h b) budget found expanded
    → MayBePlanLines (ranked h.sequence b.bay.1) (plan_in found) b.lines → AllByRecursion FitsLine (ranked h.sequence b.bay.1) → IsSo h b (said_by found)
answer_so h b budget (answer.Optimal plan cert) expanded t stated fit =
    let o = t.says in
    let best = o.best in
    ((plan_printed h b plan o.plan_is stated fit).0, best.least)
answer_so h b budget (answer.First plan cert) expanded t stated fit =
    let o = t.says in
    let first = o.first in
    let best = first.best in
    (first_printed h b plan o.plan_is o.first stated fit, best.least)
answer_so h b budget (answer.NoPlan cert) expanded t stated fit = let o = t.says in (o.none, stated)
answer_so h b budget (answer.Between lower cert plan why) expanded t stated fit =
    let o = t.says in (o.bounds, plan_if h b plan o.plan_is stated fit)

-- the verdict that says the same as an answer bears it out: of no bay an answer says that its moves were edited
answer_borne_out : (most : ℕ) (found : Answer) → BearsOut most (said_by found) (verdict_said most (said_by found))
answer_borne_out most (answer.Optimal plan cert) = refl
answer_borne_out most (answer.First plan cert) = refl
answer_borne_out most (answer.NoPlan cert) = refl
answer_borne_out most (answer.Between lower cert plan cause.Budget) = refl
answer_borne_out most (answer.Between lower cert plan cause.Memory) = refl
answer_borne_out most (answer.Between lower cert plan cause.Time) = refl

-- a bay of the yard with what is said of it and its certificate
abbrev pub reported : StackedBay → Answered → BaySaid → Reported
reported bay a s = record { bay = bay; said = s.said; lines = s.lines; certificate = certificate_of a }

bay_true : (h : Handed) (chosen : Chosen) (bay : StackedBay) (a : Answered) (s : BaySaid) → a.stated ≡ bay_problem_of h.yard.sizes h.sequence bay
    → IsSolved a.stated.problem chosen a.solved → IsNamedProblem a.stated → IsSaidOf a s → IsTrueOf h (reported bay a s)
bay_true h chosen bay a s e t named said =
    let b = reported bay a s in
    let p = problem_in h b in
    let P : BayProblem → Type 0 = λ stated. IsTrueAnswer stated.problem chosen.budget a.solved.answer a.solved.expanded in
    let Q : BayProblem → Type 0 = λ stated. AllByRecursion FitsLine stated.names in
    let R : BayProblem → Type 0 = λ stated. MayBePlanLines stated.names (plan_in a.solved.answer) s.lines in
    let S : BayProblem → Type 0 = λ stated. IsShownOf stated.bay stated.problem (certificate_of a) (verdict_said (cap stated.problem) (said_by a.solved.answer)) in
    let shown = answer_accepted a.stated.bay a.stated.problem chosen.budget a.solved.answer a.solved.expanded named.bay t.answer in
    record {
      so = subst (IsSo h b) (sym said.said_is) (answer_so h b chosen.budget a.solved.answer a.solved.expanded (subst P e t.answer) (subst R e said.lines_are) (subst Q e named.names));
      certified = verdict_said (cap p) s.said;
      borne_out = subst (λ (v : Said). BearsOut (cap p) v (verdict_said (cap p) v)) (sym said.said_is) (answer_borne_out (cap p) a.solved.answer);
      shown = subst (λ (v : Said). IsShownOf bay.0 p (certificate_of a) (verdict_said (cap p) v)) (sym said.said_is) (subst S e shown);
    }

-- ---- all bays

-- bays of the yard with what is said of them
record AreReported (h : Handed) (called : List StackedBay) (answered : List Answered) (said : List BaySaid) : Type 0 where
  bays : List Reported
  called_are : map (λ (b : Reported). b.bay) bays ≡ called
  said_are : map said_of bays ≡ said
  certificates_are : map (λ (b : Reported). b.certificate) bays ≡ map certificate_of answered
  each : AllByRecursion (IsTrueOf h) bays

-- of two lists that are equal the first items are, and the rest
both_same : {X : Type 0} (x y : X) (xs ys : List X) → x ∷ xs ≡ y ∷ ys → (x ≡ y) × (xs ≡ ys)
both_same x y xs ys e = (cc, cc)

all_reported : (h : Handed) (chosen : Chosen) (called : List StackedBay) (answered : List Answered) (said : List BaySaid)
    → map (λ bay. bay.stated) answered ≡ map (bay_problem_of h.yard.sizes h.sequence) called
    → AllByRecursion (λ bay. IsSolved bay.stated.problem chosen bay.solved) answered → AllByRecursion IsNamedProblem (map (λ bay. bay.stated) answered)
    → AllZip IsSaidOf answered said → AreReported h called answered said
all_reported h chosen [] [] [] e t named says = record { bays = []; called_are = refl; said_are = refl; certificates_are = refl; each = tt }
all_reported h chosen [] [] (s ∷ said) e t named says = absurd says
all_reported h chosen [] (a ∷ answered) said e t named says = absurd (let no : a.stated ∷ map (λ (bay : Answered). bay.stated) answered ≡ [] = e in cc)
all_reported h chosen (bay ∷ called) [] said e t named says =
    absurd (let no : [] ≡ bay_problem_of h.yard.sizes h.sequence bay ∷ map (bay_problem_of h.yard.sizes h.sequence) called = e in cc)
all_reported h chosen (bay ∷ called) (a ∷ answered) [] e t named says = absurd says
all_reported h chosen (bay ∷ called) (a ∷ answered) (s ∷ said) e t named says =
    let problem = bay_problem_of h.yard.sizes h.sequence bay in
    let same = both_same a.stated problem (map (λ (bay : Answered). bay.stated) answered) (map (bay_problem_of h.yard.sizes h.sequence) called) e in
    let more = all_reported h chosen called answered said same.1 t.1 named.1 says.1 in
    let is = says.0 in
    let name : bay.0 ≡ a.stated.bay = sym (ap (λ (stated : BayProblem). stated.bay) same.0) in
    let said_first : said_of (reported bay a s) ≡ s = ap (λ (n : YardBay). record { bay = n; said = s.said; lines = s.lines }) (name ∙ sym is.bay_is) in
    record {
      bays = reported bay a s ∷ more.bays;
      called_are = ap (λ l. bay ∷ l) more.called_are;
      said_are = ap (λ x. x ∷ map said_of more.bays) said_first ∙ ap (λ l. s ∷ l) more.said_are;
      certificates_are = ap (λ l. certificate_of a ∷ l) more.certificates_are;
      each = (bay_true h chosen bay a s same.0 t.0 named.0 is, more.each);
    }

-- what a run promises
pub headline_holds : (chosen : RunChosen) (seen : RunSeen) (made : Made) → IsMade chosen seen made → IsHeadline (handed_of made)
headline_holds chosen seen made is =
    let t = is.true_answers in
    let each = recursion_from_All (λ (bay : Answered). IsSolved bay.stated.problem chosen.search bay.solved) made.answered t.each_true in
    let run = run_says chosen seen made is in
    let says = run.said in
    let all = all_reported (handed_of made) chosen.search (filter (is_called made.sequence) made.yard.bays) made.answered run.bays t.one_for_each each (answered_named chosen seen made is) says.of_each in
    record {
      bays = all.bays;
      called = all.called_are;
      report = says.report ∙ ap (report_text (numbers_of made.yard made.orders made.sequence)) (sym all.said_are);
      certificates = subst (λ texts. BeginsWithTexts made.certificates texts []) (sym all.certificates_are) (run_cut chosen seen made is);
      each_true = All-from_recursion (IsTrueOf (handed_of made)) all.bays all.each;
    }
