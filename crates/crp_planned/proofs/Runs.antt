-- The report of a run is followed to the yard that the run writes.
use Rattle.std.proofs.Common.{◌≡◌, ◌∙◌, ◌+◌, ℕ, suc, Bool, true, false, List, [], ◌∷◌, length, map, Option, Some, None, MatchOption, IfSome, refl, sym, ap, subst}
use Rattle.std.specs.Prelude.{◌||◌, filter, option_map}
use Rattle.std.specs.List.{AllByRecursion, AllZip, IsDistinct}
use Rattle.std.specs.Map.{lookup}
use Rattle.std.proofs.lemmas.List.Elements.{recursion_from_All}
use Rattle.std.proofs.lemmas.Map.Made.{IsDistinct-keys_filter}
use Rattle.crp_plan.specs.declared.moves.Move.{Move}
use Rattle.crp_plan.specs.Bay.{Problem, IsProblem, Runs, start}
use Rattle.crp_plan.specs.BayNames.{YardBay, same_bay}
use Rattle.crp_plan.specs.Plans.{ProblemPath}
use Rattle.crp_plan.proofs.Covered.{relocations-path}
use Rattle.crp_plan.proofs.Paths.{same_plan}
use Rattle.crp_sizes.specs.Sizes.{YardSizes, heights_at}
use Rattle.crp_yard.specs.declared.bay_plan.BayPlan.{BayPlan}
use Rattle.crp_yard.specs.Inventory.{Inventory, StackedBay, FitBay}
use Rattle.crp_yard.specs.Ranks.{named}
use Rattle.crp_yard.specs.After.{plan_for, LeavesNamed, AreBaysAfter}
use Rattle.crp_sizes.proofs.Lists.{each_of}
use Rattle.crp_order.specs.declared.bay_problem.BayProblem.{BayProblem}
use Rattle.crp_order.specs.BayProblems.{ranked, problem_of, bay_problem_of, is_called}
use Rattle.crp_said.specs.declared.moves.SaidMove.{SaidMove}
use Rattle.crp_said.specs.MoveLines.{AreMoveLines}
use Rattle.crp_said.specs.Said.{BaySaid, count_said, report_text}
use Rattle.crp_said.specs.Spelled.{IsSayable}
use Rattle.crp_follow.specs.Crane.{Stack}
use Rattle.crp_follow.specs.Faults.{rows_in, is_named}
use Rattle.crp_follow.specs.Followed.{BayFollowed}
use Rattle.crp_solve.specs.declared.answer.Answer.{Answer}
use Rattle.crp_solve.specs.declared.answer.Answer.TheVariants as answer
use Rattle.crp_solve.specs.Answers.{IsPlanOf}
use Rattle.crp_solve.specs.Solved.{IsSolved}
use Rattle.crp_solve.specs.Chosen.{Chosen}
use Rattle.crp_report.specs.Answered.{Answered, plan_in, said_by, bay_plan_in, bay_plans}
use Rattle.crp_report.specs.Chosen.{RunChosen}
use Rattle.crp_report.specs.Report.{MayBePlanLines}
use Rattle.crp_report.specs.Runs.{RunSeen, Made, IsMade, numbers_of}
use Rattle.crp_report.specs.Said.{IsSaidOf}
use Rattle.crp_report.proofs.Leaving.{plan_is}
use Rattle.crp_report.proofs.Saying.{run_says, small_numbers}
use Rattle.crp_planned.specs.Ends.{IsRunFollowed}
use Rattle.crp_planned.proofs.Listed.{AreNamed, yard_listed}
use Rattle.crp_planned.proofs.Statable.{KeepsHeights}
use Rattle.crp_planned.proofs.Led.{BayLed, IsLed, unmoved, plan_led}
use Rattle.crp_planned.proofs.Numbered.{IsStatedAsWritten, moves_at, bays_at, stated_from, on_called, each_stands, bays_followed}
use Rattle.crp_planned.proofs.Orders.{few_sequenced}
use Rattle.crp_planned.proofs.After.{has_after, none_after, same_bays, no_plan, own_plans, turned}

-- the relocations that an answer says are those of its plan
said_count : (found : Answer) → count_said (said_by found) ≡ option_map (λ (plan : ProblemPath). length plan.path) (plan_in found)
said_count (answer.Optimal plan cert) = refl
said_count (answer.First plan cert) = refl
said_count (answer.NoPlan cert) = refl
said_count (answer.Between lower cert plan why) = refl

-- ---- one bay

-- its moves lead to what stands there afterwards
record BayLeft (yard : Inventory) (sequence : List (List ℕ)) (news : List StackedBay) (bay : StackedBay) (s : BaySaid) : Type 0 where
  moves : List SaidMove
  end : List Stack
  led : IsLed yard.sizes sequence (record { bay = bay; said = s; moves = moves; end = end })
  there : lookup (same_bay bay.0) news ≡ Some end

module _ (keep : KeepsHeights) (yard : Inventory) (sequence : List (List ℕ)) (plans : List BayPlan) (news : List StackedBay) (after : AreBaysAfter plans yard.bays news) where
  module _ (bay : StackedBay) (a : Answered) (s : BaySaid) (fit : FitBay (heights_at yard.sizes bay.0) bay.1) (names : AreNamed bay.1) (stands : rows_in yard bay.0 ≡ Some bay.1)
      (own : plan_for plans a.stated.bay ≡ bay_plan_in a) (stated : a.stated ≡ bay_problem_of yard.sizes sequence bay) (said : IsSaidOf a s) where
    name : a.stated.bay ≡ bay.0
    name = ap (λ (b : BayProblem). b.bay) stated

    as_planned : (plan : Option ProblemPath) → plan_in a.solved.answer ≡ plan
        → plan_for plans bay.0 ≡ option_map (λ route. record { bay = a.stated.bay; plan = route; names = a.stated.names }) plan
    as_planned plan e =
        ap (plan_for plans) (sym name) ∙ own ∙ ap (option_map (λ (route : ProblemPath). record { bay = a.stated.bay; plan = route; names = a.stated.names })) e

    counted : (plan : Option ProblemPath) → plan_in a.solved.answer ≡ plan → count_said s.said ≡ option_map (λ (route : ProblemPath). length route.path) plan
    counted plan e = ap count_said said.said_is ∙ said_count a.solved.answer ∙ ap (option_map (λ (route : ProblemPath). length route.path)) e

    lines_are : (plan : Option ProblemPath) → plan_in a.solved.answer ≡ plan → MayBePlanLines a.stated.names plan s.lines
    lines_are plan e = subst (λ o. MayBePlanLines a.stated.names o s.lines) e said.lines_are

    none_left : plan_in a.solved.answer ≡ None → BayLeft yard sequence news bay s
    none_left e =
        let left = has_after plans yard.bays news bay.0 bay.1 after stands in
        let same : left.left ≡ bay.1 = subst (λ (o : Option BayPlan). MatchOption o (left.left ≡ bay.1) (λ plan. LeavesNamed plan left.left)) (as_planned None e) left.are in
        record {
          moves = [];
          end = bay.1;
          led = unmoved yard.sizes sequence bay s (said.bay_is ∙ name) (counted None e) (lines_are None e);
          there = left.there ∙ ap Some same;
        }

    plan_left : (plan : ProblemPath) → plan_in a.solved.answer ≡ Some plan → IsPlanOf a.stated.problem plan → BayLeft yard sequence news bay s
    plan_left plan e of_plan =
        let left = has_after plans yard.bays news bay.0 bay.1 after stands in
        let p : Problem = problem_of (heights_at yard.sizes bay.0) sequence bay.1 in
        let (ranks, leaves, rows) = subst (λ (o : Option BayPlan). MatchOption o (left.left ≡ bay.1) (λ q. LeavesNamed q left.left)) (as_planned (Some plan) e) left.are in
        let (moves, complete, path, printed) = lines_are (Some plan) e in
        let q : plan.problem ≡ p = of_plan.of_problem ∙ ap (λ (b : BayProblem). b.problem) stated in
        let ranked_is : a.stated.names ≡ ranked sequence bay.1 = ap (λ (b : BayProblem). b.names) stated in
        let same : leaves.moves ≡ moves =
        same_plan plan.problem leaves.moves moves leaves.is_problem (leaves.end, leaves.runs, leaves.finished) complete (leaves.by_path ∙ sym path) in
        let runs : Runs (start p) moves leaves.end =
        subst (λ (problem : Problem). Runs (start problem) moves leaves.end) q (subst (λ (ms : List Move). Runs (start plan.problem) ms leaves.end) same leaves.runs) in
        let lines : AreMoveLines (ranked sequence bay.1) (start p) moves s.lines =
        subst (λ (problem : Problem). AreMoveLines (ranked sequence bay.1) (start problem) moves s.lines) q (subst (λ ns. AreMoveLines ns (start plan.problem) moves s.lines) ranked_is printed) in
        let l = plan_led keep yard.sizes sequence bay s (length plan.path) moves leaves.end fit names (said.bay_is ∙ name) (counted (Some plan) e) (relocations-path moves ∙ ap length path)
        (subst IsProblem q leaves.is_problem) runs leaves.finished lines in
        record {
          moves = l.0;
          end = named (ranked sequence bay.1) leaves.end.stacks;
          led = l.1;
          there = left.there ∙ ap Some (rows ∙ ap (named a.stated.names) leaves.left ∙ ap (λ ns. named ns leaves.end.stacks) ranked_is);
        }

    bay_left : (plan : Option ProblemPath) → plan_in a.solved.answer ≡ plan → IfSome plan (IsPlanOf a.stated.problem) → BayLeft yard sequence news bay s
    bay_left None e is = none_left e
    bay_left (Some plan) e is = plan_left plan e is

-- ---- all bays

both_apart : (a b : Bool) → (a || b) ≡ false → (a ≡ false) × (b ≡ false)
both_apart false b e = (refl, e)
both_apart true b e = absurd (cc)

-- of two lists that are equal the first items are, and the rest
both_same : {X : Type 0} (x y : X) (xs ys : List X) → x ∷ xs ≡ y ∷ ys → (x ≡ y) × (xs ≡ ys)
both_same x y xs ys e = (cc, cc)

record BaysLeft (yard : Inventory) (sequence : List (List ℕ)) (after : Inventory) (called : List StackedBay) (answered : List Answered) (said : List BaySaid) : Type 0 where
  led : List BayLed
  called_are : map (λ (b : BayLed). b.bay) led ≡ called
  said_are : map (λ (b : BayLed). b.said) led ≡ said
  each : AllByRecursion (IsLed yard.sizes sequence) led
  ends : (line : ℕ) → AllByRecursion (λ (f : BayFollowed). rows_in after f.stated.bay ≡ Some f.after) (bays_at line led)
  others : (line : ℕ) (bay : YardBay) → is_named (stated_from line led) bay ≡ false → AllByRecursion (λ (a : Answered). same_bay bay a.stated.bay ≡ false) answered

-- what is known of a bay of the yard that is called, and of its answer
record IsCalledBay (yard : Inventory) (bay : StackedBay) : Type 0 where
  fit : FitBay (heights_at yard.sizes bay.0) bay.1
  names : AreNamed bay.1
  stands : rows_in yard bay.0 ≡ Some bay.1

module _ (keep : KeepsHeights) (yard : Inventory) (sequence : List (List ℕ)) (chosen : Chosen) (plans : List BayPlan) (after : Inventory) (is : AreBaysAfter plans yard.bays after.bays) where
  bays_left : (called : List StackedBay) (answered : List Answered) (said : List BaySaid) → map (λ (a : Answered). a.stated) answered ≡ map (bay_problem_of yard.sizes sequence) called
      → AllByRecursion (IsCalledBay yard) called → AllByRecursion (λ (a : Answered). IsSolved a.stated.problem chosen a.solved) answered
      → AllByRecursion (λ (a : Answered). plan_for plans a.stated.bay ≡ bay_plan_in a) answered → AllZip IsSaidOf answered said → BaysLeft yard sequence after called answered said
  bays_left [] [] [] e known solved own says = record { led = []; called_are = refl; said_are = refl; each = tt; ends = λ line. tt; others = λ line bay e. tt }
  bays_left [] [] (s ∷ said) e known solved own says = absurd says
  bays_left [] (a ∷ answered) said e known solved own says = absurd (let no : a.stated ∷ map (λ (b : Answered). b.stated) answered ≡ [] = e in cc)
  bays_left (bay ∷ called) [] said e known solved own says =
      absurd (let no : [] ≡ bay_problem_of yard.sizes sequence bay ∷ map (bay_problem_of yard.sizes sequence) called = e in cc)
  bays_left (bay ∷ called) (a ∷ answered) [] e known solved own says = absurd says
  bays_left (bay ∷ called) (a ∷ answered) (s ∷ said) e known solved own says =
      let same = both_same a.stated (bay_problem_of yard.sizes sequence bay) (map (λ (b : Answered). b.stated) answered) (map (bay_problem_of yard.sizes sequence) called) e in
      let here = known.0 in
      let true_answer = solved.0.answer in
      let found = a.solved.answer in
      let one = bay_left keep yard sequence plans after.bays is bay a s here.fit here.names here.stands own.0 same.0 says.0 (plan_in found) refl
      (plan_is a.stated.problem chosen.budget found a.solved.expanded true_answer) in
      let more = bays_left called answered said same.1 known.1 solved.1 own.1 says.1 in
      let first : BayLed = record { bay = bay; said = s; moves = one.moves; end = one.end } in
      let name : a.stated.bay ≡ bay.0 = ap (λ (b : BayProblem). b.bay) same.0 in
      record {
        led = first ∷ more.led;
        called_are = ap (λ l. bay ∷ l) more.called_are;
        said_are = ap (λ l. s ∷ l) more.said_are;
        each = (one.led, more.each);
        ends = λ line. (one.there, more.ends (suc line + length (moves_at (suc line) one.moves)));
        others = λ line other apart.
            let next = suc line + length (moves_at (suc line) one.moves) in
            let both = both_apart (same_bay bay.0 other) (is_named (stated_from next more.led) other) apart in
            (ap (same_bay other) name ∙ turned bay.0 other both.0, more.others next other both.1);
      }

  -- a bay of which nothing is said is left alone
  left_alone : (answered : List Answered) (bay : YardBay) → plans ≡ bay_plans answered → AllByRecursion (λ (a : Answered). same_bay bay a.stated.bay ≡ false) answered → rows_in after bay ≡ rows_in yard bay
  left_alone answered bay e apart = by (rows_in yard bay) refl
    where
      none : plan_for plans bay ≡ None
      none = ap (λ l. plan_for l bay) e ∙ no_plan bay answered apart

      by : (rows : Option (List Stack)) → rows_in yard bay ≡ rows → rows_in after bay ≡ rows
      by None there = none_after plans yard.bays after.bays bay is there
      by (Some rows) there =
          let left = has_after plans yard.bays after.bays bay rows is there in
          left.there ∙ ap Some (subst (λ (o : Option BayPlan). MatchOption o (left.left ≡ rows) (λ plan. LeavesNamed plan left.left)) none left.are)

-- ---- the run

names_of_problems : (sizes : YardSizes) (sequence : List (List ℕ)) (bays : List StackedBay) → map (λ (b : BayProblem). b.bay) (map (bay_problem_of sizes sequence) bays) ≡ map (λ (b : StackedBay). b.0) bays
names_of_problems sizes sequence [] = refl
names_of_problems sizes sequence (bay ∷ bays) = ap (λ l. bay.0 ∷ l) (names_of_problems sizes sequence bays)

names_of_answers : (answered : List Answered) → map (λ (a : Answered). a.stated.bay) answered ≡ map (λ (b : BayProblem). b.bay) (map (λ (a : Answered). a.stated) answered)
names_of_answers [] = refl
names_of_answers (a ∷ answered) = ap (λ l. a.stated.bay ∷ l) (names_of_answers answered)

all_known : (yard : Inventory) (bays : List StackedBay) → AllByRecursion (λ (bay : StackedBay). FitBay (heights_at yard.sizes bay.0) bay.1) bays → AllByRecursion (λ (bay : StackedBay). AreNamed bay.1) bays
    → AllByRecursion (λ (bay : StackedBay). rows_in yard bay.0 ≡ Some bay.1) bays → AllByRecursion (IsCalledBay yard) bays
all_known yard [] fit names stand = tt
all_known yard (bay ∷ bays) fit names stand = (record { fit = fit.0; names = names.0; stands = stand.0 }, all_known yard bays fit.1 names.1 stand.1)

pub run_followed : KeepsHeights → IsStatedAsWritten → (chosen : RunChosen) (seen : RunSeen) (m : Made) → IsMade chosen seen m → IsRunFollowed seen.separator m
run_followed keep states chosen seen m is =
    let yard = m.yard in
    let called = filter (is_called m.sequence) yard.bays in
    let t = is.true_answers in
    let solved = recursion_from_All (λ (a : Answered). IsSolved a.stated.problem chosen.search a.solved) m.answered t.each_true in
    let run = run_says chosen seen m is in
    let says = run.said in
    let n = numbers_of yard m.orders m.sequence in
    let small = small_numbers chosen seen m is in
    let listed = yard_listed chosen.input.sizes m.list yard is.listed in
    let ordered = is.ordered in
    let few = few_sequenced chosen.input.mode chosen.input.bays ordered.segments chosen.input.loading m.yard m.orders m.sequence ordered.faultless ordered.orders_are is.in_sequence in
    let (after, left, text) = is.yard_after in
    let known = all_known yard called
    (on_called (λ (bay : StackedBay). FitBay (heights_at yard.sizes bay.0) bay.1) yard m.sequence called refl (each_of (λ (bay : StackedBay). FitBay (heights_at yard.sizes bay.0) bay.1) yard.bays listed.fit))
    (on_called (λ (bay : StackedBay). AreNamed bay.1) yard m.sequence called refl listed.names)
    (on_called (λ (bay : StackedBay). rows_in yard bay.0 ≡ Some bay.1) yard m.sequence called refl (each_stands yard listed)) in
    let once : IsDistinct same_bay (map (λ (a : Answered). a.stated.bay) m.answered) =
    subst (IsDistinct same_bay) (sym (names_of_answers m.answered ∙ ap (map (λ (b : BayProblem). b.bay)) t.one_for_each ∙ names_of_problems yard.sizes m.sequence called))
    (IsDistinct-keys_filter same_bay (is_called m.sequence) yard.bays listed.bays_once) in
    let all = bays_left keep yard m.sequence chosen.search (bay_plans m.answered) after left.bays called m.answered run.bays t.one_for_each known solved (own_plans m.answered once) says.of_each in (
      after,
      record {
        bays = bays_at 2 all.led;
        followed = bays_followed states yard m.sequence n m.report all.led listed few small all.called_are all.each (subst (AllByRecursion IsSayable) (sym all.said_are) run.sayable)
            (says.report ∙ ap (report_text n) (sym all.said_are));
        same_sizes = left.same_sizes;
        same_bays = same_bays (bay_plans m.answered) yard.bays after.bays left.bays;
        ends = all.ends 2;
        others = λ bay apart. left_alone keep yard m.sequence chosen.search (bay_plans m.answered) after left.bays m.answered bay refl (all.others 2 bay apart);
      },
      text,
    )
