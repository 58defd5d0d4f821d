-- What an audit accepts is followed.
use Rattle.std.proofs.Common.{◌≡◌, ◌∙◌, ◌≤◌, ◌+◌, ℕ, suc, List, [], ◌∷◌, length, map, Option, Some, None, MatchOption, refl, sym, ap, subst, arith}
use Rattle.std.specs.List.{AllByRecursion, AllZip}
use Rattle.std.proofs.lemmas.List.Elements.{recursion_from_All}
use Rattle.crp_plan.specs.Bay.{IsProblem}
use Rattle.crp_plan.specs.BayNames.{YardBay}
use Rattle.crp_movins.specs.Loading.{Loading}
use Rattle.crp_sizes.specs.Sizes.{YardSizes, heights_at}
use Rattle.crp_yard.specs.Inventory.{StackedBay, FitBay}
use Rattle.crp_yard.specs.Naming.{IsNamedBay}
use Rattle.crp_yard.specs.Ranks.{named}
use Rattle.crp_yard.specs.Reading.{IsYardListOf}
use Rattle.crp_sizes.proofs.Lists.{each_of}
use Rattle.crp_order.specs.declared.sequences.Mode.{Mode}
use Rattle.crp_order.specs.OfBays.{IsSequenceOf}
use Rattle.crp_order.specs.BayProblems.{ranked}
use Rattle.crp_said.specs.declared.moves.SaidMove.{SaidMove}
use Rattle.crp_said.specs.declared.said.Said.{Said}
use Rattle.crp_said.specs.declared.said.Said.TheVariants.{Optimal, First, NoPlan, Between, Outside}
use Rattle.crp_said.specs.Said.{count_said, report_text}
use Rattle.crp_said.specs.Spelled.{most, AreSmall, IsSayable, SpellsReport}
use Rattle.crp_follow.specs.Crane.{Stack}
use Rattle.crp_report.specs.Runs.{AreOrders}
use Rattle.crp_report.proofs.Counts.{numbers_small}
use Rattle.crp_audit.specs.Headline.{Handed, Reported, numbers_in, said_of, problem_in, PrintsPlan, IsSo, IsTrueOf, IsHeadline}
use Rattle.crp_audit.specs.Readable.{report_in}
use Rattle.crp_planned.specs.Ends.{IsLeftByPlan, EndsAsPrinted, IsHeadlineFollowed}
use Rattle.crp_planned.proofs.Listed.{AreNamed, yard_listed}
use Rattle.crp_planned.proofs.Statable.{KeepsHeights}
use Rattle.crp_planned.proofs.Led.{BayLed, IsLed, unmoved, plan_led}
use Rattle.crp_planned.proofs.Numbered.{IsStatedAsWritten, moves_at, bays_at, on_called, bays_followed}
use Rattle.crp_planned.proofs.Orders.{few_sequenced}

-- the report of a headline is spelled
abbrev pub AreRead : Type 0
AreRead = (h : Handed) (is : IsHeadline h) → AllByRecursion IsNamedBay h.yard.bays → length h.yard.bays ≤ most → AreSmall (numbers_in h) → SpellsReport h.report (report_in h is)

-- ---- one bay

record BayEnds (h : Handed) (b : Reported) : Type 0 where
  moves : List SaidMove
  end : List Stack
  led : IsLed h.yard.sizes h.sequence (record { bay = b.bay; said = said_of b; moves = moves; end = end })
  ends : MatchOption (count_said b.said) (end ≡ b.bay.1) (λ count. IsLeftByPlan h b end)

module _ (keep : KeepsHeights) (h : Handed) (b : Reported) (fit : FitBay (heights_at h.yard.sizes b.bay.0) b.bay.1) (names : AreNamed b.bay.1) (problem : IsProblem (problem_in h b)) where
  plan_ends : (count : ℕ) → count_said b.said ≡ Some count → PrintsPlan h b count → BayEnds h b
  plan_ends count is prints =
      let (place, runs, finished) = prints.complete in
      let end : List Stack = named (ranked h.sequence b.bay.1) place.stacks in
      let l = plan_led keep h.yard.sizes h.sequence b.bay (said_of b) count prints.moves place fit names refl is prints.counted problem runs finished prints.printed in
      let left : IsLeftByPlan h b end = (prints.moves, place, record { runs = runs; printed = prints.printed }, finished, refl) in
      record {
        moves = l.0;
        end = end;
        led = l.1;
        ends = subst (λ (o : Option ℕ). MatchOption o (end ≡ b.bay.1) (λ k. IsLeftByPlan h b end)) (sym is) left;
      }

  none_ends : count_said b.said ≡ None → b.lines ≡ [] → BayEnds h b
  none_ends is lines = record {
    moves = [];
    end = b.bay.1;
    led = unmoved h.yard.sizes h.sequence b.bay (said_of b) refl is lines;
    ends = subst (λ (o : Option ℕ). MatchOption o (b.bay.1 ≡ b.bay.1) (λ k. IsLeftByPlan h b b.bay.1)) (sym is) refl;
  }

  said_ends : (said : Said) → b.said ≡ said → IsSo h b said → BayEnds h b
  said_ends (Optimal count) e so = plan_ends count (ap count_said e) so.0
  said_ends (First count) e so = let first = so.0 in plan_ends count (ap count_said e) first.plan
  said_ends NoPlan e so = none_ends (ap count_said e) so.1
  said_ends (Between lower None why) e so = none_ends (ap count_said e) so.1
  said_ends (Between lower (Some count) why) e so = plan_ends count (ap count_said e) so.1
  said_ends (Outside count) e so = absurd so

bay_ends : KeepsHeights → (h : Handed) (b : Reported) → FitBay (heights_at h.yard.sizes b.bay.0) b.bay.1 → AreNamed b.bay.1 → IsTrueOf h b → BayEnds h b
bay_ends keep h b fit names is =
    let (script, accepted, name, shows) = is.shown in
    let parsed = accepted.is_text.0 in
    let head = parsed.is_head in
    let problem : IsProblem (problem_in h b) = subst IsProblem (sym accepted.as_wanted) head.problem in
    said_ends keep h b fit names problem b.said refl is.so

-- ---- all bays

record BaysEnd (h : Handed) (bays : List Reported) : Type 0 where
  led : List BayLed
  called : map (λ (b : BayLed). b.bay) led ≡ map (λ (b : Reported). b.bay) bays
  said : map (λ (b : BayLed). b.said) led ≡ map said_of bays
  each : AllByRecursion (IsLed h.yard.sizes h.sequence) led
  ends : (line : ℕ) → AllZip (EndsAsPrinted h) bays (bays_at line led)

bays_end : KeepsHeights → (h : Handed) (bays : List Reported) → AllByRecursion (λ (bay : StackedBay). FitBay (heights_at h.yard.sizes bay.0) bay.1) (map (λ (b : Reported). b.bay) bays)
    → AllByRecursion (λ (bay : StackedBay). AreNamed bay.1) (map (λ (b : Reported). b.bay) bays) → AllByRecursion (IsTrueOf h) bays → BaysEnd h bays
bays_end keep h [] fit names all = record { led = []; called = refl; said = refl; each = tt; ends = λ line. tt }
bays_end keep h (b ∷ bays) fit names all =
    let one = bay_ends keep h b fit.0 names.0 all.0 in
    let more = bays_end keep h bays fit.1 names.1 all.1 in
    let first : BayLed = record { bay = b.bay; said = said_of b; moves = one.moves; end = one.end } in
    record {
      led = first ∷ more.led;
      called = ap (λ l. b.bay ∷ l) more.called;
      said = ap (λ l. said_of b ∷ l) more.said;
      each = (one.led, more.each);
      ends = λ line. (record { named = refl; start = refl; end = one.ends }, more.ends (suc line + length (moves_at (suc line) one.moves)));
    }

pub headline_followed : KeepsHeights → IsStatedAsWritten → AreRead → (sizes : YardSizes) (loading : Loading) (names : List YardBay) (list message : List ℕ) (mode : Mode) (h : Handed) (is : IsHeadline h) → IsYardListOf sizes list h.yard
    → AreOrders loading message h.orders → IsSequenceOf mode names h.yard h.orders.list h.sequence → IsHeadlineFollowed h is
headline_followed keep states read sizes loading names list message mode h is list-is orders sequence =
    let listed = yard_listed sizes list h.yard list-is in
    let many = listed.few in
    let small = numbers_small mode names loading message h.yard h.orders h.sequence orders sequence in
    let spells = read h is listed.bay_names (omega (arith, many)) small in
    let can = spells.0 in
    let few = few_sequenced mode names orders.segments loading h.yard h.orders h.sequence orders.faultless orders.orders_are sequence in
    let calls = map (λ (b : Reported). b.bay) is.bays in
    let fit = on_called (λ (bay : StackedBay). FitBay (heights_at h.yard.sizes bay.0) bay.1) h.yard h.sequence calls is.called (each_of (λ (bay : StackedBay). FitBay (heights_at h.yard.sizes bay.0) bay.1) h.yard.bays listed.fit) in
    let names = on_called (λ (bay : StackedBay). AreNamed bay.1) h.yard h.sequence calls is.called listed.names in
    let all = bays_end keep h is.bays fit names (recursion_from_All (IsTrueOf h) is.bays is.each_true) in (
      bays_at 2 all.led,
      bays_followed states h.yard h.sequence (numbers_in h) h.report all.led listed few small (all.called ∙ is.called) all.each
          (subst (AllByRecursion IsSayable) (sym all.said) can.bays) (is.report ∙ ap (report_text (numbers_in h)) (sym all.said)),
      all.ends 2,
    )
