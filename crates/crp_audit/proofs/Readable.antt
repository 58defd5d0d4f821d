-- The report of a headline can be read.
use Rattle.std.proofs.Common.{◌≡◌, ◌∙◌, ◌≤◌, ◌==◌, ℕ, Bool, true, false, cond, arith, List, [], ◌∷◌, length, map, filter, Option, Some, None, refl, sym, ap, subst, append_assoc}
use Rattle.std.specs.List.{AllByRecursion, flat_map}
use Rattle.std.proofs.lemmas.Bool.{eqb-true}
use Rattle.std.proofs.lemmas.List.{length-map}
use Rattle.std.proofs.lemmas.List.Sums.{count_by-le-length, length-filter}
use Rattle.std.proofs.lemmas.List.Elements.{recursion_from_All}
use Rattle.crp_plan.specs.Bay.{Problem, IsProblem, cap, start}
use Rattle.crp_plan.proofs.Buried.{below_cap}
use Rattle.crp_plan.proofs.Tallies.{cap_low}
use Rattle.crp_yard.specs.Naming.{IsNamedBay}
use Rattle.crp_order.specs.BayProblems.{ranked, bay_problem_of, problems_of, is_called, IsNamedProblem}
use Rattle.crp_order.proofs.NamedProblems.{problems_named}
use Rattle.crp_cert.specs.declared.claim.Claim.{Claim}
use Rattle.crp_cert.specs.declared.claim.Claim.TheVariants as claim
use Rattle.crp_cert.specs.declared.script.Script.{Script}
use Rattle.crp_cert.specs.Text.{bound}
use Rattle.crp_checker.specs.declared.verdict.Verdict.{Verdict}
use Rattle.crp_checker.specs.declared.verdict.Verdict.TheVariants as verdict
use Rattle.crp_checker.specs.AcceptedTexts.{IsAcceptedText}
use Rattle.crp_checker.specs.Verdicts.{IsVerdictUnder, IsVerdict}
use Rattle.crp_said.specs.declared.said.SaidCause.{SaidCause}
use Rattle.crp_said.specs.declared.said.SaidCause.TheVariants as cause
use Rattle.crp_said.specs.declared.said.Said.{Said}
use Rattle.crp_said.specs.declared.said.Said.TheVariants.{Optimal, First, NoPlan, Between, Outside}
use Rattle.crp_said.specs.Said.{BaySaid, bay_text, bays_line, counts_line, is_settled}
use Rattle.crp_said.specs.Spelled.{most, AreSmall, IsSmall, AreMoves, IsSayable, ReportSaid, SpellsReport}
use Rattle.crp_said.proofs.MoveBodies.{are_moves, no_moves}
use Rattle.crp_said.proofs.OneReport.{one_report, not_both}
use Rattle.crp_said.proofs.Takes.{plain_names}
use Rattle.crp_said.proofs.Bytes.{IsPlain}
use Rattle.crp_audit.specs.declared.fault.AuditFault.TheVariants as fault
use Rattle.crp_audit.specs.Faults.{IsFirstFault}
use Rattle.crp_audit.specs.Headline.{Handed, Reported, numbers_in, lower_shown, BearsOut, said_of, problem_in, PrintsPlan, IsSo, shown_by, IsShownOf, IsTrueOf, IsHeadline}
use Rattle.crp_audit.specs.Readable.{report_in}

-- ---- numbers

-- the problem is one, and what its certificate bounds is small
pub low_bound : (p : Problem) (text : List ℕ) (script : Script) → IsAcceptedText (Some p) text script → IsProblem p × (bound script.head.claim ≤ 673)
low_bound p text script is =
    let parsed = is.is_text.0 in
    let head = parsed.is_head in
    let problem : IsProblem p = subst IsProblem (sym is.as_wanted) head.problem in
    let few = cap_low p problem in
    let within : bound script.head.claim ≤ cap p = subst (λ (q : Problem). bound script.head.claim ≤ cap q) (sym is.as_wanted) head.claim in
    (problem, omega (arith, few, within))

bounded : (what : Claim) (highest : ℕ) (count : Option ℕ) (lower : ℕ) (upper : Option ℕ) → IsVerdictUnder what highest count (verdict.Bounds lower upper) → lower ≤ bound what
bounded (claim.AtLeast least) highest count lower upper is = omega (arith, is.2)
bounded (claim.First least) highest count lower upper e = cc

met : (what : Claim) (highest : ℕ) (count : Option ℕ) (fewest : ℕ) → IsVerdictUnder what highest count (verdict.Optimal fewest) → fewest ≤ bound what
met (claim.AtLeast least) highest count fewest is = omega (arith, is.0)
met (claim.First least) highest count fewest e = cc

-- the lower bound that is shown
at_cap : (what : Claim) (highest : ℕ) (count : Option ℕ) (lower top : ℕ) (rest : Option ℕ) (t : Bool) → (lower == top) ≡ t → top ≤ 673 → bound what ≤ 673
    → IsVerdictUnder what highest count (cond t verdict.NoPlan (verdict.Bounds lower rest)) → lower ≤ 673
at_cap what highest count lower top rest true e few low is = let same : lower ≡ top = eqb-true lower top e in omega (arith, same, few)
at_cap what highest count lower top rest false e few low is = let within = bounded what highest count lower rest is in omega (arith, within, low)

meets : (what : Claim) (highest : ℕ) (count : Option ℕ) (lower top : ℕ) (rest : Option ℕ) (t : Bool) → top ≤ 673 → bound what ≤ 673
    → IsVerdictUnder what highest count (cond t (verdict.Optimal lower) (cond (lower == top) verdict.NoPlan (verdict.Bounds lower rest))) → lower ≤ 673
meets what highest count lower top rest true few low is = let within = met what highest count lower is in omega (arith, within, low)
meets what highest count lower top rest false few low is = at_cap what highest count lower top rest (lower == top) refl few low is

low_of : (what : Claim) (highest : ℕ) (count : Option ℕ) (lower top : ℕ) (upper : Option ℕ) → top ≤ 673 → bound what ≤ 673
    → IsVerdictUnder what highest count (shown_by lower top upper) → lower ≤ 673
low_of what highest count lower top None few low is = at_cap what highest count lower top None (lower == top) refl few low is
low_of what highest count lower top (Some n) few low is = meets what highest count lower top (Some n) (n == lower) few low is

-- the lower bound that a verdict has is that of the claim
bound_shown : (what : Claim) (highest : ℕ) (count : Option ℕ) (v : Verdict) (lower : ℕ) → lower_shown v ≡ Some lower → IsVerdictUnder what highest count v → lower ≡ bound what
bound_shown (claim.AtLeast least) highest count (verdict.Optimal fewest) lower e is = let same : fewest ≡ lower = cc in sym same ∙ is.0
bound_shown (claim.AtLeast least) highest count (verdict.First fewest) lower e is = absurd is
bound_shown (claim.AtLeast least) highest count (verdict.Bounds low upper) lower e is = let same : low ≡ lower = cc in sym same ∙ is.2
bound_shown (claim.AtLeast least) highest count verdict.NoPlan lower e is = absurd (cc)
bound_shown (claim.First least) highest count v lower e is =
    let same : Some lower ≡ Some least = sym e ∙ ap lower_shown is in cc

low_said : (h : Handed) (b : Reported) (lower : ℕ) (upper : Option ℕ) (why : SaidCause) (v : Verdict) → BearsOut (cap (problem_in h b)) (Between lower upper why) v
    → IsShownOf b.bay.0 (problem_in h b) b.certificate v → lower ≤ 673
low_said h b lower upper cause.Budget v e (script, is, name, shows) =
    let low = low_bound (problem_in h b) b.certificate script is in
    let k = low.1 in
    let within = bounded script.head.claim _ _ lower upper (subst (IsVerdict script) e shows) in omega (arith, within, k)
low_said h b lower upper cause.Memory v e (script, is, name, shows) =
    let low = low_bound (problem_in h b) b.certificate script is in
    low_of script.head.claim _ _ lower (cap (problem_in h b)) upper (cap_low (problem_in h b) low.0) low.1 (subst (IsVerdict script) e shows)
low_said h b lower upper cause.Time v e (script, is, name, shows) =
    let low = low_bound (problem_in h b) b.certificate script is in
    let k = low.1 in
    let within = bounded script.head.claim _ _ lower upper (subst (IsVerdict script) e shows) in omega (arith, within, k)
low_said h b lower upper cause.Edited v e (script, is, name, shows) =
    let low = low_bound (problem_in h b) b.certificate script is in
    let k = low.1 in
    let same = bound_shown script.head.claim _ _ v lower e shows in omega (arith, same, k)

printed_low : (h : Handed) (b : Reported) (count : ℕ) → IsProblem (problem_in h b) → PrintsPlan h b count → count ≤ most
printed_low h b count is prints =
    let low = below_cap (problem_in h b) prints.moves is prints.complete in
    let few = cap_low (problem_in h b) is in
    let same = prints.counted in omega (arith, low, few, same)

-- ---- what is said of a bay

printed_moves : (h : Handed) (b : Reported) (count : ℕ) → AllByRecursion IsPlain (ranked h.sequence b.bay.1) → PrintsPlan h b count → AreMoves b.lines
printed_moves h b count plain prints = are_moves (ranked h.sequence b.bay.1) (start (problem_in h b)) prints.moves b.lines plain prints.printed

nothing_moves : (lines : List ℕ) → lines ≡ [] → AreMoves lines
nothing_moves lines e = subst AreMoves (sym e) no_moves

small_said : (h : Handed) (b : Reported) (said : Said) (v : Verdict) → IsProblem (problem_in h b) → BearsOut (cap (problem_in h b)) said v
    → IsShownOf b.bay.0 (problem_in h b) b.certificate v → IsSo h b said → IsSmall said
small_said h b (Optimal count) v is e shown so = printed_low h b count is so.0
small_said h b (First count) v is e shown so = let first = so.0 in printed_low h b count is first.plan
small_said h b NoPlan v is e shown so = tt
small_said h b (Between lower None why) v is e shown so = let low = low_said h b lower None why v e shown in (omega (arith, low), tt)
small_said h b (Between lower (Some count) why) v is e shown so =
    let low = low_said h b lower (Some count) why v e shown in (omega (arith, low), printed_low h b count is so.1)
small_said h b (Outside count) v is e shown so = absurd so

moves_said : (h : Handed) (b : Reported) (said : Said) → AllByRecursion IsPlain (ranked h.sequence b.bay.1) → IsSo h b said → AreMoves b.lines
moves_said h b (Optimal count) plain so = printed_moves h b count plain so.0
moves_said h b (First count) plain so = let first = so.0 in printed_moves h b count plain first.plan
moves_said h b NoPlan plain so = nothing_moves b.lines so.1
moves_said h b (Between lower None why) plain so = nothing_moves b.lines so.1
moves_said h b (Between lower (Some count) why) plain so = printed_moves h b count plain so.1
moves_said h b (Outside count) plain so = absurd so

sayable : (h : Handed) (bays : List Reported) → AllByRecursion IsNamedProblem (map (bay_problem_of h.yard.sizes h.sequence) (map (λ (b : Reported). b.bay) bays))
    → AllByRecursion (IsTrueOf h) bays → AllByRecursion IsSayable (map said_of bays)
sayable h [] named all = tt
sayable h (b ∷ bays) named all =
    let name = named.0 in
    let is = all.0 in
    let shown = is.shown in
    let problem = (low_bound (problem_in h b) b.certificate shown.0 shown.1).0 in (
      record { named = name.bay; small = small_said h b b.said is.certified problem is.borne_out is.shown is.so; lines = moves_said h b b.said (plain_names (ranked h.sequence b.bay.1) name.names) is.so },
      sayable h bays named.1 all.1,
    )

-- ---- the report

pub spelled_as : (h : Handed) (is : IsHeadline h) → AllByRecursion IsNamedBay h.yard.bays → length h.yard.bays ≤ most → AreSmall (numbers_in h) → SpellsReport h.report (report_in h is)
spelled_as h is named few small =
    let r : ReportSaid = report_in h is in
    let problems : problems_of h.yard h.sequence ≡ map (bay_problem_of h.yard.sizes h.sequence) (map (λ (b : Reported). b.bay) is.bays) =
    ap (map (bay_problem_of h.yard.sizes h.sequence)) (sym is.called) in
    let names = subst (AllByRecursion IsNamedProblem) problems (problems_named h.yard h.sequence named) in
    let many : length r.bays ≤ length h.yard.bays =
    let a : length r.bays ≡ length is.bays = length-map is.bays said_of in
    let b : length is.bays ≡ length (filter (is_called h.sequence) h.yard.bays) = sym (length-map is.bays (λ (x : Reported). x.bay)) ∙ ap length is.called in
    let c = length-filter (is_called h.sequence) h.yard.bays in
    let d = count_by-le-length (is_called h.sequence) h.yard.bays in omega (arith, a, b, c, d) in
    let some = count_by-le-length (λ (s : BaySaid). is_settled s.said) r.bays in (
      record {
        numbers = small;
        bays = sayable h is.bays names (recursion_from_All (IsTrueOf h) is.bays is.each_true);
        count = omega (arith, many, few);
        settled = omega (arith, some, many, few);
      },
      is.report ∙ sym (append_assoc (counts_line (numbers_in h)) (flat_map bay_text r.bays) (bays_line r.count r.settled)),
    )

pub never_misspelled : (h : Handed) (is : IsHeadline h) (before : List Reported) (line : ℕ) → AllByRecursion IsNamedBay h.yard.bays → length h.yard.bays ≤ most → AreSmall (numbers_in h)
    → ¬ IsFirstFault h before (fault.Spelling line)
never_misspelled h is before line named few small wrong = not_both h.report (report_in h is) line (spelled_as h is named few small) wrong.1

pub never_other_numbers : (h : Handed) (is : IsHeadline h) (before : List Reported) → AllByRecursion IsNamedBay h.yard.bays → length h.yard.bays ≤ most → AreSmall (numbers_in h)
    → ¬ IsFirstFault h before fault.Numbers
never_other_numbers h is before named few small (none, (r, spells, apart)) =
    apart (ap (λ (q : ReportSaid). q.numbers) (one_report h.report r (report_in h is) spells (spelled_as h is named few small)))
