-- A headline has no first fault.
use Rattle.std.proofs.Common.{◌≡◌, ◌≢◌, ◌∙◌, ◌⊎◌, ◌≤◌, ℕ, true, false, List, [], ◌∷◌, ◌++◌, length, map, Option, Some, None, IfSome, inl, inr, refl, sym, ap, subst, arith}
use Rattle.std.specs.List.{AllByRecursion}
use Rattle.std.specs.Prelude.{IsSome, option_map}
use Rattle.std.proofs.lemmas.List.Elements.{recursion_from_All}
use Rattle.crp_plan.specs.declared.moves.Move.{Move}
use Rattle.crp_plan.specs.Bay.{IsProblem, cap, start, Runs, IsFinished, relocations, path_of}
use Rattle.crp_plan.specs.BayNames.{YardBay}
use Rattle.crp_plan.proofs.Paths.{runs_is}
use Rattle.crp_yard.specs.Inventory.{Inventory, StackedBay}
use Rattle.crp_yard.specs.Naming.{IsNamedBay}
use Rattle.crp_yard.specs.Reading.{IsTextOf}
use Rattle.crp_movins.specs.LoadOrders.{LoadOrders}
use Rattle.crp_order.specs.BayProblems.{ranked}
use Rattle.crp_cert.specs.declared.script.Script.{Script}
use Rattle.crp_cert.proofs.Scripts.{script_once}
use Rattle.crp_checker.specs.AcceptedTexts.{IsAcceptedText}
use Rattle.crp_checker.specs.Verdicts.{IsVerdict, IsVerdictUnder}
use Rattle.crp_checker.specs.Refusals.{IsRefusal}
use Rattle.crp_checker.specs.declared.verdict.Verdict.{Verdict}
use Rattle.crp_cert.specs.declared.head.Head.{Head}
use Rattle.crp_cert.specs.Script.{IsScriptOf}
use Rattle.crp_checker.specs.Files.{BeginsWithTexts}
use Rattle.crp_checker.proofs.OneCut.{first_text, some_text}
use Rattle.crp_checker.proofs.SameText.{not_both}
use Rattle.crp_said.specs.declared.said.Said.{Said}
use Rattle.crp_said.specs.declared.said.Said.TheVariants.{Optimal, First, NoPlan, Between, Outside}
use Rattle.crp_said.specs.MoveLines.{AreMoveLines}
use Rattle.crp_said.specs.Said.{BaySaid, count_said}
use Rattle.crp_said.specs.Spelled.{most, AreSmall, ReportSaid, SpellsReport, front_text}
use Rattle.crp_said.proofs.OneReport.{one_report}
use Rattle.crp_audit.specs.declared.fault.AuditFault.{AuditFault}
use Rattle.crp_audit.specs.declared.fault.AuditFault.TheVariants as fault
use Rattle.crp_audit.specs.declared.fault.AuditStop.{AuditStop}
use Rattle.crp_audit.specs.declared.fault.AuditStop.TheVariants as stop
use Rattle.crp_audit.specs.Headline.{Handed, handed, Reported, numbers_in, said_of, problem_in, PrintsPlan, IsTrueOf, IsHeadline}
use Rattle.crp_audit.specs.LooksTrue.{LooksSo}
use Rattle.crp_audit.specs.Printed.{AreOtherLines}
use Rattle.crp_audit.specs.Faults.{CountsRight, IsWrongMove, IsItsPlan, SaysTheSame, IsNextText, IsBayFault, IsFaultOf, reported_as, IsNextFault, IsFaultBehind, IsFirstFault, IsAuditRefusal}
use Rattle.crp_audit.specs.Stops.{IsAuditStop}
use Rattle.crp_audit.specs.Readable.{report_in}
use Rattle.crp_audit.proofs.Apart.{plan_followed, one_plan_printed}
use Rattle.crp_audit.proofs.Deciding.{looks_if_true}
use Rattle.crp_audit.proofs.Readable.{low_bound, spelled_as, never_misspelled, never_other_numbers}

-- ---- the bays behind those before a fault

record AreLeft (h : Handed) (later : List StackedBay) (more : List BaySaid) (left : List ℕ) : Type 0 where
  pub bays : List Reported
  pub later_are : later ≡ map (λ b. b.bay) bays
  pub more_are : more ≡ map said_of bays
  pub texts : BeginsWithTexts left (map (λ b. b.certificate) bays) []
  pub each_true : AllByRecursion (IsTrueOf h) bays

tail_bays : (a b : StackedBay) (xs ys : List StackedBay) → a ∷ xs ≡ b ∷ ys → xs ≡ ys
tail_bays a b xs ys e = cc

tail_said : (a b : BaySaid) (xs ys : List BaySaid) → a ∷ xs ≡ b ∷ ys → xs ≡ ys
tail_said a b xs ys e = cc

are_left : (h : Handed) (bays before : List Reported) (later : List StackedBay) (more : List BaySaid) (file left : List ℕ) → map (λ (b : Reported). b.bay) bays ≡ map (λ (b : Reported). b.bay) before ++ later
    → map said_of bays ≡ map said_of before ++ more → BeginsWithTexts file (map (λ (b : Reported). b.certificate) bays) [] → BeginsWithTexts file (map (λ (b : Reported). b.certificate) before) left
    → AllByRecursion (IsTrueOf h) bays → AreLeft h later more left
are_left h bays [] later more file left called said texts same all = record {
  bays = bays;
  later_are = sym called;
  more_are = sym said;
  texts = subst (λ l. BeginsWithTexts l (map (λ (b : Reported). b.certificate) bays) []) same texts;
  each_true = all;
}
are_left h [] (b ∷ before) later more file left called said texts same all = cc
are_left h (c ∷ bays) (b ∷ before) later more file left called said texts same all =
    let first = first_text c.certificate b.certificate texts.0 same.0 texts.2 same.2 (sym texts.1 ∙ same.1) in
    are_left h bays before later more texts.0 left (tail_bays c.bay b.bay (map (λ (x : Reported). x.bay) bays) (map (λ (x : Reported). x.bay) before ++ later) called)
    (tail_said (said_of c) (said_of b) (map said_of bays) (map said_of before ++ more) said) texts.3
    (subst (λ l. BeginsWithTexts l (map (λ (x : Reported). x.certificate) before) left) (sym first.1) same.3) all.1

-- ---- a bay that is true has no fault

abbrev again : Reported → Reported
again b = reported_as b.bay (said_of b) []

no_move : (h : Handed) (b : Reported) (said : Said) (front : List ℕ) → IsProblem (problem_in h b) → LooksSo h b said → IsSome (count_said said) → IsWrongMove h b front → ⊥
no_move h b (Optimal count) front is so some wrong = plan_followed h b count front is so wrong
no_move h b (First count) front is so some wrong = plan_followed h b count front is so.0 wrong
no_move h b NoPlan front is so some wrong = let t : false ≡ true = some in absurd (cc)
no_move h b (Between lower None why) front is so some wrong = let t : false ≡ true = some in absurd (cc)
no_move h b (Between lower (Some upper) why) front is so some wrong = plan_followed h b upper front is so wrong
no_move h b (Outside count) front is so some wrong = so

pub not_other : (h : Handed) (b : Reported) (count : ℕ) → IsProblem (problem_in h b) → PrintsPlan h b count → AreOtherLines (ranked h.sequence b.bay.1) (problem_in h b) b.lines (Some count) → ⊥
not_other h b count is prints (moves, place, leads, other) =
    let (end, runs, finished) = prints.complete in
    let one : moves ≡ prints.moves = one_plan_printed h b moves prints.moves is leads.printed prints.printed in
    let same = runs_is (start (problem_in h b)) prints.moves place end (subst (λ l. Runs (start (problem_in h b)) l place) one leads.runs) runs in
    other (subst IsFinished (sym same) finished, ap relocations one ∙ prints.counted)

no_plan_fault : (h : Handed) (b : Reported) (said : Said) → IsProblem (problem_in h b) → LooksSo h b said → AreOtherLines (ranked h.sequence b.bay.1) (problem_in h b) b.lines (count_said said) → ⊥
no_plan_fault h b (Optimal count) is so other = not_other h b count is so other
no_plan_fault h b (First count) is so other = not_other h b count is so.0 other
no_plan_fault h b NoPlan is so other = other so
no_plan_fault h b (Between lower None why) is so other = other so
no_plan_fault h b (Between lower (Some upper) why) is so other = not_other h b upper is so other
no_plan_fault h b (Outside count) is so other = so

-- its certificate states the plan that is printed
its_plan : (h : Handed) (b : Reported) (said : Said) (script : Script) (moves : List Move) → IsProblem (problem_in h b) → IsAcceptedText (Some (problem_in h b)) b.certificate script → LooksSo h b said
    → AreMoveLines (ranked h.sequence b.bay.1) (start (problem_in h b)) moves b.lines → IsItsPlan said moves script
its_plan h b (First count) script moves is accepted (prints, (stated, of, plan)) printed =
    let one : moves ≡ prints.moves = one_plan_printed h b moves prints.moves is printed prints.printed in
    let heads = (script_once b.certificate script stated accepted.is_text of).0 in
    let plans : script.head.plan ≡ stated.head.plan = ap (λ x. x.plan) heads in
    plans ∙ plan ∙ ap (λ l. Some (path_of l)) (sym one)
its_plan h b (Optimal count) script moves is accepted so printed = tt
its_plan h b NoPlan script moves is accepted so printed = tt
its_plan h b (Between lower upper why) script moves is accepted so printed = tt
its_plan h b (Outside count) script moves is accepted so printed = absurd so

same_text : (left text certificate : List ℕ) (texts : List (List ℕ)) → IsNextText left text → BeginsWithTexts left (certificate ∷ texts) [] → text ≡ certificate
same_text left text certificate texts (after, next) begins = (first_text text certificate next.0 begins.0 next.2 begins.2 (sym next.1 ∙ begins.1)).0

its_verdict : (text : List ℕ) (a b : Script) (v : Verdict) → IsScriptOf text a → IsScriptOf text b → IsVerdict b v → IsVerdict a v
its_verdict text a b v of-a of-b shows =
    subst (λ (x : Head). IsVerdictUnder x.claim (cap x.problem) (option_map length x.plan) v) (sym (script_once text a b of-a of-b).0) shows

its_bay : (text : List ℕ) (a b : Script) (bay : YardBay) → IsScriptOf text a → IsScriptOf text b → b.head.bay ≡ bay → a.head.bay ≡ bay
its_bay text a b bay of-a of-b e = ap (λ (x : Head). x.bay) (script_once text a b of-a of-b).0 ∙ e

-- a text that is accepted as the bay's says the same as the report
says_the_same : (h : Handed) (b : Reported) (script : Script) → IsTrueOf h b → IsAcceptedText (Some (problem_in h b)) b.certificate script → SaysTheSame h (again b) script
says_the_same h b script is accepted =
    let (shown, parsed, bay, shows) = is.shown in
    let looks = looks_if_true h b is in
    let problem = (low_bound (problem_in h b) b.certificate shown parsed).0 in
    record {
      bay = its_bay b.certificate script shown b.bay.0 accepted.is_text parsed.is_text bay;
      verdict = (is.certified, its_verdict b.certificate script shown is.certified accepted.is_text parsed.is_text shows, is.borne_out);
      plan = λ moves printed. its_plan h b b.said script moves problem accepted looks.so printed;
    }

no_bay_fault : (h : Handed) (b : Reported) (texts : List (List ℕ)) (left front : List ℕ) (f : AuditFault) → IsTrueOf h b → BeginsWithTexts left (b.certificate ∷ texts) []
    → IsBayFault h (again b) left front f → ⊥
no_bay_fault h b texts left front (fault.Move line) is begins (some, (before, moves, at)) =
    let (shown, parsed, bay, shows) = is.shown in
    let looks = looks_if_true h b is in no_move h b b.said before (low_bound (problem_in h b) b.certificate shown parsed).0 looks.so some moves
no_bay_fault h b texts left front (fault.Plan name) is begins (same, lines) =
    let (shown, parsed, bay, shows) = is.shown in
    let looks = looks_if_true h b is in no_plan_fault h b b.said (low_bound (problem_in h b) b.certificate shown parsed).0 looks.so lines
no_bay_fault h b texts left front (fault.Lacking name) is begins (same, prints, none) = some_text b.certificate begins.0 begins.2 (sym begins.1 ∙ none)
no_bay_fault h b texts left front (fault.Certificate name why) is begins (same, prints, not, (text, next, refusal)) =
    let (shown, parsed, bay, shows) = is.shown in
    not_both (Some (problem_in h b)) b.certificate shown why parsed (subst (λ l. IsRefusal (Some (problem_in h b)) l why) (same_text left text b.certificate texts next begins) refusal)
no_bay_fault h b texts left front (fault.Other name) is begins (same, prints, (text, script, next, accepted, not)) =
    not (says_the_same h b script is (subst (λ l. IsAcceptedText (Some (problem_in h b)) l script) (same_text left text b.certificate texts next begins) accepted))
no_bay_fault h b texts left front f is begins wrong = wrong

-- something is claimed of it
claimed : (h : Handed) (b c : Reported) (said : Said) (left front : List ℕ) (f : AuditFault) → LooksSo h b said → IsFaultOf said h c left front f → IsBayFault h c left front f
claimed h b c (Optimal count) left front f so wrong = wrong
claimed h b c (First count) left front f so wrong = wrong
claimed h b c NoPlan left front f so wrong = wrong
claimed h b c (Between lower upper why) left front f so wrong = wrong
claimed h b c (Outside count) left front f so wrong = absurd so

-- ---- the whole

at_end : (h : Handed) (r : ReportSaid) (left front : List ℕ) (f : AuditFault) → left ≡ [] → CountsRight r → IsNextFault h r [] [] left front f → ⊥
at_end h r left front (fault.Bay line wanted) none counts wrong = wrong.2 refl
at_end h r left front fault.LeftOver none counts wrong = wrong none
at_end h r left front fault.Closing none counts wrong = wrong.1 counts
at_end h r left front f none counts wrong = wrong

at_bay : (h : Handed) (r : ReportSaid) (b : Reported) (bays : List Reported) (left front : List ℕ) (f : AuditFault) → IsTrueOf h b
    → BeginsWithTexts left (b.certificate ∷ map (λ (x : Reported). x.certificate) bays) []
    → IsNextFault h r (b.bay ∷ map (λ (x : Reported). x.bay) bays) (said_of b ∷ map said_of bays) left front f → ⊥
at_bay h r b bays left front (fault.Bay line wanted) is texts wrong = wrong.2 refl
at_bay h r b bays left front f is texts wrong =
    let looks = looks_if_true h b is in
    no_bay_fault h b (map (λ (x : Reported). x.certificate) bays) left front f is texts (claimed h b (again b) b.said left front f looks.so wrong.1)

no_next : (h : Handed) (r : ReportSaid) (bays : List Reported) (left front : List ℕ) (f : AuditFault) → CountsRight r → BeginsWithTexts left (map (λ (b : Reported). b.certificate) bays) []
    → AllByRecursion (IsTrueOf h) bays → IsNextFault h r (map (λ (b : Reported). b.bay) bays) (map said_of bays) left front f → ⊥
no_next h r [] left front f counts texts all wrong = at_end h r left front f texts counts wrong
no_next h r (b ∷ bays) left front f counts texts all wrong = at_bay h r b bays left front f all.0 texts wrong

behind : (h : Handed) (is : IsHeadline h) (before : List Reported) (f : AuditFault) → AllByRecursion IsNamedBay h.yard.bays → length h.yard.bays ≤ most → AreSmall (numbers_in h)
    → (r : ReportSaid) → SpellsReport h.report r → IsFaultBehind h r before f → ⊥
behind h is before f named few small r spells wrong =
    let one : r ≡ report_in h is = one_report h.report r (report_in h is) spells (spelled_as h is named few small) in
    let k : IsFaultBehind h (report_in h is) before f = subst (λ (q : ReportSaid). IsFaultBehind h q before f) one wrong in
    let first = k.first in
    let rest =
    are_left h is.bays before first.later first.more h.certificates first.left (is.called ∙ first.called) first.bays is.certificates first.certificates
    (recursion_from_All (IsTrueOf h) is.bays is.each_true) in
    no_next h (report_in h is) rest.bays first.left (front_text (numbers_in h) (map said_of before)) f (refl, refl) rest.texts rest.each_true
    (subst (λ l. IsNextFault h (report_in h is) l (map said_of rest.bays) first.left (front_text (numbers_in h) (map said_of before)) f) rest.later_are
    (subst (λ l. IsNextFault h (report_in h is) first.later l first.left (front_text (numbers_in h) (map said_of before)) f) rest.more_are k.next))

pub no_fault : (h : Handed) (is : IsHeadline h) (before : List Reported) (f : AuditFault) → AllByRecursion IsNamedBay h.yard.bays → length h.yard.bays ≤ most → AreSmall (numbers_in h) → f ≢ fault.Memory
    → ¬ IsFirstFault h before f
no_fault h is before (fault.Spelling line) named few small other wrong = never_misspelled h is before line named few small wrong
no_fault h is before fault.Numbers named few small other wrong = never_other_numbers h is before named few small wrong
no_fault h is before fault.Memory named few small other wrong = other refl
no_fault h is before f named few small other (r, spells, numbers, wrong) = behind h is before f named few small r spells wrong

-- what is refused of a headline
is_memory : (f : AuditFault) → (f ≢ fault.Memory → ⊥) → f ≡ fault.Memory
is_memory fault.Memory none = refl
is_memory f none = absurd (none (λ e. cc))

pub memory_alone : (h : Handed) (is : IsHeadline h) (shown : List (YardBay × Verdict)) (f : AuditFault) → AllByRecursion IsNamedBay h.yard.bays → length h.yard.bays ≤ most → AreSmall (numbers_in h)
    → IsAuditRefusal h shown f → f ≡ fault.Memory
memory_alone h is shown f named few small refusal = is_memory f (λ other. no_fault h is refusal.before f named few small other refusal.first)

-- why an audit of a headline stops
only_memory : (h : Handed) (limit before after : ℕ) (shown : List (YardBay × Verdict)) (why : AuditStop) → IsHeadline h → length h.certificates ≤ limit → AllByRecursion IsNamedBay h.yard.bays
    → length h.yard.bays ≤ most → AreSmall (numbers_in h) → IsAuditStop h limit before after shown why → (why ≡ stop.Failed) ⊎ (why ≡ stop.Fault fault.Memory)
only_memory h limit before after shown (stop.Fault f) is le named few small refused = inr (ap stop.Fault (memory_alone h is shown f named few small refused))
only_memory h limit before after shown stop.Failed is le named few small failed = inl refl
only_memory h limit before after shown stop.TooLarge is le named few small long = absurd (omega (arith, le, long.0))

pub complete : (yard : Inventory) (orders : LoadOrders) (sequence : List (List ℕ)) (report : List ℕ) (given : Option (List ℕ)) (limit before after : ℕ) (shown : List (YardBay × Verdict)) (why : AuditStop)
    → AllByRecursion IsNamedBay yard.bays → (text : List ℕ) × IsTextOf given text × IsAuditStop (handed yard orders sequence report text) limit before after shown why
    → IfSome given (λ text. length text ≤ limit → IsHeadline (handed yard orders sequence report text) → length yard.bays ≤ most → AreSmall (numbers_in (handed yard orders sequence report text))
    → (why ≡ stop.Failed) ⊎ (why ≡ stop.Fault fault.Memory))
complete yard orders sequence report None limit before after shown why named stopped = tt
complete yard orders sequence report (Some xs) limit before after shown why named (text, same, is) = λ le headline few small.
    only_memory (handed yard orders sequence report xs) limit before after shown why headline le named few small
    (subst (λ l. IsAuditStop (handed yard orders sequence report l) limit before after shown why) same is)
