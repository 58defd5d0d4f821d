-- What an audit says of what it accepts.
use Rattle.std.proofs.Common.{◌≡◌, ℕ, List, [], ◌∷◌, map, Option, Some, None, IfSome, MatchOption, refl, sym, ap, subst}
use Rattle.std.specs.List.{AllByRecursion, AllZip}
use Rattle.std.proofs.lemmas.List.Elements.{recursion_from_All}
use Rattle.crp_plan.specs.declared.moves.Move.{Move}
use Rattle.crp_plan.specs.Bay.{Problem, cap, IsPlan, relocations}
use Rattle.crp_plan.specs.BayNames.{YardBay}
use Rattle.crp_sizes.specs.Sizes.{heights_at}
use Rattle.crp_yard.specs.Inventory.{StackedBay}
use Rattle.crp_cert.specs.declared.script.Script.{Script}
use Rattle.crp_checker.specs.declared.verdict.Verdict.{Verdict}
use Rattle.crp_checker.specs.AcceptedTexts.{IsAcceptedScript}
use Rattle.crp_checker.specs.Verdicts.{IsVerdict, Says}
use Rattle.crp_said.specs.declared.said.SaidCause.TheVariants as cause
use Rattle.crp_said.specs.declared.said.Said.{Said}
use Rattle.crp_said.specs.declared.said.Said.TheVariants.{Optimal, First, NoPlan, Between, Outside}
use Rattle.crp_said.specs.Said.{BaySaid}
use Rattle.crp_order.specs.BayProblems.{problem_of}
use Rattle.crp_audit.specs.declared.fault.AuditFault.{AuditFault}
use Rattle.crp_audit.specs.declared.fault.AuditStop.{AuditStop}
use Rattle.crp_audit.specs.declared.fault.AuditStop.TheVariants as stop
use Rattle.crp_audit.specs.Faults.{IsFirstFault}
use Rattle.crp_audit.specs.Stops.{IsAuditStop}
use Rattle.crp_audit.specs.Headline.{Handed, Reported, said_of, problem_in, PrintsPlan, IsSo, verdict_said, verdict_in, BearsOut, IsTrueOf, IsHeadline, shown_in}

-- what an audit says of certificates that are accepted
abbrev pub IsShownBy : (List ℕ → Handed) → List ℕ → List (YardBay × Verdict) → Type 0
IsShownBy of text shown = (is : IsHeadline (of text)) × (shown ≡ shown_in (of text) is)

-- the same of the text that a source stated
abbrev pub at_text : (of : List ℕ → Handed) (text given : List ℕ) (shown : List (YardBay × Verdict)) → text ≡ given → IsShownBy of text shown → IsShownBy of given shown
at_text of text given shown e = subst (λ t. IsShownBy of t shown) e

-- why an audit stopped of the text that a source stated, where that was a fault
pub fault_at : (of : List ℕ → Handed) (limit before after : ℕ) (text given : List ℕ) (shown : List (YardBay × Verdict)) (reason : AuditStop) (f : AuditFault) → text ≡ given
    → reason ≡ stop.Fault f → IsAuditStop (of text) limit before after shown reason → (bays : List Reported) × IsFirstFault (of given) bays f
fault_at of limit before after text given shown reason f e is stops =
    let there = subst (λ (t : List ℕ). IsAuditStop (of t) limit before after shown reason) e stops in
    let refusal = subst (IsAuditStop (of given) limit before after shown) is there in (refusal.before, refusal.first)

-- what a certificate shows of a bay is so, by the law of verdicts
abbrev pub VerdictsSay : Type 0
VerdictsSay = (script : Script) (verdict : Verdict) → IsAcceptedScript script → IsVerdict script verdict → Says script.head.problem verdict

abbrev pub IsSaidOf : Handed → StackedBay → (YardBay × Verdict) → Type 0
IsSaidOf h bay shown = (shown.0 ≡ bay.0) × Says (problem_of (heights_at h.yard.sizes bay.0) h.sequence bay.1) shown.1

-- the printed plan has as many relocations as the upper bound
reached : (h : Handed) (b : Reported) (upper : Option ℕ) → MatchOption upper (b.lines ≡ []) (PrintsPlan h b)
    → IfSome upper (λ count. (moves : List Move) × IsPlan (problem_in h b) moves × (relocations moves ≡ count))
reached h b None nothing = tt
reached h b (Some count) prints = (prints.moves, prints.complete, prints.counted)

-- the verdict that says the same as the report is so: where the moves were edited, since what is said is so; else since the certificate shows it
says_the_same : (h : Handed) (b : Reported) (said : Said) (v : Verdict) → BearsOut (cap (problem_in h b)) said v → Says (problem_in h b) v → IsSo h b said
    → Says (problem_in h b) (verdict_said (cap (problem_in h b)) said)
says_the_same h b (Optimal count) v e shown so = subst (Says (problem_in h b)) e shown
says_the_same h b (First count) v e shown so = subst (Says (problem_in h b)) e shown
says_the_same h b NoPlan v e shown so = subst (Says (problem_in h b)) e shown
says_the_same h b (Between lower upper cause.Budget) v e shown so = subst (Says (problem_in h b)) e shown
says_the_same h b (Between lower upper cause.Time) v e shown so = subst (Says (problem_in h b)) e shown
says_the_same h b (Between lower upper cause.Memory) v e shown so = subst (Says (problem_in h b)) e shown
says_the_same h b (Between lower upper cause.Edited) v e shown so = (so.0, reached h b upper so.1)
says_the_same h b (Outside count) v e shown so = absurd so

each_said : VerdictsSay → (h : Handed) (bays : List Reported) → AllByRecursion (IsTrueOf h) bays
    → AllZip (IsSaidOf h) (map (λ (b : Reported). b.bay) bays) (map (λ (b : Reported). (b.bay.0, verdict_in h b)) bays)
each_said law h [] all = tt
each_said law h (b ∷ bays) (is, all) =
    let (script, accepted, name, shows) = is.shown in
    let shown = subst (λ (q : Problem). Says q is.certified) (sym accepted.as_wanted) (law script is.certified accepted.accepted shows) in
    ((refl, says_the_same h b b.said is.certified is.borne_out shown is.so), each_said law h bays all)

pub said_of_each : VerdictsSay → (h : Handed) (shown : List (YardBay × Verdict)) (is : IsHeadline h) → shown ≡ shown_in h is
    → (bays : List StackedBay) → map (λ (b : Reported). b.bay) is.bays ≡ bays → AllZip (IsSaidOf h) bays shown
said_of_each law h shown is e bays called =
    let each = each_said law h is.bays (recursion_from_All (IsTrueOf h) is.bays is.each_true) in
    subst (λ (xs : List StackedBay). AllZip (IsSaidOf h) xs shown) called
    (subst (λ (ys : List (YardBay × Verdict)). AllZip (IsSaidOf h) (map (λ (b : Reported). b.bay) is.bays) ys) (sym e) each)

pub same_names : (h : Handed) (bays : List Reported) → map (λ (s : BaySaid). s.bay) (map said_of bays) ≡ map (λ (v : YardBay × Verdict). v.0) (map (λ (b : Reported). (b.bay.0, verdict_in h b)) bays)
same_names h [] = refl
same_names h (b ∷ bays) = ap (λ names. b.bay.0 ∷ names) (same_names h bays)
