-- A bay that is audited: what is promised of it, or its first fault.
use Rattle.std.proofs.Common.{◌≡◌, ◌∙◌, ◌⊎◌, ℕ, List, [], ◌++◌, Option, Some, None, inl, inr, refl, sym, ap, subst, append_assoc}
use Rattle.std.specs.List.{AllByRecursion}
use Rattle.std.specs.Prelude.{IsSome}
use Rattle.std.proofs.lemmas.List.Elements.{All-from_recursion}
use Rattle.crp_yard.specs.Inventory.{StackedBay}
use Rattle.crp_yard.specs.Naming.{FitsLine}
use Rattle.crp_order.specs.declared.bay_problem.BayProblem.{BayProblem}
use Rattle.crp_order.specs.BayProblems.{leaving, staying, ranked, bay_problem_of}
use Rattle.crp_cert.specs.declared.script.Script.{Script}
use Rattle.crp_checker.specs.AcceptedTexts.{IsAcceptedText}
use Rattle.crp_checker.specs.declared.unread.Unread.{Unread}
use Rattle.crp_said.specs.declared.said.Said.{Said}
use Rattle.crp_said.specs.declared.said.Said.TheVariants.{Optimal, First, NoPlan, Between, Outside}
use Rattle.crp_said.specs.Said.{BaySaid, bay_line, count_said}
use Rattle.crp_said.specs.Spelled.{line_behind}
use Rattle.crp_said.proofs.Takes.{plan_takes}
use Rattle.crp_audit.specs.declared.fault.AuditFault.{AuditFault}
use Rattle.crp_audit.specs.declared.fault.AuditFault.TheVariants as fault
use Rattle.crp_audit.specs.declared.fault.AuditStop.{AuditStop}
use Rattle.crp_audit.specs.declared.fault.AuditStop.TheVariants as stop
use Rattle.crp_plan.specs.Bay.{cap}
use Rattle.crp_plan.specs.BayNames.{YardBay}
use Rattle.crp_checker.specs.declared.verdict.Verdict.{Verdict}
use Rattle.crp_audit.specs.Headline.{Handed, Reported, problem_in, PrintsPlan, BearsOut, IsTrueOf}
use Rattle.crp_audit.specs.LooksTrue.{LooksSo}
use Rattle.crp_audit.specs.Printed.{ArePlanLines}
use Rattle.crp_audit.specs.Faults.{PrintsSaid, SaysTheSame, IsItsPlan, IsBayFault, IsOutside, IsFaultOf, reported_as}
use Rattle.crp_audit.specs.Certified.{AreRightLines, IsLinesFault, IsPlanSaid, SaysThis, IsCertificateFault}
use Rattle.crp_audit.specs.Stops.{StopsAt}
use Rattle.crp_audit.proofs.Deciding.{true_if_looks}
use Rattle.crp_audit.proofs.Results.{match_by}

abbrev stated_in : Handed → StackedBay → BayProblem
stated_in h bay = bay_problem_of h.yard.sizes h.sequence bay

-- ---- the lines

pub prints : (h : Handed) (b : Reported) (count : ℕ) (rows : List ℕ) → AllByRecursion FitsLine (ranked h.sequence b.bay.1)
    → ArePlanLines (ranked h.sequence b.bay.1) (problem_in h b) b.lines count rows → PrintsPlan h b count
prints h b count rows fits are = record {
  moves = are.moves;
  complete = are.complete;
  printed = are.printed;
  counted = are.counted;
  in_order = plan_takes (problem_in h b) (leaving h.sequence b.bay.1) (staying h.sequence b.bay.1) are.moves b.lines (All-from_recursion FitsLine (ranked h.sequence b.bay.1) fits) refl are.complete are.printed;
}

prints_said : (h : Handed) (bay : StackedBay) (s : BaySaid) (text rows : List ℕ) → AllByRecursion FitsLine (ranked h.sequence bay.1)
    → AreRightLines (stated_in h bay) s rows → PrintsSaid h (reported_as bay s text)
prints_said h bay s text rows fits right =
    match_by (count_said s.said) _ _ _ right (λ count are. prints h (reported_as bay s text) count rows fits are)

-- ---- what is promised

looks : (h : Handed) (bay : StackedBay) (said : Said) (lines text rows : List ℕ) (script : Script) (v : Verdict) → AllByRecursion FitsLine (ranked h.sequence bay.1)
    → AreRightLines (stated_in h bay) (record { bay = bay.0; said = said; lines = lines }) rows
    → IsAcceptedText (Some (stated_in h bay).problem) text script → IsPlanSaid said script.head.plan rows → BearsOut (cap (stated_in h bay).problem) said v
    → LooksSo h (record { bay = bay; said = said; lines = lines; certificate = text }) said
unfolding prints
looks h bay (Optimal count) lines text rows script v fits right is plan bears =
    prints h (record { bay = bay; said = Optimal count; lines = lines; certificate = text }) count rows fits right
looks h bay (First count) lines text rows script v fits right is plan bears =
    (prints h (record { bay = bay; said = First count; lines = lines; certificate = text }) count rows fits right, (script, is.is_text, plan ∙ ap Some right.path_is))
looks h bay NoPlan lines text rows script v fits right is plan bears = right
looks h bay (Between lower None why) lines text rows script v fits right is plan bears = right
looks h bay (Between lower (Some upper) why) lines text rows script v fits right is plan bears =
    prints h (record { bay = bay; said = Between lower (Some upper) why; lines = lines; certificate = text }) upper rows fits right
looks h bay (Outside count) lines text rows script v fits right is plan bears = bears

true_here : (h : Handed) (bay : StackedBay) (s : BaySaid) (text rows : List ℕ) (script : Script) → AllByRecursion FitsLine (ranked h.sequence bay.1)
    → AreRightLines (stated_in h bay) s rows → IsAcceptedText (Some (stated_in h bay).problem) text script → SaysThis (stated_in h bay) s.said rows script
    → IsTrueOf h (reported_as bay s text)
true_here h bay s text rows script fits right is says =
    let (v, shows, borne_out) = says.verdict in
    true_if_looks h (reported_as bay s text) (record {
      so = looks h bay s.said s.lines text rows script v fits right is says.plan borne_out;
      certified = v;
      borne_out = borne_out;
      shown = (script, is, says.bay, shows);
    })

pub bay_true : (h : Handed) (bay : StackedBay) (stated : BayProblem) (s : BaySaid) (text rows : List ℕ) (script : Script) → stated ≡ stated_in h bay
    → AllByRecursion FitsLine stated.names → AreRightLines stated s rows → IsAcceptedText (Some stated.problem) text script → SaysThis stated s.said rows script
    → IsTrueOf h (reported_as bay s text)
bay_true h bay stated s text rows script e = subst
    (λ (st : BayProblem). AllByRecursion FitsLine st.names → AreRightLines st s rows → IsAcceptedText (Some st.problem) text script → SaysThis st s.said rows script → IsTrueOf h (reported_as bay s text))
    (sym e) (true_here h bay s text rows script)

-- ---- its first fault

abbrev FaultOf : Handed → StackedBay → BaySaid → List ℕ → List ℕ → AuditFault → Type 0
FaultOf h bay s left front f = (f ≡ fault.Memory) ⊎ IsFaultOf s.said h (reported_as bay s []) left front f

-- where something is claimed of it
by_rule : (h : Handed) (b : Reported) (said : Said) (left front : List ℕ) (f : AuditFault) → ¬ IsOutside said → IsBayFault h b left front f → IsFaultOf said h b left front f
by_rule h b (Optimal count) left front f claimed wrong = wrong
by_rule h b (First count) left front f claimed wrong = wrong
by_rule h b NoPlan left front f claimed wrong = wrong
by_rule h b (Between lower upper why) left front f claimed wrong = wrong
by_rule h b (Outside count) left front f claimed wrong = absurd (claimed tt)

-- where nothing is
pub nothing_claimed : (h : Handed) (bay : StackedBay) (s : BaySaid) (left front : List ℕ) (name : YardBay) → IsOutside s.said → name ≡ bay.0 → FaultOf h bay s left front (fault.Outside name)
nothing_claimed h bay s left front name outside same = inr (told s.said outside)
  where
    told : (said : Said) → IsOutside said → IsFaultOf said h (reported_as bay s []) left front (fault.Outside name)
    told (Optimal count) is = absurd is
    told (First count) is = absurd is
    told NoPlan is = absurd is
    told (Between lower upper why) is = absurd is
    told (Outside count) is = ap fault.Outside same

is_some : (o : Option ℕ) (x : ℕ) → o ≡ Some x → IsSome o
is_some o x e = subst (λ (v : Option ℕ). IsSome v) (sym e) refl

lines_here : (h : Handed) (bay : StackedBay) (s : BaySaid) (left front : List ℕ) (f : AuditFault) → ¬ IsOutside s.said → s.bay ≡ bay.0
    → IsLinesFault (stated_in h bay) s (front ++ bay_line s.bay s.said) f → FaultOf h bay s left front f
lines_here h bay s left front (fault.Move line) claimed same (count, before, e, at, stops) =
    let place = at ∙ ap line_behind (append_assoc front (bay_line s.bay s.said) before) ∙ ap (λ b. line_behind (front ++ (bay_line b s.said ++ before))) same in
    inr (by_rule h (reported_as bay s []) s.said left front (fault.Move line) claimed (is_some (count_said s.said) count e, (before, stops, place)))
lines_here h bay s left front (fault.Plan name) claimed same is = inr (by_rule h (reported_as bay s []) s.said left front (fault.Plan name) claimed is)
lines_here h bay s left front f claimed same e = inl e

pub lines_fault : (h : Handed) (bay : StackedBay) (stated : BayProblem) (s : BaySaid) (left front : List ℕ) (f : AuditFault) → ¬ IsOutside s.said → stated ≡ stated_in h bay → s.bay ≡ bay.0
    → IsLinesFault stated s (front ++ bay_line s.bay s.said) f → FaultOf h bay s left front f
lines_fault h bay stated s left front f claimed e same is =
    lines_here h bay s left front f claimed same (subst (λ (st : BayProblem). IsLinesFault st s (front ++ bay_line s.bay s.said) f) e is)

plan_said : (h : Handed) (b : Reported) (said : Said) (rows : List ℕ) (script : Script) → b.said ≡ said
    → AreRightLines (stated_in h b.bay) (record { bay = b.bay.0; said = said; lines = b.lines }) rows → SaysTheSame h b script → IsPlanSaid said script.head.plan rows
plan_said h b (First count) rows script e right same =
    let its = subst (λ (x : Said). IsItsPlan x right.moves script) e (same.plan right.moves right.printed) in
    its ∙ ap Some (sym right.path_is)
plan_said h b (Optimal count) rows script e right same = tt
plan_said h b NoPlan rows script e right same = tt
plan_said h b (Between lower upper why) rows script e right same = tt
plan_said h b (Outside count) rows script e right same = tt

certificate_here : (h : Handed) (bay : StackedBay) (s : BaySaid) (rows left front : List ℕ) (f : AuditFault) → ¬ IsOutside s.said → AllByRecursion FitsLine (ranked h.sequence bay.1)
    → AreRightLines (stated_in h bay) s rows → IsCertificateFault (stated_in h bay) s.said rows left f → FaultOf h bay s left front f
certificate_here h bay s rows left front (fault.Lacking name) claimed fits right (e, none) =
    inr (by_rule h (reported_as bay s []) s.said left front (fault.Lacking name) claimed (e, prints_said h bay s [] rows fits right, none))
certificate_here h bay s rows left front (fault.Certificate name why) claimed fits right (e, other, refused) =
    inr (by_rule h (reported_as bay s []) s.said left front (fault.Certificate name why) claimed (e, prints_said h bay s [] rows fits right, other, refused))
certificate_here h bay s rows left front (fault.Other name) claimed fits right (e, (text, script, next, is, not)) = inr (by_rule h (reported_as bay s []) s.said left front (fault.Other name) claimed (
  e,
  prints_said h bay s [] rows fits right,
  (text, script, next, is, λ same. not (record { bay = same.bay; verdict = same.verdict; plan = plan_said h (reported_as bay s []) s.said rows script refl right same })),
))
certificate_here h bay s rows left front f claimed fits right e = inl e

pub certificate_fault : (h : Handed) (bay : StackedBay) (stated : BayProblem) (s : BaySaid) (rows left front : List ℕ) (f : AuditFault) → ¬ IsOutside s.said → stated ≡ stated_in h bay
    → AllByRecursion FitsLine stated.names → AreRightLines stated s rows → IsCertificateFault stated s.said rows left f → FaultOf h bay s left front f
certificate_fault h bay stated s rows left front f claimed e = subst
    (λ (st : BayProblem). AllByRecursion FitsLine st.names → AreRightLines st s rows → IsCertificateFault st s.said rows left f → FaultOf h bay s left front f)
    (sym e) (certificate_here h bay s rows left front f claimed)

-- why an audit stops at the certificate
pub certificate_stops : (known : Option (List ℕ)) (u : Unread) (stated : BayProblem) (s : BaySaid) (rows front : List ℕ) (why : AuditStop) → ¬ IsOutside s.said → AllByRecursion FitsLine stated.names → AreRightLines stated s rows
    → StopsAt known u (IsCertificateFault stated s.said rows) why
    → StopsAt known u (λ left f. (h : Handed) (bay : StackedBay) → stated ≡ stated_in h bay → s.bay ≡ bay.0 → FaultOf h bay s left front f) why
certificate_stops known u stated s rows front (stop.Fault f) claimed fits right (left, is, wrong) =
    (left, is, λ h bay same name. certificate_fault h bay stated s rows left front f claimed same fits right wrong)
certificate_stops known u stated s rows front stop.Failed claimed fits right failed = tt
certificate_stops known u stated s rows front stop.TooLarge claimed fits right long = long
