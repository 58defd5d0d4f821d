-- The bays that were right so far, and what follows at the end and at a fault.
use Rattle.std.proofs.Common.{◌≡◌, ◌≢◌, ◌≤◌, ◌==◌, true, false, arith, ◌∙◌, ◌⊎◌, ⊎_elim, ℕ, ◌+◌, cond, List, [], ◌∷◌, ◌++◌, length, map, filter, fold, Some, None, inl, inr, refl, sym, ap, subst, append_assoc, append-nil}
use Rattle.std.specs.List.{AllByRecursion, flat_map}
use Rattle.std.proofs.lemmas.Bool.{eqb-true}
use Rattle.std.proofs.lemmas.List.{map-append, length-map}
use Rattle.std.proofs.lemmas.Grind.{flat_map-append}
use Rattle.std.proofs.lemmas.List.Elements.{All-from_recursion}
use Rattle.crp_plan.specs.BayNames.{YardBay}
use Rattle.crp_yard.specs.Inventory.{StackedBay}
use Rattle.crp_order.specs.declared.bay_problem.BayProblem.{BayProblem}
use Rattle.crp_order.specs.BayProblems.{bay_problem_of, problems_of, is_called}
use Rattle.crp_checker.specs.declared.verdict.Verdict.{Verdict}
use Rattle.crp_checker.specs.Files.{BeginsWithTexts}
use Rattle.crp_said.specs.declared.said.Said.{Said}
use Rattle.crp_said.specs.declared.said.Said.TheVariants.{Optimal, First, NoPlan, Between, Outside}
use Rattle.crp_said.specs.declared.said.SaidBay.{SaidBay}
use Rattle.crp_said.specs.declared.report.ReportFault.{ReportFault}
use Rattle.crp_said.specs.declared.report.ReportFault.TheVariants as report
use Rattle.crp_said.specs.Said.{BaySaid, bay_text, bays_line, counts_line, is_settled, report_text}
use Rattle.crp_said.specs.Spelled.{ReportSaid, SpellsReport, IsMisspelled, front_text, line_behind}
use Rattle.crp_said.specs.Views.{bay_as}
use Rattle.crp_cert.proofs.Joined.{all_both}
use Rattle.crp_checker.proofs.Cuts.{texts_more}
use Rattle.crp_audit.specs.declared.fault.AuditFault.{AuditFault}
use Rattle.crp_audit.specs.declared.fault.AuditFault.TheVariants as fault
use Rattle.crp_audit.specs.Headline.{Handed, Reported, numbers_in, said_of, verdict_in, IsTrueOf, IsHeadline, shown_in}
use Rattle.crp_audit.specs.Faults.{of_spelling, reported_as, next_called, next_said, CountsRight, IsBayFault, IsFaultOf, IsNextFault, ComeFirst, IsFaultBehind, AreRightFirst, IsFirstFault, verdicts_of, ShowsFirst, IsAuditRefusal}

-- so much of what is handed in is right: bays with these verdicts, whose text is this front of the report; and what is left
pub record AreRight (h : Handed) (shown : List (YardBay × Verdict)) (front : List ℕ) (stated : List BayProblem) (more : List BaySaid) (left : List ℕ) : Type 0 where
  pub report : ReportSaid
  pub spelled : SpellsReport h.report report
  pub numbers : report.numbers ≡ numbers_in h
  pub before : List Reported
  pub later : List StackedBay
  pub called : filter (is_called h.sequence) h.yard.bays ≡ map (λ b. b.bay) before ++ later
  pub stated_are : stated ≡ map (bay_problem_of h.yard.sizes h.sequence) later
  pub bays : report.bays ≡ map said_of before ++ more
  pub certificates : BeginsWithTexts h.certificates (map (λ b. b.certificate) before) left
  pub each_true : AllByRecursion (IsTrueOf h) before
  pub front_is : front ≡ front_text report.numbers (map said_of before)
  pub shown_is : shown ≡ verdicts_of h before

pub none_right : (h : Handed) (r : ReportSaid) (shown : List (YardBay × Verdict)) (front : List ℕ) (stated : List BayProblem) → SpellsReport h.report r → r.numbers ≡ numbers_in h
    → shown ≡ [] → front ≡ counts_line r.numbers → stated ≡ problems_of h.yard h.sequence → AreRight h shown front stated r.bays h.certificates
none_right h r shown front stated spells numbers none first all = record {
  report = r;
  spelled = spells;
  numbers = numbers;
  before = [];
  later = filter (is_called h.sequence) h.yard.bays;
  called = refl;
  stated_are = all;
  bays = refl;
  certificates = refl;
  each_true = tt;
  front_is = first ∙ sym (append-nil (counts_line r.numbers));
  shown_is = none;
}

-- ---- one bay more

head_is : (a b : BayProblem) (xs ys : List BayProblem) → a ∷ xs ≡ b ∷ ys → a ≡ b
head_is a b xs ys e = cc

tail_is : (a b : BayProblem) (xs ys : List BayProblem) → a ∷ xs ≡ b ∷ ys → xs ≡ ys
tail_is a b xs ys e = cc

-- the next problem is that of the next bay
record IsNextOf (f : StackedBay → BayProblem) (next : BayProblem) (behind : List BayProblem) (later : List StackedBay) : Type 0 where
  pub bay : StackedBay
  pub rest : List StackedBay
  pub is : later ≡ bay ∷ rest
  pub next_is : next ≡ f bay
  pub behind_are : behind ≡ map f rest

next_of : (f : StackedBay → BayProblem) (next : BayProblem) (behind : List BayProblem) (later : List StackedBay) → next ∷ behind ≡ map f later → IsNextOf f next behind later
next_of f next behind [] e = cc
next_of f next behind (bay ∷ rest) e = record {
  bay = bay;
  rest = rest;
  is = refl;
  next_is = head_is next (f bay) behind (map f rest) e;
  behind_are = tail_is next (f bay) behind (map f rest) e;
}

named_as : (s : BaySaid) (bay : StackedBay) (text : List ℕ) → s.bay ≡ bay.0 → said_of (reported_as bay s text) ≡ s
named_as s bay text e = ap (λ (name : YardBay). record { bay = name; said = s.said; lines = s.lines }) (sym e)

abbrev RightBay : Handed → StackedBay → BaySaid → List ℕ → Verdict → List ℕ → Type 0
RightBay h bay s left verdict rest =
    (text : List ℕ) × BeginsWithTexts left (text ∷ []) rest × IsTrueOf h (reported_as bay s text) × (verdict ≡ verdict_in h (reported_as bay s text))

pub one_right : (h : Handed) (shown wide : List (YardBay × Verdict)) (front new : List ℕ) (stated behind : List BayProblem) (next : BayProblem) (more after : List BaySaid) (s : BaySaid)
    (left rest : List ℕ) (verdict : Verdict) → AreRight h shown front stated more left → stated ≡ next ∷ behind → more ≡ s ∷ after → s.bay ≡ next.bay
    → ((bay : StackedBay) → next ≡ bay_problem_of h.yard.sizes h.sequence bay → RightBay h bay s left verdict rest) → new ≡ front ++ bay_text s
    → wide ≡ shown ++ (next.bay, verdict) ∷ [] → AreRight h wide new behind after rest
one_right h shown wide front new stated behind next more after s left rest verdict so is-next is-said name right longer wider =
    let of = next_of (bay_problem_of h.yard.sizes h.sequence) next behind so.later (sym is-next ∙ so.stated_are) in
    let (text, begins, true_of, verdict-is) = right of.bay of.next_is in
    let b : Reported = reported_as of.bay s text in
    let same : next.bay ≡ of.bay.0 = ap (λ (p : BayProblem). p.bay) of.next_is in
    let said : said_of b ≡ s = named_as s of.bay text (name ∙ same) in
    let saids : map said_of (so.before ++ b ∷ []) ≡ map said_of so.before ++ s ∷ [] = map-append said_of so.before (b ∷ []) ∙ ap (λ x. map said_of so.before ++ x ∷ []) said in
    record {
      report = so.report;
      spelled = so.spelled;
      numbers = so.numbers;
      before = so.before ++ b ∷ [];
      later = of.rest;
      called = so.called ∙ ap (λ l. map (λ (x : Reported). x.bay) so.before ++ l) of.is
          ∙ sym (append_assoc (map (λ (x : Reported). x.bay) so.before) (of.bay ∷ []) of.rest)
          ∙ ap (λ l. l ++ of.rest) (sym (map-append (λ (x : Reported). x.bay) so.before (b ∷ [])));
      stated_are = of.behind_are;
      bays = so.bays ∙ ap (λ l. map said_of so.before ++ l) is-said ∙ sym (append_assoc (map said_of so.before) (s ∷ []) after) ∙ ap (λ l. l ++ after) (sym saids);
      certificates = subst (λ l. BeginsWithTexts h.certificates l rest) (sym (map-append (λ (x : Reported). x.certificate) so.before (b ∷ [])))
          (subst (BeginsWithTexts h.certificates (map (λ (x : Reported). x.certificate) so.before ++ text ∷ [])) begins.3
          (texts_more h.certificates (map (λ (x : Reported). x.certificate) so.before) left text begins.0 so.certificates begins.1 begins.2));
      each_true = all_both (IsTrueOf h) so.before (b ∷ []) so.each_true (true_of, tt);
      front_is = longer ∙ ap (λ l. l ++ bay_text s) so.front_is ∙ append_assoc (counts_line so.report.numbers) (flat_map bay_text (map said_of so.before)) (bay_text s)
          ∙ ap (λ l. counts_line so.report.numbers ++ l)
          (ap (λ l. flat_map bay_text (map said_of so.before) ++ l) (sym (append-nil (bay_text s))) ∙ sym (flat_map-append bay_text (map said_of so.before) (s ∷ [])) ∙ ap (flat_map bay_text) (sym saids));
      shown_is = wider ∙ ap (λ l. l ++ (next.bay, verdict) ∷ []) so.shown_is ∙ ap (λ (p : YardBay × Verdict). verdicts_of h so.before ++ p ∷ []) (ap (λ n. (n, verdict)) same ∙ ap (λ v. (of.bay.0, v)) verdict-is)
          ∙ sym (map-append (λ (x : Reported). (x.bay.0, verdict_in h x)) so.before (b ∷ []));
    }

-- ---- the first fault

pub spelling : (h : Handed) (error : ReportFault) → (error ≡ report.Memory) ⊎ ((line : ℕ) × (error ≡ report.Line line) × IsMisspelled h.report line) → IsFirstFault h [] (of_spelling error)
spelling h error why = ⊎_elim (λ e. subst (λ (x : ReportFault). IsFirstFault h [] (of_spelling x)) (sym e) (inl refl))
    (λ k. let (line, e, is) = k in subst (λ (x : ReportFault). IsFirstFault h [] (of_spelling x)) (sym e) (refl, is)) why

-- what is no fault of a bay of which something is claimed, nor that nothing is claimed of it
never : (h : Handed) (b : Reported) (said : Said) (left front : List ℕ) (f : AuditFault) → ¬ IsBayFault h b left front f → f ≢ fault.Outside b.bay.0 → ¬ IsFaultOf said h b left front f
never h b (Optimal count) left front f not other is = not is
never h b (First count) left front f not other is = not is
never h b NoPlan left front f not other is = not is
never h b (Between lower upper why) left front f not other is = not is
never h b (Outside count) left front f not other is = other is

no_spelling : (h : Handed) (r : ReportSaid) (later : List StackedBay) (more : List BaySaid) (left front : List ℕ) (line : ℕ) → ¬ IsNextFault h r later more left front (fault.Spelling line)
no_spelling h r [] [] left front line is = is
no_spelling h r [] (s ∷ more) left front line is = is
no_spelling h r (bay ∷ later) [] left front line is = is
no_spelling h r (bay ∷ later) (s ∷ more) left front line is = never h (reported_as bay s []) s.said left front (fault.Spelling line) (λ no. no) (λ e. cc) is.1

no_numbers : (h : Handed) (r : ReportSaid) (later : List StackedBay) (more : List BaySaid) (left front : List ℕ) → ¬ IsNextFault h r later more left front fault.Numbers
no_numbers h r [] [] left front is = is
no_numbers h r [] (s ∷ more) left front is = is
no_numbers h r (bay ∷ later) [] left front is = is
no_numbers h r (bay ∷ later) (s ∷ more) left front is = never h (reported_as bay s []) s.said left front fault.Numbers (λ no. no) (λ e. cc) is.1

-- the bays so far
come_first : (h : Handed) (shown : List (YardBay × Verdict)) (front : List ℕ) (stated : List BayProblem) (more : List BaySaid) (left : List ℕ) → (so : AreRight h shown front stated more left)
    → ComeFirst h so.report so.before
come_first h shown front stated more left so = record {
  later = so.later;
  more = more;
  left = left;
  called = so.called;
  bays = so.bays;
  certificates = so.certificates;
  each_true = All-from_recursion (IsTrueOf h) so.before so.each_true;
}

right_first : (h : Handed) (shown : List (YardBay × Verdict)) (front : List ℕ) (stated : List BayProblem) (more : List BaySaid) (left : List ℕ) → (so : AreRight h shown front stated more left)
    → AreRightFirst h so.before
right_first h shown front stated more left so = inr (so.report, so.spelled, so.numbers, come_first h shown front stated more left so)

pub shows_first : (h : Handed) (shown : List (YardBay × Verdict)) (front : List ℕ) (stated : List BayProblem) (more : List BaySaid) (left : List ℕ) → AreRight h shown front stated more left
    → ShowsFirst h shown
shows_first h shown front stated more left so = (so.before, so.shown_is, right_first h shown front stated more left so)

first : (h : Handed) (r : ReportSaid) (before : List Reported) (later : List StackedBay) (more : List BaySaid) (left front : List ℕ) (f : AuditFault)
    → IsNextFault h r later more left front f → AreRightFirst h before → ((r2 : ReportSaid) × SpellsReport h.report r2 × (r2.numbers ≡ numbers_in h) × IsFaultBehind h r2 before f)
    → IsFirstFault h before f
first h r before later more left front (fault.Spelling line) is right in_it = absurd (no_spelling h r later more left front line is)
first h r before later more left front fault.Numbers is right in_it = absurd (no_numbers h r later more left front is)
first h r before later more left front fault.Memory is right in_it = right
first h r before later more left front f is right in_it = in_it

pub refused : (h : Handed) (shown : List (YardBay × Verdict)) (front : List ℕ) (stated : List BayProblem) (more : List BaySaid) (left : List ℕ) (f : AuditFault)
    → (so : AreRight h shown front stated more left) → IsNextFault h so.report so.later more left front f → IsAuditRefusal h shown f
unfolding come_first
refused h shown front stated more left f so is =
    let next = subst (λ l. IsNextFault h so.report so.later more left l f) so.front_is is in
    record {
      before = so.before;
      shown_is = so.shown_is;
      first = first h so.report so.before so.later more left (front_text so.report.numbers (map said_of so.before)) f next
          (right_first h shown front stated more left so) (so.report, so.spelled, so.numbers, record { first = come_first h shown front stated more left so; next = next });
    }

pub out_of_memory : (h : Handed) (shown : List (YardBay × Verdict)) (front : List ℕ) (stated : List BayProblem) (more : List BaySaid) (left : List ℕ) → AreRight h shown front stated more left
    → IsAuditRefusal h shown fault.Memory
out_of_memory h shown front stated more left so = record { before = so.before; shown_is = so.shown_is; first = right_first h shown front stated more left so }

-- a fault of the next bay
bay_next : (h : Handed) (r : ReportSaid) (bay : StackedBay) (later : List StackedBay) (s : BaySaid) (more : List BaySaid) (left front : List ℕ) (f : AuditFault) → s.bay ≡ bay.0
    → IsFaultOf s.said h (reported_as bay s []) left front f → IsNextFault h r (bay ∷ later) (s ∷ more) left front f
bay_next h r bay later s more left front (fault.Bay line wanted) e is = absurd (never h (reported_as bay s []) s.said left front (fault.Bay line wanted) (λ no. no) (λ e. cc) is)
bay_next h r bay later s more left front f e is = (e, is)

pub refused_bay : (h : Handed) (shown : List (YardBay × Verdict)) (front : List ℕ) (stated behind : List BayProblem) (next : BayProblem) (more after : List BaySaid) (s : BaySaid) (left : List ℕ)
    (f : AuditFault) → AreRight h shown front stated more left → stated ≡ next ∷ behind → more ≡ s ∷ after → s.bay ≡ next.bay
    → ((bay : StackedBay) → next ≡ bay_problem_of h.yard.sizes h.sequence bay → s.bay ≡ bay.0 → (f ≡ fault.Memory) ⊎ IsFaultOf s.said h (reported_as bay s []) left front f) → IsAuditRefusal h shown f
refused_bay h shown front stated behind next more after s left f so is-next is-said name wrong =
    let of = next_of (bay_problem_of h.yard.sizes h.sequence) next behind so.later (sym is-next ∙ so.stated_are) in
    let same : s.bay ≡ of.bay.0 = name ∙ ap (λ (p : BayProblem). p.bay) of.next_is in
    ⊎_elim (λ memory. subst (IsAuditRefusal h shown) (sym memory) (out_of_memory h shown front stated more left so))
    (λ is. refused h shown front stated more left f so
    (subst (λ l. IsNextFault h so.report so.later l left front f) (sym is-said)
    (subst (λ l. IsNextFault h so.report l (s ∷ after) left front f) (sym of.is) (bay_next h so.report of.bay of.rest s after left front f same is)))) (wrong of.bay of.next_is same)

-- another bay is wanted
called_next : (f : StackedBay → BayProblem) (stated : List BayProblem) (later : List StackedBay) → stated ≡ map f later → ((bay : StackedBay) → (f bay).bay ≡ bay.0)
    → (next : BayProblem) (behind : List BayProblem) → stated ≡ next ∷ behind → Some next.bay ≡ next_called later
called_next f stated later are same next behind e =
    let of = next_of f next behind later (sym e ∙ are) in
    ap Some (ap (λ (p : BayProblem). p.bay) of.next_is ∙ same of.bay) ∙ sym (ap next_called of.is)

pub refused_name : (h : Handed) (shown : List (YardBay × Verdict)) (front : List ℕ) (stated behind : List BayProblem) (next : BayProblem) (more : List BaySaid) (left : List ℕ)
    → AreRight h shown front stated more left → stated ≡ next ∷ behind → next_said more ≢ Some next.bay → IsAuditRefusal h shown (fault.Bay (line_behind front) (Some next.bay))
refused_name h shown front stated behind next more left so is-next apart =
    let wanted = called_next (bay_problem_of h.yard.sizes h.sequence) stated so.later so.stated_are (λ bay. refl) next behind is-next in
    refused h shown front stated more left (fault.Bay (line_behind front) (Some next.bay)) so (refl, wanted, λ e. apart (e ∙ sym wanted))

none_later : (f : StackedBay → BayProblem) (later : List StackedBay) → [] ≡ map f later → later ≡ []
none_later f [] e = refl
none_later f (bay ∷ later) e = cc

pub refused_more : (h : Handed) (shown : List (YardBay × Verdict)) (front : List ℕ) (stated : List BayProblem) (more : List BaySaid) (left : List ℕ)
    → AreRight h shown front stated more left → stated ≡ [] → more ≢ [] → IsAuditRefusal h shown (fault.Bay (line_behind front) None)
refused_more h shown front stated more left so none some =
    let no : so.later ≡ [] = none_later (bay_problem_of h.yard.sizes h.sequence) so.later (sym none ∙ so.stated_are) in
    let wanted : None ≡ next_called so.later = ap next_called (sym no) in
    refused h shown front stated more left (fault.Bay (line_behind front) None) so (refl, wanted, λ e. some (no_said more (e ∙ sym wanted)))
  where
    no_said : (more : List BaySaid) → next_said more ≡ None → more ≡ []
    no_said [] e = refl
    no_said (s ∷ more) e = cc

-- ---- the end

-- behind the last bay
at_end : (h : Handed) (shown : List (YardBay × Verdict)) (front : List ℕ) (stated : List BayProblem) (more : List BaySaid) (left : List ℕ) (f : AuditFault)
    → (so : AreRight h shown front stated more left) → stated ≡ [] → more ≡ [] → IsNextFault h so.report [] [] left front f → IsAuditRefusal h shown f
at_end h shown front stated more left f so none ended is =
    let end : so.later ≡ [] = none_later (bay_problem_of h.yard.sizes h.sequence) so.later (sym none ∙ so.stated_are) in
    refused h shown front stated more left f so (subst (λ l. IsNextFault h so.report so.later l left front f) (sym ended) (subst (λ l. IsNextFault h so.report l [] left front f) (sym end) is))

pub left_over : (h : Handed) (shown : List (YardBay × Verdict)) (front : List ℕ) (stated : List BayProblem) (more : List BaySaid) (left : List ℕ)
    → AreRight h shown front stated more left → stated ≡ [] → more ≡ [] → left ≢ [] → IsAuditRefusal h shown fault.LeftOver
left_over h shown front stated more left so none ended some = at_end h shown front stated more left fault.LeftOver so none ended some

pub wrong_count : (h : Handed) (shown : List (YardBay × Verdict)) (front : List ℕ) (stated : List BayProblem) (more : List BaySaid) (left : List ℕ)
    → (so : AreRight h shown front stated more left) → stated ≡ [] → more ≡ [] → left ≡ [] → ¬ CountsRight so.report → IsAuditRefusal h shown fault.Closing
wrong_count h shown front stated more left so none ended nothing wrong = at_end h shown front stated more left fault.Closing so none ended (nothing, wrong)

pub all_right : (h : Handed) (shown : List (YardBay × Verdict)) (front : List ℕ) (stated : List BayProblem) (more : List BaySaid) (left : List ℕ)
    → (so : AreRight h shown front stated more left) → stated ≡ [] → more ≡ [] → left ≡ [] → CountsRight so.report → (is : IsHeadline h) × (shown ≡ shown_in h is)
all_right h shown front stated more left so none ended nothing counts =
    let end : so.later ≡ [] = none_later (bay_problem_of h.yard.sizes h.sequence) so.later (sym none ∙ so.stated_are) in
    let bays : so.report.bays ≡ map said_of so.before = so.bays ∙ ap (λ l. map said_of so.before ++ l) ended ∙ append-nil (map said_of so.before) in
    let r : ReportSaid = so.report in
    let text : h.report ≡ report_text r.numbers r.bays =
    so.spelled.1 ∙ append_assoc (counts_line r.numbers) (flat_map bay_text r.bays) (bays_line r.count r.settled)
    ∙ ap (λ n. counts_line r.numbers ++ (flat_map bay_text r.bays ++ bays_line n r.settled)) counts.0
    ∙ ap (λ n. counts_line r.numbers ++ (flat_map bay_text r.bays ++ bays_line (length r.bays) n)) counts.1 in (
      record {
        bays = so.before;
        called = sym (so.called ∙ ap (λ l. map (λ (x : Reported). x.bay) so.before ++ l) end ∙ append-nil (map (λ (x : Reported). x.bay) so.before));
        report = text ∙ ap (λ n. report_text n r.bays) so.numbers ∙ ap (report_text (numbers_in h)) bays;
        certificates = subst (BeginsWithTexts h.certificates (map (λ (x : Reported). x.certificate) so.before)) nothing so.certificates;
        each_true = All-from_recursion (IsTrueOf h) so.before so.each_true;
      },
      so.shown_is,
    )

-- those settled
pub settled_as : (bays : List SaidBay) (n : ℕ) → fold (λ m (b : BaySaid). m + cond (is_settled b.said) 1 0) n (map bay_as bays) ≡ fold (λ m (b : SaidBay). m + cond (is_settled b.said) 1 0) n bays
settled_as [] n = refl
settled_as (b ∷ bays) n = settled_as bays (n + cond (is_settled b.said) 1 0)

pub none_of : {A : Type 0} (xs : List A) → length xs ≡ 0 → xs ≡ []
none_of [] e = refl
none_of (x ∷ xs) e = absurd (let low : 1 ≤ length (x ∷ xs) = omega arith in omega (arith, e, low))

pub tested : {A : Type 0} (xs : List A) → true ≡ (length xs == 0) → xs ≡ []
tested xs e = none_of xs (eqb-true (length xs) 0 (sym e))

pub some_of : {A : Type 0} (xs : List A) → false ≡ (length xs == 0) → xs ≢ []
some_of xs e none = let t : false ≡ true = subst (λ l. false ≡ (length l == 0)) none e in cc

pub some_mapped : {A B : Type 0} (f : A → B) (xs : List A) → xs ≢ [] → map f xs ≢ []
some_mapped f xs some e = some (none_of xs (sym (length-map xs f) ∙ ap length e))
