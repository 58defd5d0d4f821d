-- Which lines are those that are said, and which reports fit.
use Rattle.std.proofs.Common.{◌≡◌, ◌==◌, ◌∙◌, ◌↔◌, ℕ, Bool, false, IsTrue, List, [], ◌∷◌, length, map, filter, Option, Some, None, refl, sym, ap, subst}
use Rattle.std.specs.List.{AllByRecursion}
use Rattle.std.specs.Prelude.{MatchOption}
use Rattle.std.proofs.lemmas.Bool.{eqb-true}
use Rattle.std.proofs.lemmas.List.{length-map}
use Rattle.crp_plan.specs.Bay.{IsProblem, Problem}
use Rattle.crp_yard.specs.Inventory.{StackedBay}
use Rattle.crp_yard.specs.Naming.{FitsLine}
use Rattle.crp_order.specs.declared.bay_problem.BayProblem.{BayProblem}
use Rattle.crp_order.specs.BayProblems.{bay_problem_of, is_called, ranked}
use Rattle.crp_said.specs.Said.{BaySaid, count_said}
use Rattle.crp_said.specs.Spelled.{ReportSaid, SpellsReport, IsMisspelled}
use Rattle.crp_said.proofs.OneReport.{one_report, not_both}
use Rattle.crp_audit.specs.Headline.{Handed, Reported, problem_in, PrintsPlan}
use Rattle.crp_audit.specs.Faults.{reported_as}
use Rattle.crp_audit.specs.Printed.{IsLookedAt}
use Rattle.crp_audit.specs.Fitting.{FitsBay, FitsEach, MovesFit, is_as_said}
use Rattle.crp_audit.specs.declared.looking.Looked.{Looked}
use Rattle.crp_audit.specs.declared.looking.Looked.TheVariants.{Nothing, Plan, Stopped, Other}
use Rattle.crp_audit.proofs.Apart.{plan_followed}
use Rattle.crp_audit.proofs.Audited.{none_of}
use Rattle.crp_audit.proofs.Bays.{prints}
use Rattle.crp_audit.proofs.NoFault.{not_other}

-- ---- one bay

abbrev Says : Handed → Reported → Option ℕ → Type 0
Says h b count = MatchOption count (b.lines ≡ []) (PrintsPlan h b)

with_count : (h : Handed) (b : Reported) (count : Option ℕ) (k : ℕ) → count ≡ Some k → PrintsPlan h b k → Says h b count
with_count h b count k e is = subst (Says h b) (sym e) is

of_count : (h : Handed) (b : Reported) (count : Option ℕ) (k : ℕ) → count ≡ Some k → Says h b count → PrintsPlan h b k
of_count h b count k e is = subst (Says h b) e is

-- the lines of which so many relocations are said
other_lines : (h : Handed) (b : Reported) (count : Option ℕ) → IsProblem (problem_in h b)
    → IsLookedAt (ranked h.sequence b.bay.1) (problem_in h b) count b.lines Other → Says h b count → ⊥
other_lines h b None is other none = other none
other_lines h b (Some k) is other says = not_other h b k is says other

as_said : (h : Handed) (b : Reported) (count : Option ℕ) (looked : Looked) → IsProblem (problem_in h b) → AllByRecursion FitsLine (ranked h.sequence b.bay.1)
    → IsLookedAt (ranked h.sequence b.bay.1) (problem_in h b) count b.lines looked → IsTrue (is_as_said looked) ↔ Says h b count
as_said h b count Nothing is fits (none, empty) = (λ _. subst (Says h b) (sym none) empty, λ _. refl)
as_said h b count (Plan path) is fits (k, e, are) = (λ _. with_count h b count k e (prints h b k path.items fits are), λ _. refl)
as_said h b count (Stopped read) is fits (k, e, (before, at, stops)) =
    (λ t. absurd (cc), λ says. absurd (plan_followed h b k before is (of_count h b count k e says) stops))
as_said h b count Other is fits other = (λ t. absurd (cc), λ says. absurd (other_lines h b count is other says))

abbrev stated_in : Handed → StackedBay → BayProblem
stated_in h bay = bay_problem_of h.yard.sizes h.sequence bay

-- the bay of this name
abbrev LookedAt : BayProblem → BaySaid → Looked → Type 0
LookedAt stated s looked = IsLookedAt stated.names stated.problem (count_said s.said) s.lines looked

pub looked_as : (names other : List (List ℕ)) (p : Problem) (k m : Option ℕ) (lines more : List ℕ) (looked : Looked) → names ≡ other → k ≡ m → lines ≡ more
    → IsLookedAt names p k lines looked → IsLookedAt other p m more looked
looked_as names other p k m lines more looked a b c at =
    subst (λ l. IsLookedAt other p m l looked) c (subst (λ (o : Option ℕ). IsLookedAt other p o lines looked) b (subst (λ (n : List (List ℕ)). IsLookedAt n p k lines looked) a at))

pub bay_fits : (h : Handed) (bay : StackedBay) (stated : BayProblem) (s : BaySaid) (looked : Looked) → stated ≡ stated_in h bay → s.bay ≡ stated.bay
    → IsProblem stated.problem → AllByRecursion FitsLine stated.names → LookedAt stated s looked → IsTrue (is_as_said looked) ↔ FitsBay h bay s
bay_fits h bay stated s looked e name problem fits at =
    let named : s.bay ≡ bay.0 = name ∙ ap (λ (st : BayProblem). st.bay) e in
    let is : IsProblem (stated_in h bay).problem = subst (λ (st : BayProblem). IsProblem st.problem) e problem in
    let lines : AllByRecursion FitsLine (stated_in h bay).names = subst (λ (st : BayProblem). AllByRecursion FitsLine st.names) e fits in
    let here : LookedAt (stated_in h bay) s looked = subst (λ (st : BayProblem). LookedAt st s looked) e at in
    let same = as_said h (reported_as bay s []) (count_said s.said) looked is lines here in
    (λ t. (named, same.0 t), λ both. same.1 both.1)

-- one of another name
pub other_name : (h : Handed) (bay : StackedBay) (stated : BayProblem) (s : BaySaid) → stated ≡ stated_in h bay → (s.bay ≡ stated.bay → ⊥) → IsTrue false ↔ FitsBay h bay s
other_name h bay stated s e apart = (λ t. absurd (cc), λ both. absurd (apart (both.0 ∙ sym (ap (λ (st : BayProblem). st.bay) e))))

-- ---- all bays

-- these bays are left, and they fit where all do
pub record AreLeft (h : Handed) (bays : List StackedBay) (said : List BaySaid) (later : List BayProblem) (more : List BaySaid) : Type 0 where
  pub rest : List StackedBay
  pub later_are : later ≡ map (stated_in h) rest
  pub same : FitsEach h rest more ↔ FitsEach h bays said

pub all_left : (h : Handed) (bays : List StackedBay) (said : List BaySaid) (stated : List BayProblem) → stated ≡ map (stated_in h) bays → AreLeft h bays said stated said
all_left h bays said stated e = record { rest = bays; later_are = e; same = (λ x. x, λ x. x) }

head_is : (a b : BayProblem) (xs ys : List BayProblem) → a ∷ xs ≡ b ∷ ys → a ≡ b
head_is a b xs ys e = cc

tail_is : (a b : BayProblem) (xs ys : List BayProblem) → a ∷ xs ≡ b ∷ ys → xs ≡ ys
tail_is a b xs ys e = cc

-- one bay less
less : (h : Handed) (bays rest : List StackedBay) (said more : List BaySaid) (next : BayProblem) (behind : List BayProblem) (s : BaySaid)
    → next ∷ behind ≡ map (stated_in h) rest → (FitsEach h rest (s ∷ more) ↔ FitsEach h bays said)
    → ((bay : StackedBay) → next ≡ stated_in h bay → FitsBay h bay s) → AreLeft h bays said behind more
less h bays [] said more next behind s e same fits = cc
less h bays (bay ∷ rest) said more next behind s e same fits = record {
  rest = rest;
  later_are = tail_is next (stated_in h bay) behind (map (stated_in h) rest) e;
  same = (λ x. same.0 (fits bay (head_is next (stated_in h bay) behind (map (stated_in h) rest) e), x), λ y. (same.1 y).1);
}

pub one_less : (h : Handed) (bays : List StackedBay) (said more after : List BaySaid) (later behind : List BayProblem) (next : BayProblem) (s : BaySaid)
    → AreLeft h bays said later more → later ≡ next ∷ behind → more ≡ s ∷ after → ((bay : StackedBay) → next ≡ stated_in h bay → FitsBay h bay s) → AreLeft h bays said behind after
one_less h bays said more after later behind next s left is-next is-said fits =
    less h bays left.rest said after next behind s (sym is-next ∙ left.later_are) (subst (λ l. FitsEach h left.rest l ↔ FitsEach h bays said) is-said left.same) fits

-- the next bay does not fit
apart : (h : Handed) (rest : List StackedBay) (more : List BaySaid) (next : BayProblem) (behind : List BayProblem) (s : BaySaid)
    → next ∷ behind ≡ map (stated_in h) rest → ((bay : StackedBay) → next ≡ stated_in h bay → FitsBay h bay s → ⊥) → FitsEach h rest (s ∷ more) → ⊥
apart h [] more next behind s e wrong fit = fit
apart h (bay ∷ rest) more next behind s e wrong fit = wrong bay (head_is next (stated_in h bay) behind (map (stated_in h) rest) e) fit.0

pub not_next : (h : Handed) (bays : List StackedBay) (said more after : List BaySaid) (later behind : List BayProblem) (next : BayProblem) (s : BaySaid)
    → AreLeft h bays said later more → later ≡ next ∷ behind → more ≡ s ∷ after → ((bay : StackedBay) → next ≡ stated_in h bay → FitsBay h bay s → ⊥)
    → IsTrue false ↔ FitsEach h bays said
not_next h bays said more after later behind next s left is-next is-said wrong = (
  λ t. absurd (cc),
  λ all. absurd (apart h left.rest after next behind s (sym is-next ∙ left.later_are) wrong (subst (FitsEach h left.rest) is-said ((left.same).1 all))),
)

-- nothing is said of it
lacking : (h : Handed) (rest : List StackedBay) (next : BayProblem) (behind : List BayProblem) → next ∷ behind ≡ map (stated_in h) rest → FitsEach h rest [] → ⊥
lacking h [] next behind e fit = cc
lacking h (bay ∷ rest) next behind e fit = fit

pub none_said : (h : Handed) (bays : List StackedBay) (said more : List BaySaid) (later behind : List BayProblem) (next : BayProblem)
    → AreLeft h bays said later more → later ≡ next ∷ behind → more ≡ [] → IsTrue false ↔ FitsEach h bays said
none_said h bays said more later behind next left is-next none =
    (λ t. absurd (cc), λ all. absurd (lacking h left.rest next behind (sym is-next ∙ left.later_are) (subst (FitsEach h left.rest) none ((left.same).1 all))))

-- no bay is left
end_of : (h : Handed) (rest : List StackedBay) (more : List BaySaid) → [] ≡ map (stated_in h) rest → (FitsEach h rest more ↔ (more ≡ []))
end_of h [] [] e = (λ x. refl, λ x. tt)
end_of h [] (s ∷ more) e = (λ x. absurd x, λ x. cc)
end_of h (bay ∷ rest) more e = cc

pub at_end : (h : Handed) (bays : List StackedBay) (said more : List BaySaid) (later : List BayProblem) → AreLeft h bays said later more → later ≡ []
    → (more ≡ []) ↔ FitsEach h bays said
at_end h bays said more later left none =
    let end = end_of h left.rest more (sym none ∙ left.later_are) in
    (λ e. (left.same).0 (end.1 e), λ all. end.0 ((left.same).1 all))

-- nothing more is said
pub empty_is : {A B : Type 0} (f : A → B) (xs : List A) (t : Bool) → t ≡ (length xs == 0) → IsTrue t ↔ (map f xs ≡ [])
empty_is f xs t e = (
  λ y. ap (map f) (none_of xs (eqb-true (length xs) 0 (sym e ∙ y))),
  λ none. e ∙ ap (λ n. n == 0) (sym (length-map xs f) ∙ ap length none),
)

-- ---- the report

pub fits_as_read : (h : Handed) (r : ReportSaid) → SpellsReport h.report r → FitsEach h (filter (is_called h.sequence) h.yard.bays) r.bays ↔ MovesFit h
fits_as_read h r spells = (
  λ each. record { report = r; spelled = spells; each = each },
  λ fit. subst (λ (q : ReportSaid). FitsEach h (filter (is_called h.sequence) h.yard.bays) q.bays) (one_report h.report fit.report r fit.spelled spells) fit.each,
)

pub no_report : (h : Handed) (line : ℕ) → IsMisspelled h.report line → IsTrue false ↔ MovesFit h
no_report h line wrong = (λ t. absurd (cc), λ fit. absurd (not_both h.report fit.report line fit.spelled wrong))
