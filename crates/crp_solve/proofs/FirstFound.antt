-- What a search for the first best plan has found when all is searched.
use Rattle.std.proofs.Common.{length, ◌≡◌, ◌≤◌, ℕ, ◌+◌, sum_by, ⊎_elim, List, [], ◌∷◌, All, AllPairs, Contains, Option, None, Some, sym, ap, ◌∙◌, subst, arith}
use Rattle.std.proofs.lemmas.List.{length-map}
use Rattle.std.proofs.lemmas.List.Elements.{All-weaker, All-cons, All-nil}
use Rattle.std.proofs.lemmas.List.Sums.{sum_by-cons}
use Rattle.crp_plan.specs.declared.running.View.{View}
use Rattle.crp_plan.specs.Bay.{Problem, IsProblem, IsBest}
use Rattle.crp_plan.specs.Plans.{ProblemPath}
use Rattle.crp_plan.proofs.Buried.{below_cap}
use Rattle.crp_bay.proofs.Members.{in_head, in_tail, in_cons_cases, not_in_nil}
use Rattle.crp_tree.specs.Names.{Precedes}
use Rattle.crp_tree.specs.Trees.{value}
use Rattle.crp_tree.specs.Claims.{IsAccepted}
use Rattle.crp_tree.specs.First.{MeetsNeed, MeetNeeds}
use Rattle.crp_tree.specs.Parts.{ProblemPart, given_of, cuts_in, branches_in, names_of, floors_of, IsKeptPart, Certificate, IsCertificate, IsAbout, claimed}
use Rattle.crp_tree.proofs.Accepted.{bounded}
use Rattle.crp_tree.proofs.Ordered.{not_itself}
use Rattle.crp_gather.specs.Gathers.{AreWhole}
use Rattle.crp_gather.specs.Settled.{IsSettled}
use Rattle.crp_search.specs.Firsts.{MeetsOwn, IsFirstHere}
use Rattle.crp_solve.specs.Answers.{branches_of}
use Rattle.crp_solve.specs.Firsts.{IsPlanOfCount, IsSearchedFirst, IsFoundFirst}
use Rattle.crp_solve.specs.Rests.{IsAllDone}
use Rattle.crp_solve.proofs.One.{root_about, one_certificate}
use Rattle.crp_solve.proofs.TrueAnswers.{accepted, lower_over}
use Rattle.crp_solve.proofs.Wholes.{parts_whole}

-- a plan was met: else each cut would be above the fewest relocations, and so would each plan
pub some_plan : (p : Problem) (k : ℕ) (cert : Certificate) (plan : Option ProblemPath) → IsBest p k → IsAbout p cert → All (IsSearchedFirst p k plan) cert.parts → plan ≡ None → ⊥
some_plan p k cert plan best about all none =
    let reached = best.reached in
    let acc : IsAccepted (claimed p cert None) = accepted p cert None about tt in
    let high : k + 1 ≤ cert.lower = lower_over p cert (k + 1) about (omega (arith, below_cap p reached.0 about.is_problem reached.1, reached.2))
    (All-weaker (IsSearchedFirst p k plan) (λ x. All (λ cut. k + 1 ≤ value cut) (cuts_in x)) (λ x s. subst (λ o. All (MeetsOwn k o) (cuts_in x)) none s.needs) cert.parts all) in
    omega (arith, high, bounded (claimed p cert None) reached.0 acc reached.1, reached.2)

-- the parts meet their needs by the plan
met_needs : (p : Problem) (k : ℕ) (cert : Certificate) (plan : ProblemPath) → length plan.path ≡ k → All (IsSearchedFirst p k (Some plan)) cert.parts → MeetNeeds (length plan.path) plan.path cert.parts
met_needs p k cert plan count all =
    subst (λ n. MeetNeeds n plan.path cert.parts) (sym count) (All-weaker (IsSearchedFirst p k (Some plan)) (λ x. All (MeetsNeed k plan.path) (cuts_in x)) (λ x s. s.needs) cert.parts all)

-- so the first best plan is found, with the certificate settled on it
pub found_first : (p : Problem) (budget k : ℕ) (plan : ProblemPath) (cert settled : Certificate) (expanded : ℕ) → IsPlanOfCount p k plan → All (IsSearchedFirst p k (Some plan)) cert.parts → IsAbout plan.problem settled →
    IsSettled plan.path cert settled → (MeetNeeds (length plan.path) plan.path cert.parts → MeetNeeds (length plan.path) plan.path settled.parts) →
    branches_of cert ≤ expanded → expanded ≤ budget → IsFoundFirst p budget k plan settled expanded
found_first p budget k plan cert settled expanded is all about s needs enough within =
    let of = is.plan_is in
    record {
      plan_is = is;
      about = subst (λ (q : Problem). IsAbout q settled) of.of_problem about;
      needs = needs (met_needs p k cert plan is.count all);
      enough = omega (arith, s.fewer, enough);
      within = within;
    }

-- parts that were searched are about the problem under its other name
pub first_of_problem : (p q : Problem) (k : ℕ) (plan : Option ProblemPath) (xs : List ProblemPart) → p ≡ q → All (IsSearchedFirst p k plan) xs → All (IsSearchedFirst q k plan) xs
first_of_problem p q k plan xs e all = subst (λ r. All (IsSearchedFirst r k plan) xs) e all

-- and where nothing is left, they are a whole
pub first_whole : {thin : ℕ} (p : Problem) (k : ℕ) (plan : Option ProblemPath) (view : View) (xs : List ProblemPart) → IsProblem p → All (IsSearchedFirst p k plan) xs → IsAllDone thin view xs → AreWhole p xs
first_whole p k plan view xs is all d = parts_whole p view xs is (All-weaker (IsSearchedFirst p k plan) (λ x. x.problem ≡ p) (λ x s. s.of_problem) xs all)
    (All-weaker (IsSearchedFirst p k plan) IsKeptPart (λ x s. s.kept) xs all) d

-- a part at the root that gives nothing away was searched: its certificate
pub record IsAloneFirst (p : Problem) (k : ℕ) (plan : Option ProblemPath) (x : ProblemPart) (cert : Certificate) : Type 0 where
  pub about : IsAbout p cert
  pub searched : All (IsSearchedFirst p k plan) cert.parts
  pub branches : branches_of cert ≡ length (branches_in x)

pub alone_first : (p : Problem) (k : ℕ) (plan : Option ProblemPath) (x : ProblemPart) (cert : Certificate) → IsProblem p → cert ≡ record { parts = x ∷ []; lower = x.floor } → x.problem ≡ p → IsKeptPart x → x.name ≡ [] → given_of x ≡ [] →
    All (MeetsOwn k plan) (cuts_in x) → IsAloneFirst p k plan x cert
alone_first p k plan x cert is e same kept root none needs =
    let parts : x ∷ [] ≡ cert.parts = sym (ap (λ (c : Certificate). c.parts) e) in
    record {
      about = root_about p x cert is e (one_certificate x cert e) same kept root none;
      searched = subst (All (IsSearchedFirst p k plan)) parts (All-cons (IsSearchedFirst p k plan) x [] (record { of_problem = same; kept = kept; needs = needs }) (All-nil (IsSearchedFirst p k plan)));
      branches = subst (λ (l : List ProblemPart). sum_by (λ (y : ProblemPart). length (branches_in y)) l ≡ length (branches_in x)) parts (omega (arith, sum_by-cons (λ (y : ProblemPart). length (branches_in y)) x []));
    }

-- the plan that it met has k relocations
pub first_is_plan : (p : Problem) (k : ℕ) (name : List ℕ) (given : List (List ℕ)) (plan : ProblemPath) → plan.problem ≡ p → IsFirstHere p k name given plan.path → IsPlanOfCount p k plan
first_is_plan p k name given plan of f = let here = f.here in record { plan_is = record { of_problem = of; complete = here.plan }; count = here.count }

-- names that are all the root's, and rise, are one at most
one_root_name : (xs : List (List ℕ)) → All (λ name. name ≡ []) xs → AllPairs Precedes xs → length xs ≤ 1
one_root_name [] all rise = omega arith
one_root_name (x ∷ []) all rise = omega arith
one_root_name (x ∷ y ∷ xs) all rise =
    let a : x ≡ [] = all 0 [] (omega arith) in let b : y ≡ [] = all 1 [] (omega arith) in
    absurd (not_itself [] (subst (λ n. Precedes n []) a (subst (λ n. Precedes x n) b (rise 0 1 [] (omega arith) (omega arith)))))

-- a certificate of one part at the root has one part when it is settled
pub one_settled : (x : ProblemPart) (plan : List ℕ) (cert settled : Certificate) → cert ≡ record { parts = x ∷ []; lower = x.floor } → x.name ≡ [] → IsSettled plan cert settled → IsCertificate settled → length settled.parts ≡ 1
one_settled x plan cert settled e root s is =
    let parts : cert.parts ≡ x ∷ [] = ap (λ (c : Certificate). c.parts) e in
    let named : All (λ name. name ≡ []) (names_of settled.parts) = names_all settled.parts (λ part stands.
    let old = s.each part stands in let how = old.2 in
    how.name_is ∙ only x old.0 root (subst (λ l. Contains l old.0) parts old.1)) in
    let lower = is.lower_is in
    omega (arith, one_root_name (names_of settled.parts) named is.rising, length-map settled.parts (λ (y : ProblemPart). y.name), some_part settled.parts settled.lower lower.stands)
  where
    only : (x y : ProblemPart) → x.name ≡ [] → Contains (x ∷ []) y → y.name ≡ []
    only x y root stands = ⊎_elim (λ (e : x ≡ y). ap (λ (z : ProblemPart). z.name) (sym e) ∙ root) (λ rest. absurd (not_in_nil y rest)) (in_cons_cases x [] y stands)

    names_all : (ys : List ProblemPart) → ((part : ProblemPart) → Contains ys part → part.name ≡ []) → All (λ name. name ≡ []) (names_of ys)
    names_all [] each = All-nil (λ (name : List ℕ). name ≡ [])
    names_all (y ∷ ys) each = All-cons (λ (name : List ℕ). name ≡ []) y.name (names_of ys) (each y (in_head y ys)) (names_all ys (λ part stands. each part (in_tail y ys part stands)))

    some_part : (ys : List ProblemPart) (n : ℕ) → Contains (floors_of ys) n → 1 ≤ length ys
    some_part [] n stands = absurd (not_in_nil n stands)
    some_part (y ∷ ys) n stands = omega arith
