-- What the parts of a certificate show together, where they are of one problem and are the needed ones.
use Rattle.std.proofs.Common.{◌≡◌, ◌≢◌, ℕ, get_or, ◌<◌, ◌≤◌, ◌↔◌, List, [], ◌∷◌, length, map, Contains, All, AllPairs, Option, IfSome, sym, ap, subst, refl, arith}
use Rattle.std.proofs.lemmas.List.{get_or-map, length-map}
use Rattle.std.proofs.lemmas.List.Elements.{All-contains, All-map}
use Rattle.crp_plan.specs.Bay.{Problem, cap}
use Rattle.crp_plan.specs.Faults.{IsPlanPath}
use Rattle.crp_tree.specs.Trees.{value, HasAtLeast}
use Rattle.crp_tree.specs.Names.{Precedes}
use Rattle.crp_tree.specs.Claims.{IsPart, IsAccepted, IsNeeded, names, nodes_in}
use Rattle.crp_tree.specs.Parts.{ProblemPart, part_of, cuts_in, names_of, floors_of, IsKeptPart, Certificate, IsCertificate, IsAbout, claimed}
use Rattle.crp_tree.proofs.Lists.{from_map}
use Rattle.crp_tree.proofs.Ordered.{not_itself}
use Rattle.crp_tree.proofs.Shown.{least_most, from_least}

-- the floor of a part is at most the cap
pub floor_low : (p : Problem) (x : ProblemPart) → x.problem ≡ p → IsKeptPart x → x.floor ≤ cap p
floor_low p x same k = let e = k.floor_is in omega (arith, least_most (cap x.problem) (map value (cuts_in x)), ap cap same)

-- some part has the bound for its floor
pub lowest_part : (cert : Certificate) → IsCertificate cert → (x : ProblemPart) × Contains cert.parts x × (x.floor ≡ cert.lower)
lowest_part cert c = let is = c.lower_is in from_map (λ (x : ProblemPart). x.floor) cert.parts cert.lower is.stands

-- the bound is at most each floor
pub lower_under : (cert : Certificate) → IsCertificate cert → All (λ (x : ProblemPart). cert.lower ≤ x.floor) cert.parts
lower_under cert c k d lt =
    let is = c.lower_is in
    let there : k < length (floors_of cert.parts) = omega (arith, length-map cert.parts (λ (x : ProblemPart). x.floor)) in
    subst (λ f. cert.lower ≤ f) (get_or-map (λ (x : ProblemPart). x.floor) cert.parts k d 0 lt) (is.lowest k 0 there)

-- no cut of a part is below its floor
cuts_over : (p : Problem) (x : ProblemPart) (f : ℕ) → x.problem ≡ p → IsKeptPart x → f ≤ x.floor → HasAtLeast f (nodes_in p (part_of x))
cuts_over p x f same k le =
    let e = k.floor_is in
    subst (λ q. HasAtLeast f (nodes_in q (part_of x))) same (from_least f (cap x.problem) value (cuts_in x) (omega arith))

-- the names of the parts
pub same_names : (parts : List ProblemPart) → names_of parts ≡ names (map part_of parts)
same_names [] = refl
same_names (x ∷ parts) = ap (λ l. x.name ∷ l) (same_names parts)

-- names that rise are distinct
pub distinct : (list : List (List ℕ)) → AllPairs Precedes list → AllPairs ◌≢◌ list
distinct list rising i j d ij lt same = not_itself _ (subst (λ other. Precedes (get_or list i d) other) (sym same) (rising i j d ij lt))

-- the bound of a certificate about a problem is at most the cap
pub lower_low : (p : Problem) (cert : Certificate) → IsAbout p cert → cert.lower ≤ cap p
lower_low p cert a =
    let x = lowest_part cert a.certificate in
    omega (arith, x.2, floor_low p x.0 (All-contains (λ (y : ProblemPart). y.problem ≡ p) cert.parts x.0 a.of_problem x.1) (All-contains IsKeptPart cert.parts x.0 a.kept x.1))

-- and it is accepted, with a plan of the problem or none
pub certified : (p : Problem) (cert : Certificate) (plan : Option (List ℕ)) → IsAbout p cert → IfSome plan (IsPlanPath p) → IsAccepted (claimed p cert plan)
certified p cert plan a is = record {
  is_problem = a.is_problem;
  within_cap = lower_low p cert a;
  plan_is = is;
  each_part = All-map (IsPart p) part_of cert.parts (λ k d lt. let kept = a.kept k d lt in subst (λ q. IsPart q (part_of (get_or cert.parts k d))) (a.of_problem k d lt) kept.is_part);
  each_cut = All-map (λ part. HasAtLeast cert.lower (nodes_in p part)) part_of cert.parts (λ k d lt. cuts_over p (get_or cert.parts k d) cert.lower (a.of_problem k d lt) (a.kept k d lt) (lower_under cert a.certificate k d lt));
  each_once = let c = a.certificate in subst (AllPairs ◌≢◌) (same_names cert.parts) (distinct (names_of cert.parts) c.rising);
  as_needed = λ name. subst (λ l. Contains l name ↔ IsNeeded p (map part_of cert.parts) name) (same_names cert.parts) (a.as_needed name);
}
