-- What the definitions of the first best plan mean.
use Rattle.std.proofs.Common.{◌≡◌, ℕ, ◌+◌, ◌<◌, ◌≤◌, ⊎_elim, ◌↔◌, true, false, List, [], ◌∷◌, ◌++◌, length, get_or, Contains, All, Some, refl, sym, ap, ◌∙◌, subst, arith, inl, append-nil}
use Rattle.std.specs.declared.cmp.Ordering.{Ordering}
use Rattle.std.specs.declared.cmp.Ordering.TheVariants.{Less, Equal, Greater}
use Rattle.std.specs.Ordering.{nat_cmp, MatchOrdering, is_lt}
use Rattle.std.specs.Cmp.Lexicographic.{slice_cmp}
use Rattle.std.proofs.lemmas.Bool.{cases_Bool}
use Rattle.std.proofs.lemmas.List.Elements.{All-contains, All-map, All-weaker}
use Rattle.crp_plan.specs.declared.moves.Move.{Move}
use Rattle.crp_plan.specs.Bay.{Problem, IsProblem, IsPlan, IsBest, relocations, path_of, cap}
use Rattle.crp_plan.specs.Faults.{IsPlanPath}
use Rattle.crp_plan.proofs.Covered.{relocations-path}
use Rattle.crp_plan.proofs.Buried.{below_cap}
use Rattle.crp_bay.proofs.Members.{not_in_nil}
use Rattle.crp_tree.specs.Names.{Precedes}
use Rattle.crp_tree.specs.Trees.{Node, cuts, value, Begins}
use Rattle.crp_tree.specs.Claims.{Part, IsPart, nodes_in, given_by, Claimed, IsAccepted}
use Rattle.crp_tree.specs.Parts.{ProblemPart, IsKeptPart, part_of, given_of, cuts_in, Certificate, IsAbout, claimed}
use Rattle.crp_tree.specs.First.{IsFirstBest, MeetsNeed, need_at, IsFirstAccepted, MeetNeeds}
use Rattle.crp_tree.proofs.Ordered.{compared, goes_further, before_test}
use Rattle.crp_tree.proofs.Shown.{PassesCut, Leaves, leaves, least_over}
use Rattle.crp_tree.proofs.Accepted.{nodes_are, covered, bounded, best}
use Rattle.crp_tree.proofs.Certified.{certified, lowest_part}

-- a front of a path that comes before another comes before that too
pub front_before : (front path other : List ℕ) → Begins path front → Precedes path other → Precedes front other
front_before front path other b before = decide front path other b.0 b.1 before
  where
    decide : (front path other more : List ℕ) → path ≡ front ++ more → Precedes path other → Precedes front other
    decide front path other [] e before = subst (λ l. Precedes l other) (e ∙ append-nil front) before
    decide front path other (row ∷ more) e before = goes_further front path other (inl (record { row = row; rest = more; is = e })) before

-- a plan with a path before the claimed one passes only cuts of a value above k, so it has more than k relocations, or goes through a given name
part_shows : (p : Problem) (part : Part) (k : ℕ) (plan : List ℕ) (moves : List Move) → IsProblem p → IsPart p part → All (MeetsNeed k plan) (cuts (nodes_in p part)) → IsPlan p moves →
    Precedes (path_of moves) plan → Begins (path_of moves) part.name → ((g : List ℕ) → Contains (given_by p part) g → Begins (path_of moves) g → ⊥) → k + 1 ≤ relocations moves
part_shows p part k plan moves ok is needs whole before b none =
    let shape = is.shape in
    let same = nodes_are p part is.place ok is.is_at in
    let out : Leaves moves (nodes_in p part) = subst (Leaves moves) (sym same) (leaves p part.name is.place part.tree moves ok is.is_at shape.fits shape.in_place whole b) in
    ⊎_elim
    (λ c.
    let cut : Node = c.0 in
    let pass : PassesCut moves cut = c.2 in
    let need : MeetsNeed k plan cut = All-contains (MeetsNeed k plan) (cuts (nodes_in p part)) cut needs c.1 in
    omega (arith, need.more_before (front_before cut.path (path_of moves) plan pass.begins before), pass.enough))
    (λ g. absurd (none g.0 g.1 g.2))
    out

-- so has a plan whose path comes before that of the claimed one
more_before : (claim : Claimed) (path : List ℕ) (moves : List Move) → IsFirstAccepted claim path → IsPlan claim.problem moves → Precedes (path_of moves) path → claim.lower + 1 ≤ relocations moves
more_before claim path moves first plan before =
    let p : Problem = claim.problem in
    let ok : IsAccepted claim = first.accepted in
    covered p claim.parts (claim.lower + 1) moves (record {
      is_problem = ok.is_problem;
      each = ok.each_part;
      shown = λ x c b none. part_shows p x claim.lower path moves ok.is_problem (All-contains (IsPart p) claim.parts x ok.each_part c)
          (All-contains (λ (part : Part). All (MeetsNeed claim.lower path) (cuts (nodes_in p part))) claim.parts x first.each_need c) plan before b none;
      needed = λ name. (ok.as_needed name).1;
    })

-- so the claimed plan is the first best
pub first_is : (claim : Claimed) (path : List ℕ) → IsFirstAccepted claim path → IsFirstBest claim.problem path
first_is claim path first =
    let ok : IsAccepted claim = first.accepted in
    record {
      plan = rw (first.plan_is) at ok.plan_is;
      best = subst (IsBest claim.problem) (sym first.count) (best claim path ok first.plan_is first.count);
      none_before = λ other plan same before.
          let more = more_before claim path plan.0 first plan.1 (subst (λ l. Precedes l path) (sym plan.2) before) in
          omega (arith, more, relocations-path plan.0, ap length plan.2, same, first.count);
    }

-- of two first best plans neither comes before the other, so they are one
pub one_is : (p : Problem) (path other : List ℕ) → IsFirstBest p path → IsFirstBest p other → path ≡ other
one_is p path other a b =
    let few : length path ≤ length other = at_most path other a.best b.plan in
    let few' : length other ≤ length path = at_most other path b.best a.plan in
    decide (slice_cmp nat_cmp path other) (compared path other (slice_cmp nat_cmp path other) refl)
    (λ before. b.none_before path a.plan (omega arith) before) (λ before. a.none_before other b.plan (omega arith) before)
  where
    at_most : (path other : List ℕ) → IsBest p (length path) → IsPlanPath p other → length path ≤ length other
    at_most path other least plan = omega (arith, least.least plan.0 plan.1, relocations-path plan.0, ap length plan.2)

    decide : (v : Ordering) → MatchOrdering v (Precedes path other) (path ≡ other) (Precedes other path) → (Precedes path other → ⊥) → (Precedes other path → ⊥) → path ≡ other
    decide Less h not_a not_b = absurd (not_a h)
    decide Equal h not_a not_b = h
    decide Greater h not_a not_b = absurd (not_b h)

-- the need and its number
pub as_number : (k : ℕ) (plan : List ℕ) (cut : Node) → MeetsNeed k plan cut ↔ (need_at k plan cut.path ≤ value cut)
as_number k plan cut =
    let test = before_test cut.path plan (slice_cmp nat_cmp cut.path plan) refl in
    ⊎_elim
    (λ (yes : is_lt (slice_cmp nat_cmp cut.path plan) ≡ true). rw yes (λ m. m.more_before (test.0 yes), λ le. record { enough = omega (arith, le); more_before = λ b. le }))
    (λ (no : is_lt (slice_cmp nat_cmp cut.path plan) ≡ false). rw no (λ m. m.enough, λ le. record { enough = le; more_before = λ b. let yes = test.1 b in cc }))
    (cases_Bool (is_lt (slice_cmp nat_cmp cut.path plan)))

-- a cut that is above k meets its need by any plan, and one that meets it by a plan does so by an earlier one
pub above_all : (k : ℕ) (plan : List ℕ) (cut : Node) → k + 1 ≤ value cut → MeetsNeed k plan cut
above_all k plan cut le = record { enough = omega arith; more_before = λ before. le }

pub by_earlier : (k : ℕ) (plan earlier : List ℕ) (cut : Node) → Precedes earlier plan → MeetsNeed k plan cut → MeetsNeed k earlier cut
by_earlier k plan earlier cut first need = record { enough = need.enough; more_before = λ before. need.more_before (goes_further cut.path earlier plan before first) }

-- no plan has fewer relocations than a part at the root that gives nothing away shows
pub whole_bounds : (x : ProblemPart) (moves : List Move) → IsKeptPart x → x.name ≡ [] → given_of x ≡ [] → IsPlan x.problem moves → x.floor ≤ relocations moves
whole_bounds x moves k root none plan =
    k.shows moves plan (path_of moves, ap (λ l. l ++ path_of moves) (sym root)) (λ g c b. not_in_nil g (subst (λ l. Contains l g) none c))

-- where each cut of a part meets its need, no floor is below the plan's relocations
high_floor : (p : Problem) (k : ℕ) (path : List ℕ) (x : ProblemPart) → x.problem ≡ p → IsKeptPart x → k ≤ cap p → All (MeetsNeed k path) (cuts_in x) → k ≤ x.floor
high_floor p k path x same kept within needs =
    let over : All (λ cut. k ≤ value cut) (cuts_in x) = All-weaker (MeetsNeed k path) (λ cut. k ≤ value cut) (λ cut need. need.enough) (cuts_in x) needs in
    let floor = kept.floor_is in
    omega (arith, least_over k (cap x.problem) value (cuts_in x) (omega (arith, ap cap same)) over)

-- so what a certificate claims with the plan is accepted as a claim of the first best plan
pub first_certified : (p : Problem) (cert : Certificate) (path : List ℕ) → IsAbout p cert → IsPlanPath p path → MeetNeeds (length path) path cert.parts → IsFirstAccepted (claimed p cert (Some path)) path
first_certified p cert path about plan needs =
    let ok : IsAccepted (claimed p cert (Some path)) = certified p cert (Some path) about plan in
    let few : length path < cap p = omega (arith, below_cap p plan.0 about.is_problem plan.1, relocations-path plan.0, ap length plan.2) in
    let low = lowest_part cert about.certificate in
    let x : ProblemPart = low.0 in
    let high : length path ≤ x.floor = high_floor p (length path) path x (All-contains (λ (y : ProblemPart). y.problem ≡ p) cert.parts x about.of_problem low.1) (All-contains IsKeptPart cert.parts x about.kept low.1) (omega arith)
    (All-contains (λ (y : ProblemPart). All (MeetsNeed (length path) path) (cuts_in y)) cert.parts x needs low.1) in
    let same : length path ≡ cert.lower = omega (arith, low.2, bounded (claimed p cert (Some path)) plan.0 ok plan.1, relocations-path plan.0, ap length plan.2) in
    record {
      accepted = ok;
      plan_is = refl;
      count = same;
      each_need = All-map (λ part. All (MeetsNeed cert.lower path) (cuts (nodes_in p part))) part_of cert.parts (λ k d lt.
          let y : ProblemPart = get_or cert.parts k d in
          subst (λ n. All (MeetsNeed n path) (cuts (nodes_in p (part_of y)))) same (subst (λ q. All (MeetsNeed (length path) path) (cuts (nodes_in q (part_of y)))) (about.of_problem k d lt) (needs k d lt)));
    }
