-- The answer that searches show is true.
use Rattle.std.proofs.Common.{◌≡◌, ℕ, ◌<◌, ◌≤◌, min, ⊎_elim, Bool, false, List, [], ◌∷◌, length, get_or, Contains, All, Option, None, Some, IfSome, sum_by, sym, ap, ◌∙◌, subst, refl, arith, ◌+◌, ◌++◌, append_assoc, append-nil, length-append}
use Rattle.std.proofs.lemmas.List.Elements.{All-contains, All-weaker, All-cons, All-nil, All-same, All-filter}
use Rattle.std.proofs.lemmas.List.Sums.{sum_by-cons}
use Rattle.std.proofs.lemmas.Bool.{cases_lt}
use Rattle.crp_plan.specs.Bay.{Problem, IsProblem, cap, Position, IsAt, IsBest}
use Rattle.crp_plan.specs.Plans.{ProblemPath}
use Rattle.crp_plan.specs.Faults.{IsPlanPath}
use Rattle.crp_plan.specs.declared.running.View.{View}
use Rattle.crp_plan.proofs.Covered.{relocations-path}
use Rattle.crp_plan.proofs.Paths.{same_at}
use Rattle.crp_bay.proofs.Walked.{leads_before}
use Rattle.crp_bounds.specs.Bounds.{look_ahead}
use Rattle.crp_bounds.proofs.Bounding.{ahead_path}
use Rattle.crp_bounds.proofs.Floors.{cut_floor}
use Rattle.crp_tree.specs.Tree.{Tree, CutB, CutL, CutR, Branch, Given}
use Rattle.crp_tree.specs.Trees.{Node, nodes, is_cut, branches, value, least_through}
use Rattle.crp_tree.specs.Claims.{IsAccepted}
use Rattle.crp_tree.specs.Parts.{ProblemPart, nodes_of, cuts_in, branches_in, IsKeptPart, Certificate, claimed}
use Rattle.crp_tree.proofs.Accepted.{bounded, no_plan_at_cap, best}
use Rattle.crp_tree.proofs.Shown.{least_over}
use Rattle.crp_tree.proofs.Certified.{certified, lowest_part, lower_low}
use Rattle.crp_tree.proofs.Kept.{part_nodes, nodes_at_name}
use Rattle.crp_search.specs.Searched.{IsClosed}
use Rattle.crp_solve.specs.declared.answer.Answer.{Answer}
use Rattle.crp_solve.specs.declared.answer.Answer.TheVariants.{Optimal, NoPlan, Between}
use Rattle.crp_solve.specs.declared.answer.Cause.TheVariants.{Budget, Memory, Time}
use Rattle.crp_solve.specs.Answers.{path_in, branches_of, count_of, IsPlanOf, IsCut, IsOneCut, IsBetween, HasNeededBranches, SaysTrue, Ended, BranchesAreNeeded, IsTrueAnswer, cert_of, plan_of}
use Rattle.crp_solve.specs.Searches.{BeginsWithin, IsSearched, IsAbout, IsBestMet, IsEndedSearch, IsShown}
use Rattle.crp_solve.proofs.Limits.{greedy_met}

-- a certificate about the problem is accepted, with a plan of the problem or none
pub accepted : (p : Problem) (cert : Certificate) (plan : Option ProblemPath) → IsAbout p cert → IfSome plan (IsPlanOf p) → IsAccepted (claimed p cert (path_in plan))
accepted p cert plan a is = certified p cert (path_in plan) a (complete plan is)
  where
    complete : (plan : Option ProblemPath) → IfSome plan (IsPlanOf p) → IfSome (path_in plan) (IsPlanPath p)
    complete None is = tt
    complete (Some route) is = is.complete

-- where no cut is below a number, neither is the floor
floor_over : (x : ProblemPart) (f : ℕ) → IsKeptPart x → f ≤ cap x.problem → All (λ cut. f ≤ value cut) (cuts_in x) → f ≤ x.floor
floor_over x f k le all = let e = k.floor_is in omega (arith, e, least_over f (cap x.problem) value (cuts_in x) le all)

-- and where that is so in each part, neither is the bound
pub lower_over : (p : Problem) (cert : Certificate) (f : ℕ) → IsAbout p cert → f ≤ cap p → All (λ x. All (λ cut. f ≤ value cut) (cuts_in x)) cert.parts → f ≤ cert.lower
lower_over p cert f a le all =
    let x = lowest_part cert a.certificate in
    let same : (x.0).problem ≡ p = All-contains (λ (y : ProblemPart). y.problem ≡ p) cert.parts x.0 a.of_problem x.1 in
    let kept : IsKeptPart x.0 = All-contains IsKeptPart cert.parts x.0 a.kept x.1 in
    let cuts : All (λ cut. f ≤ value cut) (cuts_in x.0) = All-contains (λ (y : ProblemPart). All (λ cut. f ≤ value cut) (cuts_in y)) cert.parts x.0 all x.1 in
    omega (arith, x.2, floor_over x.0 f kept (subst (λ q. f ≤ cap q) (sym same) le) cuts)

-- where no claim was refused, the bound reaches the limit in the end
pub reaches : {thin : ℕ} {stopped : Bool} (p : Problem) (budget first limit : ℕ) (view : View) (cert : Certificate) → IsEndedSearch thin p budget first limit view cert stopped → limit ≤ cap p → view.refused ≡ 0 → limit ≤ cert.lower
reaches p budget first limit view cert w low none =
    lower_over p cert limit w.about low
    (λ k d lt. let s = w.searched k d lt in
    All-weaker (IsClosed view) (λ cut. limit ≤ value cut)
    (λ cut worth. ⊎_elim (λ (seen : view.seen ≤ value cut). omega (arith, w.met, seen)) (λ in_vain. absurd (omega (arith, in_vain.0, none))) worth)
    (cuts_in (get_or cert.parts k d)) s.closed)

-- so where it does not, and no claim was stopped, the budget is spent
pub spent_below : {thin : ℕ} {stopped : Bool} (p : Problem) (budget first limit : ℕ) (view : View) (cert : Certificate) → IsEndedSearch thin p budget first limit view cert stopped → stopped ≡ false → limit ≤ cap p → cert.lower < limit → view.granted ≡ budget
spent_below p budget first limit view cert w goes_on low below =
    ⊎_elim (λ (l : 0 < view.refused). w.refused_last goes_on l) (λ (le : view.refused ≤ 0). absurd (omega (arith, below, reaches p budget first limit view cert w low (omega arith)))) (cases_lt 0 view.refused)

-- the look-ahead bound of the first position is at most a plan's relocations
pub count_over : (p : Problem) (plan : Option ProblemPath) (s : Position) → IsProblem p → IfSome plan (IsPlanOf p) → IsAt p [] s → min (cap p) (look_ahead s) ≤ count_of p (path_in plan)
count_over p None s is met a = omega arith
count_over p (Some route) s is met a =
    let plan = met.complete in
    omega (arith, (cut_floor p [] route.path s plan.0 is a plan.1 plan.2).0, relocations-path plan.0, ap length plan.2)

-- length plus look-ahead never falls as a path goes on
ahead_grows : (p : Problem) (path more : List ℕ) (s t : Position) → IsProblem p → IsAt p path s → IsAt p (path ++ more) t → length path + look_ahead s ≤ length (path ++ more) + look_ahead t
ahead_grows p path [] s t is a b =
    let same : t ≡ s = same_at p path t s is (subst (λ l. IsAt p l t) (append-nil path) b) a in
    omega (arith, ap look_ahead same, length-append path [])
ahead_grows p path (row ∷ more) s t is a b =
    let b' : IsAt p ((path ++ row ∷ []) ++ more) t = subst (λ l. IsAt p l t) (sym (append_assoc path (row ∷ []) more)) b in
    let next = leads_before p (path ++ row ∷ []) more t is b' in
    omega (
      arith,
      ahead_path p path row s next.0 is a next.1,
      ahead_grows p (path ++ row ∷ []) more next.0 t is next.1 b',
      length-append path (row ∷ more),
      length-append (path ++ row ∷ []) more,
      length-append path (row ∷ []),
    )

-- so at each path it is at least the look-ahead bound of the first position
ahead_of_root : (p : Problem) (path : List ℕ) (first s : Position) → IsProblem p → IsAt p [] first → IsAt p path s → look_ahead first ≤ length path + look_ahead s
ahead_of_root p path first s is a b = omega (arith, ahead_grows p [] path first s is a b)

-- the bound is never below the look-ahead bound of the first position, where the limit is not
pub looks_ahead : {thin : ℕ} {stopped : Bool} (p : Problem) (budget first limit : ℕ) (view : View) (cert : Certificate) (s : Position) → IsEndedSearch thin p budget first limit view cert stopped → min (cap p) (look_ahead s) ≤ limit → IsAt p [] s → min (cap p) (look_ahead s) ≤ cert.lower
looks_ahead p budget first limit view cert s w over at =
    let a = w.about in
    let f : ℕ = min (cap p) (look_ahead s) in
    lower_over p cert f a (omega arith)
    (λ k d lt. let sr = w.searched k d lt in
    let x : ProblemPart = get_or cert.parts k d in
    λ i e lti.
    let cut : Node = get_or (cuts_in x) i e in
    let here : IsAt p cut.path cut.place = subst (λ q. IsAt q cut.path cut.place) sr.of_problem (All-filter (λ (n : Node). is_cut n.mark) (λ (n : Node). IsAt x.problem n.path n.place) (nodes_of x) (part_nodes x sr.kept) i e lti) in
    ⊎_elim (λ (seen : view.seen ≤ value cut). omega (arith, w.met, seen, over))
    (λ in_vain. omega (arith, in_vain.1, ahead_of_root p cut.path s cut.place a.is_problem at here))
    (sr.closed i e lti))

-- each branch stands below the first limit, since the search began with no more
pub needed_branches : (p : Problem) (first : ℕ) (view : View) (cert : Certificate) → BeginsWithin p first → All (IsSearched p first view) cert.parts → HasNeededBranches p cert
needed_branches p first view cert begun all = record {
  first = begun.limit;
  is_first = begun.is_limit;
  below = All-weaker (IsSearched p first view) (λ part. All (λ node. least_through node < begun.limit) (branches_in part))
      (λ part s. All-weaker (λ node. least_through node < first) (λ node. least_through node < begun.limit) (λ node lt. omega (arith, lt, begun.within)) (branches_in part) s.below) cert.parts all;
}

-- what a search shows with a plan
pub search_shows : {thin : ℕ} {stopped : Bool} (p : Problem) (budget first limit total expanded : ℕ) (view : View) (cert : Certificate) (plan : Option ProblemPath) → IsEndedSearch thin p budget first limit view cert stopped → IsBestMet p plan →
    ((s : Position) → IsAt p [] s → min (cap p) (look_ahead s) ≤ limit) → view.granted ≤ expanded → expanded ≤ total → IsShown p total cert plan expanded
search_shows p budget first limit total expanded view cert plan w met over enough within = record {
  about = w.about;
  ahead = λ s at. looks_ahead p budget first limit view cert s w (over s at) at;
  needed = needed_branches p first view cert w.first_is w.searched;
  best_met = met;
  granted = let g = w.granted in let some = g.enough in omega (arith, some, enough);
  within = within;
}

-- what is shown makes an answer true that gives this certificate and this plan, where what it says is so
shown_is_true : (p : Problem) (budget : ℕ) (answer : Answer) (plan : Option ProblemPath) (expanded : ℕ) → IsShown p budget (cert_of answer) plan expanded → path_in plan ≡ plan_of answer →
    SaysTrue p answer → Ended p budget answer expanded → BranchesAreNeeded p answer → IsTrueAnswer p budget answer expanded
shown_is_true p budget answer plan expanded w same says ended needed =
    let a = w.about in let t = w.best_met in
    record {
      says = says;
      ended = ended;
      within = w.within;
      of_problem = a.of_problem;
      certificate = a.certificate;
      accepted = subst (λ o. IsAccepted (claimed p (cert_of answer) o)) same (accepted p (cert_of answer) plan a t.plan_is);
      needed = needed;
    }

-- the plan has no more relocations than the bound: it is a best one
pub optimal_is_true : (p : Problem) (budget : ℕ) (cert : Certificate) (plan : ProblemPath) (expanded : ℕ) → IsShown p budget cert (Some plan) expanded → length plan.path ≤ cert.lower → IsTrueAnswer p budget (Optimal plan cert) expanded
optimal_is_true p budget cert plan expanded w le =
    let t = w.best_met in
    let is : IsPlanOf p plan = t.plan_is in let of = is.complete in
    let acc : IsAccepted (claimed p cert (Some plan.path)) = accepted p cert (Some plan) w.about is in
    let same : length plan.path ≡ cert.lower = omega (arith, bounded (claimed p cert (Some plan.path)) of.0 acc of.1, relocations-path of.0, ap length of.2, le) in
    let says : SaysTrue p (Optimal plan cert) = record { plan_is = is; best = subst (IsBest p) (sym same) (best (claimed p cert (Some plan.path)) plan.path acc refl same); shown = sym same } in
    shown_is_true p budget (Optimal plan cert) (Some plan) expanded w refl says w.granted w.needed

-- the bound reaches the cap: there is no plan
pub no_plan_is_true : (p : Problem) (budget : ℕ) (cert : Certificate) (expanded : ℕ) → IsShown p budget cert None expanded → cap p ≤ cert.lower → IsTrueAnswer p budget (NoPlan cert) expanded
no_plan_is_true p budget cert expanded w le =
    let acc : IsAccepted (claimed p cert None) = accepted p cert None w.about tt in
    let same : cert.lower ≡ cap p = omega (arith, lower_low p cert w.about, le) in
    shown_is_true p budget (NoPlan cert) None expanded w refl (record { none = λ moves plan. no_plan_at_cap (claimed p cert None) moves acc same plan; shown = same }) w.granted w.needed

-- what is said of the bounds
bounds_true : (p : Problem) (budget : ℕ) (cert : Certificate) (plan : Option ProblemPath) (expanded : ℕ) → IsShown p budget cert plan expanded → IsBetween p cert.lower cert plan
bounds_true p budget cert plan expanded w =
    let t = w.best_met in
    record {
      bounds = λ moves is. bounded (claimed p cert (path_in plan)) moves (accepted p cert plan w.about t.plan_is) is;
      shown = refl;
      ahead = w.ahead;
      plan_is = t.plan_is;
      greedy = λ path g. greedy_met p plan path t g;
    }

-- the bound is below the best plan, and the budget is spent
pub between_is_true : (p : Problem) (budget : ℕ) (cert : Certificate) (plan : Option ProblemPath) (expanded : ℕ) → IsShown p budget cert plan expanded → cert.lower < count_of p (path_in plan) → expanded ≡ budget → IsTrueAnswer p budget (Between cert.lower cert plan Budget) expanded
between_is_true p budget cert plan expanded w lt spent =
    shown_is_true p budget (Between cert.lower cert plan Budget) plan expanded w refl (bounds_true p budget cert plan expanded w) (w.granted, record { all = spent; below = lt }) w.needed

-- the bound is below the best plan, and claims were stopped while some of the budget was left
pub stopped_is_true : (p : Problem) (budget : ℕ) (cert : Certificate) (plan : Option ProblemPath) (expanded : ℕ) → IsShown p budget cert plan expanded → cert.lower < count_of p (path_in plan) → expanded < budget → IsTrueAnswer p budget (Between cert.lower cert plan Time) expanded
stopped_is_true p budget cert plan expanded w lt left =
    shown_is_true p budget (Between cert.lower cert plan Time) plan expanded w refl (bounds_true p budget cert plan expanded w) (w.granted, record { left = left; below = lt }) w.needed

-- memory ran out, and the certificate is one cut
pub cut_is_true : (p : Problem) (budget : ℕ) (cert : Certificate) (plan : Option ProblemPath) (expanded : ℕ) → IsShown p budget cert plan expanded → IsOneCut cert → IsTrueAnswer p budget (Between cert.lower cert plan Memory) expanded
cut_is_true p budget cert plan expanded w one = shown_is_true p budget (Between cert.lower cert plan Memory) plan expanded w refl (bounds_true p budget cert plan expanded w) one w.needed

-- a part of one cut has no branch
no_branches : (x : ProblemPart) → IsKeptPart x → IsCut x.tree → branches_in x ≡ []
no_branches x k cut = let is = k.is_part in ap branches (nodes_at_name x is.place k is.is_at) ∙ of_cut x.name is.place x.tree cut
  where
    of_cut : (path : List ℕ) (s : Position) (tree : Tree) → IsCut tree → branches (nodes path s tree) ≡ []
    of_cut path s CutB cut = refl
    of_cut path s CutL cut = refl
    of_cut path s (CutR bound text) cut = absurd cut
    of_cut path s (Branch all) cut = absurd cut
    of_cut path s Given cut = absurd cut

-- the look-ahead bound of the first position is what one cut shows, with any plan and before any expansion
pub cut_shows : (p : Problem) (budget expanded : ℕ) (cert : Certificate) (plan : Option ProblemPath) → IsAbout p cert → IsOneCut cert → IsBestMet p plan → expanded ≤ budget →
    ((s : Position) → IsAt p [] s → cert.lower ≡ min (cap p) (look_ahead s)) → IsShown p budget cert plan expanded
cut_shows p budget expanded cert plan a one met within lower =
    let begun = met.no_more in
    let none : branches_in one.part ≡ [] = no_branches one.part (All-contains IsKeptPart cert.parts one.part a.kept (subst (λ l. Contains l one.part) (sym one.alone) (0, omega arith, refl))) one.cut in
    record {
      about = a;
      ahead = λ s at. omega (arith, lower s at);
      needed = record {
        first = begun.limit;
        is_first = begun.is_limit;
        below = subst (All (λ part. All (λ node. least_through node < begun.limit) (branches_in part))) (sym one.alone)
            (All-cons (λ (part : ProblemPart). All (λ node. least_through node < begun.limit) (branches_in part)) one.part []
            (All-same (λ node. least_through node < begun.limit) (branches_in one.part) [] none (All-nil (λ (node : Node). least_through node < begun.limit)))
            (All-nil (λ (part : ProblemPart). All (λ node. least_through node < begun.limit) (branches_in part))));
      };
      best_met = met;
      granted = (let all : branches_of cert ≡ sum_by (λ (x : ProblemPart). length (branches_in x)) (one.part ∷ []) = ap (λ l. sum_by (λ (x : ProblemPart). length (branches_in x)) l) one.alone in
          omega (arith, all, sum_by-cons (λ (x : ProblemPart). length (branches_in x)) one.part [], ap (λ (l : List Node). length l) none));
      within = within;
    }
