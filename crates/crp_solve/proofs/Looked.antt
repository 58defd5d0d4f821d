-- A search of all workers behind one that looked first.
use Rattle.std.proofs.Common.{◌≡◌, ℕ, ◌≤◌, Bool, Option, None, Some, IfSome, refl, sym, subst, arith}
use Rattle.std.proofs.lemmas.List.Elements.{All-weaker}
use Rattle.crp_plan.specs.declared.running.View.{View}
use Rattle.crp_plan.specs.Bay.{Problem}
use Rattle.crp_plan.specs.Plans.{ProblemPath}
use Rattle.crp_tree.specs.Parts.{ProblemPart, Certificate, branches_in}
use Rattle.crp_search.specs.Searched.{IsBelow}
use Rattle.crp_solve.specs.Answers.{path_in, IsPlanOf}
use Rattle.crp_solve.specs.Desks.{count_or}
use Rattle.crp_solve.specs.Searches.{met_or_known, BeginsWithin, IsSearched}
use Rattle.crp_solve.specs.Rests.{IsFoundTogether}

-- a part that was searched below a lower limit was searched below this one
searched_below : (p : Problem) (first limit : ℕ) (view : View) (part : ProblemPart) → limit ≤ first → IsSearched p limit view part → IsSearched p first view part
searched_below p first limit view part le s =
    record { of_problem = s.of_problem; kept = s.kept; closed = s.closed; below = All-weaker (IsBelow limit) (IsBelow first) (λ node b. omega (arith, le, b)) (branches_in part) s.below }

same_count : (first : ℕ) (met known : Option ProblemPath) → count_or first (path_in (met_or_known met known)) ≡ count_or (count_or first (path_in known)) (path_in met)
same_count first None known = refl
same_count first (Some plan) known = refl

one_is_plan : (p : Problem) (met known : Option ProblemPath) → IfSome met (IsPlanOf p) → IfSome known (IsPlanOf p) → IfSome (met_or_known met known) (IsPlanOf p)
one_is_plan p None known is also = also
one_is_plan p (Some plan) known is also = is

-- what they found, or where they met no plan, with the plan that was met by the look
pub after_look : {other thin : ℕ} {early stopped : Bool} (p : Problem) (look budget first : ℕ) (looked cert : Certificate) (known met best : Option ProblemPath) (few expanded : ℕ) → BeginsWithin p first → IsFoundTogether other p look first looked known few early →
    IsFoundTogether thin p budget (count_or first (path_in known)) cert met expanded stopped → best ≡ met_or_known met known → IsFoundTogether thin p budget first cert best expanded stopped
after_look {other} {thin} {early} {stopped} p look budget first looked cert known met best few expanded begins before f e =
    let w = f.ended in let old = before.ended in
    let limit : ℕ = count_or first (path_in known) in
    let low : limit ≤ first = old.low in
    subst (λ o. IsFoundTogether thin p budget first cert o expanded stopped) (sym e) (record {
      view = f.view;
      granted = f.granted;
      left = f.left;
      best_is = one_is_plan p met known f.best_is before.best_is;
      ended = record {
        about = w.about;
        searched = All-weaker (IsSearched p limit f.view) (IsSearched p first f.view) (λ part s. searched_below p first limit f.view part low s) cert.parts w.searched;
        first_is = begins;
        low = omega (arith, same_count first met known, w.low, low);
        met = omega (arith, same_count first met known, w.met);
        granted = w.granted;
        within = w.within;
        refused_last = w.refused_last;
      };
    })
