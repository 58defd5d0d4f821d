-- A search for the first plan meets one.
use Rattle.std.proofs.Common.{◌≡◌, ℕ, ◌+◌, ◌<◌, ◌≤◌, inl, List, [], ◌∷◌, length, Option, Some, None, refl, sym, ap, ◌∙◌, subst, arith, append-nil}
use Rattle.std.proofs.lemmas.List.Elements.{All-nil, All-cons}
use Rattle.crp_plan.specs.Bay.{Problem}
use Rattle.crp_plan.specs.Faults.{IsPlanPath}
use Rattle.crp_plan.specs.Plans.{ProblemPath}
use Rattle.crp_plan.proofs.Covered.{relocations-path}
use Rattle.crp_bounds.specs.Bounds.{blocking}
use Rattle.crp_tree.specs.Mark.{B, L, X}
use Rattle.crp_tree.specs.Trees.{Node, is_cut, bound_by, value, MayStand, IsInPlace}
use Rattle.crp_plan.specs.declared.running.View.{View}
use Rattle.crp_search.specs.declared.reasons.Way.{Way}
use Rattle.crp_search.specs.declared.reasons.Way.TheVariants.{Closed, Granted, Refused}
use Rattle.crp_search.specs.Limits.{Dealings}
use Rattle.crp_search.specs.Tries.{OnlyGranted, LastRefused, GoesOn}
use Rattle.crp_search.specs.Searched.{IsHeld, IsShort, IsOnWay}
use Rattle.crp_search.specs.Firsts.{IsLowerBound, OnlyClaims}
use Rattle.crp_search.specs.FirstsFound.{need, AreHeld, IsFirstSoFar}
use Rattle.crp_search.specs.FirstMeeting.{claims_none, held_none, held_one}
use Rattle.crp_search.proofs.SoFar.{met_cut, none_granted, refused_granted, way_held, way_met, try_met}

-- a complete plan has at least k relocations
long_enough : (p : Problem) (k : ℕ) (path : List ℕ) → IsLowerBound p k → IsPlanPath p path → k ≤ length path
long_enough p k path least plan = omega (arith, least.bound plan.0 plan.1, relocations-path plan.0, ap length plan.2)

-- a plan with fewer relocations than suffice is one of k, and none was met before
held_plan : (p : Problem) (k : ℕ) (old : Option ProblemPath) (plan : ProblemPath) (node : Node) → plan.problem ≡ p → IsLowerBound p k → IsPlanPath p plan.path → length plan.path < need k old → node.path ≡ plan.path → node.mark ≡ B →
    AreHeld p k old (Some plan) (node ∷ [])
held_plan p k (Some other) plan node about least whole less here mark = absurd (omega (arith, long_enough p k plan.path least whole))
held_plan p k None plan node about least whole less here mark =
    let enough : k ≤ length plan.path = long_enough p k plan.path least whole in
    let own : value node ≡ length plan.path + blocking node.place = ap (λ m. length node.path + bound_by m node.place) mark ∙ ap (λ l. length l + blocking node.place) here in
    let held : IsHeld 0 k node = record {
      closed = λ cut. inl (omega arith);
      needed = λ ahead. absurd (let no : B ≡ L = sym mark ∙ ahead in cc);
      below = λ branch. absurd (let no : B ≡ X = sym mark ∙ branch in cc);
    } in
    record {
      before = [];
      cut = node;
      after = [];
      is = refl;
      here = here;
      mark = mark;
      of_problem = about;
      whole = whole;
      count = omega arith;
      above = All-nil (IsHeld 0 (k + 1));
      enough = All-cons (IsHeld 0 k) node [] held (All-nil (IsHeld 0 k));
    }

pub first_plan_met : (p : Problem) (k split most : ℕ) (old : Option ProblemPath) (plan : ProblemPath) (d : Dealings) (node : Node) → plan.problem ≡ p → IsLowerBound p k → IsPlanPath p plan.path → length plan.path < need k old → node.path ≡ plan.path → node.mark ≡ B →
    IsFirstSoFar p k split most old (Some plan) d d (node ∷ [])
first_plan_met p k split most old plan d node about least whole less here mark = record {
  dealings = met_cut split most d d node (ap is_cut mark) (subst (λ m. MayStand m node.path node.place) (sym mark) tt) (none_granted most d.view.granted d.view.granted refl) refl;
  claims = claims_none d.view;
  held = held_plan p k old plan node about least whole less here mark;
}

-- ---- the node where it goes on

-- claims alone
only_claims : (expansions most : ℕ) (v w : View) → OnlyGranted expansions most v w → OnlyClaims v w
only_claims expansions most v w k =
    let enough = k.enough in
    let refused : w.refused ≡ v.refused = ap (λ (x : View). x.refused) k.only in
    record { seen = ap (λ (x : View). x.seen) k.only; mine = ap (λ (x : View). x.mine) k.only; share = ap (λ (x : View). x.share) k.only; granted = omega arith; refused = omega arith }

refused_claims : (most : ℕ) (v w : View) → LastRefused most v w → OnlyClaims v w
refused_claims most v w k = record {
  seen = ap (λ (x : View). x.seen) k.only;
  mine = ap (λ (x : View). x.mine) k.only;
  share = ap (λ (x : View). x.share) k.only;
  granted = k.enough;
  refused = k.no_less;
}

way_claims : (most : ℕ) (way : Way) (v w : View) → GoesOn most way v w → OnlyClaims v w
way_claims most (Closed bound) v w k = only_claims 0 most v w k
way_claims most Granted v w k = only_claims 1 most v w k
way_claims most Refused v w k = refused_claims most v w k

-- it is met where no claim was refused
pub first_go_on : (p : Problem) (k split most : ℕ) (plan : Option ProblemPath) (way : Way) (d e : Dealings) (node : Node) → (way ≡ Refused → ⊥) → GoesOn most way d.view e.view → e.puts ≡ d.puts → IsInPlace node →
    IsOnWay way (need k plan) node → IsFirstSoFar p k split most plan plan d e (node ∷ [])
first_go_on p k split most plan way d e node granted claims puts stands on = record {
  dealings = way_met split most way (need k plan) d e node claims puts stands on;
  claims = way_claims most way d.view e.view claims;
  held = held_one p k plan node (way_held (need k plan) way node on granted);
}

-- else nothing is, and the walk ends
pub first_short : (p : Problem) (k split most : ℕ) (plan : Option ProblemPath) (d e : Dealings) → OnlyGranted 0 most d.view e.view → e.puts ≡ d.puts → IsFirstSoFar p k split most plan plan d e []
first_short p k split most plan d e claims puts = record {
  dealings = let met = try_met p split most d e claims puts in met.dealings;
  claims = only_claims 0 most d.view e.view claims;
  held = held_none p k plan;
}

pub first_refused : (p : Problem) (k split most : ℕ) (plan : Option ProblemPath) (d e : Dealings) → LastRefused most d.view e.view → e.puts ≡ d.puts → IsFirstSoFar p k split most plan plan d e []
first_refused p k split most plan d e claims puts = record {
  dealings = record { in_place = All-nil IsInPlace; grants = refused_granted most d.view e.view claims; puts = puts ∙ sym (append-nil d.puts); short = All-nil (IsShort split) };
  claims = refused_claims most d.view e.view claims;
  held = held_none p k plan;
}
