-- What a search for the first plan holds of nodes that it met, in the order in which it met them, goes on: the laws of what it seeks.
use Rattle.std.proofs.Common.{◌≡◌, ℕ, ◌+◌, ◌≤◌, List, [], ◌∷◌, ◌++◌, Option, Some, None, refl, sym, ap, ◌∙◌, subst, arith, append_assoc}
use Rattle.std.proofs.lemmas.List.Elements.{All-nil, All-cons, All-append}
use Rattle.crp_plan.specs.Bay.{Problem}
use Rattle.crp_plan.specs.Plans.{ProblemPath}
use Rattle.crp_plan.specs.declared.running.View.{View}
use Rattle.crp_tree.specs.Trees.{Node}
use Rattle.crp_search.specs.declared.walk_end.WalkEnd.{WalkEnd}
use Rattle.crp_search.specs.declared.walk_end.WalkEnd.TheVariants.{Refused, Memory}
use Rattle.crp_search.specs.declared.reasons.Thinning.{Thinning}
use Rattle.crp_search.specs.Limits.{Dealings, OnlyGrants}
use Rattle.crp_search.specs.Searched.{IsHeld, IsMet}
use Rattle.crp_search.specs.Firsts.{OnlyClaims, EndsAs}
use Rattle.crp_search.specs.FirstsFound.{need, IsMetAmong, AreHeld, SameSearch, IsFirstSoFar}
use Rattle.crp_search.specs.Meeting.{met_none, met_more}

-- no node yet
pub held_none : (p : Problem) (k : ℕ) (plan : Option ProblemPath) → AreHeld p k plan plan []
held_none p k None = All-nil (IsHeld 0 (k + 1))
held_none p k (Some plan) = (refl, All-nil (IsHeld 0 k))

-- one for which no plan is met
pub held_one : (p : Problem) (k : ℕ) (plan : Option ProblemPath) (node : Node) → IsHeld 0 (need k plan) node → AreHeld p k plan plan (node ∷ [])
held_one p k None node h = All-cons (IsHeld 0 (k + 1)) node [] h (All-nil (IsHeld 0 (k + 1)))
held_one p k (Some plan) node h = (refl, All-cons (IsHeld 0 k) node [] h (All-nil (IsHeld 0 k)))

-- some after others
held_append : (p : Problem) (k : ℕ) (a b c : Option ProblemPath) (xs ys : List Node) → AreHeld p k a b xs → AreHeld p k b c ys → AreHeld p k a c (xs ++ ys)
held_append p k None None None xs ys h i = All-append (IsHeld 0 (k + 1)) xs ys h i
held_append p k None None (Some plan) xs ys h i =
    let m : IsMetAmong p k plan ys = i in
    record {
      before = xs ++ m.before;
      cut = m.cut;
      after = m.after;
      is = ap (λ l. xs ++ l) m.is ∙ sym (append_assoc xs m.before (m.cut ∷ m.after));
      here = m.here;
      mark = m.mark;
      of_problem = m.of_problem;
      whole = m.whole;
      count = m.count;
      above = All-append (IsHeld 0 (k + 1)) xs m.before h m.above;
      enough = m.enough;
    }
held_append p k None (Some met) c xs ys h i =
    let m : IsMetAmong p k met xs = h in
    subst (λ o. AreHeld p k None o (xs ++ ys)) (sym i.0) (record {
      before = m.before;
      cut = m.cut;
      after = m.after ++ ys;
      is = ap (λ l. l ++ ys) m.is ∙ append_assoc m.before (m.cut ∷ m.after) ys;
      here = m.here;
      mark = m.mark;
      of_problem = m.of_problem;
      whole = m.whole;
      count = m.count;
      above = m.above;
      enough = All-append (IsHeld 0 k) (m.cut ∷ m.after) ys m.enough i.1;
    })
held_append p k (Some met) b c xs ys h i =
    let j = subst (λ o. AreHeld p k o c ys) h.0 i in
    (j.0, All-append (IsHeld 0 k) xs ys h.1 j.1)

-- who only claims goes on to only claim
claims_on : (old mid new : View) → OnlyClaims old mid → OnlyClaims mid new → OnlyClaims old new
claims_on old mid new a b = record {
  seen = b.seen ∙ a.seen;
  mine = b.mine ∙ a.mine;
  share = b.share ∙ a.share;
  granted = let x = a.granted in let y = b.granted in omega arith;
  refused = let x = a.refused in let y = b.refused in omega arith;
}

pub claims_none : (view : View) → OnlyClaims view view
claims_none view = record { seen = refl; mine = refl; share = refl; granted = omega arith; refused = omega arith }

claims_granted : (old new : View) → OnlyGrants old new → old.granted ≤ new.granted → OnlyClaims old new
claims_granted old new only le = record {
  seen = ap (λ (v : View). v.seen) only;
  mine = ap (λ (v : View). v.mine) only;
  share = ap (λ (v : View). v.share) only;
  granted = le;
  refused = let e : new.refused ≡ old.refused = ap (λ (v : View). v.refused) only in omega arith;
}

-- ---- as the search holds it

pub first_none : (p : Problem) (k split most : ℕ) (plan : Option ProblemPath) (d : Dealings) → IsFirstSoFar p k split most plan plan d d []
first_none p k split most plan d = record { dealings = met_none split most d; claims = claims_none d.view; held = held_none p k plan }

pub first_one : (p : Problem) (k split most : ℕ) (plan : Option ProblemPath) (d e : Dealings) (node : Node) → IsMet split most d e (node ∷ []) → OnlyGrants d.view e.view → IsHeld 0 (need k plan) node →
    IsFirstSoFar p k split most plan plan d e (node ∷ [])
first_one p k split most plan d e node met only held = record {
  dealings = met;
  claims = claims_granted d.view e.view only (let g = met.grants in let enough = g.enough in omega arith);
  held = held_one p k plan node held;
}

first_more : (p : Problem) (k split most : ℕ) (a b c : Option ProblemPath) (d e f : Dealings) (xs ys : List Node) → IsFirstSoFar p k split most a b d e xs → IsFirstSoFar p k split most b c e f ys → IsFirstSoFar p k split most a c d f (xs ++ ys)
first_more p k split most a b c d e f xs ys m n = record {
  dealings = met_more split most d e f xs ys m.dealings n.dealings;
  claims = claims_on d.view e.view f.view m.claims n.claims;
  held = held_append p k a b c xs ys m.held n.held;
}

-- the same search
pub first_more_as : (p : Problem) (split : ℕ) {k j : ℕ} {by others : Thinning} {a b c : Option ProblemPath} {d e f : Dealings} {xs ys : List Node} → SameSearch k by j others → IsFirstSoFar p k split by.most a b d e xs →
    IsFirstSoFar p j split others.most b c e f ys → IsFirstSoFar p k split by.most a c d f (xs ++ ys)
first_more_as p split {k} {j} {by} {others} {a} {b} {c} {d} {e} {f} {xs} {ys} same m n =
    first_more p k split by.most a b c d e f xs ys m
    (subst (λ (t : Thinning). IsFirstSoFar p k split t.most b c e f ys) same.reasons (subst (λ i. IsFirstSoFar p i split others.most b c e f ys) same.count n))

pub same_search : (k : ℕ) (by : Thinning) → SameSearch k by k by
same_search k by = record { count = refl; reasons = refl }

pub search_on : {k j i : ℕ} {by others last : Thinning} → SameSearch k by j others → SameSearch j others i last → SameSearch k by i last
search_on a b = record { count = b.count ∙ a.count; reasons = b.reasons ∙ a.reasons }

-- who was refused no claim before ends as he ends afterwards
pub first_ends : (old mid new : View) (end : WalkEnd) → mid.refused ≡ old.refused → EndsAs mid new end → EndsAs old new end
first_ends old mid new Refused same e = (e.0, let le = e.1 in omega arith)
first_ends old mid new Memory same e = e ∙ same
