-- What is met in a part is the first plan that belongs to it.
use Rattle.std.proofs.Common.{◌≡◌, ℕ, ◌+◌, ◌≤◌, ◌⊎◌, inl, inr, ⊎_elim, true, List, [], ◌∷◌, ◌++◌, length, Contains, All, Option, Some, None, IfSome, IfNone, sym, ap, ◌∙◌, subst, arith}
use Rattle.std.proofs.lemmas.List.Elements.{All-contains, Contains-append_right, Contains-append_cases}
use Rattle.crp_plan.specs.Bay.{Problem, IsProblem, Position, IsAt}
use Rattle.crp_plan.specs.Plans.{ProblemPath}
use Rattle.crp_plan.proofs.Covered.{relocations-path}
use Rattle.crp_bay.proofs.Members.{not_in_nil, in_head, in_cons_cases}
use Rattle.crp_tree.specs.Tree.{Tree}
use Rattle.crp_tree.specs.Names.{Precedes}
use Rattle.crp_tree.specs.Mark.{Mark, B, G, X}
use Rattle.crp_tree.specs.Trees.{Node, nodes, is_cut, is_branch, is_given, cuts, branches, value, given_names, IsInPlace, Fits, Begins}
use Rattle.crp_tree.specs.Parts.{ProblemPart, nodes_of, given_of, IsKeptPart}
use Rattle.crp_tree.specs.First.{MeetsNeed}
use Rattle.crp_tree.proofs.InLine.{InOrder, in_order, from_members}
use Rattle.crp_tree.proofs.Ordered.{not_itself, goes_further}
use Rattle.crp_tree.proofs.Nodes.{Rises, nodes_rise, nodes_begin, apart, from_given}
use Rattle.crp_tree.proofs.Shown.{PassesCut, Leaves, leaves}
use Rattle.crp_tree.proofs.Kept.{nodes_at_name}
use Rattle.crp_tree.proofs.Firsts.{front_before}
use Rattle.crp_search.specs.Searched.{NeedsLookAhead, IsBelow, IsHeld}
use Rattle.crp_search.specs.Firsts.{IsHere, IsFirstHere, IsNoneHere, MeetsOwn, HoldsByOwn}
use Rattle.crp_search.specs.FirstsFound.{IsMetAmong, AreHeld}
use Rattle.crp_search.proofs.SoFar.{kind_of, branch_is}

-- what stands before a member of a list in order, and what stands after it
before_it : {A : Type 0} (R : A → A → Type 0) (before : List A) (x : A) (after : List A) → InOrder R (before ++ x ∷ after) → (y : A) → Contains before y → R y x
before_it R [] x after o y c = absurd (not_in_nil y c)
before_it R (z ∷ before) x after o y c =
    ⊎_elim (λ e. subst (λ w. R w x) e (o.0 x (Contains-append_right before (x ∷ after) x (in_head x after)))) (λ d. before_it R before x after o.1 y d) (in_cons_cases z before y c)

after_it : {A : Type 0} (R : A → A → Type 0) (before : List A) (x : A) (after : List A) → InOrder R (before ++ x ∷ after) → (y : A) → Contains after y → R x y
after_it R [] x after o y c = o.0 y c
after_it R (z ∷ before) x after o y c = after_it R before x after o.1 y c

-- of two members of a list in order one stands before the other, or they are one
one_of_two : {A : Type 0} (R : A → A → Type 0) (xs : List A) → InOrder R xs → (x y : A) → Contains xs x → Contains xs y → (x ≡ y) ⊎ (R x y ⊎ R y x)
one_of_two R [] o x y c d = absurd (not_in_nil x c)
one_of_two R (z ∷ xs) o x y c d = ⊎_elim
    (λ e. ⊎_elim (λ f. inl (sym e ∙ f)) (λ d'. inr (inl (subst (λ w. R w y) e (o.0 y d')))) (in_cons_cases z xs y d))
    (λ c'. ⊎_elim (λ f. inr (inr (subst (λ w. R w x) f (o.0 x c')))) (λ d'. one_of_two R xs o.1 x y c' d') (in_cons_cases z xs y d))
    (in_cons_cases z xs x c)

-- nodes of one tree with one path are one
same_node : (name : List ℕ) (s : Position) (tree : Tree) (m n : Node) → Contains (nodes name s tree) m → Contains (nodes name s tree) n → n.path ≡ m.path → m ≡ n
same_node name s tree m n c d e = ⊎_elim
    (λ same. same)
    (λ o. ⊎_elim
    (λ b. absurd (not_itself m.path (subst (Precedes m.path) e b)))
    (λ b. absurd (not_itself m.path (subst (λ l. Precedes l m.path) e b)))
    o)
    (one_of_two Rises (nodes name s tree) (in_order Rises (nodes name s tree) (nodes_rise name s tree)) m n c d)

-- a node stands before the plan that is met, and is held as where one more than k suffices; or it does not, and is held as where k does
abbrev IsAround : ℕ → List ℕ → Node → Type 0
IsAround k plan node = (IsHeld 0 (k + 1) node × Precedes node.path plan) ⊎ (IsHeld 0 k node × (Precedes node.path plan → ⊥))

around : (p : Problem) (k : ℕ) (plan : ProblemPath) (met : List Node) → IsMetAmong p k plan met → InOrder Rises met → All (IsAround k plan.path) met
around p k plan met m rising =
    let own : Node = m.cut in
    let o = subst (InOrder Rises) m.is rising in
    from_members (IsAround k plan.path) met (λ n c. ⊎_elim
    (λ b. inl (All-contains (IsHeld 0 (k + 1)) m.before n m.above b, subst (Precedes n.path) m.here (before_it Rises m.before own m.after o n b)))
    (λ b. inr (
      All-contains (IsHeld 0 k) (own ∷ m.after) n m.enough b,
      λ e. ⊎_elim
          (λ same. not_itself plan.path (subst (λ l. Precedes l plan.path) (sym (ap (λ (i : Node). i.path) same) ∙ m.here) e))
          (λ later. not_itself own.path (goes_further own.path n.path own.path (after_it Rises m.before own m.after o n later) (subst (Precedes n.path) (sym m.here) e)))
          (in_cons_cases own m.after n b),
    ))
    (Contains-append_cases m.before (own ∷ m.after) n (subst (λ l. Contains l n) m.is c)))

-- a cut whose worker was refused nothing has the value
enough_of : (bar : ℕ) (node : Node) → is_cut node.mark ≡ true → IsHeld 0 bar node → bar ≤ value node
enough_of bar node cut h = ⊎_elim (λ (le : bar ≤ value node). le) (λ in_vain. let some = in_vain.0 in absurd (omega arith)) (h.closed cut)

-- so each cut meets its need by the plan that is met
meets_need : (k : ℕ) (plan : List ℕ) (cut : Node) → is_cut cut.mark ≡ true → IsAround k plan cut → MeetsNeed k plan cut
meets_need k plan cut is (inl h) = let high = enough_of (k + 1) cut is h.0 in record { enough = omega arith; more_before = λ e. high }
meets_need k plan cut is (inr h) = record { enough = enough_of k cut is h.0; more_before = λ e. absurd (h.1 e) }

-- and what follows where k suffices, and so where one more does, holds by it
by_own : (Holds : ℕ → Node → Type 0) (k : ℕ) (plan : ProblemPath) (node : Node) → ((bar : ℕ) → IsHeld 0 bar node → Holds bar node) → (Holds k node → Holds (k + 1) node) → IsAround k plan.path node → HoldsByOwn Holds k (Some plan) node
by_own Holds k plan node follows more (inl h) = (follows (k + 1) h.0, λ later. absurd (not_itself node.path (goes_further node.path plan.path node.path h.1 later)))
by_own Holds k plan node follows more (inr h) = let here = follows k h.0 in (more here, λ later. here)

needs_more : (k : ℕ) (node : Node) → NeedsLookAhead k node → NeedsLookAhead (k + 1) node
needs_more k node h = λ ahead. let needed = h ahead in (omega (arith, needed.0), needed.1)

-- what the cuts and the branches are, by the plan that is met
pub record HoldByOwn (k : ℕ) (plan : Option ProblemPath) (met : List Node) : Type 0 where
  pub meet : All (MeetsOwn k plan) (cuts met)
  pub look_ahead : All (HoldsByOwn NeedsLookAhead k plan) (cuts met)
  pub below : All (HoldsByOwn IsBelow k plan) (branches met)

hold_by_own : (p : Problem) (k : ℕ) (plan : Option ProblemPath) (met : List Node) → AreHeld p k None plan met → InOrder Rises met → HoldByOwn k plan met
hold_by_own p k None met h rising = record {
  meet = kind_of (IsHeld 0 (k + 1)) (MeetsOwn k None) (λ n. is_cut n.mark) met (λ n cut i. enough_of (k + 1) n cut i) h;
  look_ahead = kind_of (IsHeld 0 (k + 1)) (HoldsByOwn NeedsLookAhead k None) (λ n. is_cut n.mark) met (λ n cut i. i.needed) h;
  below = kind_of (IsHeld 0 (k + 1)) (HoldsByOwn IsBelow k None) (λ n. is_branch n.mark) met (λ n branch i. i.below (branch_is n.mark branch)) h;
}
hold_by_own p k (Some plan) met h rising =
    let all = around p k plan met h rising in
    record {
      meet = kind_of (IsAround k plan.path) (MeetsOwn k (Some plan)) (λ n. is_cut n.mark) met (λ n cut i. meets_need k plan.path n cut i) all;
      look_ahead = kind_of (IsAround k plan.path) (HoldsByOwn NeedsLookAhead k (Some plan)) (λ n. is_cut n.mark) met
          (λ n cut i. by_own NeedsLookAhead k plan n (λ bar i. i.needed) (needs_more k n) i) all;
      below = kind_of (IsAround k plan.path) (HoldsByOwn IsBelow k (Some plan)) (λ n. is_branch n.mark) met
          (λ n branch i. by_own IsBelow k plan n (λ bar i. i.below (branch_is n.mark branch)) (λ below. omega arith) i) all;
    }

-- the plan belongs to the part
plan_here : (p : Problem) (k : ℕ) (name : List ℕ) (s : Position) (tree : Tree) (plan : ProblemPath) → IsMetAmong p k plan (nodes name s tree) → IsHere p k name (given_names (nodes name s tree)) plan.path
plan_here p k name s tree plan m =
    let list : List Node = nodes name s tree in
    let own : Node = m.cut in
    let c : Contains list own = subst (λ l. Contains l own) (sym m.is) (Contains-append_right m.before (own ∷ m.after) own (in_head own m.after)) in
    record {
      plan = m.whole;
      count = m.count;
      begins = subst (λ l. Begins l name) m.here (All-contains (λ (n : Node). Begins n.path name) list own (nodes_begin name s tree) c);
      not_given = λ g d b.
          let r = from_given list g d in
          let n : Node = r.0 in
          let on : Begins own.path n.path = subst (λ l. Begins l n.path) (sym m.here) (subst (Begins plan.path) (sym r.3) b) in
          let same : n ≡ own = same_node name s tree n own r.1 c (apart name s tree n own r.1 c (λ x. not_both n.mark r.2 x) on) in
          not_cut own.mark (sym (ap (λ (i : Node). i.mark) same) ∙ r.2) m.mark;
    }
  where
    not_both : (mark : Mark) → mark ≡ G → mark ≡ X → ⊥
    not_both mark e f = let t : is_given G ≡ is_given X = ap is_given (sym e ∙ f) in cc

    not_cut : (mark : Mark) → mark ≡ G → mark ≡ B → ⊥
    not_cut mark e f = let t : is_given G ≡ is_given B = ap is_given (sym e ∙ f) in cc

-- a plan that belongs to a part passes a cut of a value that is at most its relocations, and the cut's path is a front of its path
by_a_cut : (p : Problem) (k : ℕ) (name : List ℕ) (s : Position) (tree : Tree) (path : List ℕ) → IsProblem p → IsAt p name s → Fits s tree → All IsInPlace (nodes name s tree) →
    IsHere p k name (given_names (nodes name s tree)) path → (cut : Node) × Contains (cuts (nodes name s tree)) cut × Begins path cut.path × (value cut ≤ k)
by_a_cut p k name s tree path is a fits in_place h =
    let plan = h.plan in
    let out : Leaves plan.0 (nodes name s tree) = leaves p name s tree plan.0 is a fits in_place plan.1 (subst (λ l. Begins l name) (sym plan.2) h.begins) in
    ⊎_elim
    (λ c.
    let cut : Node = c.0 in
    let pass : PassesCut plan.0 cut = c.2 in
    (cut, c.1, subst (λ l. Begins l cut.path) plan.2 pass.begins, omega (arith, pass.enough, relocations-path plan.0, ap length plan.2, h.count)))
    (λ g. absurd (h.not_given g.0 g.1 (subst (λ l. Begins l g.0) plan.2 g.2)))
    out

-- the plan that is met is the first that belongs there
first_here : (p : Problem) (k : ℕ) (name : List ℕ) (s : Position) (tree : Tree) (plan : Option ProblemPath) → IsProblem p → IsAt p name s → Fits s tree → All IsInPlace (nodes name s tree) →
    AreHeld p k None plan (nodes name s tree) → HoldByOwn k plan (nodes name s tree) → IfSome plan (λ r. IsFirstHere p k name (given_names (nodes name s tree)) r.path)
first_here p k name s tree None is a fits in_place held own = tt
first_here p k name s tree (Some plan) is a fits in_place held own = record {
  here = plan_here p k name s tree plan held;
  none_before = λ other h before.
      let c = by_a_cut p k name s tree other is a fits in_place h in
      let cut : Node = c.0 in
      let need : MeetsNeed k plan.path cut = All-contains (MeetsNeed k plan.path) (cuts (nodes name s tree)) cut own.meet c.1 in
      omega (arith, need.more_before (front_before cut.path other plan.path c.2 before), c.3);
}

-- where none is met none belongs there
none_here : (p : Problem) (k : ℕ) (name : List ℕ) (s : Position) (tree : Tree) (plan : Option ProblemPath) → IsProblem p → IsAt p name s → Fits s tree → All IsInPlace (nodes name s tree) →
    HoldByOwn k plan (nodes name s tree) → IfNone plan (IsNoneHere p k name (given_names (nodes name s tree)))
none_here p k name s tree (Some plan) is a fits in_place own = tt
none_here p k name s tree None is a fits in_place own = λ path h.
    let c = by_a_cut p k name s tree path is a fits in_place h in
    let need : k + 1 ≤ value c.0 = All-contains (λ (n : Node). k + 1 ≤ value n) (cuts (nodes name s tree)) c.0 own.meet c.1 in
    omega (arith, need, c.3)

met_of : (p : Problem) (k : ℕ) (plan : Option ProblemPath) (met : List Node) → AreHeld p k None plan met → IfSome plan (λ r. r.problem ≡ p)
met_of p k None met held = tt
met_of p k (Some plan) met held = let m : IsMetAmong p k plan met = held in m.of_problem

-- what a part is whose nodes were met
pub record IsFirstMet (p : Problem) (k : ℕ) (name : List ℕ) (plan : Option ProblemPath) (x : ProblemPart) : Type 0 where
  pub own : HoldByOwn k plan (nodes_of x)
  pub of_problem : IfSome plan (λ r. r.problem ≡ p)
  pub first : IfSome plan (λ r. IsFirstHere p k name (given_of x) r.path)
  pub none : IfNone plan (IsNoneHere p k name (given_of x))

at_name : (k : ℕ) (plan : Option ProblemPath) (x : ProblemPart) → IsKeptPart x → AreHeld x.problem k None plan (nodes_of x) → IsFirstMet x.problem k x.name plan x
at_name k plan x kept h =
    let is = kept.is_part in
    let shape = is.shape in
    let list : nodes_of x ≡ nodes x.name is.place x.tree = nodes_at_name x is.place kept is.is_at in
    let held = subst (AreHeld x.problem k None plan) list h in
    let own = hold_by_own x.problem k plan (nodes x.name is.place x.tree) held (in_order Rises (nodes x.name is.place x.tree) (nodes_rise x.name is.place x.tree)) in
    record {
      own = subst (HoldByOwn k plan) (sym list) own;
      of_problem = met_of x.problem k plan (nodes x.name is.place x.tree) held;
      first = subst (λ l. IfSome plan (λ r. IsFirstHere x.problem k x.name (given_names l) r.path)) (sym list)
          (first_here x.problem k x.name is.place x.tree plan kept.is_problem is.is_at shape.fits shape.in_place held own);
      none = subst (λ l. IfNone plan (IsNoneHere x.problem k x.name (given_names l))) (sym list)
          (none_here x.problem k x.name is.place x.tree plan kept.is_problem is.is_at shape.fits shape.in_place own);
    }

pub first_met : {p : Problem} {name : List ℕ} (k : ℕ) (plan : Option ProblemPath) (x : ProblemPart) → x.problem ≡ p → x.name ≡ name → IsKeptPart x → AreHeld p k None plan (nodes_of x) → IsFirstMet p k name plan x
first_met {p} k plan x about named kept h =
    subst (λ l. IsFirstMet p k l plan x) named (subst (λ q. IsFirstMet q k x.name plan x) about
    (at_name k plan x kept (subst (λ q. AreHeld q k None plan (nodes_of x)) (sym about) h)))
