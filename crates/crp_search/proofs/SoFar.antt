-- What a search for the fewest relocations has met so far: nodes, one after the other.
use Rattle.std.proofs.Common.{◌≡◌, ℕ, ◌+◌, ◌≤◌, inl, inr, ⊎_elim, true, Bool, List, [], ◌∷◌, ◌++◌, length, All, filter, sym, ap, ◌∙◌, refl, subst, arith, append-nil}
use Rattle.std.proofs.lemmas.List.Elements.{All-nil, All-cons, All-same, All-weaker, All-contains}
use Rattle.crp_plan.specs.Bay.{Problem, Position}
use Rattle.crp_plan.specs.declared.running.View.{View}
use Rattle.crp_bounds.specs.Bounds.{blocking}
use Rattle.crp_tree.specs.Mark.{Mark, B, L, R, X, G}
use Rattle.crp_tree.specs.Trees.{Node, is_cut, is_branch, cuts, branches, given_names, bound_by, value, MayStand, IsInPlace}
use Rattle.crp_bay.proofs.Members.{from_filter}
use Rattle.crp_tree.proofs.InLine.{from_members}
use Rattle.crp_search.specs.declared.reasons.Way.{Way}
use Rattle.crp_search.specs.declared.reasons.Way.TheVariants.{Closed, Granted, Refused}
use Rattle.crp_search.specs.Limits.{Advances, Dealings}
use Rattle.crp_search.specs.Tries.{OnlyGranted, LastRefused, GoesOn}
use Rattle.crp_search.specs.Meeting.{along_falls, held_refused}
use Rattle.crp_search.specs.Searched.{Suffices, NeedsLookAhead, IsBelow, IsHeld, IsOnWay, Grants, AreHeldAlong, IsShort, IsMet, IsSearchedSoFar}

-- ---- what was met

-- a cut is no branch, and gives nothing away
cut_alone : (path : List ℕ) (s : Position) (mark : Mark) → is_cut mark ≡ true → (branches (record { path = path; place = s; mark = mark } ∷ []) ≡ []) × (given_names (record { path = path; place = s; mark = mark } ∷ []) ≡ [])
cut_alone path s B cut = (refl, refl)
cut_alone path s L cut = (refl, refl)
cut_alone path s (R bound text) cut = (refl, refl)
cut_alone path s X cut = absurd (cc)
cut_alone path s G cut = absurd (cc)

-- a branch is one, and gives nothing away
branch_alone : (path : List ℕ) (s : Position) (mark : Mark) → mark ≡ X → (branches (record { path = path; place = s; mark = mark } ∷ []) ≡ record { path = path; place = s; mark = mark } ∷ []) × (given_names (record { path = path; place = s; mark = mark } ∷ []) ≡ [])
branch_alone path s mark is = rw is (refl, refl)

-- a cut is met while nothing is granted but for thinned branches, and nothing is put
pub met_cut : (split most : ℕ) (d e : Dealings) (node : Node) → is_cut node.mark ≡ true → IsInPlace node → Grants most d.view.granted 0 e.view.granted → e.puts ≡ d.puts → IsMet split most d e (node ∷ [])
met_cut split most d e node cut stands granted puts =
    let alone = cut_alone node.path node.place node.mark cut in
    record {
      in_place = All-cons IsInPlace node [] stands (All-nil IsInPlace);
      grants = subst (λ n. Grants most d.view.granted n e.view.granted) (sym (ap length alone.0)) granted;
      puts = puts ∙ sym (append-nil d.puts) ∙ ap (λ l. d.puts ++ l) (sym alone.1);
      short = All-same (IsShort split) _ _ alone.1 (All-nil (IsShort split));
    }

-- a branch while one claim more is granted
pub met_branch : (split most : ℕ) (d e : Dealings) (node : Node) → node.mark ≡ X → IsInPlace node → Grants most d.view.granted 1 e.view.granted → e.puts ≡ d.puts → IsMet split most d e (node ∷ [])
met_branch split most d e node branch stands granted puts =
    let alone = branch_alone node.path node.place node.mark branch in
    record {
      in_place = All-cons IsInPlace node [] stands (All-nil IsInPlace);
      grants = subst (λ n. Grants most d.view.granted n e.view.granted) (sym (ap length alone.0)) granted;
      puts = puts ∙ sym (append-nil d.puts) ∙ ap (λ l. d.puts ++ l) (sym alone.1);
      short = All-same (IsShort split) _ _ alone.1 (All-nil (IsShort split));
    }

-- where nothing is granted
pub none_granted : (most old new : ℕ) → new ≡ old → Grants most old 0 new
none_granted most old new same = record { enough = omega arith; alone = λ none. omega arith }

-- what is granted on a way on
pub on_granted : (expansions most : ℕ) (v w : View) → OnlyGranted expansions most v w → Grants most v.granted expansions w.granted
on_granted expansions most v w k = record { enough = k.enough; alone = λ none. let few = k.few in omega arith }

pub refused_granted : (most : ℕ) (v w : View) → LastRefused most v w → Grants most v.granted 0 w.granted
refused_granted most v w k = record { enough = let le = k.enough in omega arith; alone = λ none. let few = k.few in omega arith }

-- ---- what sufficed meanwhile

-- each node was met while so much sufficed
abbrev IsHeldBetween : ℕ → ℕ → ℕ → Node → Type 0
IsHeldBetween refused from to n = (bar : ℕ) × (bar ≤ from) × (to ≤ bar) × IsHeld refused bar n

along_each : (refused from to : ℕ) (met : List Node) → AreHeldAlong refused from to met → All (IsHeldBetween refused from to) met
along_each refused from to [] h = All-nil (IsHeldBetween refused from to)
along_each refused from to (node ∷ met) h =
    All-cons (IsHeldBetween refused from to) node met (h.0, h.1, along_falls refused h.0 to met h.3, h.2)
    (All-weaker (IsHeldBetween refused h.0 to) (IsHeldBetween refused from to) (λ n k. (k.0, (let a = k.1 in let b = h.1 in omega arith), k.2, k.3)) met (along_each refused h.0 to met h.3))

-- what follows for those of one kind
pub kind_of : (Holds Follows : Node → Type 0) (test : Node → Bool) (met : List Node) → ((n : Node) → test n ≡ true → Holds n → Follows n) → All Holds met → All Follows (filter test met)
kind_of Holds Follows test met follows all =
    from_members Follows (filter test met) (λ n c. let k = from_filter test met n c in follows n k.0 (All-contains Holds met n all k.1))

pub branch_is : (mark : Mark) → is_branch mark ≡ true → mark ≡ X
branch_is B is = absurd (cc)
branch_is L is = absurd (cc)
branch_is (R bound text) is = absurd (cc)
branch_is X is = refl
branch_is G is = absurd (cc)

-- so each cut suffices for the last
pub cuts_close : (refused from to : ℕ) (met : List Node) → AreHeldAlong refused from to met → All (Suffices refused to) (cuts met)
cuts_close refused from to met h =
    kind_of (IsHeldBetween refused from to) (Suffices refused to) (λ n. is_cut n.mark) met
    (λ n cut k. ⊎_elim (λ (seen : k.0 ≤ value n). let low = k.2 in inl (omega arith)) (λ in_vain. inr in_vain) ((k.3).closed cut))
    (along_each refused from to met h)

-- and stands on the look-ahead bound where it must, by the first
pub cuts_need : (refused from to : ℕ) (met : List Node) → AreHeldAlong refused from to met → All (NeedsLookAhead from) (cuts met)
cuts_need refused from to met h =
    kind_of (IsHeldBetween refused from to) (NeedsLookAhead from) (λ n. is_cut n.mark) met
    (λ n cut k ahead. let needed = (k.3).needed ahead in let high = k.1 in (omega (arith, needed.0), needed.1))
    (along_each refused from to met h)

-- and each branch is below the first
pub branches_below : (refused from to : ℕ) (met : List Node) → AreHeldAlong refused from to met → All (IsBelow from) (branches met)
branches_below refused from to met h =
    kind_of (IsHeldBetween refused from to) (IsBelow from) (λ n. is_branch n.mark) met
    (λ n branch k. let below = (k.3).below (branch_is n.mark branch) in let high = k.1 in omega arith)
    (along_each refused from to met h)

-- ---- as the search holds it

-- a finished path's plan is offered
pub offer_met : (p : Problem) (split most : ℕ) (d e : Dealings) (path : List ℕ) (node : Node) → e.view.seen ≤ length path → Advances p d.view e.view → e.view.granted ≡ d.view.granted → e.puts ≡ d.puts → node.path ≡ path → node.mark ≡ B → IsSearchedSoFar p split most d e (node ∷ [])
offer_met p split most d e path node seen on granted puts here mark =
    let low = on.seen in
    let own : value node ≡ length path + blocking node.place = ap (λ m. length node.path + bound_by m node.place) mark ∙ ap (λ l. length l + blocking node.place) here in
    record {
      dealings = met_cut split most d e node (ap is_cut mark) (subst (λ m. MayStand m node.path node.place) (sym mark) tt) (none_granted most d.view.granted e.view.granted granted) puts;
      advances = on;
      along = (
        e.view.seen,
        low,
        record {
          closed = λ cut. inl (omega arith);
          needed = λ ahead. absurd (let no : B ≡ L = sym mark ∙ ahead in cc);
          below = λ branch. absurd (let no : B ≡ X = sym mark ∙ branch in cc);
        },
        omega arith,
      );
    }

-- ---- the node where it goes on

cut_held : (bar : ℕ) (node : Node) → is_cut node.mark ≡ true → bar ≤ value node → NeedsLookAhead bar node → IsHeld 0 bar node
cut_held bar node cut reaches needed = record { closed = λ _. inl reaches; needed = needed; below = λ branch. absurd (let no : is_cut X ≡ true = ap is_cut (sym branch) ∙ cut in cc) }

branch_held : (bar : ℕ) (node : Node) → node.mark ≡ X → IsBelow bar node → IsHeld 0 bar node
branch_held bar node branch low = record {
  closed = λ cut. absurd (let no : is_cut X ≡ true = ap is_cut (sym branch) ∙ cut in cc);
  needed = λ ahead. absurd (let no : X ≡ L = sym branch ∙ ahead in cc);
  below = λ _. low;
}

-- what holds of it where no claim was refused
pub way_held : (bar : ℕ) (way : Way) (node : Node) → IsOnWay way bar node → (way ≡ Refused → ⊥) → IsHeld 0 bar node
way_held bar (Closed bound) node h granted = cut_held bar node h.0 h.1 h.2
way_held bar Granted node h granted = branch_held bar node h.0 h.1
way_held bar Refused node h granted = absurd (granted refl)

-- and what was met
pub way_met : (split most : ℕ) (way : Way) (bar : ℕ) (d e : Dealings) (node : Node) → GoesOn most way d.view e.view → e.puts ≡ d.puts → IsInPlace node → IsOnWay way bar node → IsMet split most d e (node ∷ [])
way_met split most (Closed bound) bar d e node k puts stands h = met_cut split most d e node h.0 stands (on_granted 0 most d.view e.view k) puts
way_met split most Granted bar d e node k puts stands h = met_branch split most d e node h.0 stands (on_granted 1 most d.view e.view k) puts
way_met split most Refused bar d e node k puts stands h = met_cut split most d e node h.0 stands (refused_granted most d.view e.view k) puts

-- claims alone keep what was seen and offered
only_advances : (p : Problem) (expansions most : ℕ) (v w : View) → OnlyGranted expansions most v w → Advances p v w
only_advances p expansions most v w k =
    let enough = k.enough in
    let seen : w.seen ≡ v.seen = ap (λ (x : View). x.seen) k.only in
    let mine : w.mine ≡ v.mine = ap (λ (x : View). x.mine) k.only in
    let refused : w.refused ≡ v.refused = ap (λ (x : View). x.refused) k.only in
    record { seen = omega arith; mine = omega arith; offered = inl mine; granted = omega arith; refused = omega arith; share = ap (λ (x : View). x.share) k.only }

refused_advances : (p : Problem) (most : ℕ) (v w : View) → LastRefused most v w → Advances p v w
refused_advances p most v w k =
    let enough = k.enough in
    let no_less = k.no_less in
    let seen : w.seen ≡ v.seen = ap (λ (x : View). x.seen) k.only in
    let mine : w.mine ≡ v.mine = ap (λ (x : View). x.mine) k.only in
    record { seen = omega arith; mine = omega arith; offered = inl mine; granted = enough; refused = no_less; share = ap (λ (x : View). x.share) k.only }

-- so a search for the fewest relocations meets the node
held_along : (bar refused : ℕ) (node : Node) (v w : View) → v.seen ≡ bar → w.seen ≡ bar → w.refused ≡ refused → IsHeld refused bar node → AreHeldAlong w.refused v.seen w.seen (node ∷ [])
held_along bar refused node v w old new is held = (bar, omega arith, subst (λ r. IsHeld r bar node) (sym is) held, omega arith)

pub go_on_met : (p : Problem) (split most : ℕ) (way : Way) (d e : Dealings) (node : Node) → GoesOn most way d.view e.view → e.puts ≡ d.puts → IsInPlace node → IsOnWay way d.view.seen node → IsSearchedSoFar p split most d e (node ∷ [])
go_on_met p split most (Closed bound) d e node k puts stands h = record {
  dealings = way_met split most (Closed bound) d.view.seen d e node k puts stands h;
  advances = only_advances p 0 most d.view e.view k;
  along = held_along d.view.seen e.view.refused node d.view e.view refl (ap (λ (x : View). x.seen) k.only) refl (held_refused 0 e.view.refused d.view.seen node (omega arith) (cut_held d.view.seen node h.0 h.1 h.2));
}
go_on_met p split most Granted d e node k puts stands h = record {
  dealings = way_met split most Granted d.view.seen d e node k puts stands h;
  advances = only_advances p 1 most d.view e.view k;
  along = held_along d.view.seen e.view.refused node d.view e.view refl (ap (λ (x : View). x.seen) k.only) refl (held_refused 0 e.view.refused d.view.seen node (omega arith) (branch_held d.view.seen node h.0 h.1));
}
go_on_met p split most Refused d e node k puts stands h =
    let held : IsHeld e.view.refused d.view.seen node = record {
      closed = λ _. inr (k.some, h.1, h.2);
      needed = h.3;
      below = λ branch. absurd (let no : is_cut X ≡ true = ap is_cut (sym branch) ∙ h.0 in cc);
    } in
    record {
      dealings = way_met split most Refused d.view.seen d e node k puts stands h;
      advances = refused_advances p most d.view e.view k;
      along = held_along d.view.seen e.view.refused node d.view e.view refl (ap (λ (x : View). x.seen) k.only) refl held;
    }

-- where memory is short it meets nothing
pub try_met : (p : Problem) (split most : ℕ) (d e : Dealings) → OnlyGranted 0 most d.view e.view → e.puts ≡ d.puts → IsSearchedSoFar p split most d e []
try_met p split most d e k puts = record {
  dealings = record { in_place = All-nil IsInPlace; grants = on_granted 0 most d.view e.view k; puts = puts ∙ sym (append-nil d.puts); short = All-nil (IsShort split) };
  advances = only_advances p 0 most d.view e.view k;
  along = let seen : e.view.seen ≡ d.view.seen = ap (λ (x : View). x.seen) k.only in omega arith;
}
