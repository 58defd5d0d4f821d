-- What a search for the fewest relocations holds of nodes that it met goes on: the laws of what it seeks.
use Rattle.std.proofs.Common.{◌≡◌, ℕ, ◌+◌, ◌≤◌, inl, inr, ⊎_elim, List, [], ◌∷◌, ◌++◌, length, sym, ap, ◌∙◌, refl, subst, arith, append_assoc, append-nil, length-append}
use Rattle.std.proofs.lemmas.List.Elements.{All-nil, All-append, All-same}
use Rattle.crp_plan.specs.Bay.{Problem}
use Rattle.crp_plan.specs.declared.running.View.{View}
use Rattle.crp_tree.specs.Trees.{Node, branches, given_names, value, IsInPlace}
use Rattle.crp_tree.proofs.Nodes.{given_names-append}
use Rattle.crp_tree.proofs.Joined.{branches-append}
use Rattle.crp_search.specs.declared.reasons.Thinning.{Thinning}
use Rattle.crp_search.specs.Limits.{Advances, Dealings, OnlyGrants}
use Rattle.crp_search.specs.Searched.{Grants, IsHeld, AreHeldAlong, IsShort, IsMet, IsSearchedSoFar}

-- ---- claims

pub grants_more : (most old branches mid others new more : ℕ) → more ≡ branches + others → Grants most old branches mid → Grants most mid others new → Grants most old more new
grants_more most old branches mid others new more sum a b = record {
  enough = let x = a.enough in let y = b.enough in omega arith;
  alone = λ none. let x = a.alone none in let y = b.alone none in omega arith;
}

-- where no thinned branch is tried, also where some may be
pub grants_any : (most old branches new : ℕ) → Grants 0 old branches new → Grants most old branches new
grants_any most old branches new g = record { enough = g.enough; alone = λ none. g.alone refl }

-- ---- nodes

-- no node was met
pub met_none : (split most : ℕ) (d : Dealings) → IsMet split most d d []
met_none split most d = record {
  in_place = All-nil IsInPlace;
  grants = record { enough = omega arith; alone = λ none. omega arith };
  puts = sym (append-nil d.puts);
  short = All-nil (IsShort split);
}

pub met_more : (split most : ℕ) (d e f : Dealings) (xs ys : List Node) → IsMet split most d e xs → IsMet split most e f ys → IsMet split most d f (xs ++ ys)
met_more split most d e f xs ys m n =
    let names = given_names-append xs ys in
    record {
      in_place = All-append IsInPlace xs ys m.in_place n.in_place;
      grants = grants_more most d.view.granted (length (branches xs)) e.view.granted (length (branches ys)) f.view.granted (length (branches (xs ++ ys)))
          (ap length (branches-append xs ys) ∙ length-append (branches xs) (branches ys)) m.grants n.grants;
      puts = n.puts ∙ ap (λ l. l ++ given_names ys) m.puts ∙ append_assoc d.puts _ _ ∙ ap (λ l. d.puts ++ l) (sym names);
      short = All-same (IsShort split) _ _ names (All-append (IsShort split) _ _ m.short n.short);
    }

-- where no thinned branch is tried, also where some may be
pub met_any : (split most : ℕ) (d e : Dealings) (xs : List Node) → IsMet split 0 d e xs → IsMet split most d e xs
met_any split most d e xs m = record { in_place = m.in_place; grants = grants_any most d.view.granted (length (branches xs)) e.view.granted m.grants; puts = m.puts; short = m.short }

-- who was refused more claims holds as much
pub held_refused : (refused more bar : ℕ) (node : Node) → refused ≤ more → IsHeld refused bar node → IsHeld more bar node
held_refused refused more bar node le h = record {
  closed = λ cut. ⊎_elim (λ (seen : bar ≤ value node). inl seen) (λ in_vain. let some = in_vain.0 in inr (omega arith, in_vain.1, in_vain.2)) (h.closed cut);
  needed = h.needed;
  below = h.below;
}

along_refused : (refused more from to : ℕ) (met : List Node) → refused ≤ more → AreHeldAlong refused from to met → AreHeldAlong more from to met
along_refused refused more from to [] le h = h
along_refused refused more from to (node ∷ met) le h = (h.0, h.1, held_refused refused more h.0 node le h.2, along_refused refused more h.0 to met le h.3)

-- what sufficed at first may have been more
along_from : (refused from mid to : ℕ) (met : List Node) → mid ≤ from → AreHeldAlong refused mid to met → AreHeldAlong refused from to met
along_from refused from mid to [] le h = omega (arith, h)
along_from refused from mid to (node ∷ met) le h = (h.0, (let l = h.1 in omega arith), h.2, h.3)

along_more : (refused from mid to : ℕ) (xs ys : List Node) → AreHeldAlong refused from mid xs → AreHeldAlong refused mid to ys → AreHeldAlong refused from to (xs ++ ys)
along_more refused from mid to [] ys h i = along_from refused from mid to ys h i
along_more refused from mid to (node ∷ xs) ys h i = (h.0, h.1, h.2, along_more refused h.0 mid to xs ys h.3 i)

-- it never rose
pub along_falls : (refused from to : ℕ) (met : List Node) → AreHeldAlong refused from to met → to ≤ from
along_falls refused from to [] h = h
along_falls refused from to (node ∷ met) h = let a = along_falls refused h.0 to met h.3 in let b = h.1 in omega arith

-- what goes on goes on
pub on_and_on : (p : Problem) (old mid new : View) → Advances p old mid → Advances p mid new → Advances p old new
on_and_on p old mid new a b = record {
  seen = let x = a.seen in let y = b.seen in omega arith;
  mine = let x = a.mine in let y = b.mine in omega arith;
  offered = ⊎_elim
      (λ same. ⊎_elim (λ also. inl (same ∙ also)) (λ offer. inr (offer.0, offer.1, offer.2 ∙ sym same)) a.offered)
      (λ offer. inr offer)
      b.offered;
  granted = let x = a.granted in let y = b.granted in omega arith;
  refused = let x = a.refused in let y = b.refused in omega arith;
  share = b.share ∙ a.share;
}

-- ---- the laws

pub none_met : (p : Problem) (split most : ℕ) (d : Dealings) → IsSearchedSoFar p split most d d []
none_met p split most d = record {
  dealings = met_none split most d;
  advances = record { seen = omega arith; mine = omega arith; offered = inl refl; granted = omega arith; refused = omega arith; share = refl };
  along = omega arith;
}

pub one_met : (p : Problem) (split most : ℕ) (d e : Dealings) (node : Node) → IsMet split most d e (node ∷ []) → OnlyGrants d.view e.view → IsHeld 0 d.view.seen node → IsSearchedSoFar p split most d e (node ∷ [])
one_met p split most d e node met only held =
    let seen : e.view.seen ≡ d.view.seen = ap (λ (v : View). v.seen) only in
    let mine : e.view.mine ≡ d.view.mine = ap (λ (v : View). v.mine) only in
    let refused : e.view.refused ≡ d.view.refused = ap (λ (v : View). v.refused) only in
    record {
      dealings = met;
      advances = record { seen = omega arith; mine = omega arith; offered = inl mine; granted = let g = met.grants in let enough = g.enough in omega arith; refused = omega arith; share = ap (λ (v : View). v.share) only };
      along = (d.view.seen, omega arith, held_refused 0 e.view.refused d.view.seen node (omega arith) held, omega arith);
    }

pub more_met : (p : Problem) (split most : ℕ) (d e f : Dealings) (xs ys : List Node) → IsSearchedSoFar p split most d e xs → IsSearchedSoFar p split most e f ys → IsSearchedSoFar p split most d f (xs ++ ys)
more_met p split most d e f xs ys m n =
    let later = n.advances in
    record {
      dealings = met_more split most d e f xs ys m.dealings n.dealings;
      advances = on_and_on p d.view e.view f.view m.advances later;
      along = along_more f.view.refused d.view.seen e.view.seen f.view.seen xs ys (along_refused e.view.refused f.view.refused d.view.seen e.view.seen xs later.refused m.along) n.along;
    }

-- by the same reasons
pub more_met_as : (p : Problem) (split : ℕ) (reasons others : Thinning) (d e f : Dealings) (xs ys : List Node) → others ≡ reasons → IsSearchedSoFar p split reasons.most d e xs → IsSearchedSoFar p split others.most e f ys → IsSearchedSoFar p split reasons.most d f (xs ++ ys)
more_met_as p split reasons others d e f xs ys same m n = more_met p split reasons.most d e f xs ys m (subst (λ (t : Thinning). IsSearchedSoFar p split t.most e f ys) same n)
