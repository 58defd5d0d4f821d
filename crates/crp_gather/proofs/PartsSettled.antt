-- Parts are settled on a plan, and make a certificate again.
use Rattle.std.proofs.Common.{◌≡◌, ℕ, suc, ◌+◌, ◌<◌, ◌≤◌, ◌⊎◌, inl, inr, ⊎_elim, List, [], ◌∷◌, ◌++◌, length, map, flat_map, take, get_or, Contains, All, AllPairs, refl, sym, ap, ◌∙◌, subst, arith, length-append, add-one}
use Rattle.std.proofs.Math.Seq.{take-suc}
use Rattle.std.proofs.lemmas.List.{take_all, get_or-map, get_or-take, get_or_default, length-take, length-map, map-append}
use Rattle.std.proofs.lemmas.List.Elements.{All-nil, All-push, All-contains, Contains-append_left, Contains-append_right, Contains-append_cases}
use Rattle.std.proofs.lemmas.List.Quantifiers.{all_pairs_push}
use Rattle.std.proofs.lemmas.List.Sums.{sum_by-cons, sum_by-append}
use Rattle.crp_plan.specs.Bay.{Problem, IsProblem, Position, IsAt, cap}
use Rattle.crp_plan.proofs.Paths.{same_at}
use Rattle.crp_bay.proofs.Members.{not_in_nil, in_head, in_tail, in_cons_cases}
use Rattle.crp_tree.specs.Tree.{Tree}
use Rattle.crp_tree.specs.Names.{Precedes}
use Rattle.crp_tree.specs.Mark.{G, B, L}
use Rattle.crp_tree.specs.Trees.{is_given, Node, nodes, IsInPlace, IsGivenAway, least_value}
use Rattle.crp_tree.specs.Claims.{IsNeeded, given_by, IsPart, nodes_in}
use Rattle.crp_tree.specs.Parts.{ProblemPart, part_of, nodes_of, given_of, branches_in, names_of, IsKeptPart, Certificate, IsCertificate, IsAbout}
use Rattle.crp_tree.proofs.Lists.{in_map, from_map, in_flat_map}
use Rattle.crp_tree.proofs.Nodes.{from_given, in_given}
use Rattle.crp_tree.proofs.Kept.{nodes_at_name, part_nodes}
use Rattle.crp_tree.proofs.Accepted.{nodes_are}
use Rattle.crp_gather.specs.Settled.{IsPast, IsClosedBy, AreSettled, IsPastPart, IsSettledPart, branches_in_all, IsSettled, IsSettledTo}
use Rattle.crp_gather.proofs.TreesSettled.{all_past, IsMade}
use Rattle.crp_gather.proofs.Wholes.{given_flat}
use Rattle.crp_tree.proofs.InLine.{from_members}

-- ---- one part

-- what is made of a part whose tree is settled at its name
pub part_settled : (old new : ProblemPart) (plan : List ℕ) (p : Problem) (name path : List ℕ) (s : Position) (before tree : Tree) (floor : ℕ) → p ≡ old.problem → name ≡ old.name → path ≡ old.name → before ≡ old.tree → IsKeptPart old →
    IsAt old.problem old.name s → (IsPast plan path s → ⊥) → IsSettledTo p plan path s (nodes path s before) tree floor → new ≡ record { problem = p; name = name; tree = tree; floor = floor } → IsSettledPart plan old new
part_settled old new plan p name path s before tree floor p_is name_is path_is before_is kept a out to e =
    let olds : nodes path s before ≡ nodes_of old = ap (λ l. nodes l s before) path_is ∙ ap (nodes old.name s) before_is ∙ sym (nodes_at_name old s kept a) in
    let here : IsAt p name s = subst (λ q. IsAt q name s) (sym p_is) (subst (λ l. IsAt old.problem l s) (sym name_is) a) in
    let ok : IsProblem p = subst IsProblem (sym p_is) kept.is_problem in
    let news : nodes path s tree ≡ nodes_of new = ap (λ l. nodes l s tree) (path_is ∙ sym name_is) ∙ sym (ap nodes_of e ∙ nodes_are p (record { name = name; tree = tree }) s ok here) in
    record {
      problem_is = ap (λ (x : ProblemPart). x.problem) e ∙ p_is;
      name_is = ap (λ (x : ProblemPart). x.name) e ∙ name_is;
      not_past = λ past. out (subst (λ l. IsPast plan l s) (sym path_is) (subst (IsPast plan old.name) (same_at old.problem old.name past.0 s kept.is_problem past.1 a) past.2));
      nodes_are = subst (AreSettled plan (nodes_of old)) news (subst (λ l. AreSettled plan l (nodes path s tree)) olds to.settled);
    }

-- its name and that tree are those of a part, which shows the floor
pub record IsNewPart (p : Problem) (name : List ℕ) (tree : Tree) (floor : ℕ) : Type 0 where
  pub is_part : IsPart p (record { name = name; tree = tree })
  pub floor_is : floor ≡ least_value (cap p) (nodes_in p (record { name = name; tree = tree }))

pub new_part : (old : ProblemPart) (plan : List ℕ) (p : Problem) (name path : List ℕ) (s : Position) (before tree : Tree) (floor : ℕ) → p ≡ old.problem → name ≡ old.name → path ≡ old.name → before ≡ old.tree → IsKeptPart old → IsAt old.problem old.name s →
    IsMade p plan path s before tree floor → IsNewPart p name tree floor
new_part old plan p name path s before tree floor p_is name_is path_is before_is kept a m =
    let same : path ≡ name = path_is ∙ sym name_is in
    let here : IsAt p name s = subst (λ q. IsAt q name s) (sym p_is) (subst (λ l. IsAt old.problem l s) (sym name_is) a) in
    let ok : IsProblem p = subst IsProblem (sym p_is) kept.is_problem in
    let is = m.is in
    record {
      is_part = record {
        short = subst (λ l. length l ≤ 8) (sym name_is) kept.is_part.short;
        place = s;
        is_at = here;
        shape = record {
          fits = is.fits;
          in_place = subst (λ l. All IsInPlace (nodes l s tree)) same is.in_place;
          not_given = λ given. kept.is_part.shape.not_given (subst IsGivenAway before_is (m.own given));
        };
      };
      floor_is = is.floor_is ∙ ap (λ l. least_value (cap p) (nodes l s tree)) same ∙ ap (least_value (cap p)) (sym (nodes_are p (record { name = name; tree = tree }) s ok here));
    }

-- ---- part after part

-- the first i parts are settled
pub record AreHalfSettled (plan : List ℕ) (old : List ProblemPart) (i : ℕ) (new : List ProblemPart) : Type 0 where
  pub each : (part : ProblemPart) → Contains new part → (before : ProblemPart) × Contains (take i old) before × IsSettledPart plan before part
  pub stays : (before : ProblemPart) → Contains (take i old) before → (IsPastPart plan before → ⊥) → (part : ProblemPart) × Contains new part × IsSettledPart plan before part
  pub fewer : branches_in_all new ≤ branches_in_all (take i old)
  pub kept : All IsKeptPart new
  pub rising : AllPairs Precedes (names_of new)

pub none_settled : (plan : List ℕ) (old new : List ProblemPart) → new ≡ [] → AreHalfSettled plan old 0 new
none_settled plan old new none = rw none (record {
  each = λ part c. absurd (not_in_nil part c);
  stays = λ before c out. absurd (not_in_nil before c);
  fewer = omega arith;
  kept = All-nil IsKeptPart;
  rising = λ i j d lt within. absurd (omega arith);
})

-- one part more of the old
taken : (old : List ProblemPart) (i : ℕ) (x : ProblemPart) → i < length old → x ≡ get_or old i x → take (suc i) old ≡ take i old ++ x ∷ []
taken old i x lt is = take-suc old i x lt ∙ ap (λ y. take i old ++ y ∷ []) (sym is)

-- it is one of those before, or the new one
one_of : (old : List ProblemPart) (i : ℕ) (x z : ProblemPart) → i < length old → x ≡ get_or old i x → Contains (take (suc i) old) z → Contains (take i old) z ⊎ (x ≡ z)
one_of old i x z lt is c = ⊎_elim
    (λ h. inl h)
    (λ h. ⊎_elim (λ e. inr e) (λ none. absurd (not_in_nil z none)) (in_cons_cases x [] z h))
    (Contains-append_cases (take i old) (x ∷ []) z (subst (λ l. Contains l z) (taken old i x lt is) c))

more_old : (old : List ProblemPart) (i : ℕ) (x z : ProblemPart) → i < length old → x ≡ get_or old i x → Contains (take i old) z → Contains (take (suc i) old) z
more_old old i x z lt is c = subst (λ l. Contains l z) (sym (taken old i x lt is)) (Contains-append_left (take i old) (x ∷ []) z c)

-- the branches of one part more
pushed_branches : (xs : List ProblemPart) (x : ProblemPart) → branches_in_all (xs ++ x ∷ []) ≡ branches_in_all xs + length (branches_in x)
pushed_branches xs x = let b = λ (z : ProblemPart). length (branches_in z) in omega (arith, sum_by-append b xs (x ∷ []), sum_by-cons b x [])

more_branches : (old : List ProblemPart) (i : ℕ) (x : ProblemPart) → i < length old → x ≡ get_or old i x → branches_in_all (take (suc i) old) ≡ branches_in_all (take i old) + length (branches_in x)
more_branches old i x lt is = ap branches_in_all (taken old i x lt is) ∙ pushed_branches (take i old) x

-- a part whose name is past the plan falls away
pub one_gone : (plan : List ℕ) (old new : List ProblemPart) (i : ℕ) (x : ProblemPart) → i < length old → x ≡ get_or old i x → IsPastPart plan x → AreHalfSettled plan old i new → AreHalfSettled plan old (i + 1) new
one_gone plan old new i x lt is past h = rw add-one (record {
  each = λ part c. let b = h.each part c in (b.0, more_old old i x b.0 lt is b.1, b.2);
  stays = λ before c out. ⊎_elim (λ d. h.stays before d out) (λ e. absurd (out (subst (IsPastPart plan) e past))) (one_of old i x before lt is c);
  fewer = omega (arith, h.fewer, more_branches old i x lt is);
  kept = h.kept;
  rising = h.rising;
})

-- an earlier part of those that rise comes first
earlier_first : (old : List ProblemPart) (i : ℕ) (x z : ProblemPart) → AllPairs Precedes (names_of old) → i < length old → x ≡ get_or old i x → Contains (take i old) z → Precedes z.name x.name
earlier_first old i x z rising lt is c =
    let j : ℕ = c.0 in
    let within : j < i = omega (arith, c.1, length-take i old) in
    let there : get_or old j z ≡ z = sym (get_or-take i old j z within) ∙ c.2 in
    let r = rising j i [] within (omega (arith, length-map old (λ (y : ProblemPart). y.name))) in
    let a = subst (λ n. Precedes n (get_or (names_of old) i [])) (get_or-map (λ (y : ProblemPart). y.name) old j z [] (omega arith) ∙ ap (λ (y : ProblemPart). y.name) there) r in
    subst (Precedes z.name) (get_or-map (λ (y : ProblemPart). y.name) old i x [] lt ∙ ap (λ (y : ProblemPart). y.name) (sym is)) a

-- another stays
pub one_there : (plan : List ℕ) (old new more : List ProblemPart) (i : ℕ) (x y : ProblemPart) → AllPairs Precedes (names_of old) → i < length old → x ≡ get_or old i x → IsSettledPart plan x y → IsKeptPart y → more ≡ new ++ y ∷ [] →
    AreHalfSettled plan old i new → AreHalfSettled plan old (i + 1) more
one_there plan old new more i x y up lt is settled kept more_is h = rw (add-one, more_is) (record {
  each = λ part c. ⊎_elim
      (λ d. let b = h.each part d in (b.0, more_old old i x b.0 lt is b.1, b.2))
      (λ d. ⊎_elim
      (λ e. (x, subst (λ l. Contains l x) (sym (taken old i x lt is)) (Contains-append_right (take i old) (x ∷ []) x (in_head x [])), subst (IsSettledPart plan x) e settled))
      (λ none. absurd (not_in_nil part none))
      (in_cons_cases y [] part d))
      (Contains-append_cases new (y ∷ []) part c);
  stays = λ before c out. ⊎_elim
      (λ d. let b = h.stays before d out in (b.0, Contains-append_left new (y ∷ []) b.0 b.1, b.2))
      (λ e. (y, Contains-append_right new (y ∷ []) y (in_head y []), subst (λ b. IsSettledPart plan b y) e settled))
      (one_of old i x before lt is c);
  fewer = let are = settled.nodes_are in omega (arith, h.fewer, are.fewer, more_branches old i x lt is, pushed_branches new y);
  kept = All-push IsKeptPart new y h.kept kept;
  rising = subst (AllPairs Precedes) (sym (map-append (λ (z : ProblemPart). z.name) new (y ∷ []))) (all_pairs_push Precedes (names_of new) y.name h.rising (λ k d within.
      let few : k < length new = omega (arith, length-map new (λ (z : ProblemPart). z.name)) in
      let z : ProblemPart = get_or new k y in
      let c : Contains new z = (k, few, get_or_default new k z y few) in
      let b = h.each z c in
      let from = b.2 in
      let first = earlier_first old i x b.0 up lt is b.1 in
      subst (λ n. Precedes n y.name) (sym (get_or-map (λ (w : ProblemPart). w.name) new k y d few)) (subst (λ n. Precedes n y.name) (sym from.name_is) (subst (Precedes (b.0).name) (sym settled.name_is) first))));
})

-- ---- the certificate

-- what is of one of the lists that are made of some members is of the list of one of them
from_flat_map : {A C : Type 0} (f : A → List C) (xs : List A) (y : C) → Contains (flat_map f xs) y → (x : A) × Contains xs x × Contains (f x) y
from_flat_map f [] y c = absurd (not_in_nil y c)
from_flat_map f (x ∷ xs) y c = ⊎_elim
    (λ h. (x, in_head x xs, h))
    (λ h. let r = from_flat_map f xs y h in (r.0, in_tail x xs r.0 r.1, r.2))
    (Contains-append_cases (f x) (flat_map f xs) y c)

-- a name that parts give, one of them gives at a node
record Gives (parts : List ProblemPart) (name : List ℕ) : Type 0 where
  giver : ProblemPart
  stands : Contains parts giver
  node : Node
  is_node : Contains (nodes_of giver) node
  mark : node.mark ≡ G
  path : node.path ≡ name

gives : (p : Problem) (parts : List ProblemPart) (name : List ℕ) → All (λ x. x.problem ≡ p) parts → Contains (flat_map (given_by p) (map part_of parts)) name → Gives parts name
gives p parts name same c =
    let r = from_flat_map given_of parts name (subst (λ l. Contains l name) (sym (given_flat p parts same)) c) in
    let f = from_given (nodes_of r.0) name r.2 in
    record { giver = r.0; stands = r.1; node = f.0; is_node = f.1; mark = f.2; path = f.3 }

given : (p : Problem) (parts : List ProblemPart) (name : List ℕ) → All (λ x. x.problem ≡ p) parts → Gives parts name → Contains (flat_map (given_by p) (map part_of parts)) name
given p parts name same g =
    subst (λ l. Contains l name) (given_flat p parts same)
    (in_flat_map given_of parts g.giver name g.stands (subst (Contains (given_of g.giver)) g.path (in_given (nodes_of g.giver) g.node g.is_node g.mark)))

-- the root is never past a plan
not_root : (plan : List ℕ) (x : ProblemPart) → x.name ≡ [] → IsPastPart plan x → ⊥
not_root plan x root past =
    let at : IsPast plan x.name past.0 = past.2 in
    ⊎_elim
    (λ g. omega (arith, ap length (sym root ∙ g.is), length-append plan (g.row ∷ g.rest)))
    (λ t. omega (arith, ap length (sym root ∙ t.is_other), length-append t.common (t.high ∷ t.after_high)))
    at.after

-- a node that is given away is not closed by the plan
not_closed : (plan : List ℕ) (n : Node) → n.mark ≡ G → IsClosedBy plan n → ⊥
not_closed plan n mark is = ⊎_elim (λ b. let t : is_given G ≡ is_given B = ap is_given (sym mark ∙ b.0) in cc) (λ l. let t : is_given G ≡ is_given L = ap is_given (sym mark ∙ l.0) in cc) is

-- a certificate about a problem, and its parts as they are settled
record Facts (p : Problem) (plan : List ℕ) (old new : Certificate) : Type 0 where
  about : IsAbout p old
  settled : IsSettled plan old new
  same : All (λ x. x.problem ≡ p) new.parts

-- a node at which an old part gives a name is past the plan where a part of that name is
node_past : (p : Problem) (plan : List ℕ) (old new : Certificate) (x z : ProblemPart) (n : Node) → Facts p plan old new → Contains old.parts x → Contains old.parts z → Contains (nodes_of z) n → n.path ≡ x.name → IsPastPart plan x → IsPast plan n.path n.place
node_past p plan old new x z n facts cx cz cn path past =
    let about = facts.about in
    let kept = All-contains IsKeptPart old.parts z about.kept cz in
    let a : IsAt z.problem n.path n.place = All-contains (λ (i : Node). IsAt z.problem i.path i.place) (nodes_of z) n (part_nodes z kept) cn in
    let same : z.problem ≡ x.problem = All-contains (λ (y : ProblemPart). y.problem ≡ p) old.parts z about.of_problem cz ∙ sym (All-contains (λ (y : ProblemPart). y.problem ≡ p) old.parts x about.of_problem cx) in
    let there : IsAt x.problem x.name n.place = subst (λ q. IsAt q x.name n.place) same (subst (λ l. IsAt z.problem l n.place) path a) in
    let ok : IsProblem x.problem = subst IsProblem same kept.is_problem in
    subst (λ l. IsPast plan l n.place) (sym path) (subst (IsPast plan x.name) (same_at x.problem x.name past.0 n.place ok past.1 there) past.2)

-- and the other way round
part_past : (p : Problem) (plan : List ℕ) (old new : Certificate) (x z : ProblemPart) (n : Node) → Facts p plan old new → Contains old.parts x → Contains old.parts z → Contains (nodes_of z) n → n.path ≡ x.name → IsPast plan n.path n.place → IsPastPart plan x
part_past p plan old new x z n facts cx cz cn path past =
    let about = facts.about in
    let kept = All-contains IsKeptPart old.parts z about.kept cz in
    let a : IsAt z.problem n.path n.place = All-contains (λ (i : Node). IsAt z.problem i.path i.place) (nodes_of z) n (part_nodes z kept) cn in
    let same : z.problem ≡ x.problem = All-contains (λ (y : ProblemPart). y.problem ≡ p) old.parts z about.of_problem cz ∙ sym (All-contains (λ (y : ProblemPart). y.problem ≡ p) old.parts x about.of_problem cx) in
    (n.place, subst (λ q. IsAt q x.name n.place) same (subst (λ l. IsAt z.problem l n.place) path a), subst (λ l. IsPast plan l n.place) path past)

-- all nodes of a part whose name is past the plan are
nodes_past : (plan : List ℕ) (z : ProblemPart) (n : Node) → IsKeptPart z → Contains (nodes_of z) n → IsPastPart plan z → IsPast plan n.path n.place
nodes_past plan z n kept cn past =
    all_past z.problem plan z.name past.0 z.tree n kept.is_problem past.1 past.2 (subst (λ l. Contains l n) (nodes_at_name z past.0 kept past.1) cn)

-- an old part that stays has its name among the new ones
name_stays : (p : Problem) (plan : List ℕ) (old new : Certificate) (x : ProblemPart) (name : List ℕ) → Facts p plan old new → Contains old.parts x → x.name ≡ name → (IsPastPart plan x → ⊥) → Contains (names_of new.parts) name
name_stays p plan old new x name facts c is out =
    let settled = facts.settled in
    let v = settled.stays x c out in
    let s = v.2 in
    subst (Contains (names_of new.parts)) (s.name_is ∙ is) (in_map (λ (y : ProblemPart). y.name) new.parts v.0 v.1)

-- a name that is there is needed
still_needed : (p : Problem) (plan : List ℕ) (old new : Certificate) (name : List ℕ) → Facts p plan old new → Contains (names_of new.parts) name → IsNeeded p (map part_of new.parts) name
still_needed p plan old new name facts c =
    let about = facts.about in
    let settled = facts.settled in
    let y = from_map (λ (x : ProblemPart). x.name) new.parts name c in
    let b = settled.each y.0 y.1 in
    let x : ProblemPart = b.0 in
    let set : IsSettledPart plan x y.0 = b.2 in
    let is : x.name ≡ name = sym set.name_is ∙ y.2 in
    ⊎_elim
    (λ root. inl root)
    (λ d.
    let g = gives p old.parts name about.of_problem d in
    let n : Node = g.node in
    let out : IsPast plan n.path n.place → ⊥ = λ past. set.not_past (part_past p plan old new x g.giver n facts b.1 g.stands g.is_node (g.path ∙ sym is) past) in
    let kept = All-contains IsKeptPart old.parts g.giver about.kept g.stands in
    let v = settled.stays g.giver g.stands (λ past. out (nodes_past plan g.giver n kept g.is_node past)) in
    let s = v.2 in
    let are = s.nodes_are in
    inr (given p new.parts name facts.same (record { giver = v.0; stands = v.1; node = n; is_node = (are.others n out).1 g.is_node; mark = g.mark; path = g.path })))
    ((about.as_needed name).0 (subst (Contains (names_of old.parts)) is (in_map (λ (z : ProblemPart). z.name) old.parts x b.1)))

-- and a needed one is there
still_there : (p : Problem) (plan : List ℕ) (old new : Certificate) (name : List ℕ) → Facts p plan old new → IsNeeded p (map part_of new.parts) name → Contains (names_of new.parts) name
still_there p plan old new name facts needed =
    let about = facts.about in
    let settled = facts.settled in
    ⊎_elim
    (λ root.
    let x = from_map (λ (z : ProblemPart). z.name) old.parts name ((about.as_needed name).1 (inl root)) in
    name_stays p plan old new x.0 name facts x.1 x.2 (not_root plan x.0 (x.2 ∙ root)))
    (λ d.
    let g = gives p new.parts name facts.same d in
    let n : Node = g.node in
    let b = settled.each g.giver g.stands in
    let z : ProblemPart = b.0 in
    let set : IsSettledPart plan z g.giver = b.2 in
    let are = set.nodes_are in
    let out : IsPast plan n.path n.place → ⊥ = λ past. not_closed plan n g.mark (are.past n g.is_node past) in
    let was : Contains (nodes_of z) n = (are.others n out).0 g.is_node in
    let old_given = given p old.parts name about.of_problem (record { giver = z; stands = b.1; node = n; is_node = was; mark = g.mark; path = g.path }) in
    let x = from_map (λ (y : ProblemPart). y.name) old.parts name ((about.as_needed name).1 (inr old_given)) in
    name_stays p plan old new x.0 name facts x.1 x.2 (λ past. out (node_past p plan old new x.0 z n facts x.1 b.1 was (g.path ∙ sym x.2) past)))
    needed

-- all parts are settled
pub all_settled : (plan : List ℕ) (old new : Certificate) (list : List ProblemPart) (i : ℕ) → length old.parts ≤ i → new.parts ≡ list → AreHalfSettled plan old.parts i list → IsSettled plan old new
all_settled plan old new list i done e h =
    let whole : take i old.parts ≡ old.parts = take_all i old.parts done in
    record {
      each = λ part c. let b = h.each part (subst (λ l. Contains l part) e c) in (b.0, subst (λ l. Contains l b.0) whole b.1, b.2);
      stays = λ before c out. let b = h.stays before (subst (λ l. Contains l before) (sym whole) c) out in (b.0, subst (λ l. Contains l b.0) (sym e) b.1, b.2);
      fewer = let less = h.fewer in omega (arith, ap branches_in_all e, ap branches_in_all whole);
    }

-- they are about the problem
same_problem : (p : Problem) (plan : List ℕ) (old new : Certificate) → IsAbout p old → IsSettled plan old new → All (λ x. x.problem ≡ p) new.parts
same_problem p plan old new about settled = from_members (λ x. x.problem ≡ p) new.parts (λ x c.
    let b = settled.each x c in
    let s = b.2 in
    s.problem_is ∙ All-contains (λ (y : ProblemPart). y.problem ≡ p) old.parts b.0 about.of_problem b.1)

-- and make a certificate about it
pub about_settled : (p : Problem) (plan : List ℕ) (old new : Certificate) → IsAbout p old → IsSettled plan old new → All IsKeptPart new.parts → IsCertificate new → IsAbout p new
about_settled p plan old new about settled kept cert =
    let facts : Facts p plan old new = record { about = about; settled = settled; same = same_problem p plan old new about settled } in
    record {
      is_problem = about.is_problem;
      certificate = cert;
      of_problem = facts.same;
      kept = kept;
      as_needed = λ name. (λ c. still_needed p plan old new name facts c, λ n. still_there p plan old new name facts n);
    }

-- there is one part at least: the root
pub some_settled : (p : Problem) (plan : List ℕ) (old : Certificate) (list : List ProblemPart) (i : ℕ) → IsAbout p old → length old.parts ≤ i → AreHalfSettled plan old.parts i list → 0 < length list
some_settled p plan old list i about done h =
    let whole : take i old.parts ≡ old.parts = take_all i old.parts done in
    let x = from_map (λ (z : ProblemPart). z.name) old.parts [] ((about.as_needed []).1 (inl refl)) in
    let v = h.stays x.0 (subst (λ l. Contains l x.0) (sym whole) x.1) (not_root plan x.0 x.2) in
    let c = v.1 in
    omega (arith, c.1)

-- what the loop has found, of the certificate's parts and of those that are made of what it found
pub half_of : (plan : List ℕ) (items old : List ProblemPart) (i : ℕ) (new list : List ProblemPart) → items ≡ old → list ≡ new → length items ≤ i → AreHalfSettled plan items i new → (length old ≤ i) × AreHalfSettled plan old i list
half_of plan items old i new list items_are list_is done h =
    (subst (λ l. length l ≤ i) items_are done, subst (AreHalfSettled plan old i) (sym list_is) (subst (λ l. AreHalfSettled plan l i new) items_are h))
