-- The nodes of a tree: where they stand, their order, and how they go on from each other.
use Rattle.std.proofs.Common.{◌≡◌, ℕ, ◌+◌, ◌<◌, ◌≤◌, inl, inr, ⊎_elim, true, false, List, [], ◌∷◌, ◌++◌, length, map, filter, Contains, All, sym, ap, ◌∙◌, refl, subst, arith, append_assoc, append-nil, length-append}
use Rattle.std.specs.List.{AllPairs}
use Rattle.std.proofs.lemmas.List.{map-append}
use Rattle.std.proofs.lemmas.List.Elements.{All-nil, All-cons, All-append, All-weaker, All-contains, filter-append, Contains-append_cases, Contains-append_left, Contains-append_right}
use Rattle.std.proofs.lemmas.List.Kept.{AllPairs-filter}
use Rattle.crp_plan.specs.Bay.{Problem, IsProblem, Position, IsAt, IsLegalRow}
use Rattle.crp_bay.specs.Positions.{targets, child}
use Rattle.crp_bay.proofs.Walked.{target_goes_on}
use Rattle.crp_bay.proofs.Reaching.{targets_legal}
use Rattle.crp_bay.proofs.Members.{not_in_nil, in_head, in_tail, in_cons_cases, in_filter, from_filter}
use Rattle.crp_bounds.specs.Bounds.{look_ahead}
use Rattle.crp_bounds.proofs.Bounding.{ahead_path}
use Rattle.crp_tree.specs.Tree.{Tree, CutB, CutL, CutR, Branch, Given, Trees, no_trees, one_and, items}
use Rattle.crp_tree.specs.Names.{GoesOn, Precedes}
use Rattle.crp_tree.specs.Mark.{Mark, B, L, R, X, G}
use Rattle.crp_tree.specs.Trees.{Node, nodes, nodes_of_each, Fits, FitsEach, is_branch, is_given, given_names, MayStand, IsInPlace, IsGivenAway, Begins}
use Rattle.crp_tree.specs.Listed.{nodes_below}
use Rattle.crp_tree.proofs.Listed.{list_nodes}
use Rattle.crp_tree.proofs.Lists.{in_map, from_map}
use Rattle.crp_tree.proofs.Givers.{begins_on, shorter_begins, same_length, begins_short}
use Rattle.crp_tree.proofs.InLine.{InOrder, in_order_append, all_pairs, in_order_map, targets_in_order}
use Rattle.crp_plan.proofs.Lists.{snoc_parts}

-- ---- what holds at each node

-- what holds at a path still holds where the path goes on by a legal row
abbrev pub GoesOnBy : (List ℕ → Position → Type 0) → Type 0
GoesOnBy Q = (path : List ℕ) (s : Position) (row : ℕ) → Q path s → Contains (targets s) row → Q (path ++ row ∷ []) (child s row)

-- it holds at the node
abbrev pub At : (List ℕ → Position → Type 0) → Node → Type 0
At Q n = Q n.path n.place

mutual
  -- what goes on by legal rows holds at each node
  pub at_nodes : (Q : List ℕ → Position → Type 0) → GoesOnBy Q → (path : List ℕ) (s : Position) (tree : Tree) → Q path s → All (At Q) (nodes path s tree)
  at_nodes Q on path s CutB q = All-cons (At Q) (record { path = path; place = s; mark = B }) [] q (All-nil (At Q))
  at_nodes Q on path s CutL q = All-cons (At Q) (record { path = path; place = s; mark = L }) [] q (All-nil (At Q))
  at_nodes Q on path s (CutR bound text) q = All-cons (At Q) (record { path = path; place = s; mark = R bound text }) [] q (All-nil (At Q))
  at_nodes Q on path s Given q = All-cons (At Q) (record { path = path; place = s; mark = G }) [] q (All-nil (At Q))
  at_nodes Q on path s (Branch all) q =
      All-cons (At Q) (record { path = path; place = s; mark = X }) (nodes_of_each path s (targets s) all) q (at_each Q on path s (targets s) (λ r k. k) all q)

  pub at_each : (Q : List ℕ → Position → Type 0) → GoesOnBy Q → (path : List ℕ) (s : Position) (rows : List ℕ) → ((r : ℕ) → Contains rows r → Contains (targets s) r) → (all : Trees) → Q path s →
      All (At Q) (nodes_of_each path s rows all)
  at_each Q on path s [] sub no_trees q = All-nil (At Q)
  at_each Q on path s [] sub (one_and tree trees) q = All-nil (At Q)
  at_each Q on path s (row ∷ rows) sub no_trees q = All-nil (At Q)
  at_each Q on path s (row ∷ rows) sub (one_and tree trees) q =
      All-append (At Q) (nodes (path ++ row ∷ []) (child s row) tree) (nodes_of_each path s rows trees)
      (at_nodes Q on (path ++ row ∷ []) (child s row) tree (on path s row q (sub row (in_head row rows))))
      (at_each Q on path s rows (λ r k. sub r (in_tail row rows r k)) trees q)

-- what is known of the nodes of a tree at a path of the problem: each is at its path, and length and look-ahead are no less there
pub record StandsAt (p : Problem) (least : ℕ) (path : List ℕ) (s : Position) : Type 0 where
  pub is_at : IsAt p path s
  pub high : least ≤ length path + look_ahead s

pub nodes_stand : (p : Problem) (path : List ℕ) (s : Position) (tree : Tree) → IsProblem p → IsAt p path s → All (At (StandsAt p (length path + look_ahead s))) (nodes path s tree)
nodes_stand p path s tree ok a = at_nodes (StandsAt p (length path + look_ahead s)) (on p (length path + look_ahead s) ok) path s tree (record { is_at = a; high = omega arith })
  where
    on : (p : Problem) (least : ℕ) → IsProblem p → GoesOnBy (StandsAt p least)
    on p least ok path s row q c =
        let a = target_goes_on p path s row ok q.is_at c in
        let step = ahead_path p path row s (child s row) ok q.is_at a in
        let below = q.high in
        record { is_at = a; high = omega (arith, length-append path (row ∷ [])) }

-- each is at its path
pub nodes_at : (p : Problem) (path : List ℕ) (s : Position) (tree : Tree) → IsProblem p → IsAt p path s → All (λ n. IsAt p n.path n.place) (nodes path s tree)
nodes_at p path s tree ok a = All-weaker (At (StandsAt p (length path + look_ahead s))) (λ n. IsAt p n.path n.place) (λ n q. q.is_at) (nodes path s tree) (nodes_stand p path s tree ok a)

-- each path begins with that of the tree
pub nodes_begin : (path : List ℕ) (s : Position) (tree : Tree) → All (λ n. Begins n.path path) (nodes path s tree)
nodes_begin path s tree =
    at_nodes (λ q t. Begins q path) (λ q t row b c. (b.0 ++ row ∷ [], ap (λ l. l ++ row ∷ []) b.1 ∙ append_assoc path b.0 (row ∷ []))) path s tree ([], sym (append-nil path))

-- a path that goes on by one of the rows
abbrev pub GoesBy : List ℕ → List ℕ → List ℕ → Type 0
GoesBy path rows g = (row : ℕ) × Contains rows row × Begins g (path ++ row ∷ [])

-- those of the trees below some rows go on by one of the rows
pub below_goes : (path : List ℕ) (s : Position) (rows : List ℕ) (trees : List Tree) → All (λ n. GoesBy path rows n.path) (nodes_below path s rows trees)
below_goes path s [] trees = All-nil (λ (n : Node). GoesBy path [] n.path)
below_goes path s (row ∷ rows) [] = All-nil (λ (n : Node). GoesBy path (row ∷ rows) n.path)
below_goes path s (row ∷ rows) (tree ∷ trees) =
    All-append (λ n. GoesBy path (row ∷ rows) n.path) (nodes (path ++ row ∷ []) (child s row) tree) (nodes_below path s rows trees)
    (All-weaker (λ n. Begins n.path (path ++ row ∷ [])) (λ n. GoesBy path (row ∷ rows) n.path) (λ n b. (row, in_head row rows, b)) (nodes (path ++ row ∷ []) (child s row) tree) (nodes_begin (path ++ row ∷ []) (child s row) tree))
    (All-weaker (λ n. GoesBy path rows n.path) (λ n. GoesBy path (row ∷ rows) n.path) (λ n g. (g.0, in_tail row rows g.0 g.1, g.2)) (nodes_below path s rows trees) (below_goes path s rows trees))

-- the same of one of them
node_begins : (path : List ℕ) (s : Position) (tree : Tree) (n : Node) → Contains (nodes path s tree) n → Begins n.path path
node_begins path s tree n c = All-contains (λ (k : Node). Begins k.path path) (nodes path s tree) n (nodes_begin path s tree) c

node_goes : (path : List ℕ) (s : Position) (rows : List ℕ) (all : Trees) (n : Node) → Contains (nodes_of_each path s rows all) n → GoesBy path rows n.path
node_goes path s rows all n c =
    All-contains (λ (k : Node). GoesBy path rows k.path) (nodes_below path s rows (items all)) n (below_goes path s rows (items all)) (subst (λ l. Contains l n) (list_nodes path s rows all) c)

-- ---- their order

-- the first node's path comes before the second's
abbrev pub Rises : Node → Node → Type 0
Rises m n = Precedes m.path n.path

-- a path that goes on by a row comes after the path
goes_first : (path g : List ℕ) (row : ℕ) → Begins g (path ++ row ∷ []) → GoesOn path g
goes_first path g row b = record { row = row; rest = b.0; is = b.1 ∙ append_assoc path (row ∷ []) b.0 }

-- what goes on by a lower row comes first
lower_first : (path g h : List ℕ) (r q : ℕ) → Begins g (path ++ r ∷ []) → Begins h (path ++ q ∷ []) → r < q → Precedes g h
lower_first path g h r q a b lt = inr (record {
  common = path;
  low = r;
  high = q;
  after_low = a.0;
  after_high = b.0;
  lower = lt;
  is_name = a.1 ∙ append_assoc path (r ∷ []) a.0;
  is_other = b.1 ∙ append_assoc path (q ∷ []) b.0;
})

mutual
  -- the nodes rise
  nodes_in_order : (path : List ℕ) (s : Position) (tree : Tree) → InOrder Rises (nodes path s tree)
  nodes_in_order path s CutB = (λ n c. absurd (not_in_nil n c), tt)
  nodes_in_order path s CutL = (λ n c. absurd (not_in_nil n c), tt)
  nodes_in_order path s (CutR bound text) = (λ n c. absurd (not_in_nil n c), tt)
  nodes_in_order path s Given = (λ n c. absurd (not_in_nil n c), tt)
  nodes_in_order path s (Branch all) =
      (λ n c. let g = node_goes path s (targets s) all n c in inl (goes_first path n.path g.0 g.2), each_in_order path s (targets s) (targets_in_order s) all)

  each_in_order : (path : List ℕ) (s : Position) (rows : List ℕ) → InOrder ◌<◌ rows → (all : Trees) → InOrder Rises (nodes_of_each path s rows all)
  each_in_order path s [] up no_trees = tt
  each_in_order path s [] up (one_and tree trees) = tt
  each_in_order path s (row ∷ rows) up no_trees = tt
  each_in_order path s (row ∷ rows) up (one_and tree trees) =
      in_order_append Rises (nodes (path ++ row ∷ []) (child s row) tree) (nodes_of_each path s rows trees)
      (nodes_in_order (path ++ row ∷ []) (child s row) tree) (each_in_order path s rows up.1 trees)
      (λ m n c d. let v = node_goes path s rows trees n d in lower_first path m.path n.path row v.0 (node_begins (path ++ row ∷ []) (child s row) tree m c) v.2 (up.0 v.0 v.1))

pub nodes_rise : (path : List ℕ) (s : Position) (tree : Tree) → AllPairs Rises (nodes path s tree)
nodes_rise path s tree = all_pairs Rises (nodes path s tree) (nodes_in_order path s tree)

-- so do their paths, and the given names
pub paths_rise : (path : List ℕ) (s : Position) (tree : Tree) → AllPairs Precedes (map (λ node. node.path) (nodes path s tree))
paths_rise path s tree = in_order_map Precedes (λ (n : Node). n.path) (nodes path s tree) (nodes_rise path s tree)

pub given_rise : (path : List ℕ) (s : Position) (tree : Tree) → AllPairs Precedes (given_names (nodes path s tree))
given_rise path s tree =
    in_order_map Precedes (λ (n : Node). n.path) (filter (λ (n : Node). is_given n.mark) (nodes path s tree)) (AllPairs-filter Rises (λ n. is_given n.mark) (nodes path s tree) (nodes_rise path s tree))

-- ---- below a branch

-- the nodes have one at the path
abbrev pub HasPath : List Node → List ℕ → Type 0
HasPath list g = (n : Node) × Contains list n × (n.path ≡ g)

-- a tree has one at its own
pub own_node : (path : List ℕ) (s : Position) (tree : Tree) → HasPath (nodes path s tree) path
own_node path s CutB = (_, in_head _ [], refl)
own_node path s CutL = (_, in_head _ [], refl)
own_node path s (CutR bound text) = (_, in_head _ [], refl)
own_node path s Given = (_, in_head _ [], refl)
own_node path s (Branch all) = (_, in_head _ (nodes_of_each path s (targets s) all), refl)

-- one list's node is the other's
among : (xs ys : List Node) (g : List ℕ) → ((n : Node) → Contains xs n → Contains ys n) → HasPath xs g → HasPath ys g
among xs ys g sub h = (h.0, sub h.0 h.1, h.2)

-- trees that fit have one below each of the rows
below_rows : (path : List ℕ) (s : Position) (rows : List ℕ) (all : Trees) (row : ℕ) → FitsEach s rows all → Contains rows row → HasPath (nodes_of_each path s rows all) (path ++ row ∷ [])
below_rows path s [] no_trees row fits c = absurd (not_in_nil row c)
below_rows path s [] (one_and tree trees) row fits c = absurd fits
below_rows path s (r ∷ rows) no_trees row fits c = absurd fits
below_rows path s (r ∷ rows) (one_and tree trees) row fits c = ⊎_elim
    (λ e. subst (λ x. HasPath (nodes (path ++ r ∷ []) (child s r) tree ++ nodes_of_each path s rows trees) (path ++ x ∷ [])) e
    (among (nodes (path ++ r ∷ []) (child s r) tree) _ (path ++ r ∷ []) (λ n k. Contains-append_left _ _ n k) (own_node (path ++ r ∷ []) (child s r) tree)))
    (λ c'. among (nodes_of_each path s rows trees) _ (path ++ row ∷ []) (λ n k. Contains-append_right _ _ n k) (below_rows path s rows trees row fits.1 c'))
    (in_cons_cases r rows row c)

-- another mark is not a branch's
not_branch : (m : Mark) (n : Node) (path : List ℕ) (s : Position) → is_branch m ≡ false → Contains (record { path = path; place = s; mark = m } ∷ []) n → n.mark ≡ X → ⊥
not_branch m n path s other c e = ⊎_elim
    (λ same. let t : is_branch m ≡ true = ap (λ (k : Node). is_branch k.mark) same ∙ ap is_branch e in let f = other in cc)
    (λ none. not_in_nil n none)
    (in_cons_cases (record { path = path; place = s; mark = m }) [] n c)

mutual
  -- a branch of a tree that fits has a node below it at each legal row
  pub child_node : (path : List ℕ) (s : Position) (tree : Tree) (n : Node) (row : ℕ) → Fits s tree → Contains (nodes path s tree) n → n.mark ≡ X → Contains (targets n.place) row → HasPath (nodes path s tree) (n.path ++ row ∷ [])
  child_node path s CutB n row fits c is r = absurd (not_branch B n path s refl c is)
  child_node path s CutL n row fits c is r = absurd (not_branch L n path s refl c is)
  child_node path s (CutR bound text) n row fits c is r = absurd (not_branch (R bound text) n path s refl c is)
  child_node path s Given n row fits c is r = absurd (not_branch G n path s refl c is)
  child_node path s (Branch all) n row fits c is r = ⊎_elim
      (λ e. subst (λ (k : Node). HasPath (nodes path s (Branch all)) (k.path ++ row ∷ [])) e
      (among (nodes_of_each path s (targets s) all) (nodes path s (Branch all)) (path ++ row ∷ []) (λ k h. in_tail _ _ k h)
      (below_rows path s (targets s) all row fits (subst (λ (k : Node). Contains (targets k.place) row) (sym e) r))))
      (λ c'. among (nodes_of_each path s (targets s) all) (nodes path s (Branch all)) (n.path ++ row ∷ []) (λ k h. in_tail _ _ k h) (child_of_each path s (targets s) all n row fits c' is r))
      (in_cons_cases (record { path = path; place = s; mark = X }) (nodes_of_each path s (targets s) all) n c)

  child_of_each : (path : List ℕ) (s : Position) (rows : List ℕ) (all : Trees) (n : Node) (row : ℕ) → FitsEach s rows all → Contains (nodes_of_each path s rows all) n → n.mark ≡ X → Contains (targets n.place) row →
      HasPath (nodes_of_each path s rows all) (n.path ++ row ∷ [])
  child_of_each path s [] no_trees n row fits c is r = absurd (not_in_nil n c)
  child_of_each path s [] (one_and tree trees) n row fits c is r = absurd fits
  child_of_each path s (q ∷ rows) no_trees n row fits c is r = absurd fits
  child_of_each path s (q ∷ rows) (one_and tree trees) n row fits c is r = ⊎_elim
      (λ h. among (nodes (path ++ q ∷ []) (child s q) tree) _ (n.path ++ row ∷ []) (λ k. Contains-append_left _ _ k) (child_node (path ++ q ∷ []) (child s q) tree n row fits.0 h is r))
      (λ h. among (nodes_of_each path s rows trees) _ (n.path ++ row ∷ []) (λ k. Contains-append_right _ _ k) (child_of_each path s rows trees n row fits.1 h is r))
      (Contains-append_cases _ _ n c)

-- so the nodes right below a branch are those at the legal rows of its path
pub below_branch : (p : Problem) (path : List ℕ) (s : Position) (tree : Tree) (n : Node) (row : ℕ) → IsProblem p → IsAt p path s → Fits s tree → Contains (nodes path s tree) n → n.mark ≡ X →
    (HasPath (nodes path s tree) (n.path ++ row ∷ []) → IsLegalRow p n.path row) × (IsLegalRow p n.path row → HasPath (nodes path s tree) (n.path ++ row ∷ []))
below_branch p path s tree n row ok a fits c is =
    let stands : (k : Node) → Contains (nodes path s tree) k → IsAt p k.path k.place = λ k d. All-contains (λ (i : Node). IsAt p i.path i.place) (nodes path s tree) k (nodes_at p path s tree ok a) d in (
      λ h. let other : Node = h.0 in (other.place, subst (λ l. IsAt p l other.place) h.2 (stands other h.1)),
      λ legal. child_node path s tree n row fits c is ((targets_legal n.place p n.path row ok (stands n c)).1 legal),
    )

-- ---- below another node

-- two steps from one path that lead to one name are the same
same_step : (path g : List ℕ) (r q : ℕ) → Begins g (path ++ r ∷ []) → Begins g (path ++ q ∷ []) → r ≡ q
same_step path g r q a b =
    let l : length (path ++ r ∷ []) ≡ length (path ++ q ∷ []) = omega (arith, length-append path (r ∷ []), length-append path (q ∷ [])) in
    let e : path ++ r ∷ [] ≡ path ++ q ∷ [] = same_length (path ++ r ∷ []) (path ++ q ∷ []) (shorter_begins g (path ++ r ∷ []) (path ++ q ∷ []) a b (omega arith)) l in
    (snoc_parts path path r q e).1

-- a list of one node has one path
one_path : (k m n : Node) → Contains (k ∷ []) m → Contains (k ∷ []) n → n.path ≡ m.path
one_path k m n c d = ⊎_elim
    (λ e. ⊎_elim (λ f. ap (λ (i : Node). i.path) (sym f ∙ e)) (λ none. absurd (not_in_nil n none)) (in_cons_cases k [] n d))
    (λ none. absurd (not_in_nil m none))
    (in_cons_cases k [] m c)

mutual
  -- no node's path goes on from that of a node that is not a branch
  pub apart : (path : List ℕ) (s : Position) (tree : Tree) (m n : Node) → Contains (nodes path s tree) m → Contains (nodes path s tree) n → (m.mark ≡ X → ⊥) → Begins n.path m.path → n.path ≡ m.path
  apart path s CutB m n c d leaf b = one_path _ m n c d
  apart path s CutL m n c d leaf b = one_path _ m n c d
  apart path s (CutR bound text) m n c d leaf b = one_path _ m n c d
  apart path s Given m n c d leaf b = one_path _ m n c d
  apart path s (Branch all) m n c d leaf b = ⊎_elim
      (λ e. absurd (leaf (sym (ap (λ (k : Node). k.mark) e))))
      (λ c'. ⊎_elim
      (λ e. absurd (
      let u = node_goes path s (targets s) all m c' in
      let own : path ≡ n.path = ap (λ (k : Node). k.path) e in
      omega (arith, ap length own, begins_short n.path m.path b, begins_short m.path (path ++ u.0 ∷ []) u.2, length-append path (u.0 ∷ []))))
      (λ d'. each_apart path s (targets s) (targets_in_order s) all m n c' d' leaf b)
      (in_cons_cases (record { path = path; place = s; mark = X }) (nodes_of_each path s (targets s) all) n d))
      (in_cons_cases (record { path = path; place = s; mark = X }) (nodes_of_each path s (targets s) all) m c)

  each_apart : (path : List ℕ) (s : Position) (rows : List ℕ) → InOrder ◌<◌ rows → (all : Trees) (m n : Node) → Contains (nodes_of_each path s rows all) m → Contains (nodes_of_each path s rows all) n →
      (m.mark ≡ X → ⊥) → Begins n.path m.path → n.path ≡ m.path
  each_apart path s [] up no_trees m n c d leaf b = absurd (not_in_nil m c)
  each_apart path s [] up (one_and tree trees) m n c d leaf b = absurd (not_in_nil m c)
  each_apart path s (row ∷ rows) up no_trees m n c d leaf b = absurd (not_in_nil m c)
  each_apart path s (row ∷ rows) up (one_and tree trees) m n c d leaf b = ⊎_elim
      (λ c1. ⊎_elim
      (λ d1. apart (path ++ row ∷ []) (child s row) tree m n c1 d1 leaf b)
      (λ d2. absurd (
      let u = node_begins (path ++ row ∷ []) (child s row) tree m c1 in
      let v = node_goes path s rows trees n d2 in
      omega (arith, up.0 v.0 v.1, same_step path n.path row v.0 (begins_on n.path m.path (path ++ row ∷ []) b u) v.2)))
      (Contains-append_cases _ _ n d))
      (λ c2. ⊎_elim
      (λ d1. absurd (
      let u = node_goes path s rows trees m c2 in
      let v = node_begins (path ++ row ∷ []) (child s row) tree n d1 in
      omega (arith, up.0 u.0 u.1, same_step path n.path u.0 row (begins_on n.path m.path (path ++ u.0 ∷ []) b u.2) v)))
      (λ d2. each_apart path s rows up.1 trees m n c2 d2 leaf b)
      (Contains-append_cases _ _ n d))
      (Contains-append_cases _ _ m c)

-- ---- given names

-- the given names of two lists
pub given_names-append : (xs ys : List Node) → given_names (xs ++ ys) ≡ given_names xs ++ given_names ys
given_names-append xs ys =
    ap (map (λ (n : Node). n.path)) (filter-append (λ (n : Node). is_given n.mark) xs ys) ∙ map-append (λ (n : Node). n.path) (filter (λ (n : Node). is_given n.mark) xs) (filter (λ (n : Node). is_given n.mark) ys)

-- a given name is the path of a node that is given away
pub from_given : (list : List Node) (g : List ℕ) → Contains (given_names list) g → (n : Node) × Contains list n × (n.mark ≡ G) × (n.path ≡ g)
from_given list g c =
    let m = from_map (λ (n : Node). n.path) (filter (λ (n : Node). is_given n.mark) list) g c in
    let f = from_filter (λ (n : Node). is_given n.mark) list m.0 m.1 in
    let node : Node = m.0 in
    (node, f.1, is_G node.mark f.0, m.2)
  where
    is_G : (mark : Mark) → is_given mark ≡ true → mark ≡ G
    is_G B e = cc
    is_G L e = cc
    is_G (R bound text) e = cc
    is_G X e = cc
    is_G G e = refl

-- and the other way round
pub in_given : (list : List Node) (n : Node) → Contains list n → n.mark ≡ G → Contains (given_names list) n.path
in_given list n c e = in_map (λ (k : Node). k.path) (filter (λ (k : Node). is_given k.mark) list) n (in_filter (λ (k : Node). is_given k.mark) list n c (ap is_given e))

-- it begins with the path of the tree
pub given_begins : (path : List ℕ) (s : Position) (tree : Tree) (g : List ℕ) → Contains (given_names (nodes path s tree)) g → Begins g path
given_begins path s tree g c = let r = from_given (nodes path s tree) g c in subst (λ l. Begins l path) r.3 (node_begins path s tree r.0 r.1)

-- and goes on from it, where the tree is not given as a whole
pub given_goes_on : (path : List ℕ) (s : Position) (tree : Tree) (g : List ℕ) → (IsGivenAway tree → ⊥) → Contains (given_names (nodes path s tree)) g → GoesOn path g
given_goes_on path s CutB g not c = absurd (not_in_nil g c)
given_goes_on path s CutL g not c = absurd (not_in_nil g c)
given_goes_on path s (CutR bound text) g not c = absurd (not_in_nil g c)
given_goes_on path s Given g not c = absurd (not tt)
given_goes_on path s (Branch all) g not c =
    let r = from_given (nodes_of_each path s (targets s) all) g c in
    let b = node_goes path s (targets s) all r.0 r.1 in
    goes_first path g b.0 (subst (λ l. Begins l (path ++ b.0 ∷ [])) r.3 b.2)

-- so it is longer
pub given_longer : (path : List ℕ) (s : Position) (tree : Tree) (g : List ℕ) → (IsGivenAway tree → ⊥) → Contains (given_names (nodes path s tree)) g → length path < length g
given_longer path s tree g not c = let r = given_goes_on path s tree g not c in omega (arith, ap length r.is, length-append path (r.row ∷ r.rest))

-- it has 8 rows at most
pub given_short : (path : List ℕ) (s : Position) (tree : Tree) (g : List ℕ) → All IsInPlace (nodes path s tree) → Contains (given_names (nodes path s tree)) g → length g ≤ 8
given_short path s tree g in_place c =
    let r = from_given (nodes path s tree) g c in
    let n : Node = r.0 in
    subst (λ l. length l ≤ 8) r.3 (subst (λ m. MayStand m n.path n.place) r.2 (All-contains IsInPlace (nodes path s tree) n in_place r.1))

-- it is a path of the problem
pub given_at : (p : Problem) (path : List ℕ) (s : Position) (tree : Tree) (g : List ℕ) → IsProblem p → IsAt p path s → Contains (given_names (nodes path s tree)) g → (t : Position) × IsAt p g t
given_at p path s tree g ok a c =
    let r = from_given (nodes path s tree) g c in
    let n : Node = r.0 in
    (n.place, subst (λ l. IsAt p l n.place) r.3 (All-contains (λ (k : Node). IsAt p k.path k.place) (nodes path s tree) n (nodes_at p path s tree ok a) r.1))

-- none begins with another
pub given_apart : (path : List ℕ) (s : Position) (tree : Tree) (g h : List ℕ) → Contains (given_names (nodes path s tree)) g → Contains (given_names (nodes path s tree)) h → Begins g h → g ≡ h
given_apart path s tree g h c d b =
    let u = from_given (nodes path s tree) g c in
    let v = from_given (nodes path s tree) h d in
    let m : Node = v.0 in
    let not : m.mark ≡ X → ⊥ = λ e. not_both m.mark v.2 e in
    sym u.3 ∙ apart path s tree m u.0 v.1 u.1 not (subst (λ l. Begins l m.path) (sym u.3) (subst (Begins g) (sym v.3) b)) ∙ v.3
  where
    not_both : (mark : Mark) → mark ≡ G → mark ≡ X → ⊥
    not_both mark e f = let t : is_given G ≡ is_given X = ap is_given (sym e ∙ f) in cc

-- below 8 rows nothing is given away that may be
pub none_given : (path : List ℕ) (s : Position) (rows : List ℕ) (trees : List Tree) → 8 ≤ length path → All IsInPlace (nodes_below path s rows trees) → given_names (nodes_below path s rows trees) ≡ []
none_given path s rows trees deep in_place = no_member (given_names (nodes_below path s rows trees)) (λ g c.
    let r = from_given (nodes_below path s rows trees) g c in
    let n : Node = r.0 in
    let short : length n.path ≤ 8 = subst (λ m. MayStand m n.path n.place) r.2 (All-contains IsInPlace (nodes_below path s rows trees) n in_place r.1) in
    let on = All-contains (λ (k : Node). GoesBy path rows k.path) (nodes_below path s rows trees) n (below_goes path s rows trees) r.1 in
    omega (arith, begins_short n.path (path ++ on.0 ∷ []) on.2, length-append path (on.0 ∷ [])))
  where
    no_member : (xs : List (List ℕ)) → ((x : List ℕ) → Contains xs x → ⊥) → xs ≡ []
    no_member [] none = refl
    no_member (x ∷ xs) none = absurd (none x (in_head x xs))
