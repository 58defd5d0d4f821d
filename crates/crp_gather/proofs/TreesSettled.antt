-- Trees are settled on a plan.
use Rattle.std.proofs.Common.{◌≡◌, ℕ, suc, ◌+◌, ◌<◌, ◌≤◌, min, inl, inr, ⊎_elim, List, [], ◌∷◌, ◌++◌, length, take, get_or, Contains, All, refl, sym, ap, ◌∙◌, subst, arith, append_assoc, append-nil, length-append, add-one}
use Rattle.std.proofs.lemmas.List.{take_all}
use Rattle.std.proofs.lemmas.List.Elements.{All-nil, All-cons, All-append, All-same, All-contains, Contains-append_left, Contains-append_right, Contains-append_cases}
use Rattle.crp_plan.specs.Bay.{Problem, IsProblem, Position, IsAt, cap}
use Rattle.crp_bay.specs.Positions.{targets, child}
use Rattle.crp_bay.proofs.Members.{not_in_nil, in_head, in_cons_cases}
use Rattle.crp_bounds.specs.Bounds.{blocking, look_ahead}
use Rattle.crp_row.specs.Symbol.{Symbol}
use Rattle.crp_row.specs.Symbol as symbol
use Rattle.crp_row.specs.declared.kind.Kind.{Kind}
use Rattle.crp_row.specs.declared.kind.Kind.TheVariants as kind
use Rattle.crp_row.specs.Rows.{symbol_of}
use Rattle.crp_tree.specs.Tree.{Tree, CutB, CutL, Branch, items, row}
use Rattle.crp_tree.specs.Symbols.{symbols, symbols_of_each, tree_of, tree_back, items_row, all_symbols, some_trees, IsLeaf, leaf, leaf_symbols, ComesFirst}
use Rattle.crp_tree.specs.Names.{Precedes}
use Rattle.crp_tree.specs.Mark.{B, L, R, G}
use Rattle.crp_tree.specs.Trees.{Node, nodes, branches, Fits, IsInPlace, IsGivenAway, least_value, Begins}
use Rattle.crp_tree.specs.Listed.{nodes_below, AreFit}
use Rattle.crp_tree.proofs.Ordered.{goes_further}
use Rattle.crp_tree.proofs.Nodes.{At, StandsAt, nodes_stand, nodes_begin}
use Rattle.crp_tree.proofs.Listed.{IsBranchOf, Meets, branch_of, branch_node, nodes_push, fit_push, fit_lengths, nodes_all, met_nodes}
use Rattle.crp_tree.proofs.Paying.{row_symbols, symbols_joined}
use Rattle.crp_tree.proofs.Parsed.{leaf_first, below, nodes_here}
use Rattle.crp_tree.proofs.Joined.{branches-append, least_value-append}
use Rattle.crp_gather.specs.Settled.{IsPast, IsClosedBy, AreSettled, IsSettledTo, IsWritten}

-- the node is past the plan
abbrev pub IsPastNode : List ℕ → Node → Type 0
IsPastNode plan node = IsPast plan node.path node.place

-- what goes on from a path that comes after the plan comes after it
after_front : (plan path longer : List ℕ) → Precedes plan path → Begins longer path → Precedes plan longer
after_front plan path longer after b = decide b.0 b.1
  where
    decide : (more : List ℕ) → longer ≡ path ++ more → Precedes plan longer
    decide [] e = subst (Precedes plan) (sym (append-nil path) ∙ sym e) after
    decide (row ∷ more) e = goes_further plan path longer after (inl (record { row = row; rest = more; is = e }))

-- so below a path that is past the plan all nodes are
pub all_past : (p : Problem) (plan path : List ℕ) (s : Position) (tree : Tree) (n : Node) → IsProblem p → IsAt p path s → IsPast plan path s → Contains (nodes path s tree) n → IsPastNode plan n
all_past p plan path s tree n ok a past c =
    let q = All-contains (At (StandsAt p (length path + look_ahead s))) (nodes path s tree) n (nodes_stand p path s tree ok a) c in
    let b = All-contains (λ (k : Node). Begins k.path path) (nodes path s tree) n (nodes_begin path s tree) c in
    record { after = after_front plan path n.path past.after b; reached = let high = q.high in let low = past.reached in omega arith }

-- two lists of nodes, each settled
settled_append : (plan : List ℕ) (old new olds news : List Node) → AreSettled plan old new → AreSettled plan olds news → AreSettled plan (old ++ olds) (new ++ news)
settled_append plan old new olds news a b = record {
  past = λ n c p. ⊎_elim (λ h. a.past n h p) (λ h. b.past n h p) (Contains-append_cases new news n c);
  others = λ n out. (
    λ c. ⊎_elim (λ h. Contains-append_left old olds n ((a.others n out).0 h)) (λ h. Contains-append_right old olds n ((b.others n out).0 h)) (Contains-append_cases new news n c),
    λ c. ⊎_elim (λ h. Contains-append_left new news n ((a.others n out).1 h)) (λ h. Contains-append_right new news n ((b.others n out).1 h)) (Contains-append_cases old olds n c),
  );
  fewer = omega (arith, a.fewer, b.fewer, ap length (branches-append old olds), ap length (branches-append new news), length-append (branches old) (branches olds), length-append (branches new) (branches news));
}

-- nodes that are not past the plan stay
settled_same : (plan : List ℕ) (list : List Node) → ((n : Node) → Contains list n → IsPastNode plan n → ⊥) → AreSettled plan list list
settled_same plan list none = record { past = λ n c p. absurd (none n c p); others = λ n out. (λ c. c, λ c. c); fewer = omega arith }

-- one node, that is not past the plan
one_stays : (plan : List ℕ) (node : Node) → (IsPastNode plan node → ⊥) → AreSettled plan (node ∷ []) (node ∷ [])
one_stays plan node out = settled_same plan (node ∷ []) (λ n c p. ⊎_elim (λ e. out (subst (IsPastNode plan) (sym e) p)) (λ none. not_in_nil n none) (in_cons_cases node [] n c))

-- a tree past the plan is closed by it
closed : (p : Problem) (plan path : List ℕ) (s : Position) (old : Tree) (node : Node) → IsProblem p → IsAt p path s → IsPast plan path s → node.path ≡ path → node.place ≡ s → IsClosedBy plan node → branches (node ∷ []) ≡ [] →
    AreSettled plan (nodes path s old) (node ∷ [])
closed p plan path s old node ok a past path_is place_is is none =
    let here : IsPastNode plan node = subst (λ l. IsPast plan l node.place) (sym path_is) (subst (IsPast plan path) (sym place_is) past) in
    record {
      past = λ n c q. ⊎_elim (λ e. subst (IsClosedBy plan) e is) (λ no. absurd (not_in_nil n no)) (in_cons_cases node [] n c);
      others = λ n out. (
        λ c. absurd (⊎_elim (λ e. out (subst (IsPastNode plan) e here)) (λ no. not_in_nil n no) (in_cons_cases node [] n c)),
        λ c. absurd (out (all_past p plan path s old n ok a past c)),
      );
      fewer = omega (arith, ap length none);
    }

pub closed_b : (p : Problem) (plan path : List ℕ) (s : Position) (tree old : Tree) (floor : ℕ) → tree ≡ CutB → floor ≡ min (length path + blocking s) (cap p) → IsProblem p → IsAt p path s → Precedes plan path →
    length plan ≤ length path + blocking s → IsSettledTo p plan path s (nodes path s old) tree floor
closed_b p plan path s tree old floor tree_is floor_is ok a after reached =
    let node : Node = record { path = path; place = s; mark = B } in
    rw tree_is (record {
      fits = tt;
      in_place = All-cons IsInPlace node [] tt (All-nil IsInPlace);
      floor_is = floor_is;
      settled = closed p plan path s old node ok a (record { after = after; reached = omega arith }) refl refl (inl (refl, reached)) refl;
    })

pub closed_l : (p : Problem) (plan path : List ℕ) (s : Position) (tree old : Tree) (floor : ℕ) → tree ≡ CutL → floor ≡ min (length path + look_ahead s) (cap p) → IsProblem p → IsAt p path s → Precedes plan path →
    length path + blocking s < length plan → length plan ≤ length path + look_ahead s → IsSettledTo p plan path s (nodes path s old) tree floor
closed_l p plan path s tree old floor tree_is floor_is ok a after low reached =
    let node : Node = record { path = path; place = s; mark = L } in
    rw tree_is (record {
      fits = tt;
      in_place = All-cons IsInPlace node [] tt (All-nil IsInPlace);
      floor_is = floor_is;
      settled = closed p plan path s old node ok a (record { after = after; reached = reached }) refl refl (inr (refl, low)) refl;
    })

-- a leaf that is not past the plan stays
leaf_stays : (plan path : List ℕ) (s : Position) (one : Symbol) → IsLeaf one → (IsPast plan path s → ⊥) → AreSettled plan (nodes path s (leaf one)) (nodes path s (leaf one))
leaf_stays plan path s symbol.CutB is_leaf out = one_stays plan (record { path = path; place = s; mark = B }) out
leaf_stays plan path s symbol.CutL is_leaf out = one_stays plan (record { path = path; place = s; mark = L }) out
leaf_stays plan path s (symbol.CutR bound text) is_leaf out = one_stays plan (record { path = path; place = s; mark = R bound text }) out
leaf_stays plan path s (symbol.Branch n) is_leaf out = absurd is_leaf
leaf_stays plan path s symbol.Given is_leaf out = one_stays plan (record { path = path; place = s; mark = G }) out

-- the first i trees of a branch are settled
pub record BelowSettled (p : Problem) (plan path : List ℕ) (s : Position) (rows : List ℕ) (old : List Tree) (i : ℕ) (new : List Tree) (floor : ℕ) : Type 0 where
  pub count : length new ≡ i
  pub fits : AreFit s (take i rows) new
  pub in_place : All IsInPlace (nodes_below path s (take i rows) new)
  pub floor_is : floor ≡ least_value (cap p) (nodes_below path s (take i rows) new)
  pub settled : AreSettled plan (nodes_below path s (take i rows) (take i old)) (nodes_below path s (take i rows) new)

-- one more
pub one_settled : (p : Problem) (plan path here : List ℕ) (s next : Position) (rows : List ℕ) (old new more : List Tree) (i row floor low least : ℕ) (before tree : Tree) → Meets path here s next rows old i row before →
    BelowSettled p plan path s rows old i new floor → IsSettledTo p plan here next (nodes here next before) tree low → more ≡ new ++ tree ∷ [] → least ≡ min floor low → BelowSettled p plan path s rows old (i + 1) more least
one_settled p plan path here s next rows old new more i row floor low least before tree m b one more_is least_is =
    let at : here ≡ path ++ get_or rows i 0 ∷ [] = m.is_here ∙ ap (λ r. path ++ r ∷ []) m.is_row in
    let to : next ≡ child s (get_or rows i 0) = m.is_next ∙ ap (child s) m.is_row in
    let first : List Node = nodes_below path s (take i rows) new in
    let own : List Node = nodes here next tree in
    let same : nodes (path ++ get_or rows i 0 ∷ []) (child s (get_or rows i 0)) tree ≡ own = sym (ap (λ l. nodes l next tree) at ∙ ap (λ t. nodes (path ++ get_or rows i 0 ∷ []) t tree) to) in
    let found : nodes_below path s (take (suc i) rows) (new ++ tree ∷ []) ≡ first ++ own = nodes_push path s rows new i 0 tree m.in_rows b.count ∙ ap (λ l. first ++ l) same in
    let olds : nodes_below path s (take (suc i) rows) (take (suc i) old) ≡ nodes_below path s (take i rows) (take i old) ++ nodes here next before = met_nodes path here s next rows old i row before m in
    let all : BelowSettled p plan path s rows old (suc i) (new ++ tree ∷ []) (min floor low) = record {
      count = let n = b.count in omega (arith, length-append new (tree ∷ []));
      fits = fit_push s rows new i 0 tree m.in_rows b.fits (subst (λ t. Fits t tree) to one.fits);
      in_place = All-same IsInPlace _ _ found (All-append IsInPlace first own b.in_place one.in_place);
      floor_is = ap (λ m. min m low) b.floor_is ∙ ap (λ m. min (least_value (cap p) first) m) one.floor_is ∙ sym (ap (least_value (cap p)) found ∙ least_value-append (cap p) first own);
      settled = subst (AreSettled plan (nodes_below path s (take (suc i) rows) (take (suc i) old))) (sym found)
          (subst (λ l. AreSettled plan l (first ++ own)) (sym olds) (settled_append plan (nodes_below path s (take i rows) (take i old)) first (nodes here next before) own b.settled one.settled));
    } in
    rw (more_is, least_is, add-one) all

-- all of them
pub all_settled : (p : Problem) (plan path : List ℕ) (s : Position) (rows : List ℕ) (old : List Tree) (i : ℕ) (new : List Tree) (floor : ℕ) → rows ≡ targets s → AreFit s (targets s) old → length old ≤ i →
    All IsInPlace (branch_node path s ∷ nodes_below path s (targets s) old) → (IsPast plan path s → ⊥) → BelowSettled p plan path s rows old i new floor →
    IsSettledTo p plan path s (branch_node path s ∷ nodes_below path s (targets s) old) (Branch (row new)) floor
all_settled p plan path s rows old i new floor same fit done in_place out b =
    let branch : IsBranchOf (Branch (row new)) new = branch_of new in
    let lengths = fit_lengths s (targets s) old fit in
    let whole : take i rows ≡ targets s = take_all i rows (omega (arith, ap length same)) ∙ same in
    let below : List Node = nodes_below path s (targets s) new in
    let are : nodes path s (Branch (row new)) ≡ branch_node path s ∷ below = branch.nodes_are path s in
    let list : nodes_below path s (take i rows) new ≡ below = ap (λ l. nodes_below path s l new) whole in
    let olds : nodes_below path s (take i rows) (take i old) ≡ nodes_below path s (targets s) old = ap (λ l. nodes_below path s (take i l) (take i old)) same ∙ nodes_all path s (targets s) old i (inr done) in
    let own : IsInPlace (branch_node path s) = All-contains IsInPlace (branch_node path s ∷ nodes_below path s (targets s) old) (branch_node path s) in_place (in_head (branch_node path s) (nodes_below path s (targets s) old)) in
    let settled : AreSettled plan (nodes_below path s (targets s) old) below = subst (AreSettled plan (nodes_below path s (targets s) old)) list (subst (λ l. AreSettled plan l (nodes_below path s (take i rows) new)) olds b.settled) in
    record {
      fits = branch.fits s (subst (λ l. AreFit s l new) whole b.fits);
      in_place = All-same IsInPlace _ _ are (All-cons IsInPlace (branch_node path s) below own (subst (All IsInPlace) list b.in_place));
      floor_is = b.floor_is ∙ ap (least_value (cap p)) list ∙ sym (ap (least_value (cap p)) are);
      settled = subst (AreSettled plan (branch_node path s ∷ nodes_below path s (targets s) old)) (sym are)
          (settled_append plan (branch_node path s ∷ []) (branch_node path s ∷ []) (nodes_below path s (targets s) old) below (one_stays plan (branch_node path s) out) settled);
    }

-- ---- their symbols

-- what is no branch is a leaf
pub no_branch : (one : Kind) (text : List ℕ) → ((n : ℕ) → one ≡ kind.Branch n → ⊥) → IsLeaf (symbol_of one text)
no_branch kind.CutB text none = tt
no_branch kind.CutL text none = tt
no_branch (kind.CutR bound) text none = tt
no_branch (kind.Branch n) text none = none n refl
no_branch kind.Given text none = tt

-- a leaf that is not past the plan is written as it is
pub leaf_written : (p : Problem) (plan path : List ℕ) (s : Position) (here behind before after : List Symbol) (one : Symbol) (floor : ℕ) → here ≡ one ∷ behind → after ≡ before ++ one ∷ [] → IsLeaf one → Fits s (tree_of here) →
    All IsInPlace (nodes path s (tree_of here)) → floor ≡ least_value (cap p) (nodes path s (leaf one)) → (IsPast plan path s → ⊥) → IsWritten p plan path s (tree_of here) before after floor
leaf_written p plan path s here behind before after one floor here_is more is_leaf fits in_place floor_is out =
    let same : tree_of here ≡ leaf one = (leaf_first one here behind here_is is_leaf).is in
    record {
      tree = leaf one;
      written = more ∙ ap (λ l. before ++ l) (leaf_symbols one is_leaf);
      is = record {
        fits = subst (Fits s) same fits;
        in_place = subst (λ t. All IsInPlace (nodes path s t)) same in_place;
        floor_is = floor_is;
        settled = subst (λ t. AreSettled plan (nodes path s t) (nodes path s (leaf one))) (sym same) (leaf_stays plan path s one is_leaf out);
      };
      own = λ given. subst IsGivenAway (sym same) given;
    }

-- behind symbols those of the first i trees of a branch are written that old ones become
pub record BelowWritten (p : Problem) (plan path : List ℕ) (s : Position) (rows : List ℕ) (old : List Tree) (i : ℕ) (before after : List Symbol) (floor : ℕ) : Type 0 where
  pub new : List Tree
  pub written : after ≡ before ++ all_symbols new
  pub below : BelowSettled p plan path s rows old i new floor

pub one_written : (p : Problem) (plan path here : List ℕ) (s next : Position) (rows : List ℕ) (old : List Tree) (before half more : List Symbol) (i row floor low least : ℕ) (was : Tree) → Meets path here s next rows old i row was →
    BelowWritten p plan path s rows old i before half floor → IsWritten p plan here next was half more low → least ≡ min floor low → BelowWritten p plan path s rows old (i + 1) before more least
one_written p plan path here s next rows old before half more i row floor low least was m b w least_is =
    let all : all_symbols (b.new ++ w.tree ∷ []) ≡ all_symbols b.new ++ symbols w.tree = symbols_joined b.new (w.tree ∷ []) ∙ ap (λ l. all_symbols b.new ++ l) (append-nil (symbols w.tree)) in
    record {
      new = b.new ++ w.tree ∷ [];
      written = w.written ∙ ap (λ l. l ++ symbols w.tree) b.written ∙ append_assoc before (all_symbols b.new) (symbols w.tree) ∙ ap (λ l. before ++ l) (sym all);
      below = one_settled p plan path here s next rows old b.new (b.new ++ w.tree ∷ []) i row floor low least was w.tree m b.below w.is refl least_is;
    }

pub all_written : (p : Problem) (plan path : List ℕ) (s : Position) (rows : List ℕ) (n : ℕ) (list rest : List Symbol) (i : ℕ) (before after : List Symbol) (floor : ℕ) → rows ≡ targets s → ComesFirst (symbol.Branch n ∷ list) rest →
    Fits s (tree_of (symbol.Branch n ∷ list)) → All IsInPlace (nodes path s (tree_of (symbol.Branch n ∷ list))) → (IsPast plan path s → ⊥) → length rows ≤ i → BelowWritten p plan path s rows (some_trees n list) i (before ++ symbol.Branch n ∷ []) after floor →
    IsWritten p plan path s (tree_of (symbol.Branch n ∷ list)) before after floor
all_written p plan path s rows n list rest i before after floor same first fits in_place out done w =
    let here = below path s (symbol.Branch n) (symbol.Branch n ∷ list) list rest n refl refl first fits in_place in
    let many = here.first.many in
    let lengths = fit_lengths s (targets s) (some_trees n list) here.fit in
    let news = fit_lengths s (take i rows) w.new w.below.fits in
    let count : n ≡ length (items (row w.new)) = omega (arith, many, lengths, news, ap length same, ap length (take_all i rows done), ap length (items_row w.new)) in
    record {
      tree = Branch (row w.new);
      written = w.written ∙ append_assoc before (symbol.Branch n ∷ []) (all_symbols w.new)
          ∙ ap (λ l. before ++ symbol.Branch n ∷ l) (sym (row_symbols w.new)) ∙ ap (λ m. before ++ symbol.Branch m ∷ symbols_of_each (row w.new)) count;
      is = subst (λ l. IsSettledTo p plan path s l (Branch (row w.new)) floor) (sym (nodes_here path s (symbol.Branch n) (symbol.Branch n ∷ list) list n refl refl))
          (all_settled p plan path s rows (some_trees n list) i w.new floor same here.fit (omega (arith, lengths, done, ap length same)) here.in_place out w.below);
      own = λ given. absurd given;
    }

-- what is made of symbols that were written behind none
pub record IsMade (p : Problem) (plan path : List ℕ) (s : Position) (old tree : Tree) (floor : ℕ) : Type 0 where
  pub is : IsSettledTo p plan path s (nodes path s old) tree floor
  pub own : IsGivenAway tree → IsGivenAway old

pub made : (p : Problem) (plan path : List ℕ) (s : Position) (old tree : Tree) (before list : List Symbol) (floor : ℕ) → before ≡ [] → list ≡ symbols tree → IsWritten p plan path s old before list floor → IsMade p plan path s old tree floor
made p plan path s old tree before list floor none is w =
    let same : w.tree ≡ tree = sym (tree_back w.tree) ∙ ap (λ l. tree_of l) (sym (w.written ∙ ap (λ l. l ++ symbols w.tree) none) ∙ is) ∙ tree_back tree in
    record { is = subst (λ t. IsSettledTo p plan path s (nodes path s old) t floor) same w.is; own = λ given. w.own (subst IsGivenAway (sym same) given) }
