-- A search on its way over the tree: the symbols of the nodes that it has met, and a frame for each branch between its first node and the one that it has come to.
use Rattle.std.proofs.Common.{◌≡◌, ℕ, suc, ◌<◌, ◌≤◌, List, [], ◌∷◌, ◌++◌, length, get_or, Contains, None, refl, sym, ap, ◌∙◌, subst, arith, append_assoc, append-nil, length-append}
use Rattle.std.specs.Prelude.{reverse}
use Rattle.std.proofs.lemmas.List.{reverse-append, get_or_at}
use Rattle.crp_plan.specs.Bay.{Problem, IsProblem, Position, IsAt}
use Rattle.crp_plan.proofs.Steps.{short_path}
use Rattle.crp_bay.specs.Positions.{targets, child}
use Rattle.crp_bay.specs.Back.{PlaceAndTrail}
use Rattle.crp_bay.proofs.Walked.{target_goes_on, allows}
use Rattle.crp_bay.proofs.Reaching.{can_from_target}
use Rattle.crp_bounds.specs.declared.mover.Mover.{Mover}
use Rattle.crp_bounds.specs.Moving.{IsMover}
use Rattle.crp_row.specs.Symbol.{Symbol}
use Rattle.crp_row.specs.Symbol as symbol
use Rattle.crp_tree.specs.Tree.{Tree, CutB, CutL, CutR, Branch, Given}
use Rattle.crp_tree.specs.Symbols.{symbols, tree_of, tree_back, IsLeaf, leaf}
use Rattle.crp_tree.specs.Trees.{Node, nodes, branches, Fits, IsGivenAway}
use Rattle.crp_tree.specs.Spots.{Spot, spot_below, spots_below}
use Rattle.crp_tree.proofs.Joined.{branches-append}
use Rattle.crp_tree.proofs.Paying.{IsWalked, walk_begins, walk_more, walk_leaf, IsTreeAt, walk_ends}
use Rattle.crp_search.specs.Frames.{Branching as Frame, TakesTurn}
use Rattle.crp_search.specs.Searched.{AreFirstNodes}
use Rattle.crp_search.specs.Walked.{met_at}
use Rattle.crp_search.proofs.Choice.{looked_at}
use Rattle.crp_search.proofs.Owing.{left as rows_left}

-- where a search stands
pub record Stand : Type 0 where
  pub path : List ℕ
  pub stand : PlaceAndTrail

abbrev pub standing : List ℕ → PlaceAndTrail → Stand
standing path stand = record { path = path; stand = stand }

-- the spot there
abbrev pub spot_at : Stand → Spot
spot_at x = record { path = x.path; place = x.stand.place }

-- the trees that a frame there still owes
abbrev pub owed_in : Stand → Frame → List Spot
owed_in x f = spots_below x.path x.stand.place f.left

-- where one is left to leave, this is the container that relocations move
abbrev pub Moves : Mover → Position → Type 0
Moves m s = s.next ≤ s.ordered → IsMover m s

-- it is the frame of a branch there
pub record IsFrameAt (p : Problem) (x : Stand) (f : Frame) : Type 0 where
  pub at : IsAt p x.path x.stand.place
  pub had : List ℕ
  pub rows : had ++ f.left ≡ targets x.stand.place
  pub mover : Moves f.mover x.stand.place

-- one row further
pub record IsChild (before now : Stand) : Type 0 where
  pub row : ℕ
  pub path : now.path ≡ before.path ++ row ∷ []
  pub stand : now.stand ≡ record { place = child before.stand.place row; trail = before.stand.place ∷ before.stand.trail }

-- so each frame is, from the deepest up to the first node, and together they owe these trees
abbrev pub AreFrames : Problem → Stand → Stand → Frame → List Frame → List Spot → Type 0
AreFrames p first now f [] owed = (now ≡ first) × IsFrameAt p now f × (owed ≡ owed_in now f)
AreFrames p first now f (g ∷ above) owed = (before : Stand) × IsChild before now × IsFrameAt p now f × ((rest : List Spot) × (owed ≡ owed_in now f ++ rest) × AreFrames p first before g above rest)

-- the symbols, the nodes that they stand for, of which one is a branch, and the frames, which owe what the symbols leave
pub record IsUnderWay (p : Problem) (first now : Stand) (f : Frame) (above : List Frame) (list : List Symbol) (met : List Node) : Type 0 where
  pub owed : List Spot
  pub walked : IsWalked (spot_at first) list met owed
  pub frames : AreFrames p first now f above owed
  pub some : 1 ≤ length (branches met)

-- ---- the deepest frame

frame_at : (p : Problem) (first now : Stand) (f : Frame) (above : List Frame) (owed : List Spot) → AreFrames p first now f above owed → IsFrameAt p now f
frame_at p first now f [] owed h = h.1
frame_at p first now f (g ∷ above) owed h = h.2

-- what it owes at a turn
owed_turn : (x : Stand) (f g : Frame) (row : ℕ) → TakesTurn f g row → owed_in x f ≡ spot_below x.path x.stand.place row ∷ owed_in x g
owed_turn x f g row t = ap (spots_below x.path x.stand.place) t.left

-- the next spot, and what is owed behind it
pub record Turned (p : Problem) (first now : Stand) (g : Frame) (above : List Frame) (owed : List Spot) (row : ℕ) : Type 0 where
  pub others : List Spot
  pub is : owed ≡ spot_below now.path now.stand.place row ∷ others
  pub frames : AreFrames p first now g above others

turned : (p : Problem) (first now : Stand) (f g : Frame) (above : List Frame) (owed : List Spot) (row : ℕ) → AreFrames p first now f above owed → TakesTurn f g row → Turned p first now g above owed row
turned p first now f g [] owed row h t =
    let at = h.1 in
    record { others = owed_in now g; is = h.2 ∙ owed_turn now f g row t; frames = (h.0, record { at = at.at; had = at.had ++ row ∷ []; rows = append_assoc at.had (row ∷ []) g.left ∙ ap (λ l. at.had ++ l) (sym t.left) ∙ at.rows; mover = subst (λ m. Moves m now.stand.place) (sym t.mover) at.mover }, refl) }
turned p first now f g (upper ∷ above) owed row h t =
    let at = h.2 in
    record {
      others = owed_in now g ++ h.3.0;
      is = h.3.1 ∙ ap (λ l. l ++ h.3.0) (owed_turn now f g row t);
      frames = (h.0, h.1, record { at = at.at; had = at.had ++ row ∷ []; rows = append_assoc at.had (row ∷ []) g.left ∙ ap (λ l. at.had ++ l) (sym t.left) ∙ at.rows; mover = subst (λ m. Moves m now.stand.place) (sym t.mover) at.mover }, (h.3.0, refl, h.3.2));
    }

-- ---- the walk

-- the first node has a frame
pub sets_out : (p : Problem) (first : Stand) (f : Frame) (path text : List ℕ) (n : ℕ) → IsAt p first.path first.stand.place → path ≡ first.path → f.left ≡ targets first.stand.place → Moves f.mover first.stand.place →
    n ≡ length (targets first.stand.place) → IsUnderWay p first first f [] (symbol.Branch n ∷ []) (met_at path first.stand.place text None)
sets_out p first f path text n at here rows moves many = subst (λ l. IsUnderWay p first first f [] (symbol.Branch n ∷ []) (met_at l first.stand.place text None)) (sym here) (record {
  owed = spots_below first.path first.stand.place (targets first.stand.place) ++ [];
  walked = walk_more (spot_at first) [] [] (spot_at first) [] (symbol.Branch n) (walk_begins (spot_at first)) many;
  frames = (
    refl,
    record { at = at; had = []; rows = rows; mover = moves },
    append-nil (spots_below first.path first.stand.place (targets first.stand.place)) ∙ ap (spots_below first.path first.stand.place) (sym rows),
  );
  some = omega arith;
})

still_some : (met own : List Node) → 1 ≤ length (branches met) → 1 ≤ length (branches (met ++ own))
still_some met own some = omega (arith, ap length (branches-append met own), length-append (branches met) (branches own))

-- nothing is owed where each row had its turn
owed_none : (x : Stand) (f : Frame) → f.left ≡ [] → owed_in x f ≡ []
owed_none x f full = ap (spots_below x.path x.stand.place) full

-- the node that the search goes back to
pub record GoesBack (p : Problem) (first now : Stand) (g : Frame) (above : List Frame) (list : List Symbol) (met : List Node) : Type 0 where
  pub before : Stand
  pub is_child : IsChild before now
  pub under_way : IsUnderWay p first before g above list met

-- the search ends where it began, with a tree that is not given away
pub record Ended (first : Stand) (list : List Symbol) (met : List Node) : Type 0 where
  pub whole : IsTreeAt (spot_at first) list met
  pub own : IsGivenAway whole.tree → ⊥

own_branch : (path : List ℕ) (s : Position) (tree : Tree) (met : List Node) → nodes path s tree ≡ met → 1 ≤ length (branches met) → IsGivenAway tree → ⊥
own_branch path s CutB met are some is = is
own_branch path s CutL met are some is = is
own_branch path s (CutR bound text) met are some is = is
own_branch path s (Branch all) met are some is = is
own_branch path s Given met are some is = let none : 0 ≡ length (branches met) = ap (λ l. length (branches l)) are in absurd (omega arith)

-- whatever is owed, the nodes met are the first of a tree's
first_walked : (x : Stand) (list : List Symbol) (met : List Node) (owed : List Spot) → IsWalked (spot_at x) list met owed → AreFirstNodes x.path x.stand.place met
first_walked x list met [] w =
    let whole = walk_ends (spot_at x) list met w in
    record { tree = whole.tree; fits = whole.fits; rest = []; is = whole.nodes_are ∙ sym (append-nil met) }
first_walked x list met (spot ∷ owed) w =
    let one : List Node = nodes spot.path spot.place CutB in
    let more = first_walked x (list ++ symbol.CutB ∷ []) (met ++ one) owed (walk_leaf (spot_at x) list met spot owed symbol.CutB w tt tt) in
    record { tree = more.tree; fits = more.fits; rest = one ++ more.rest; is = more.is ∙ append_assoc met one more.rest }

-- also before the first
pub none_yet : (path : List ℕ) (s : Position) → AreFirstNodes path s []
none_yet path s = record { tree = CutB; fits = tt; rest = nodes path s CutB; is = refl }

module _ {p : Problem} {first now : Stand} {f : Frame} {above : List Frame} {list : List Symbol} {met : List Node} (h : IsUnderWay p first now f above list met) where
  here : IsFrameAt p now f
  here = frame_at p first now f above h.owed h.frames

  pub stands_at : IsAt p now.path now.stand.place
  stands_at = let k = here in k.at

  pub first_nodes : AreFirstNodes first.path first.stand.place met
  first_nodes = first_walked first list met h.owed h.walked

  pub goes_up : {g : Frame} {others : List Frame} → above ≡ g ∷ others → f.left ≡ [] → GoesBack p first now g others list met
  goes_up is full =
      let k = subst (λ l. IsUnderWay p first now f l list met) is h in
      let frames = k.frames in
      record {
        before = frames.0;
        is_child = frames.1;
        under_way = record {
          owed = frames.3.0;
          walked = subst (IsWalked (spot_at first) list met) (frames.3.1 ∙ ap (λ l. l ++ frames.3.0) (owed_none now f full)) k.walked;
          frames = frames.3.2;
          some = k.some;
        };
      }

  pub ends : above ≡ [] → f.left ≡ [] → Ended first list met
  ends none full =
      let k = subst (λ l. IsUnderWay p first now f l list met) none h in
      let frames = k.frames in
      let tree = walk_ends (spot_at first) list met (subst (IsWalked (spot_at first) list met) (frames.2 ∙ owed_none now f full) k.walked) in
      record { whole = tree; own = own_branch first.path first.stand.place tree.tree met tree.nodes_are k.some }

  module _ {g : Frame} {row : ℕ} (t : TakesTurn f g row) where
    -- a row's turn: it is a legal one
    pub legal_turn : Contains (targets now.stand.place) row
    legal_turn =
        let k = here in
        let row_is : get_or (k.had ++ f.left) (length k.had) 0 ≡ row = ap (λ l. get_or (k.had ++ l) (length k.had) 0) t.left ∙ get_or_at k.had row g.left 0 (length k.had) refl in
        subst (Contains (targets now.stand.place)) row_is (looked_at now.stand.place (k.had ++ f.left) (length k.had) k.rows (omega (arith, length-append k.had f.left, ap length t.left)))

    -- and leads on
    pub turn_leads : IsProblem p → IsAt p (now.path ++ row ∷ []) (child now.stand.place row)
    turn_leads is = target_goes_on p now.path now.stand.place row is stands_at legal_turn

    -- and the frame knows the container that moves
    pub turn_moves : IsMover g.mover now.stand.place
    turn_moves =
        let k = here in
        let a = allows now.stand.place row (can_from_target now.stand.place row legal_turn) in
        subst (λ m. IsMover m now.stand.place) (sym t.mover) (k.mover a.unfinished)

    -- so the path is not of full length
    pub still_short : IsProblem p → length now.path < 672
    still_short is = omega (arith, short_path p (now.path ++ row ∷ []) (child now.stand.place row) is (turn_leads is), length-append now.path (row ∷ []))

    -- the child there is closed
    pub stays : (path : List ℕ) (one : Symbol) → path ≡ now.path ++ row ∷ [] → IsLeaf one → Fits (child now.stand.place row) (leaf one) → IsUnderWay p first now g above (list ++ one ∷ []) (met ++ nodes path (child now.stand.place row) (leaf one))
    stays path one deeper is fits =
        let k = turned p first now f g above h.owed row h.frames t in
        subst (λ l. IsUnderWay p first now g above (list ++ one ∷ []) (met ++ nodes l (child now.stand.place row) (leaf one))) (sym deeper) (record {
          owed = k.others;
          walked = walk_leaf (spot_at first) list met (spot_below now.path now.stand.place row) k.others one (subst (IsWalked (spot_at first) list met) k.is h.walked) is fits;
          frames = k.frames;
          some = still_some met _ h.some;
        })

    -- or it has a frame
    pub goes_down : (deep : Stand) (fresh : Frame) (path text : List ℕ) (n : ℕ) → IsProblem p → path ≡ deep.path → deep.path ≡ now.path ++ row ∷ [] →
        deep.stand ≡ record { place = child now.stand.place row; trail = now.stand.place ∷ now.stand.trail } → fresh.left ≡ targets deep.stand.place → Moves fresh.mover deep.stand.place → n ≡ length (targets deep.stand.place) →
        IsUnderWay p first deep fresh (g ∷ above) (list ++ symbol.Branch n ∷ []) (met ++ met_at path (child now.stand.place row) text None)
    goes_down deep fresh path text n is same deeper stand rows moves many =
        let k = turned p first now f g above h.owed row h.frames t in
        let place : deep.stand.place ≡ child now.stand.place row = ap (λ (v : PlaceAndTrail). v.place) stand in
        let spot : spot_below now.path now.stand.place row ≡ spot_at deep =
        ap (λ l. record { path = l; place = child now.stand.place row }) (sym deeper) ∙ ap (λ s. record { path = deep.path; place = s }) (sym place) in
        let owed_is : h.owed ≡ spot_at deep ∷ k.others = k.is ∙ ap (λ x. x ∷ k.others) spot in
        let at : IsAt p deep.path deep.stand.place = subst (IsAt p deep.path) (sym place) (subst (λ l. IsAt p l (child now.stand.place row)) (sym deeper) (turn_leads is)) in
        let own : met_at deep.path deep.stand.place text None ≡ met_at path (child now.stand.place row) text None =
        ap (λ s. met_at deep.path s text None) place ∙ ap (λ l. met_at l (child now.stand.place row) text None) (sym same) in
        subst (λ l. IsUnderWay p first deep fresh (g ∷ above) (list ++ symbol.Branch n ∷ []) (met ++ l)) own (record {
          owed = spots_below deep.path deep.stand.place (targets deep.stand.place) ++ k.others;
          walked = walk_more (spot_at first) list met (spot_at deep) k.others (symbol.Branch n) (subst (IsWalked (spot_at first) list met) owed_is h.walked) many;
          frames = (
            now,
            record { row = row; path = deeper; stand = stand },
            record { at = at; had = []; rows = rows; mover = moves },
            (
              k.others,
              ap (λ l. spots_below deep.path deep.stand.place l ++ k.others) (sym rows),
              k.frames,
            ),
          );
          some = still_some met _ h.some;
        })

-- what it ended with, by the symbols' tree
pub record IsEnd (first : Stand) (met : List Node) (tree : Tree) : Type 0 where
  pub fits : Fits first.stand.place tree
  pub own : IsGivenAway tree → ⊥
  pub nodes_are : met ≡ nodes first.path first.stand.place tree

pub ends_as : {first : Stand} {list : List Symbol} {met : List Node} (tree : Tree) → Ended first list met → list ≡ symbols tree → IsEnd first met tree
ends_as {first} {list} {met} tree end is =
    let whole = end.whole in
    let same : whole.tree ≡ tree = sym (tree_back whole.tree) ∙ ap (λ l. tree_of l) (sym whole.symbols_are ∙ is) ∙ tree_back tree in
    subst (IsEnd first met) same (record { fits = whole.fits; own = end.own; nodes_are = sym whole.nodes_are })

-- ---- as the loop meets it

-- the tree of one symbol
pub leaf_tree : (none list : List Symbol) (tree : Tree) (one : Symbol) → none ≡ [] → list ≡ none ++ one ∷ [] → list ≡ symbols tree → leaf one ≡ tree
leaf_tree none list tree one empty is whole =
    let only : list ≡ one ∷ [] = is ∙ ap (λ l. l ++ one ∷ []) empty in
    ap (λ l. tree_of l) (sym only ∙ whole) ∙ tree_back tree

-- the same, for what is equal
pub carried : {p : Problem} {first : Stand} {path path' : List ℕ} {t t' : PlaceAndTrail} {f f' : Frame} {above above' : List Frame} {list list' : List Symbol} {met : List Node} → path' ≡ path → t' ≡ t → f' ≡ f →
    above' ≡ above → list' ≡ list → IsUnderWay p first (standing path t) f above list met → IsUnderWay p first (standing path' t') f' above' list' met
carried path_is stand_is frame_is above_is list_is h = rw (path_is, stand_is, frame_is, above_is, list_is) h

-- a list with one more at its end, from the end
pub reverse_push : {X : Type 0} (xs : List X) (x : X) → reverse (xs ++ x ∷ []) ≡ x ∷ reverse xs
reverse_push xs x = reverse-append xs (x ∷ [])

-- a frame has one row less left
pub one_less_left : {f g : Frame} {row : ℕ} → TakesTurn f g row → rows_left f ≡ suc (rows_left g)
one_less_left t = ap length t.left
