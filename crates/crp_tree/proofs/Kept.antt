-- What parts and certificates keep.
use Rattle.std.proofs.Common.{◌≡◌, ℕ, ◌+◌, ◌≤◌, ◌<◌, min, ◌⊎◌, inl, inr, ⊎_elim, List, length, take, get_or, Contains, All, sym, ap, ◌∙◌, subst, arith}
use Rattle.std.specs.Prelude.{AllPairs}
use Rattle.std.proofs.lemmas.List.Elements.{All-more, All-weaker, All-map, All-same}
use Rattle.std.proofs.lemmas.List.{take_all}
use Rattle.std.proofs.lemmas.Bool.{cases_lt}
use Rattle.crp_plan.specs.Bay.{Problem, IsProblem, Position, IsAt, cap}
use Rattle.crp_plan.proofs.Paths.{same_at}
use Rattle.crp_bounds.specs.Bounds.{look_ahead}
use Rattle.crp_tree.specs.Tree.{Tree}
use Rattle.crp_tree.specs.Trees.{nodes, given_names, least_through, least_value, HasShape, Shows}
use Rattle.crp_tree.specs.Claims.{Part, IsPart, nodes_in}
use Rattle.crp_tree.specs.Names.{Precedes}
use Rattle.crp_tree.specs.Parts.{ProblemPart, nodes_of, given_of, part_of, IsKeptPart, IsPartGiving, IsLeast, floors_of}
use Rattle.crp_tree.proofs.Shown.{shows_least}
use Rattle.crp_tree.proofs.Nodes.{At, StandsAt, nodes_stand, given_rise}
use Rattle.crp_tree.proofs.Lists.{in_map}
use Rattle.crp_tree.proofs.Accepted.{nodes_are}

-- what is made of a part and its floor keeps what a part keeps
pub kept : (p q : Problem) (name : List ℕ) (tree : Tree) (floor : ℕ) → q ≡ p → IsProblem p → IsPart p (record { name = name; tree = tree }) →
    floor ≡ least_value (cap p) (nodes_in p (record { name = name; tree = tree })) → IsKeptPart (record { problem = q; name = name; tree = tree; floor = floor })
kept p q name tree floor same ok is e =
    subst (λ r. IsKeptPart (record { problem = r; name = name; tree = tree; floor = floor })) (sym same)
    (let list = nodes_are p (record { name = name; tree = tree }) is.place ok is.is_at in
    record {
      is_problem = ok;
      is_part = is;
      floor_is = e;
      shows = subst (λ l. Shows p name (given_names l) floor) (sym list)
          (subst (Shows p name (given_names (nodes name is.place tree))) (sym (e ∙ ap (least_value (cap p)) list)) (shows_least p name is.place tree ok is.is_at is.shape));
    })

-- a part's tree has its shape at the position of its name
pub shape_there : (p : Problem) (x : Part) (s : Position) → IsProblem p → IsPart p x → IsAt p x.name s → HasShape x.name s x.tree
shape_there p x s ok is a =
    let place : is.place ≡ s = same_at p x.name is.place s ok is.is_at a in
    subst (λ t. HasShape x.name t x.tree) place is.shape

-- the same of a part that holds its own problem
pub shape_at_name : (x : ProblemPart) (s : Position) → IsKeptPart x → IsAt x.problem x.name s → HasShape x.name s x.tree
shape_at_name x s k a = shape_there x.problem (part_of x) s k.is_problem k.is_part a

-- the names that a part gives rise
pub names_rise : (x : ProblemPart) → IsKeptPart x → AllPairs Precedes (given_of x)
names_rise x k =
    let is = k.is_part in
    subst (λ l. AllPairs Precedes (given_names l)) (sym (nodes_are x.problem (part_of x) is.place k.is_problem is.is_at)) (given_rise x.name is.place x.tree)

-- a part's nodes are those of its tree at the position of its name
pub nodes_at_name : (x : ProblemPart) (s : Position) → IsKeptPart x → IsAt x.problem x.name s → nodes_of x ≡ nodes x.name s x.tree
nodes_at_name x s k a = nodes_are x.problem (part_of x) s k.is_problem a

-- each of them stands at its path, and length and look-ahead are no less there than at the name
part_stands : (x : ProblemPart) (s : Position) → IsKeptPart x → IsAt x.problem x.name s → All (At (StandsAt x.problem (length x.name + look_ahead s))) (nodes_of x)
part_stands x s k a =
    All-same (At (StandsAt x.problem (length x.name + look_ahead s))) (nodes_of x) (nodes x.name s x.tree) (nodes_at_name x s k a) (nodes_stand x.problem x.name s x.tree k.is_problem a)

pub part_nodes : (x : ProblemPart) → IsKeptPart x → All (λ n. IsAt x.problem n.path n.place) (nodes_of x)
part_nodes x k =
    let is = k.is_part in
    All-weaker (At (StandsAt x.problem (length x.name + look_ahead is.place))) (λ n. IsAt x.problem n.path n.place) (λ n q. q.is_at) (nodes_of x) (part_stands x is.place k is.is_at)

pub part_higher : (x : ProblemPart) (s : Position) → IsKeptPart x → IsAt x.problem x.name s → All (λ n. length x.name + look_ahead s ≤ least_through n) (nodes_of x)
part_higher x s k a =
    All-weaker (At (StandsAt x.problem (length x.name + look_ahead s))) (λ n. length x.name + look_ahead s ≤ least_through n) (λ n q. q.high) (nodes_of x) (part_stands x s k a)

-- the lesser of two numbers is one of them
pub lesser_is : (m n : ℕ) → (min m n ≡ m) ⊎ (min m n ≡ n)
lesser_is m n = ⊎_elim (λ lt. inl (omega arith)) (λ le. inr (omega arith)) (cases_lt m n)

-- one floor more is looked at
pub least_more : (parts : List ProblemPart) (i : ℕ) (x : ProblemPart) (low floor : ℕ) → i < length parts → x ≡ get_or parts i x → floor ≡ x.floor →
    Contains (floors_of parts) low → All (λ y. low ≤ y.floor) (take i parts) →
    Contains (floors_of parts) (min low floor) × All (λ y. min low floor ≤ y.floor) (take (i + 1) parts)
least_more parts i x low floor lt is e c all =
    let here : Contains parts x = (i, lt, sym is) in
    let stands : Contains (floors_of parts) floor = subst (Contains (floors_of parts)) (sym e) (in_map (λ y. y.floor) parts x here) in
    let lower : All (λ y. min low floor ≤ y.floor) (take i parts) = All-weaker (λ y. low ≤ y.floor) (λ y. min low floor ≤ y.floor) (λ y h. omega arith) (take i parts) all in
    let last : min low floor ≤ (get_or parts i x).floor = subst (λ y. min low floor ≤ y.floor) is (omega arith) in (
      ⊎_elim (λ s. subst (Contains (floors_of parts)) (sym s) c) (λ s. subst (Contains (floors_of parts)) (sym s) stands) (lesser_is low floor),
      All-more (λ y. min low floor ≤ y.floor) parts i x lt lower last,
    )

-- all floors are looked at
pub least_all : (parts : List ProblemPart) (i low : ℕ) → length parts ≤ i → Contains (floors_of parts) low → All (λ y. low ≤ y.floor) (take i parts) → IsLeast low (floors_of parts)
least_all parts i low done c all = record {
  stands = c;
  lowest = All-map (λ f. low ≤ f) (λ y. y.floor) parts (subst (All (λ y. low ≤ y.floor)) (take_all i parts done) all);
}
