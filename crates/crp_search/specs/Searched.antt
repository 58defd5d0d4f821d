-- What a search of one part finds: what holds of the nodes that it meets, in the order in which it meets them.
use Rattle.std.specs.Prelude.{◌≡◌, ℕ, ◌+◌, ◌<◌, ◌≤◌, ◌⊎◌, true, List, [], ◌∷◌, ◌++◌, length, All}
use Rattle.crp_plan.specs.Bay.{Problem, Position}
use Rattle.crp_plan.specs.declared.running.View.{View}
use Rattle.crp_bounds.specs.Bounds.{blocking, look_ahead}
use Rattle.crp_tree.specs.Tree.{Tree}
use Rattle.crp_tree.specs.Mark.{L, X}
use Rattle.crp_tree.specs.Trees.{Node, nodes, Fits, IsInPlace, is_cut, branches, given_names, value, least_through}
use Rattle.crp_search.specs.declared.reasons.Way.{Way}
use Rattle.crp_search.specs.declared.reasons.Way.TheVariants.{Closed, Granted, Refused}
use Rattle.crp_search.specs.Limits.{Dealings, Advances}

-- a cut suffices where so much does, for a worker that was refused so many claims: its value is at least that; or a claim was refused, its node is not
-- finished, and its value is at least length plus look-ahead
abbrev pub Suffices : ℕ → ℕ → Node → Type 0
Suffices refused bar cut = (bar ≤ value cut) ⊎ ((0 < refused) × (least_through cut ≤ value cut) × (cut.place.next ≤ cut.place.ordered))

-- a cut is closed for a worker: it suffices for what the worker saw last
abbrev pub IsClosed : View → Node → Type 0
IsClosed view cut = Suffices view.refused view.seen cut

-- a cut by the look-ahead bound stands only where length plus the blocking bound does not suffice, and the blocking bound is lower
abbrev pub NeedsLookAhead : ℕ → Node → Type 0
NeedsLookAhead bar cut = cut.mark ≡ L → (length cut.path + blocking cut.place < bar) × (blocking cut.place < look_ahead cut.place)

-- a branch stands below what suffices: there length plus look-ahead is less
abbrev pub IsBelow : ℕ → Node → Type 0
IsBelow bar node = least_through node < bar

-- the node that a walk meets where it goes on in some way, and so much suffices: a cut by reasons, which reaches that; a branch, which stands below it; or,
-- where a claim was refused, a cut of an unfinished node, whose value is at least length plus look-ahead
abbrev pub IsOnWay : Way → ℕ → Node → Type 0
IsOnWay (Closed bound) bar node = (is_cut node.mark ≡ true) × (bar ≤ value node) × NeedsLookAhead bar node
IsOnWay Granted bar node = (node.mark ≡ X) × IsBelow bar node
IsOnWay Refused bar node = (is_cut node.mark ≡ true) × (least_through node ≤ value node) × (node.place.next ≤ node.place.ordered) × NeedsLookAhead bar node

-- what holds of a node where so much suffices, for a worker that was refused so many claims
pub record IsHeld (refused bar : ℕ) (node : Node) : Type 0 where
  pub closed : is_cut node.mark ≡ true → Suffices refused bar node
  pub needed : NeedsLookAhead bar node
  pub below : node.mark ≡ X → IsBelow bar node

-- so it holds of each of these nodes, which were met one after the other, while what suffices fell from so much to so much
abbrev pub AreHeldAlong : ℕ → ℕ → ℕ → List Node → Type 0
AreHeldAlong refused from to [] = to ≤ from
AreHeldAlong refused from to (node ∷ met) = (bar : ℕ) × (bar ≤ from) × IsHeld refused bar node × AreHeldAlong refused bar to met

-- a name of at most so many rows
abbrev pub IsShort : ℕ → List ℕ → Type 0
IsShort split name = length name ≤ split

-- names were put behind those that were put before
abbrev pub PutsMore : List (List ℕ) → List (List ℕ) → Type 0
PutsMore old new = (more : List (List ℕ)) × (new ≡ old ++ more)

-- from so many claims to so many were granted while so many branches were met: one for each of them and, where thinned branches are tried, at most so
-- many at a node, others for these; where none is tried no others
pub record Grants (most old branches new : ℕ) : Type 0 where
  pub enough : old + branches ≤ new
  pub alone : most ≡ 0 → new ≤ old + branches

-- nodes that were met while a worker dealt with the limit, with at most so many thinned branches tried at each: each may stand where it does, each branch
-- is a claim that was granted, and the accepted puts are the given names, each of at most `split` rows
pub record IsMet (split most : ℕ) (old new : Dealings) (met : List Node) : Type 0 where
  pub in_place : All IsInPlace met
  pub grants : Grants most old.view.granted (length (branches met)) new.view.granted
  pub puts : new.puts ≡ old.puts ++ given_names met
  pub short : All (IsShort split) (given_names met)

-- the nodes are the first of those of a tree that fits at the path
pub record AreFirstNodes (path : List ℕ) (s : Position) (met : List Node) : Type 0 where
  pub tree : Tree
  pub fits : Fits s tree
  pub rest : List Node
  pub is : nodes path s tree ≡ met ++ rest

-- what a search for the fewest relocations holds of the nodes that it met
pub record IsSearchedSoFar (p : Problem) (split most : ℕ) (old new : Dealings) (met : List Node) : Type 0 where
  pub dealings : IsMet split most old new met
  pub advances : Advances p old.view new.view
  pub along : AreHeldAlong new.view.refused old.view.seen new.view.seen met
