-- Thinned positions: a bay from which containers were lifted out for good. Some ranks are missing; what is to leave leaves in the order of the ranks
-- that are there. And the trees that a search has over them: their cuts, when a tree fits, and which bound it shows.
use Rattle.std.specs.Prelude.{ℕ, zero, suc, ◌+◌, ◌-◌, ◌≤◌, min, Bool, not, ◌&&◌, nat_le, if◌then◌else◌, List, [], ◌∷◌, ◌++◌, filter, slice_set, slice_index_or, All, ⊤}
use Rattle.std.specs.List.{list_any}
use Rattle.crp_plan.specs.Rows.{holds}
use Rattle.crp_plan.specs.Bay.{Position}
use Rattle.crp_bay.specs.Positions.{top, without_top, source, stack_at, can_take, taken, shifted, targets}
use Rattle.crp_bounds.specs.Bounds.{holds_lower, blocking, look_ahead}
use Rattle.crp_chains.specs.Chains.{IsFamily, gain}
use Rattle.crp_chains.specs.Named.{family_of}
use Rattle.crp_thinned.specs.Tree.{Tree, CutB, CutL, CutT, Branch, Thin, Free, Given, Trees, no_trees, one_and}
use Rattle.crp_thinned.specs.Hindering.{hinders_nobody}

-- the rank stands in one of the stacks
abbrev pub stands : ℕ → List (List ℕ) → Bool
stands x stacks = list_any (λ stack. holds x stack) stacks

-- the rank whose turn it is to leave is missing
abbrev pub is_missing : Position → Bool
is_missing s = nat_le s.next s.ordered && not (stands s.next s.stacks)

-- the turn goes to the rank after it
abbrev pub passed : Position → Position
passed s = record s { next = suc s.next }

-- at most so many ranks leave or, where they are missing, are passed over
abbrev pub settle_most : ℕ → Position → Position
settle_most zero s = s
settle_most (suc most) s = if can_take s then settle_most most (taken s) else (if is_missing s then settle_most most (passed s) else s)

-- with each retrieval made that is legal, and each missing rank passed over
abbrev pub settled_over : Position → Position
settled_over s = settle_most (s.ordered + 1 - s.next) s

-- the container that has to make way: it is on top of the stack in which the next one stands
abbrev pub blocker : Position → ℕ
blocker s = top (stack_at s (source s))

-- it is well placed in the row: no ordered container of a lower rank stands there
abbrev pub is_well_placed : Position → ℕ → Bool
is_well_placed s row = not (holds_lower s.ordered (blocker s) (stack_at s (row - 1)))

-- the legal rows where it is well placed, rising
abbrev pub good_rows : Position → List ℕ
good_rows s = filter (is_well_placed s) (targets s)

-- where the relocation to a row leads
abbrev pub child_at : Position → ℕ → Position
child_at s row = settled_over (shifted s row)

-- the bay without the blocker
abbrev pub lifted : Position → Position
lifted s = record s { stacks = slice_set s.stacks (source s) (without_top (stack_at s (source s))) }

-- where it leads to lift the blocker out
abbrev pub child_without : Position → Position
child_without s = settled_over (lifted s)

-- of these the ones where it hinders nobody
abbrev pub free_rows : Position → List ℕ
free_rows s = filter (λ row. hinders_nobody s.ordered (blocker s) s.stacks (slice_index_or s.heights (row - 1) 0) (stack_at s (row - 1))) (good_rows s)

-- the first number, or 0
abbrev pub first : List ℕ → ℕ
first [] = 0
first (row ∷ rows) = row

-- the first of them; 0 where there is none
abbrev pub free_row : Position → ℕ
free_row s = first (free_rows s)

-- the blocking bound, and what the family gains whose chains have these ranks
abbrev pub chains_at : List (List ℕ) → Position → ℕ
chains_at family s = blocking s + gain s (family_of s family)

-- the bound that a cut below a thinned branch rests on
pub data Bound : Type 0 where
  ByBlocking : Bound
  ByLookAhead : Bound
  ByChains : List (List ℕ) → Bound

abbrev pub bound_at : Bound → Position → ℕ
bound_at ByBlocking s = blocking s
bound_at ByLookAhead s = look_ahead s
bound_at (ByChains family) s = chains_at family s

-- a cut below a thinned branch: what was counted on the way to it, the thinned position there, and its bound
pub record Cut : Type 0 where
  pub cost : ℕ
  pub place : Position
  pub by : Bound

-- the value of a cut
abbrev pub cut_value : Cut → ℕ
cut_value cut = cut.cost + bound_at cut.by cut.place

-- the cuts of a tree at a thinned position s, up to which so much was counted: a relocation to a row counts one; to lift the blocker out counts two,
-- the relocation that is made and the one that it owes, since it will block again
abbrev mutual
  pub thinned_cuts : ℕ → Position → Tree → List Cut
  thinned_cuts cost s CutB = record { cost = cost; place = s; by = ByBlocking } ∷ []
  thinned_cuts cost s CutL = record { cost = cost; place = s; by = ByLookAhead } ∷ []
  thinned_cuts cost s (CutT family) = record { cost = cost; place = s; by = ByChains family } ∷ []
  thinned_cuts cost s (Branch all) = []
  thinned_cuts cost s (Thin all) = cuts_of_each cost s (good_rows s) all
  thinned_cuts cost s (Free tree) = thinned_cuts (cost + 1) (child_at s (free_row s)) tree
  thinned_cuts cost s Given = []

  -- the cuts of the trees below each of the rows, and of the last tree
  pub cuts_of_each : ℕ → Position → List ℕ → Trees → List Cut
  cuts_of_each cost s [] no_trees = []
  cuts_of_each cost s [] (one_and last trees) = thinned_cuts (cost + 2) (child_without s) last
  cuts_of_each cost s (row ∷ rows) no_trees = []
  cuts_of_each cost s (row ∷ rows) (one_and tree trees) = thinned_cuts (cost + 1) (child_at s row) tree ++ cuts_of_each cost s rows trees

-- the tree fits at a thinned position s: it is of cuts, thinned branches and branches with one tree alone. A cut by chains names a family there.
-- A thinned branch stands where something is left to leave, has one tree for each legal row where the blocker is well placed, rising, and the last
-- one. A branch with one tree stands where there is a row in which the blocker hinders nobody, and the tree is that of the first such row
abbrev mutual
  pub FitsThinned : Position → Tree → Type 0
  FitsThinned s CutB = ⊤
  FitsThinned s CutL = ⊤
  FitsThinned s (CutT family) = IsFamily s (family_of s family)
  FitsThinned s (Branch all) = ⊥
  FitsThinned s (Thin all) = (s.next ≤ s.ordered) × FitsEachGood s (good_rows s) all
  FitsThinned s (Free tree) = (1 ≤ free_row s) × FitsThinned (child_at s (free_row s)) tree
  FitsThinned s Given = ⊥

  -- one tree for each of the rows, in their order, which fits at the position that the row leads to, and one where the blocker is lifted out
  pub FitsEachGood : Position → List ℕ → Trees → Type 0
  FitsEachGood s [] no_trees = ⊥
  FitsEachGood s [] (one_and last no_trees) = FitsThinned (child_without s) last
  FitsEachGood s [] (one_and last (one_and tree trees)) = ⊥
  FitsEachGood s (row ∷ rows) no_trees = ⊥
  FitsEachGood s (row ∷ rows) (one_and tree trees) = FitsThinned (child_at s row) tree × FitsEachGood s rows trees

-- no cut has a value below f
abbrev pub ReachesAll : ℕ → List Cut → Type 0
ReachesAll f cuts = All (λ cut. f ≤ cut_value cut) cuts

-- the bound that a tree shows at a thinned position s: the least value of its cuts, counted from s on
abbrev mutual
  pub shown : Position → Tree → ℕ
  shown s CutB = blocking s
  shown s CutL = look_ahead s
  shown s (CutT family) = chains_at family s
  shown s (Branch all) = 0
  shown s (Thin all) = shown_by_each s (good_rows s) all
  shown s (Free tree) = 1 + shown (child_at s (free_row s)) tree
  shown s Given = 0

  -- the least that the trees show below each of the rows, and the last tree
  pub shown_by_each : Position → List ℕ → Trees → ℕ
  shown_by_each s [] no_trees = 0
  shown_by_each s [] (one_and last trees) = 2 + shown (child_without s) last
  shown_by_each s (row ∷ rows) no_trees = 0
  shown_by_each s (row ∷ rows) (one_and tree trees) = min (1 + shown (child_at s row) tree) (shown_by_each s rows trees)
