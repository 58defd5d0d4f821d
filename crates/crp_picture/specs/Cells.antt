-- The containers of a position as a picture shows them, row by row from row 1, each from the ground up.
use Rattle.std.specs.Prelude.{ℕ, zero, suc, ◌-◌, ◌*◌, ◌/◌, ◌==◌, nat_lt, Bool, ◌&&◌, ◌||◌, List, [], ◌++◌, length, take, slice_get, option_map, option_to_list, unwrap_or, if◌then◌else◌}
use Rattle.std.specs.List.{list_any}
use Rattle.crp_said.specs.declared.moves.SaidMove.{SaidMove}
use Rattle.crp_follow.specs.Crane.{Stack, stack_of}
use Rattle.crp_follow.specs.Table.{takes_from, leaves_at}
use Rattle.crp_picture.specs.declared.cell.Kind.{Kind}
use Rattle.crp_picture.specs.declared.cell.Kind.TheVariants.{Soonest, Soon, Midway, Late, Latest, Stays}

-- a container that is drawn: where it stands, which it is, the step at which it leaves (0 where it stays), whether it blocks, and what it is drawn as
pub record Cell : Type 0 where
  pub row : ℕ
  pub tier : ℕ
  pub name : List ℕ
  pub step : ℕ
  pub blocks : Bool
  pub kind : Kind

-- the step at which these moves take the container, from 1; 0 where none does
abbrev pub step_of : List SaidMove → List ℕ → ℕ
step_of moves name = unwrap_or (leaves_at (takes_from 1 moves) name) 0

-- who leaves at the first step leaves before who leaves at the other; at step 0 stays
abbrev pub leaves_before : ℕ → ℕ → Bool
leaves_before a b = nat_lt 0 a && ((b == 0) || nat_lt a b)

-- one that leaves in this fifth of the moves, from 0
abbrev pub in_fifth : ℕ → Kind
in_fifth fifth =
    if fifth == 0 then Soonest
    else (if fifth == 1 then Soon
    else (if fifth == 2 then Midway
    else (if fifth == 3 then Late else Latest)))

-- one that leaves at this step of so many, or stays
abbrev pub kind_at : ℕ → ℕ → Kind
kind_at step count = if step == 0 then Stays else in_fifth (5 * (step - 1) / count)

-- one of these leaves before the container
abbrev pub blocks : List SaidMove → Stack → List ℕ → Bool
blocks moves beneath name = list_any (λ below. leaves_before (step_of moves below) (step_of moves name)) beneath

-- a container on top of these in a row
abbrev pub cell_on : List SaidMove → ℕ → Stack → List ℕ → Cell
cell_on moves row beneath name = record {
  row = row;
  tier = suc (length beneath);
  name = name;
  step = step_of moves name;
  blocks = blocks moves beneath name;
  kind = kind_at (step_of moves name) (length moves);
}

-- what stands in a row; nothing where there is no such row
abbrev pub stack_in : List Stack → ℕ → Stack
stack_in rows row = unwrap_or (stack_of rows row) []

-- the containers of a row up to this tier
abbrev pub row_cells : List SaidMove → ℕ → Stack → ℕ → List Cell
row_cells moves row stack zero = []
row_cells moves row stack (suc tier) = row_cells moves row stack tier ++ option_to_list (option_map (cell_on moves row (take tier stack)) (slice_get stack tier))

-- the containers of the rows up to this one
abbrev pub cells_to : List SaidMove → List Stack → ℕ → List Cell
cells_to moves rows zero = []
cells_to moves rows (suc row) = cells_to moves rows row ++ row_cells moves (suc row) (stack_in rows (suc row)) (length (stack_in rows (suc row)))

-- the containers of a position, where these moves are made in the bay
abbrev pub cells_of : List SaidMove → List Stack → List Cell
cells_of moves rows = cells_to moves rows (length rows)
