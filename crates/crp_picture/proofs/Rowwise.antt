-- Rows that are read and changed.
use Rattle.std.proofs.Common.{◌≡◌, ◌∙◌, ℕ, zero, suc, ◌+◌, ◌<◌, List, [], ◌∷◌, ◌++◌, length, take, Option, Some, slice_get, refl, sym, ap, append_assoc, arith}
use Rattle.std.specs.Prelude.{unwrap_or, option_map, option_to_list}
use Rattle.std.proofs.lemmas.Option.{slice_get_past}
use Rattle.std.proofs.lemmas.List.{set_past}
use Rattle.crp_said.specs.declared.moves.SaidMove.{SaidMove}
use Rattle.crp_follow.specs.Crane.{Stack, with_stack}
use Rattle.crp_picture.specs.Cells.{Cell, cell_on, stack_in, row_cells}

pub none_put : (rows : List Stack) (row : ℕ) (stack : Stack) → ((i : ℕ) → row ≡ suc i → i < length rows → ⊥) → with_stack rows row stack ≡ rows
none_put rows zero stack none = refl
none_put rows (suc i) stack none =
    let no : i < length rows → ⊥ = none i refl in
    set_past rows i stack (omega (arith, no))

pub none_in : (rows : List Stack) (row : ℕ) → ((i : ℕ) → row ≡ suc i → i < length rows → ⊥) → stack_in rows row ≡ []
none_in rows zero none = refl
none_in rows (suc i) none =
    let no : i < length rows → ⊥ = none i refl in
    ap (λ (o : Option Stack). unwrap_or o []) (slice_get_past rows i (omega (arith, no)))

-- one container more of a row
pub row_more : (moves : List SaidMove) (row : ℕ) (stack : Stack) (i : ℕ) (name : List ℕ) → slice_get stack i ≡ Some name
    → row_cells moves row stack (i + 1) ≡ row_cells moves row stack i ++ cell_on moves row (take i stack) name ∷ []
row_more moves row stack i name at =
    let one : i + 1 ≡ suc i = omega arith in
    ap (row_cells moves row stack) one ∙ ap (λ (o : Option (List ℕ)). row_cells moves row stack i ++ option_to_list (option_map (cell_on moves row (take i stack)) o)) at

pub row_longer : (moves : List SaidMove) (row : ℕ) (stack : Stack) (i : ℕ) (name : List ℕ) (init old new : List Cell) → slice_get stack i ≡ Some name
    → old ≡ init ++ row_cells moves row stack i → new ≡ old ++ cell_on moves row (take i stack) name ∷ [] → new ≡ init ++ row_cells moves row stack (i + 1)
row_longer moves row stack i name init old new at so_far longer =
    let more = cell_on moves row (take i stack) name ∷ [] in
    longer ∙ ap (λ (l : List Cell). l ++ more) so_far ∙ append_assoc init (row_cells moves row stack i) more ∙ ap (λ (l : List Cell). init ++ l) (sym (row_more moves row stack i name at))
