-- The steps at which containers leave are steps of the bay.
use Rattle.std.proofs.Common.{◌≡◌, ◌∙◌, ◌≤◌, ◌+◌, ℕ, suc, Bool, true, false, List, [], ◌∷◌, length, Option, Some, ap, arith}
use Rattle.std.specs.Prelude.{if◌then◌else◌, unwrap_or}
use Rattle.std.specs.Str.{bytes_eq}
use Rattle.std.proofs.lemmas.List.{length-map}
use Rattle.crp_said.specs.declared.moves.SaidMove.{SaidMove}
use Rattle.crp_said.specs.declared.moves.SaidMove.TheVariants.{Shift, Take}
use Rattle.crp_follow.specs.declared.stated.StatedMove.{StatedMove}
use Rattle.crp_follow.specs.Stated.{moves_of}
use Rattle.crp_follow.specs.Table.{takes_from, leaves_at}
use Rattle.crp_picture.specs.Cells.{step_of}

few_from : (s : ℕ) (moves : List SaidMove) (name : List ℕ) → unwrap_or (leaves_at (takes_from (suc s) moves) name) 0 ≤ s + length moves
few_from s [] name = omega arith
few_from s (Shift from to container ∷ moves) name = let rest = few_from (suc s) moves name in omega (arith, rest)
few_from s (Take from container ∷ moves) name = by (bytes_eq container name) (few_from (suc s) moves name)
  where
    by : (b : Bool) → unwrap_or (leaves_at (takes_from (suc (suc s)) moves) name) 0 ≤ suc s + length moves
        → unwrap_or (if b then Some (suc s) else leaves_at (takes_from (suc (suc s)) moves) name) 0 ≤ s + suc (length moves)
    by true rest = omega arith
    by false rest = omega (arith, rest)

-- a container leaves at a step of the bay, or stays
pub few_steps : (moves : List StatedMove) (name : List ℕ) → step_of (moves_of moves) name ≤ length moves
few_steps moves name =
    let few = few_from 0 (moves_of moves) name in
    let many : length (moves_of moves) ≡ length moves = length-map moves (λ (m : StatedMove). m.said) in
    omega (arith, few, many)

-- what is found among those that leave is the step
pub step_found : (moves : List StatedMove) (takes : List (ℕ × List ℕ)) (name : List ℕ) (o : Option ℕ) → takes ≡ takes_from 1 (moves_of moves) → o ≡ leaves_at takes name
    → unwrap_or o 0 ≡ step_of (moves_of moves) name
step_found moves takes name o e is = ap (λ (o : Option ℕ). unwrap_or o 0) (is ∙ ap (λ l. leaves_at l name) e)
