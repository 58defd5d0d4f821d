-- Loops over the rows of a bay, and what the bounds count there.
use Rattle.std.proofs.Common.{◌≡◌, ℕ, suc, ◌+◌, ◌-◌, ◌≤◌, List, [], ◌∷◌, ◌++◌, length, map, take, Some, slice_get, sum_by, sym, ap, ◌∙◌, arith}
use Rattle.std.proofs.lemmas.Option.{slice_get_within, get_or_from_slice_get}
use Rattle.std.proofs.lemmas.List.{take_more, take_all}
use Rattle.std.proofs.lemmas.List.Sums.{sum_by_push}
use Rattle.crp_plan.specs.declared.moves.Move.{Move}
use Rattle.crp_plan.specs.Rows.{below}
use Rattle.crp_plan.specs.Bay.{Position, Completes, relocations}
use Rattle.crp_bay.specs.Reached.{IsReached}
use Rattle.crp_bay.proofs.Reaching.{reached_sound, reached_same_rows}
use Rattle.crp_bounds.specs.Bounds.{blocked_in, blocking, stuck_above, stuck_from, look_ahead}
use Rattle.crp_bounds.proofs.Bounding.{ahead_bound, blocking_bound}

-- one more row, counted from 1
pub rows_more : {X : Type 0} (xs : List X) (row : ℕ) (x : X) → 1 ≤ row → slice_get xs (row - 1) ≡ Some x → take (row + 1 - 1) xs ≡ take (row - 1) xs ++ x ∷ []
rows_more xs row x lo here =
    let e : row + 1 - 1 ≡ row - 1 + 1 = omega arith in
    ap (λ n. take n xs) e ∙ take_more xs (row - 1) x (slice_get_within xs (row - 1) x here) ∙ ap (λ y. take (row - 1) xs ++ y ∷ []) (get_or_from_slice_get xs (row - 1) x x here)

-- all rows
pub rows_all : {X : Type 0} (xs : List X) (row : ℕ) → length xs ≤ row - 1 → take (row - 1) xs ≡ xs
rows_all xs row h = take_all (row - 1) xs h

-- one more stack is counted
pub blocked_more : (ordered : ℕ) (stacks : List (List ℕ)) (row count more : ℕ) (stack : List ℕ) → 1 ≤ row → slice_get stacks (row - 1) ≡ Some stack →
    count ≡ sum_by (λ st. blocked_in ordered [] st) (take (row - 1) stacks) → more ≡ blocked_in ordered [] stack → count + more ≡ sum_by (λ st. blocked_in ordered [] st) (take (row + 1 - 1) stacks)
blocked_more ordered stacks row count more stack lo here e f =
    omega (arith, e, f, ap (sum_by (λ st. blocked_in ordered [] st)) (rows_more stacks row stack lo here), sum_by_push (λ st. blocked_in ordered [] st) (take (row - 1) stacks) stack)

-- all stacks are counted
pub blocked_all : (s : Position) (row count : ℕ) → IsReached s → length s.heights ≤ row - 1 → count ≡ sum_by (λ st. blocked_in s.ordered [] st) (take (row - 1) s.stacks) → count ≡ blocking s
blocked_all s row count r end e = e ∙ ap (sum_by (λ st. blocked_in s.ordered [] st)) (rows_all s.stacks row (omega (arith, reached_same_rows s r)))

-- both bounds are below every run
pub blocking_below : (s : Position) (count : ℕ) → IsReached s → count ≡ blocking s → (moves : List Move) → Completes s moves → count ≤ relocations moves
blocking_below s count r e moves k = omega (arith, e, blocking_bound s moves k.0 (reached_sound s r) k.1 k.2)

-- the same for the look-ahead bound
pub ahead_below : (s : Position) (count : ℕ) → IsReached s → count ≡ look_ahead s → (moves : List Move) → Completes s moves → count ≤ relocations moves
ahead_below s count r e moves k = omega (arith, e, ahead_bound s moves k.0 (reached_sound s r) k.1 k.2)

-- one rank of the look-ahead
pub one_rank : (ordered : ℕ) (heights : List ℕ) (stacks cut : List (List ℕ)) (k : ℕ) → k ≤ ordered → cut ≡ map (below k) stacks →
    stuck_from ordered heights (suc ordered - k) stacks k ≡ stuck_above ordered heights stacks k + stuck_from ordered heights (suc ordered - (k + 1)) cut (k + 1)
one_rank ordered heights stacks cut k le e =
    let a : suc ordered - k ≡ suc (ordered - k) = omega arith in
    let b : suc ordered - (k + 1) ≡ ordered - k = omega arith in
    let c : suc k ≡ k + 1 = omega arith in
    ap (λ m. stuck_from ordered heights m stacks k) a
    ∙ ap (λ l. stuck_above ordered heights stacks k + stuck_from ordered heights (ordered - k) l (suc k)) (sym e)
    ∙ ap (λ m. stuck_above ordered heights stacks k + stuck_from ordered heights m cut (suc k)) (sym b)
    ∙ ap (λ j. stuck_above ordered heights stacks k + stuck_from ordered heights (suc ordered - (k + 1)) cut j) c
