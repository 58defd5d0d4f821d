-- How the rows of the ranks are found at the start.
use Rattle.std.proofs.Common.{◌≡◌, ◌≢◌, ℕ, zero, suc, ◌+◌, ◌-◌, ◌<◌, ◌≤◌, ◌==◌, Bool, true, false, List, [], ◌∷◌, ◌++◌, length, take, get_or, set, slice_get, Some, refl, sym, ap, ◌∙◌, subst, ⊎_elim, arith}
use Rattle.std.proofs.lemmas.Option.{slice_get_within, get_or_from_slice_get}
use Rattle.std.proofs.lemmas.List.{take_more, take_all, get_or-set_same, get_or-set_other}
use Rattle.std.proofs.lemmas.Bool.{cases_Bool, cases_eq, eq-eqb, eqb-true, both_ways, or_left, or_right}
use Rattle.crp_plan.specs.Rows.{holds, occurrences, total}
use Rattle.crp_plan.specs.Bay.{Problem, IsProblem, start}
use Rattle.crp_plan.proofs.Lists.{times_held, at_le_sum, times}
use Rattle.crp_plan.proofs.Determined.{same_row}
use Rattle.crp_plan.proofs.Sound.{sound_start}
use Rattle.crp_plan.proofs.Tallies.{few_containers}
use Rattle.crp_plan.proofs.Steps.{same_rows}
use Rattle.crp_bay.specs.Positions.{settled}
use Rattle.crp_bay.proofs.Walked.{holds_push, begins_at}
use Rattle.crp_bay.specs.Located.{IsLocated, IsKeptPosition, AreRowsOf}
use Rattle.crp_bay.proofs.Going.{holds_under, located_settle}

-- one more row, counted from 1
pub rows_more : {X : Type 0} (xs : List X) (row : ℕ) (x : X) → 1 ≤ row → slice_get xs (row - 1) ≡ Some x → take (row + 1 - 1) xs ≡ take (row - 1) xs ++ x ∷ []
rows_more xs row x lo here =
    let e : row + 1 - 1 ≡ row - 1 + 1 = omega arith in
    ap (λ n. take n xs) e ∙ take_more xs (row - 1) x (slice_get_within xs (row - 1) x here) ∙ ap (λ y. take (row - 1) xs ++ y ∷ []) (get_or_from_slice_get xs (row - 1) x x here)

-- all rows
pub rows_all : {X : Type 0} (xs : List X) (row : ℕ) → length xs ≤ row - 1 → take (row - 1) xs ≡ xs
rows_all xs row h = take_all (row - 1) xs h

-- a stack holds what stands in it
pub holds_at : (stack : List ℕ) (i : ℕ) → i < length stack → holds (get_or stack i 0) stack ≡ true
holds_at [] i lt = absurd (omega arith)
holds_at (y ∷ ys) zero lt = let t : (y == y) ≡ true = eq-eqb y y refl in or_left (y == y) (holds y ys) t
holds_at (y ∷ ys) (suc i) lt = or_right (y == get_or ys i 0) (holds (get_or ys i 0) ys) (holds_at ys i (omega arith))

holds_new : (x : ℕ) (rest : List ℕ) → holds x (rest ++ x ∷ []) ≡ true
holds_new x [] = let t : (x == x) ≡ true = eq-eqb x x refl in or_left (x == x) false t
holds_new x (z ∷ rest) = or_right (z == x) (holds x (rest ++ x ∷ [])) (holds_new x rest)

-- one more rank is marked
pub marked_more : (ranks rows : List ℕ) (i row : ℕ) → i < length ranks → get_or ranks i 0 < length rows → ((x : ℕ) → holds x (take i ranks) ≡ true → get_or rows x 0 ≡ row) →
    (x : ℕ) → holds x (take (i + 1) ranks) ≡ true → get_or (set rows (get_or ranks i 0) row) x 0 ≡ row
marked_more ranks rows i row lt few done x h = ⊎_elim
    (λ q. rw q (get_or-set_same rows (get_or ranks i 0) row 0 few))
    (λ ne. get_or-set_other rows (get_or ranks i 0) x row 0 ne ∙ done x (⊎_elim (λ t. t) (λ t. absurd (ne (sym (eqb-true (get_or ranks i 0) x t))))
    (holds_push x (take i ranks) (get_or ranks i 0) (ap (holds x) (sym (take_more ranks i 0 lt)) ∙ h))))
    (cases_eq x (get_or ranks i 0))

pub others_more : (ranks rows first : List ℕ) (i row : ℕ) → i < length ranks → ((x : ℕ) → holds x (take i ranks) ≡ false → get_or rows x 0 ≡ get_or first x 0) →
    (x : ℕ) → holds x (take (i + 1) ranks) ≡ false → get_or (set rows (get_or ranks i 0) row) x 0 ≡ get_or first x 0
others_more ranks rows first i row lt same x h =
    let h' : holds x (take i ranks ++ get_or ranks i 0 ∷ []) ≡ false = ap (holds x) (sym (take_more ranks i 0 lt)) ∙ h in
    let ne : x ≢ get_or ranks i 0 = λ q. both_ways (holds x (take i ranks ++ get_or ranks i 0 ∷ [])) h' (ap (λ y. holds x (take i ranks ++ y ∷ [])) (sym q) ∙ holds_new x (take i ranks)) in
    get_or-set_other rows (get_or ranks i 0) x row 0 ne
    ∙ same x (⊎_elim (λ t. absurd (both_ways (holds x (take i ranks ++ get_or ranks i 0 ∷ [])) h' (holds_under x (take i ranks) (get_or ranks i 0) t))) (λ f. f) (cases_Bool (holds x (take i ranks))))

-- the rows of one more stack are marked
pub rows_marked : (stacks : List (List ℕ)) (row : ℕ) (stack rows new : List ℕ) → ((x : ℕ) → occurrences x stacks ≤ 1) → slice_get stacks row ≡ Some stack → AreRowsOf row stacks rows →
    ((x : ℕ) → holds x stack ≡ true → get_or new x 0 ≡ row) → ((x : ℕ) → holds x stack ≡ false → get_or new x 0 ≡ get_or rows x 0) → AreRowsOf (row + 1) stacks new
rows_marked stacks row stack rows new once here are yes_r other x i st lt e held = ⊎_elim
    (λ t. yes_r x t ∙ same_row x stacks row i stack st (once x) here e (times_held x stack t) (times_held x st held))
    (λ f. other x f ∙ are x i st (⊎_elim (λ less. less) (λ more.
    let q : i ≡ row = omega arith in
    let same : stack ≡ st = Rattle.std.proofs.lemmas.Option.same_Some stack st (sym here ∙ ap (slice_get stacks) (sym q) ∙ e) in
    absurd (both_ways (holds x stack) f (ap (holds x) same ∙ held))) (Rattle.std.proofs.lemmas.Bool.cases_lt i row)) e held)
    (cases_Bool (holds x stack))

-- ranks that stand are counted
pub held_counts : (stacks : List (List ℕ)) (x i : ℕ) (stack : List ℕ) → slice_get stacks i ≡ Some stack → holds x stack ≡ true → 1 ≤ occurrences x stacks
held_counts stacks x i stack e held = let a = at_le_sum (times x) stacks i stack e in let b = times_held x stack held in omega arith

-- the ranks of a problem are at most 96
pub few_ranks : (p : Problem) → IsProblem p → (x : ℕ) → 1 ≤ occurrences x p.stacks → x ≤ 96
few_ranks p is x h = let a = is.no_other x (omega arith) in omega (arith, a.1, few_containers p is)

fit_low : (heights : List ℕ) (stacks : List (List ℕ)) (i : ℕ) (stack : List ℕ) → Rattle.std.proofs.Common.All (λ height. (1 ≤ height) × (height ≤ 8)) heights → Rattle.crp_plan.specs.Rows.FitRows heights stacks → slice_get stacks i ≡ Some stack → length stack ≤ 8
fit_low heights stacks i stack low fit e =
    let lt = slice_get_within stacks i stack e in
    let h_lt : i < length heights = omega (arith, same_rows heights stacks fit) in
    let b = low i 0 h_lt in
    omega (arith, Rattle.crp_plan.proofs.Sound.fit_at heights stacks i stack (get_or heights i 0) fit e (Rattle.std.proofs.lemmas.Option.slice_get-get_or heights i 0 h_lt), b.1)

-- the rows are known at the start
pub located_start : (p : Problem) (rows : List ℕ) → IsProblem p → AreRowsOf (length p.stacks) p.stacks rows → length rows ≡ 97 → IsLocated rows (start p)
located_start p rows is are n = record {
  sound = sound_start p is;
  row_is = λ x i stack e held. (few_ranks p is x (held_counts p.stacks x i stack e held), are x i stack (slice_get_within p.stacks i stack e) e held);
  low = λ i stack e. fit_low p.heights p.stacks i stack is.heights_fit is.stacks_fit e;
  all_ranks = n;
}

-- what is kept at the start
pub kept_start : (p : Problem) (rows : List ℕ) → IsProblem p → IsLocated rows (start p) → IsKeptPosition [] rows (settled (start p))
kept_start p rows is l = record {
  reached = record { problem = p; path = []; is_problem = is; is_at = begins_at p is };
  located = located_settle rows _ (start p) l;
  few = omega arith;
  undoable = tt;
}
