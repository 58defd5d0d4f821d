-- What a crane leaves as it was: no container is lost or made, and no row is above its height.
use Rattle.std.proofs.Common.{◌≡◌, ◌∙◌, ℕ, zero, suc, ◌+◌, ◌-◌, ◌≤◌, arith, true, false, nat_le, List, [], ◌∷◌, ◌++◌, length, length-append, take, Some, slice_get, slice_set, slice_index_or, refl, sym, ap, subst, ◌<◌}
use Rattle.std.specs.Prelude.{sum_by, count_by}
use Rattle.std.proofs.lemmas.List.Sums.{sum_by-cons}
use Rattle.std.proofs.lemmas.Bool.{le-leb, lt-leb}
use Rattle.std.proofs.lemmas.Option.{none-some, same_Some}
use Rattle.crp_plan.proofs.Lists.{one_if, sum_put}
use Rattle.crp_yard.specs.Inventory.{times, FitBay}
use Rattle.crp_yard.specs.Records.{height_of}
use Rattle.crp_yard.proofs.ListingSteps.{times-append}
use Rattle.crp_said.specs.declared.moves.Place.{Place}
use Rattle.crp_said.specs.declared.moves.SaidMove.{SaidMove}
use Rattle.crp_said.specs.declared.moves.SaidMove.TheVariants.{Shift, Take}
use Rattle.crp_follow.specs.Crane.{Stack, stack_of, with_stack, IsHighest, IsTaken, IsShifted, CanMake, Leads}
use Rattle.crp_follow.specs.Kept.{taken_by, times_in}
use Rattle.crp_follow.specs.Table.{takes_from, standing, left_behind}
use Rattle.crp_follow.proofs.Rows.{other_row}

-- ---- what the containers of rows weigh

put_row : (W : Stack → ℕ) (rows : List Stack) (row : ℕ) (old new : Stack) → stack_of rows row ≡ Some old → sum_by W (with_stack rows row new) + W old ≡ sum_by W rows + W new
put_row W rows zero old new e = absurd (none-some old e)
put_row W rows (suc i) old new e = sum_put W rows i old new e

module _ (W : Stack → ℕ) (w : List ℕ → ℕ) (more : (s : Stack) (c : List ℕ) → W (s ++ c ∷ []) ≡ W s + w c) where
  taken_weighs : (rows : List Stack) (from : Place) (c : List ℕ) (after : List Stack) → IsTaken rows from c after → sum_by W rows ≡ sum_by W after + w c
  taken_weighs rows from c after is =
      let highest = is.highest in
      let put = put_row W rows from.row (is.beneath ++ c ∷ []) is.beneath highest.stack in
      let one = more is.beneath c in
      let same : sum_by W after ≡ sum_by W (with_stack rows from.row is.beneath) = ap (sum_by W) is.after_is in
      omega (arith, put, one, same)

  shifted_weighs : (heights : List ℕ) (rows : List Stack) (from to : Place) (c : List ℕ) (after : List Stack) → IsShifted heights rows from to c after → sum_by W rows ≡ sum_by W after
  shifted_weighs heights rows from to c after is =
      let highest = is.highest in
      let free = is.free in
      let lifted = with_stack rows from.row is.beneath in
      let up = put_row W rows from.row (is.beneath ++ c ∷ []) is.beneath highest.stack in
      let down = put_row W lifted to.row is.onto (is.onto ++ c ∷ []) (other_row rows from.row to.row is.beneath is.another ∙ free.stack) in
      let one = more is.beneath c in
      let other = more is.onto c in
      let same : sum_by W after ≡ sum_by W (with_stack lifted to.row (is.onto ++ c ∷ [])) = ap (sum_by W) is.after_is in
      omega (arith, up, down, one, other, same)

  pub all_weigh : (heights : List ℕ) (rows : List Stack) (moves : List SaidMove) (after : List Stack) → Leads heights rows moves after → sum_by W rows ≡ sum_by W after + sum_by w (taken_by moves)
  all_weigh heights rows [] after e = let same = ap (sum_by W) e in let none : sum_by w [] ≡ 0 = refl in omega (arith, same, none)
  all_weigh heights rows (Shift from to c ∷ moves) after (next, made, leads) =
      let rest = all_weigh heights next moves after leads in
      let one = shifted_weighs heights rows from to c next made in
      omega (arith, rest, one)
  all_weigh heights rows (Take from c ∷ moves) after (next, made, leads) =
      let rest = all_weigh heights next moves after leads in
      let one = taken_weighs rows from c next made in
      omega (arith, rest, one, sum_by-cons w c (taken_by moves))

times_one : (c d : List ℕ) (s : Stack) → times c (s ++ d ∷ []) ≡ times c s + times c (d ∷ [])
times_one c d s = times-append c s (d ∷ [])

times_sum : (c : List ℕ) (xs : List (List ℕ)) → sum_by (λ d. times c (d ∷ [])) xs ≡ times c xs
times_sum c [] = refl
times_sum c (x ∷ xs) = let rest = times_sum c xs in omega (arith, rest, sum_by-cons (λ d. times c (d ∷ [])) x xs)

pub nothing_is_lost : (heights : List ℕ) (rows : List Stack) (moves : List SaidMove) (after : List Stack) (c : List ℕ) → Leads heights rows moves after
    → times_in c rows ≡ times_in c after + times c (taken_by moves)
nothing_is_lost heights rows moves after c leads =
    all_weigh (times c) (λ d. times c (d ∷ [])) (λ s d. times_one c d s) heights rows moves after leads ∙ ap (λ n. times_in c after + n) (times_sum c (taken_by moves))

-- ---- how many are left

length_more : (s : Stack) (c : List ℕ) → length (s ++ c ∷ []) ≡ length s + 1
length_more s c = length-append s (c ∷ [])

ones : (xs : List (List ℕ)) → sum_by (λ c. 1) xs ≡ length xs
ones [] = refl
ones (x ∷ xs) = let rest = ones xs in omega (arith, rest, sum_by-cons (λ (c : List ℕ). 1) x xs)

pub so_many_left : (heights : List ℕ) (rows : List Stack) (moves : List SaidMove) (after : List Stack) → Leads heights rows moves after → standing rows ≡ standing after + length (taken_by moves)
so_many_left heights rows moves after leads =
    all_weigh length (λ c. 1) length_more heights rows moves after leads ∙ ap (λ n. standing after + n) (ones (taken_by moves))

none_later : (k step : ℕ) (moves : List SaidMove) → k < step → count_by (λ t. nat_le t.0 k) (takes_from step moves) ≡ 0
none_later k step [] later = refl
none_later k step (Shift from to c ∷ moves) later = none_later k (suc step) moves (omega arith)
none_later k step (Take from c ∷ moves) later =
    let rest = none_later k (suc step) moves (omega arith) in
    let not : nat_le step k ≡ false = lt-leb step k later in
    let zero_one : one_if (nat_le step k) ≡ 0 = ap one_if not in
    omega (arith, rest, zero_one, sum_by-cons (λ (t : ℕ × List ℕ). one_if (nat_le t.0 k)) (step, c) (takes_from (suc step) moves))

counted : (s k : ℕ) (moves : List SaidMove) → count_by (λ t. nat_le t.0 (s + k)) (takes_from (suc s) moves) ≡ length (taken_by (take k moves))
counted s zero moves = none_later (s + 0) (suc s) moves (omega arith)
counted s (suc k) [] = refl
counted s (suc k) (Shift from to c ∷ moves) =
    let same : s + suc k ≡ suc s + k = omega arith in
    ap (λ n. count_by (λ (t : ℕ × List ℕ). nat_le t.0 n) (takes_from (suc (suc s)) moves)) same ∙ counted (suc s) k moves
counted s (suc k) (Take from c ∷ moves) =
    let same : s + suc k ≡ suc s + k = omega arith in
    let rest : count_by (λ (t : ℕ × List ℕ). nat_le t.0 (s + suc k)) (takes_from (suc (suc s)) moves) ≡ length (taken_by (take k moves)) =
    ap (λ n. count_by (λ (t : ℕ × List ℕ). nat_le t.0 n) (takes_from (suc (suc s)) moves)) same ∙ counted (suc s) k moves in
    let is : nat_le (suc s) (s + suc k) ≡ true = le-leb (suc s) (s + suc k) (omega arith) in
    let one : one_if (nat_le (suc s) (s + suc k)) ≡ 1 = ap one_if is in
    omega (arith, rest, one, sum_by-cons (λ (t : ℕ × List ℕ). one_if (nat_le t.0 (s + suc k))) (suc s, c) (takes_from (suc (suc s)) moves))

pub left_stand : (heights : List ℕ) (start : List Stack) (moves : List SaidMove) (step : ℕ) (rows : List Stack) → Leads heights start (take step moves) rows
    → left_behind (standing start) (takes_from 1 moves) step ≡ standing rows
left_stand heights start moves step rows leads =
    let all = so_many_left heights start (take step moves) rows leads in
    let gone : count_by (λ (t : ℕ × List ℕ). nat_le t.0 step) (takes_from 1 moves) ≡ length (taken_by (take step moves)) =
    ap (λ n. count_by (λ (t : ℕ × List ℕ). nat_le t.0 n) (takes_from 1 moves)) (let e : step ≡ 0 + step = omega arith in e) ∙ counted 0 step moves in
    omega (arith, all, gone)

-- ---- heights

low_row : (heights : List ℕ) (rows : List Stack) (i : ℕ) (stack : Stack) → FitBay heights rows → slice_get rows i ≡ Some stack → length stack ≤ slice_index_or heights i 0
low_row heights [] i stack fit e = absurd (none-some stack e)
low_row [] (s ∷ rows) i stack fit e = absurd fit
low_row (h ∷ heights) (s ∷ rows) zero stack fit e = let same : length s ≡ length stack = ap length (same_Some s stack e) in let low = fit.0 in omega (arith, same, low)
low_row (h ∷ heights) (s ∷ rows) (suc i) stack fit e = low_row heights rows i stack fit.1 e

set_low : (heights : List ℕ) (rows : List Stack) (i : ℕ) (stack : Stack) → FitBay heights rows → length stack ≤ slice_index_or heights i 0 → FitBay heights (slice_set rows i stack)
set_low heights [] i stack fit low = fit
set_low [] (s ∷ rows) i stack fit low = absurd fit
set_low (h ∷ heights) (s ∷ rows) zero stack fit low = (low, fit.1)
set_low (h ∷ heights) (s ∷ rows) (suc i) stack fit low = (fit.0, set_low heights rows i stack fit.1 low)

at_index : (heights : List ℕ) (i : ℕ) → height_of heights (suc i) ≡ slice_index_or heights i 0
at_index heights i = let e : suc i - 1 ≡ i = omega arith in ap (λ n. slice_index_or heights n 0) e

with_low : (heights : List ℕ) (rows : List Stack) (row : ℕ) (stack : Stack) → FitBay heights rows → length stack ≤ height_of heights row → FitBay heights (with_stack rows row stack)
with_low heights rows zero stack fit low = fit
with_low heights rows (suc i) stack fit low = let e = at_index heights i in let l : length stack ≤ slice_index_or heights i 0 = omega (arith, low, e) in set_low heights rows i stack fit l

row_low : (heights : List ℕ) (rows : List Stack) (row : ℕ) (stack : Stack) → FitBay heights rows → stack_of rows row ≡ Some stack → length stack ≤ height_of heights row
row_low heights rows zero stack fit e = absurd (none-some stack e)
row_low heights rows (suc i) stack fit e = let same = at_index heights i in let l = low_row heights rows i stack fit e in omega (arith, l, same)

lifted_low : (heights : List ℕ) (rows : List Stack) (from : Place) (c : List ℕ) (beneath : Stack) → FitBay heights rows → IsHighest rows from c beneath → FitBay heights (with_stack rows from.row beneath)
lifted_low heights rows from c beneath fit highest =
    let old = row_low heights rows from.row (beneath ++ c ∷ []) fit highest.stack in
    let count = length_more beneath c in
    let l : length beneath ≤ height_of heights from.row = omega (arith, old, count) in
    with_low heights rows from.row beneath fit l

move_low : (heights : List ℕ) (rows : List Stack) (m : SaidMove) (after : List Stack) → FitBay heights rows → CanMake heights rows m after → FitBay heights after
move_low heights rows (Take from c) after fit is = subst (FitBay heights) (sym is.after_is) (lifted_low heights rows from c is.beneath fit is.highest)
move_low heights rows (Shift from to c) after fit is =
    let free = is.free in
    let lifted = lifted_low heights rows from c is.beneath fit is.highest in
    let tier : to.tier ≡ suc (length is.onto) = free.tier in
    let within : to.tier ≤ height_of heights to.row = free.within in
    let count = length_more is.onto c in
    let l : length (is.onto ++ c ∷ []) ≤ height_of heights to.row = omega (arith, tier, within, count) in
    subst (FitBay heights) (sym is.after_is) (with_low heights (with_stack rows from.row is.beneath) to.row (is.onto ++ c ∷ []) lifted l)

pub stays_within_heights : (heights : List ℕ) (rows : List Stack) (moves : List SaidMove) (after : List Stack) → Leads heights rows moves after → FitBay heights rows → FitBay heights after
stays_within_heights heights rows [] after e fit = subst (FitBay heights) e fit
stays_within_heights heights rows (m ∷ moves) after (next, made, leads) fit = stays_within_heights heights next moves after leads (move_low heights rows m next fit made)
