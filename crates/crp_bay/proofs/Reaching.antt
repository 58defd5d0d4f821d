-- Positions that paths lead to, and how they go on.
use Rattle.std.proofs.Common.{◌≡◌, ℕ, zero, suc, ◌+◌, ◌-◌, ◌<◌, ◌≤◌, Bool, true, false, List, [], ◌∷◌, ◌++◌, length, filter, Contains, All, get_or, refl, sym, ap, ◌∙◌, subst, arith, append-nil}
use Rattle.std.specs.List.Sorted.{IsStrictlyIncreasing}
use Rattle.std.proofs.lemmas.List.Elements.{filter-append}
use Rattle.std.proofs.lemmas.Bool.{false_from_ne_true}
use Rattle.crp_plan.specs.Rows.{total}
use Rattle.crp_plan.specs.Bay.{Problem, IsProblem, start, Position, IsSound, IsAt, IsShifted, Runs, IsFinished, IsLegalRow}
use Rattle.crp_plan.specs.Walks.{NoneToTake, Settles}
use Rattle.crp_plan.specs.declared.moves.Move.{Move}
use Rattle.crp_plan.specs.declared.moves.Move.TheVariants.{Shift, Take}
use Rattle.crp_plan.proofs.Covered.{at_sound}
use Rattle.crp_plan.proofs.Paths.{same_at}
use Rattle.crp_plan.proofs.Steps.{at_next, heights_kept, same_rows, within}
use Rattle.crp_plan.proofs.Tallies.{few_containers}
use Rattle.crp_bay.specs.Positions.{stack_at, settled, can_shift, child, counted, targets}
use Rattle.crp_bay.specs.Reached.{IsReached, HasRoom}
use Rattle.crp_bay.proofs.Members.{from_filter}
use Rattle.crp_bay.proofs.Walked.{placed, is_place, begins_at, Allows, allows, row_is_target, target_goes_on, every_target, rises}
use Rattle.crp_bay.proofs.Walked as walked

-- what holds in a reached position
pub reached_sound : (s : Position) → IsReached s → IsSound s
reached_sound s r = at_sound r.problem r.path s r.is_problem r.is_at

-- nothing is left to take
pub reached_settled : (s : Position) → IsReached s → NoneToTake s
reached_settled s r = r.is_at.no_take

-- the heights are those of the problem
pub reached_heights : (s : Position) → (r : IsReached s) → s.heights ≡ r.problem.heights
reached_heights s r = heights_kept (start r.problem) s r.is_at.moves r.is_at.runs

-- there are 1 to 12 rows
pub reached_rows : (s : Position) → IsReached s → (1 ≤ length s.heights) × (length s.heights ≤ 12)
reached_rows s r =
    let a = r.is_problem.some_rows in let b = r.is_problem.few_rows in
    (omega (arith, ap length (reached_heights s r)), omega (arith, ap length (reached_heights s r)))

-- there is one stack for each row
pub reached_same_rows : (s : Position) → IsReached s → length s.stacks ≡ length s.heights
reached_same_rows s r = let sound : IsSound s = reached_sound s r in same_rows s.heights s.stacks sound.stacks_fit

-- each row is 1 to 8 high
pub reached_low : (s : Position) → IsReached s → All (λ height. (1 ≤ height) × (height ≤ 8)) s.heights
reached_low s r = subst (All (λ height. (1 ≤ height) × (height ≤ 8))) (sym (reached_heights s r)) r.is_problem.heights_fit

-- moves keep how many are to leave
ordered_kept : (s t : Position) (moves : List Move) → Runs s moves t → t.ordered ≡ s.ordered
ordered_kept s t [] r = ap (λ v. v.ordered) (sym r)
ordered_kept s t (Shift from to ∷ moves) r = let k = r.1 in ordered_kept r.0 t moves r.2 ∙ ap (λ v. v.ordered) k.after
ordered_kept s t (Take row ∷ moves) r = let k = r.1 in ordered_kept r.0 t moves r.2 ∙ ap (λ v. v.ordered) k.after

-- at most 96 containers are to leave
pub reached_ordered : (s : Position) → IsReached s → s.ordered ≤ 96
reached_ordered s r =
    let fit : r.problem.ordered ≤ total r.problem.stacks = r.is_problem.ordered_fit in
    omega (arith, ordered_kept (start r.problem) s r.is_at.moves r.is_at.runs, few_containers r.problem r.is_problem)

-- the next rank only grows
next_counts : (s t : Position) (moves : List Move) → 1 ≤ s.next → Runs s moves t → 1 ≤ t.next
next_counts s t [] lo r = let e : s.next ≡ t.next = ap (λ v. v.next) r in omega arith
next_counts s t (Shift from to ∷ moves) lo r = let k = r.1 in let e : r.0.next ≡ s.next = ap (λ v. v.next) k.after in next_counts r.0 t moves (omega arith) r.2
next_counts s t (Take row ∷ moves) lo r = let k = r.1 in let e : r.0.next ≡ suc s.next = ap (λ v. v.next) k.after in next_counts r.0 t moves (omega arith) r.2

-- the next rank is between 1 and one past the last
pub reached_next : (s : Position) → IsReached s → (1 ≤ s.next) × (s.next ≤ s.ordered + 1)
reached_next s r = (next_counts (start r.problem) s r.is_at.moves (omega arith) r.is_at.runs, let w = within r.problem r.path s r.is_at in omega arith)

-- the first position
pub first_value : (p : Problem) (s : Position) → IsProblem p → IsAt p [] s → s ≡ settled (start p)
first_value p s is a = same_at p [] s (settled (start p)) is a (begins_at p is)

-- a legal shift, with the takes after it
pub goes_at : (s w : Position) (row from : ℕ) (u t : Position) → w ≡ s → IsShifted w from row u → Settles u t → (p : Problem) (path : List ℕ) → IsProblem p → IsAt p path s → IsAt p (path ++ row ∷ []) t
goes_at s w row from u t e k f p path is a =
    let P : Position → Type 0 = λ v. IsShifted v from row u in
    at_next p path row s t a (record { from = from; after = u; shift = subst P e k; settles = f })

-- where a legal shift leads is reached
pub goes_reached : (s w : Position) (row from : ℕ) (u t : Position) → w ≡ s → IsReached s → IsShifted w from row u → Settles u t → IsReached t
goes_reached s w row from u t e r k f = record {
  problem = r.problem;
  path = r.path ++ row ∷ [];
  is_problem = r.is_problem;
  is_at = goes_at s w row from u t e k f r.problem r.path r.is_problem r.is_at;
}

-- the targets are the legal rows
pub targets_legal : (s : Position) (p : Problem) (path : List ℕ) (row : ℕ) → IsProblem p → IsAt p path s → (Contains (targets s) row → IsLegalRow p path row) × (IsLegalRow p path row → Contains (targets s) row)
targets_legal s p path row is a = (λ c. (child s row, target_goes_on p path s row is a c), λ l. (every_target p path s row l.0 is a l.1).0)

-- the computed test of a row states the targets
pub can_from_target : (s : Position) (row : ℕ) → Contains (targets s) row → can_shift s row ≡ true
can_from_target s row c = (from_filter (can_shift s) (counted 1 (length s.heights)) row c).0

-- a computed target has room, and something is left to leave
pub shift_needs : (s : Position) (row : ℕ) → can_shift s row ≡ true → (s.next ≤ s.ordered) × HasRoom s row
shift_needs s row h =
    let a : Allows s row = allows s row h in let lo = a.counts in
    let room : length (stack_at s (row - 1)) < get_or s.heights (row - 1) 0 = a.room in
    let there : row - 1 < length s.heights = walked.within s.heights (row - 1) (omega arith) in
    (a.unfinished, record { counts = lo; there = omega arith; shorter = room })

-- one more row is looked at
pub counted_push : (from more : ℕ) → counted from (suc more) ≡ counted from more ++ (from + more) ∷ []
counted_push from zero = ap (λ x. x ∷ []) (omega arith)
counted_push from (suc more) = ap (λ l. from ∷ l) (counted_push (suc from) more ∙ ap (λ x. counted (suc from) more ++ x ∷ []) (omega arith))

-- what is kept of one more row
pub filter_more : (p : ℕ → Bool) (n : ℕ) → filter p (counted 1 (suc n)) ≡ filter p (counted 1 n) ++ filter p (suc n ∷ [])
filter_more p n = ap (filter p) (counted_push 1 n ∙ ap (λ x. counted 1 n ++ x ∷ []) (omega arith)) ∙ filter-append p (counted 1 n) (suc n ∷ [])

-- one more row that passes
pub filter_yes : (p : ℕ → Bool) (n : ℕ) → p (suc n) ≡ true → filter p (counted 1 (suc n)) ≡ filter p (counted 1 n) ++ suc n ∷ []
filter_yes p n t = filter_more p n ∙ ap (λ l. filter p (counted 1 n) ++ l) (rw t refl)

-- one more row that does not pass
pub filter_no : (p : ℕ → Bool) (n : ℕ) → p (suc n) ≡ false → filter p (counted 1 (suc n)) ≡ filter p (counted 1 n)
filter_no p n f = filter_more p n ∙ ap (λ l. filter p (counted 1 n) ++ l) (rw f refl) ∙ append-nil (filter p (counted 1 n))

-- the rows looked at so far, as a loop counts them
pub looked_yes : (p : ℕ → Bool) (row : ℕ) (old new : List ℕ) → 1 ≤ row → old ≡ filter p (counted 1 (row - 1)) → true ≡ p row → new ≡ old ++ row ∷ [] → new ≡ filter p (counted 1 (row + 1 - 1))
looked_yes p row old new lo e t made =
    let n : suc (row - 1) ≡ row = omega arith in let m : suc (row - 1) ≡ row + 1 - 1 = omega arith in
    made ∙ ap (λ l. l ++ row ∷ []) e ∙ ap (λ x. filter p (counted 1 (row - 1)) ++ x ∷ []) (sym n) ∙ sym (filter_yes p (row - 1) (ap p n ∙ sym t)) ∙ ap (λ k. filter p (counted 1 k)) m

-- the same where the row does not pass
pub looked_no : (p : ℕ → Bool) (row : ℕ) (old new : List ℕ) → 1 ≤ row → old ≡ filter p (counted 1 (row - 1)) → false ≡ p row → new ≡ old → new ≡ filter p (counted 1 (row + 1 - 1))
looked_no p row old new lo e f made =
    let n : suc (row - 1) ≡ row = omega arith in let m : suc (row - 1) ≡ row + 1 - 1 = omega arith in
    made ∙ e ∙ sym (filter_no p (row - 1) (ap p n ∙ sym f)) ∙ ap (λ k. filter p (counted 1 k)) m

-- after all rows the targets are found
pub looked_all : (s : Position) (row : ℕ) (items : List ℕ) → items ≡ filter (can_shift s) (counted 1 (row - 1)) → row - 1 ≡ length s.heights → items ≡ targets s
looked_all s row items e all = e ∙ ap (λ n. filter (can_shift s) (counted 1 n)) all

-- the targets rise
pub targets_rise : (s : Position) → IsStrictlyIncreasing (targets s)
targets_rise s k h = rises (can_shift s) 1 (length s.heights) k h

-- nothing is to be moved where all have left
none_kept : (p : ℕ → Bool) (xs : List ℕ) → ((x : ℕ) → p x ≡ false) → filter p xs ≡ []
none_kept p [] f = refl
none_kept p (x ∷ xs) f = rw (f x) (none_kept p xs f)

-- a finished position has no targets
pub no_targets : (s : Position) → IsFinished s → targets s ≡ []
no_targets s end = none_kept (can_shift s) (counted 1 (length s.heights)) (λ row. false_from_ne_true (can_shift s row) (λ h. let r = shift_needs s row h in absurd (omega (arith, r.0))))
