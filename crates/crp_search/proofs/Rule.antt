-- What the greedy rule looks at: the blocker, least ranks, and which row is better.
use Rattle.std.proofs.Common.{◌≡◌, ℕ, ◌-◌, ◌≤◌, min, List, [], ◌∷◌, ◌++◌, length, slice_get, Some, refl, ap, ◌∙◌, arith}
use native.Mathlib.Numerals.{unary_clauses}
use Rattle.std.proofs.lemmas.Option.{get_or_from_slice_get}
use Rattle.crp_plan.specs.Bay.{Position, IsSound, IsShifted}
use Rattle.crp_plan.proofs.Lists.{times, times_push, times_held}
use Rattle.crp_bay.proofs.Walked.{is_place}
use Rattle.crp_bay.specs.Positions.{top, source, stack_at}
use Rattle.crp_tree.specs.Trees.{least}
use Rattle.crp_search.specs.Greedy.{blocker}

-- the last rank of a stack is on top
pub top_last : (stack : List ℕ) (x : ℕ) → slice_get stack (length stack - 1) ≡ Some x → x ≡ top stack
top_last [] x e = cc
top_last (y ∷ []) x e = cc
top_last (y ∷ z ∷ ys) x e = top_last (z ∷ ys) x (simp unary_clauses (simp unary_clauses at e))

-- the stack at an index that is there
pub stack_is : (s : Position) (i : ℕ) (stack : List ℕ) → slice_get s.stacks i ≡ Some stack → stack_at s i ≡ stack
stack_is s i stack e = get_or_from_slice_get s.stacks i stack [] e

-- one more rank is looked at
pub least_more : (most v : ℕ) (values : List ℕ) → least (min most v) values ≡ least most (v ∷ values)
least_more most v [] = omega arith
least_more most v (w ∷ values) = omega (arith, least_more most v values)

-- what is put on a stack is on top
top_push : (rest : List ℕ) (x : ℕ) → top (rest ++ x ∷ []) ≡ x
top_push [] x = refl
top_push (y ∷ []) x = refl
top_push (y ∷ z ∷ ys) x = top_push (z ∷ ys) x

-- the blocker is what a legal relocation moves
pub blocker_is_moved : (s : Position) (from to : ℕ) (t : Position) → IsSound s → (k : IsShifted s from to t) → blocker s ≡ k.moved
blocker_is_moved s from to t sound k =
    let held : 1 ≤ times s.next (k.rest ++ k.moved ∷ []) = omega (arith, times_push s.next k.rest k.moved, times_held s.next k.rest k.buried) in
    let here : source s ≡ from - 1 = is_place s.next s.stacks (from - 1) (k.rest ++ k.moved ∷ []) (sound.once s.next) k.stack held in
    ap (λ i. top (stack_at s i)) here ∙ ap top (stack_is s (from - 1) (k.rest ++ k.moved ∷ []) k.stack) ∙ top_push k.rest k.moved
