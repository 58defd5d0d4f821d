-- The look-ahead bound as one sum over the ranks.
use Rattle.std.proofs.Common.{◌≡◌, ℕ, zero, suc, ◌+◌, ◌-◌, ◌≤◌, false, List, [], ◌∷◌, map, sum_by, refl, ap, ◌∙◌, ⊎_elim, arith}
use Rattle.std.proofs.lemmas.Bool.{cases_lt, cases_eq, lt-ltb, le-ltb, lt-leb, le-leb, ne_eqb, eq-eqb}
use Rattle.std.proofs.lemmas.List.Sums.{sum_by-cons}
use Rattle.crp_plan.specs.Rows.{holds, above, below}
use Rattle.crp_plan.specs.Bay.{Position}
use Rattle.crp_plan.proofs.Lists.{times_not_held}
use Rattle.crp_plan.proofs.Buried.{above_absent, below_absent}
use Rattle.crp_bay.specs.Positions.{counted}
use Rattle.crp_bounds.specs.Bounds.{blocking, look_ahead, stuck_above, stuck_from}
use Rattle.crp_bounds.specs.Turns.{left_at}

-- at the first rank all is left
left_first : (next : ℕ) (stack : List ℕ) → left_at next next stack ≡ stack
left_first next [] = refl
left_first next (x ∷ stack) = ⊎_elim
    (λ lower. rw (lt-leb next x lower) (ap (λ l. x ∷ l) (left_first next stack)))
    (λ ge. rw (le-leb next x ge) (rw (le-ltb x next ge) (ap (λ l. x ∷ l) (left_first next stack))))
    (cases_lt x next)

-- at the next rank what is below this one
left_more : (next k : ℕ) (stack : List ℕ) → next ≤ k → below k (left_at next k stack) ≡ left_at next (suc k) stack
left_more next k [] le = refl
left_more next k (x ∷ stack) le = ⊎_elim
    (λ lower. rw (lt-leb next x lower) (rw (ne_eqb x k (λ e. absurd (omega arith))) (ap (λ l. x ∷ l) (left_more next k stack le))))
    (λ ge. rw (le-leb next x ge) (⊎_elim
    (λ gone. rw (lt-ltb x k gone) (rw (lt-ltb x (suc k) (omega arith)) refl))
    (λ there. rw (le-ltb x k there) (⊎_elim
    (λ e. rw (eq-eqb x k e) (rw (lt-ltb x (suc k) (omega arith)) refl))
    (λ ne. rw (ne_eqb x k ne) (rw (le-ltb x (suc k) (omega arith)) (ap (λ l. x ∷ l) (left_more next k stack le))))
    (cases_eq x k)))
    (cases_lt x k)))
    (cases_lt x next)

all_first : (next : ℕ) (stacks : List (List ℕ)) → map (left_at next next) stacks ≡ stacks
all_first next [] = refl
all_first next (x ∷ stacks) = ap (λ y. y ∷ map (left_at next next) stacks) (left_first next x) ∙ ap (λ l. x ∷ l) (all_first next stacks)

all_more : (next k : ℕ) (stacks : List (List ℕ)) → next ≤ k → map (below k) (map (left_at next k) stacks) ≡ map (left_at next (suc k)) stacks
all_more next k [] le = refl
all_more next k (x ∷ stacks) le = ap (λ y. y ∷ map (below k) (map (left_at next k) stacks)) (left_more next k x le) ∙ ap (λ l. left_at next (suc k) x ∷ l) (all_more next k stacks le)

-- what the turn of a rank counts
abbrev turn : ℕ → List ℕ → List (List ℕ) → ℕ → ℕ → ℕ
turn ordered heights stacks next k = stuck_above ordered heights (map (left_at next k) stacks) k

turns : (ordered : ℕ) (heights : List ℕ) (stacks : List (List ℕ)) (next k more : ℕ) → next ≤ k → stuck_from ordered heights more (map (left_at next k) stacks) k ≡ sum_by (turn ordered heights stacks next) (counted k more)
turns ordered heights stacks next k zero le = refl
turns ordered heights stacks next k (suc more) le =
    omega (
      arith,
      ap (λ l. stuck_from ordered heights more l (suc k)) (all_more next k stacks le),
      turns ordered heights stacks next (suc k) more (omega arith),
      sum_by-cons (turn ordered heights stacks next) k (counted (suc k) more),
    )

pub summed : (s : Position) → look_ahead s ≡ blocking s + sum_by (λ k. stuck_above s.ordered s.heights (map (left_at s.next k) s.stacks) k) (counted s.next (suc s.ordered - s.next))
summed s =
    omega (
      arith,
      ap (λ l. stuck_from s.ordered s.heights (suc s.ordered - s.next) l s.next) (all_first s.next s.stacks),
      turns s.ordered s.heights s.stacks s.next s.next (suc s.ordered - s.next) (omega arith),
    )

-- a stack without the rank
pub absent_reads : (k : ℕ) (stack : List ℕ) → holds k stack ≡ false → (above k stack ≡ []) × (below k stack ≡ stack)
absent_reads k stack free = (above_absent k stack (times_not_held k stack free), below_absent k stack (times_not_held k stack free))
