-- A worked problem and a plan of it, by the definitions.
use Rattle.std.proofs.Common.{◌≡◌, ℕ, zero, suc, ◌<◌, ◌≤◌, List, [], ◌∷◌, refl, ⊎_elim, ◌==◌, false, arith}
use Rattle.std.proofs.lemmas.Bool.{cases_lt, ne_eqb}
use Rattle.std.proofs.lemmas.List.Elements.{All-from_recursion}
use Rattle.crp_plan.specs.declared.moves.Move.{Move}
use Rattle.crp_plan.specs.declared.moves.Move.TheVariants.{Shift, Take}
use Rattle.crp_plan.specs.Rows.{occurrences}
use Rattle.crp_plan.specs.Bay.{Problem, IsProblem, Position, IsPlan}

-- six containers in three rows of three tiers, all of which are to leave
abbrev pub six : Problem
six = record { heights = 3 ∷ 3 ∷ 3 ∷ []; ordered = 6; stacks = (1 ∷ 5 ∷ 4 ∷ []) ∷ (6 ∷ []) ∷ (3 ∷ 2 ∷ []) ∷ [] }

-- three relocations, to the rows 2, 2 and 1
abbrev pub plan_of_six : List Move
plan_of_six = Shift 1 2 ∷ Shift 1 2 ∷ Take 1 ∷ Take 3 ∷ Take 3 ∷ Shift 2 1 ∷ Take 2 ∷ Take 1 ∷ Take 2 ∷ []

-- each rank from 1 to 6 stands once
each_once : (x : ℕ) → 1 ≤ x → x ≤ 6 → occurrences x six.stacks ≡ 1
each_once zero low high = absurd (omega arith)
each_once (suc zero) low high = refl
each_once (suc (suc zero)) low high = refl
each_once (suc (suc (suc zero))) low high = refl
each_once (suc (suc (suc (suc zero)))) low high = refl
each_once (suc (suc (suc (suc (suc zero))))) low high = refl
each_once (suc (suc (suc (suc (suc (suc zero)))))) low high = refl
each_once (suc (suc (suc (suc (suc (suc (suc x))))))) low high = absurd (omega arith)

-- a rank above 6 stands nowhere
none_above : (x : ℕ) → 7 ≤ x → occurrences x six.stacks ≡ 0
none_above x high =
    let other : (n : ℕ) → n ≤ 6 → (n == x) ≡ false = λ n low. ne_eqb n x (λ e. absurd (omega arith)) in
    rw (other 1 (omega arith)) (rw (other 5 (omega arith)) (rw (other 4 (omega arith)) (rw (other 6 (omega arith)) (rw (other 3 (omega arith)) (rw (other 2 (omega arith)) refl)))))

-- and no other
no_other : (x : ℕ) → 0 < occurrences x six.stacks → (1 ≤ x) × (x ≤ 6)
no_other zero held = absurd (omega (arith, held))
no_other (suc x) held = ⊎_elim
    (λ low. (omega arith, omega arith))
    (λ high. let none = none_above (suc x) (omega arith) in absurd (omega (arith, none, held)))
    (cases_lt x 6)

-- they are a problem
pub six_is_problem : IsProblem six
six_is_problem = record {
  some_rows = omega arith;
  few_rows = omega arith;
  heights_fit = All-from_recursion (λ height. (1 ≤ height) × (height ≤ 8)) (3 ∷ 3 ∷ 3 ∷ []) ((omega arith, omega arith), ((omega arith, omega arith), ((omega arith, omega arith), tt)));
  stacks_fit = (omega arith, (omega arith, (omega arith, tt)));
  each_once = each_once;
  no_other = no_other;
  ordered_fit = omega arith;
}

-- the bay when it is the turn of this rank
abbrev bay_at : ℕ → List (List ℕ) → Position
bay_at next stacks = record { heights = six.heights; ordered = 6; next = next; stacks = stacks }

-- and the moves are a plan of it: where each leads, and what makes it legal
pub six_has_plan : IsPlan six plan_of_six
six_has_plan = (
  bay_at 7 ([] ∷ [] ∷ [] ∷ []),
  (
    bay_at 1 ((1 ∷ 5 ∷ []) ∷ (6 ∷ 4 ∷ []) ∷ (3 ∷ 2 ∷ []) ∷ []),
    record { unfinished = omega arith; from_counts = omega arith; to_counts = omega arith; another = λ e. absurd (omega arith); rest = (1 ∷ 5 ∷ []); moved = 4; stack = refl; buried = refl; not_top = λ e. absurd (omega arith); onto = (6 ∷ []); target = refl; height = 3; limit = refl; room = omega arith; after = refl },
    (
      bay_at 1 ((1 ∷ []) ∷ (6 ∷ 4 ∷ 5 ∷ []) ∷ (3 ∷ 2 ∷ []) ∷ []),
      record { unfinished = omega arith; from_counts = omega arith; to_counts = omega arith; another = λ e. absurd (omega arith); rest = (1 ∷ []); moved = 5; stack = refl; buried = refl; not_top = λ e. absurd (omega arith); onto = (6 ∷ 4 ∷ []); target = refl; height = 3; limit = refl; room = omega arith; after = refl },
      (
        bay_at 2 ([] ∷ (6 ∷ 4 ∷ 5 ∷ []) ∷ (3 ∷ 2 ∷ []) ∷ []),
        record { unfinished = omega arith; row_counts = omega arith; rest = []; stack = refl; after = refl },
        (
          bay_at 3 ([] ∷ (6 ∷ 4 ∷ 5 ∷ []) ∷ (3 ∷ []) ∷ []),
          record { unfinished = omega arith; row_counts = omega arith; rest = (3 ∷ []); stack = refl; after = refl },
          (
            bay_at 4 ([] ∷ (6 ∷ 4 ∷ 5 ∷ []) ∷ [] ∷ []),
            record { unfinished = omega arith; row_counts = omega arith; rest = []; stack = refl; after = refl },
            (
              bay_at 4 ((5 ∷ []) ∷ (6 ∷ 4 ∷ []) ∷ [] ∷ []),
              record { unfinished = omega arith; from_counts = omega arith; to_counts = omega arith; another = λ e. absurd (omega arith); rest = (6 ∷ 4 ∷ []); moved = 5; stack = refl; buried = refl; not_top = λ e. absurd (omega arith); onto = []; target = refl; height = 3; limit = refl; room = omega arith; after = refl },
              (
                bay_at 5 ((5 ∷ []) ∷ (6 ∷ []) ∷ [] ∷ []),
                record { unfinished = omega arith; row_counts = omega arith; rest = (6 ∷ []); stack = refl; after = refl },
                (
                  bay_at 6 ([] ∷ (6 ∷ []) ∷ [] ∷ []),
                  record { unfinished = omega arith; row_counts = omega arith; rest = []; stack = refl; after = refl },
                  (
                    bay_at 7 ([] ∷ [] ∷ [] ∷ []),
                    record { unfinished = omega arith; row_counts = omega arith; rest = []; stack = refl; after = refl },
                    refl,
                  ),
                ),
              ),
            ),
          ),
        ),
      ),
    ),
  ),
  refl,
)
