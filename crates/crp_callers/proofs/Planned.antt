-- The plan for the first bay is a complete one, and leaves one yard.
use Rattle.std.proofs.Common.{◌≡◌, ℕ, zero, suc, ◌<◌, ◌≤◌, List, [], ◌∷◌, codes, refl, sym, ap, subst, ◌∙◌, ⊎_elim, ◌==◌, false, arith}
use Rattle.std.proofs.lemmas.Bool.{cases_lt, ne_eqb}
use Rattle.std.proofs.lemmas.List.Elements.{All-from_recursion}
use Rattle.crp_plan.specs.declared.moves.Move.{Move}
use Rattle.crp_plan.specs.declared.moves.Move.TheVariants.{Shift, Take}
use Rattle.crp_plan.specs.Rows.{occurrences}
use Rattle.crp_plan.specs.Bay.{Problem, IsProblem, Position, IsPlan, IsTaken, IsShifted, Legal, Runs, start, path_of}
use Rattle.crp_yard.specs.Inventory.{Inventory, StackedBay}
use Rattle.crp_yard.specs.Ranks.{named, Leaves}
use Rattle.crp_yard.specs.After.{IsCompletePlan, IsAfter, AreBaysAfter}
use Rattle.crp_callers.specs.TwoBays.{bay, second_bay, two_bays, plan_for_first, yard_left}

abbrev problem : Problem
problem = plan_for_first.plan.problem

each_once : (x : ℕ) → 1 ≤ x → x ≤ 4 → occurrences x problem.stacks ≡ 1
each_once zero low high = absurd (omega arith)
each_once (suc zero) low high = refl
each_once (suc (suc zero)) low high = refl
each_once (suc (suc (suc zero))) low high = refl
each_once (suc (suc (suc (suc zero)))) low high = refl
each_once (suc (suc (suc (suc (suc x))))) low high = absurd (omega arith)

none_above : (x : ℕ) → 5 ≤ x → occurrences x problem.stacks ≡ 0
none_above x high =
    let other : (n : ℕ) → n ≤ 4 → (n == x) ≡ false = λ n low. ne_eqb n x (λ e. absurd (omega arith)) in
    rw (other 1 (omega arith)) (rw (other 2 (omega arith)) (rw (other 3 (omega arith)) (rw (other 4 (omega arith)) refl)))

no_other : (x : ℕ) → 0 < occurrences x problem.stacks → (1 ≤ x) × (x ≤ 4)
no_other zero held = absurd (omega (arith, held))
no_other (suc x) held = ⊎_elim
    (λ low. (omega arith, omega arith))
    (λ high. let none = none_above (suc x) (omega arith) in absurd (omega (arith, none, held)))
    (cases_lt x 4)

is_problem : IsProblem problem
is_problem = record {
  some_rows = omega arith;
  few_rows = omega arith;
  heights_fit = All-from_recursion (λ height. (1 ≤ height) × (height ≤ 8)) (2 ∷ 3 ∷ []) ((omega arith, omega arith), ((omega arith, omega arith), tt));
  stacks_fit = (omega arith, (omega arith, tt));
  each_once = each_once;
  no_other = no_other;
  ordered_fit = omega arith;
}

-- where STAYS, which has rank 2, has gone onto row 2
abbrev behind_shift : Position
behind_shift = record { heights = problem.heights; ordered = 1; next = 1; stacks = (1 ∷ []) ∷ (3 ∷ 4 ∷ 2 ∷ []) ∷ [] }

-- where LOWER has left
abbrev behind_take : Position
behind_take = record { heights = problem.heights; ordered = 1; next = 2; stacks = [] ∷ (3 ∷ 4 ∷ 2 ∷ []) ∷ [] }

shifted : IsShifted (start problem) 1 2 behind_shift
shifted = record {
  unfinished = omega arith;
  from_counts = omega arith;
  to_counts = omega arith;
  another = λ e. absurd (omega arith);
  rest = 1 ∷ [];
  moved = 2;
  stack = refl;
  buried = refl;
  not_top = λ e. absurd (omega arith);
  onto = 3 ∷ 4 ∷ [];
  target = refl;
  height = 3;
  limit = refl;
  room = omega arith;
  after = refl;
}

taken : IsTaken behind_shift 1 behind_take
taken = record { unfinished = omega arith; row_counts = omega arith; rest = []; stack = refl; after = refl }

abbrev moves : List Move
moves = Shift 1 2 ∷ Take 1 ∷ []

has_plan : IsPlan problem moves
has_plan = (behind_take, (behind_shift, shifted, (behind_take, taken, refl)), refl)

pub is_complete : IsCompletePlan plan_for_first
is_complete = (is_problem, (moves, has_plan, refl))

-- a path has one list of moves
abbrev pub OnePath : Type 0
OnePath = (p : Problem) (moves other : List Move) → IsProblem p → IsPlan p moves → IsPlan p other → path_of moves ≡ path_of other → moves ≡ other

-- a move has one end
abbrev pub OneEnd : Type 0
OneEnd = (s : Position) (m : Move) (t u : Position) → Legal s m t → Legal s m u → t ≡ u

-- so the plan leaves these stacks
leaves_these : OnePath → OneEnd → (ranks : List (List ℕ)) → Leaves plan_for_first.plan ranks → ranks ≡ [] ∷ (3 ∷ 4 ∷ 2 ∷ []) ∷ []
leaves_these one_path one_end ranks leaves =
    let same : leaves.moves ≡ moves = one_path problem leaves.moves moves is_problem (leaves.end, leaves.runs, leaves.finished) has_plan leaves.by_path in
    let (s, first, (t, second, ends)) : Runs (start problem) moves leaves.end = subst (λ (ms : List Move). Runs (start problem) ms leaves.end) same leaves.runs in
    let shifts : s ≡ behind_shift = one_end (start problem) (Shift 1 2) s behind_shift first shifted in
    let takes : t ≡ behind_take = one_end behind_shift (Take 1) t behind_take (subst (λ (u : Position). Legal u (Take 1) t) shifts second) taken in
    leaves.left ∙ ap (λ (u : Position). u.stacks) (sym ends ∙ takes)

same_bay : (a b : StackedBay) → a.0 ≡ b.0 → a.1 ≡ b.1 → a ≡ b
same_bay a b names stacks = λ i. (names i, stacks i)

bays_left : OnePath → OneEnd → (bays : List StackedBay) → AreBaysAfter (plan_for_first ∷ []) two_bays.bays bays → bays ≡ yard_left.bays
bays_left one_path one_end [] after = absurd after
bays_left one_path one_end (a ∷ []) after = absurd after.1
bays_left one_path one_end (a ∷ b ∷ c ∷ bays) after = absurd after.1.1
bays_left one_path one_end (a ∷ b ∷ []) ((name, (ranks, leaves, stacks)), ((other, same), end)) =
    let these = leaves_these one_path one_end ranks leaves in
    let first : a ≡ (bay 1, [] ∷ (codes "UPPER" ∷ codes "LINGERS" ∷ codes "STAYS" ∷ []) ∷ []) = same_bay a _ name (stacks ∙ ap (named plan_for_first.names) these) in
    let second : b ≡ second_bay = same_bay b second_bay other same in
    rw (first, second) refl

-- and this yard
pub leaves_this : OnePath → OneEnd → (left : Inventory) → IsAfter two_bays (plan_for_first ∷ []) left → left ≡ yard_left
leaves_this one_path one_end left after =
    let bays = bays_left one_path one_end left.bays after.bays in
    λ i. record { sizes = after.same_sizes i; bays = bays i }
