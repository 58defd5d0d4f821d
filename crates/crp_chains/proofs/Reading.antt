-- What the words of chains say.
use Rattle.std.proofs.Common.{◌≡◌, ℕ, ◌+◌, ◌<◌, ◌≤◌, true, false, nat_eq, nat_lt, List, [], ◌∷◌, ◌++◌, length, Some, slice_get, refl, sym, ap, ◌∙◌, ⊎_elim, arith, length-append}
use Rattle.std.proofs.lemmas.Option.{same_Some}
use Rattle.std.proofs.lemmas.Bool.{cases_Bool, cases_lt, le-ltb, le-leb, or_left, or_right, or_cases, eq-eqb}
use Rattle.crp_plan.specs.declared.moves.Move.{Move}
use Rattle.crp_plan.specs.Rows.{holds}
use Rattle.crp_plan.specs.Bay.{Problem, IsProblem, IsPlan, IsAt, Position, path_of, relocations}
use Rattle.crp_plan.proofs.Lists.{times, times-cons, times_held, same_is_one}
use Rattle.crp_plan.proofs.Determined.{same_row}
use Rattle.crp_plan.proofs.Covered.{from_at, at_sound, relocations-path}
use Rattle.crp_bounds.specs.Bounds.{blocking, holds_lower}
use Rattle.crp_bounds.specs.Turns.{left_at}
use Rattle.crp_bounds.proofs.Blocked.{lower_from_held}
use Rattle.crp_chains.specs.declared.blocker.Blocker.{Blocker}
use Rattle.crp_chains.specs.Chains.{StandsOn, IsBlocker, IsFamily, standing_at, is_open, gain}
use Rattle.crp_chains.proofs.Clear.{IsClear}
use Rattle.crp_chains.proofs.Opening.{closed_lower}
use Rattle.crp_chains.proofs.Blockers.{holds_own}
use Rattle.crp_chains.proofs.Gaining.{gain_bound}

-- the rest of a plan has at least the bound
pub chains_floor : (p : Problem) (path more : List ℕ) (s : Position) (family : List (List Blocker)) (moves : List Move) → IsProblem p → IsAt p path s → IsFamily s family → IsPlan p moves → path_of moves ≡ path ++ more →
    length path + (blocking s + gain s family) ≤ relocations moves
chains_floor p path more s family moves is a f plan e =
    let r = from_at p path more s moves is a plan e in
    let sizes : relocations moves ≡ length path + relocations r.0 =
    relocations-path moves ∙ ap length e ∙ length-append path more ∙ ap (λ n. length path + n) (sym (relocations-path r.0 ∙ ap length r.2)) in
    omega (arith, sizes, gain_bound s family r.0 plan.0 (at_sound p path s is a) f r.1 plan.2)

-- what stands at a turn, in the words of the look-ahead bound
pub standing_left : (next k : ℕ) (stack : List ℕ) → ((x : ℕ) → x < next → times x stack ≡ 0) → standing_at k stack ≡ left_at next k stack
standing_left next k [] gone = refl
standing_left next k (x ∷ stack) gone =
    let late : next ≤ x = ⊎_elim (λ lt. absurd (omega (arith, gone x lt, times-cons x x stack, same_is_one x))) (λ ge. ge) (cases_lt x next) in
    let rest : standing_at k stack ≡ left_at next k stack = standing_left next k stack (λ y lt. omega (arith, gone y lt, times-cons y x stack)) in
    rw (le-leb next x late) (⊎_elim (λ t. rw t refl) (λ f. rw f (ap (λ l. x ∷ l) rest)) (cases_Bool (nat_lt x k)))

-- a list that holds the turn, and above it no lower rank, still holds it at the turn
turn_still : (k : ℕ) (low over : List ℕ) → holds k low ≡ true → ((x : ℕ) → holds x low ≡ true → k ≤ x) → holds k (standing_at k (low ++ over)) ≡ true
turn_still k [] over h least = cc
turn_still k (x ∷ low) over h least =
    let ge : k ≤ x = least x (or_left (nat_eq x x) (holds x low) (eq-eqb x x refl)) in
    rw (le-ltb x k ge) (⊎_elim
    (λ e. or_left (nat_eq x k) (holds k (standing_at k (low ++ over))) e)
    (λ e. or_right (nat_eq x k) (holds k (standing_at k (low ++ over))) (turn_still k low over e (λ y t. least y (or_right (nat_eq x y) (holds y low) t))))
    (or_cases (nat_eq x k) (holds k low) h))

-- the row of a container is not open to it
pub own_closed : (s : Position) (b : Blocker) (k : IsBlocker s b) (height row : ℕ) (stack : List ℕ) → IsClear s → slice_get s.stacks row ≡ Some stack → holds b.rank stack ≡ true → is_open s.ordered height stack b ≡ false
own_closed s b k height row stack sound here held =
    let st : StandsOn s.stacks k.beneath b.rank = k.stands in
    let whole : List ℕ = k.beneath ++ b.rank ∷ st.over in
    let e : st.row ≡ row = same_row b.rank s.stacks st.row row whole stack (sound.once b.rank) st.stands here (times_held b.rank whole (holds_own k.beneath b.rank st.over)) (times_held b.rank stack held) in
    let same : stack ≡ whole = same_Some stack whole (sym here ∙ ap (slice_get s.stacks) (sym e) ∙ st.stands) in
    let at_turn : holds b.turn (standing_at b.turn whole) ≡ true = turn_still b.turn k.beneath (b.rank ∷ st.over) k.turn_stands
    (λ x t. ⊎_elim (λ over. let le = k.is_ordered in omega arith) (λ le. k.least x le t) (cases_lt s.ordered x)) in
    let low : holds_lower s.ordered b.rank (standing_at b.turn whole) ≡ true = lower_from_held s.ordered b.turn b.rank (standing_at b.turn whole) k.is_ordered k.is_lower at_turn in
    ap (λ l. is_open s.ordered height l b) same ∙ closed_lower s.ordered height whole b low
