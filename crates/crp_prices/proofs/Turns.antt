-- The first turn of a rank, as it is computed.
use Rattle.std.proofs.Common.{◌≡◌, ℕ, zero, suc, ◌<◌, ◌≤◌, true, false, ◌==◌, ◌&&◌, nat_lt, List, [], ◌∷◌, ◌++◌, Some, slice_get, refl, sym, ap, ◌∙◌, subst, ⊎_elim, arith, append_assoc, append-nil}
use Rattle.std.proofs.lemmas.Bool.{cases_Bool, cases_lt, and_parts, ltb-true, lt-ltb, eqb-true, eq-eqb}
use Rattle.crp_plan.specs.Bay.{Position}
use Rattle.crp_plan.proofs.Lists.{times, times-cons, one_if, same_is_one, at_le_sum}
use Rattle.crp_bounds.proofs.Cutting.{times-append}
use Rattle.crp_prices.specs.declared.job.Job.{Job}
use Rattle.crp_prices.specs.Prices.{StandsOn, IsFirst, least_of}
use Rattle.crp_prices.proofs.Clear.{IsClear}
use Rattle.crp_prices.proofs.Playing.{least_le, least_held, least_is}
use Rattle.crp_prices.proofs.Jobs.{one_turn}
use Rattle.crp_prices.specs.AllJobs.{turn_in, turn_among, turn_of}

-- the rank r stands in the stack, on this, and this is its turn
pub record Blocks (ordered r turn : ℕ) (under stack : List ℕ) : Type 0 where
  pub beneath : List ℕ
  pub over : List ℕ
  pub parts : stack ≡ beneath ++ r ∷ over
  pub least : least_of ordered (under ++ beneath) ≡ turn
  pub lower : turn < r

deeper : (ordered r turn c : ℕ) (under stack : List ℕ) → Blocks ordered r turn (under ++ c ∷ []) stack → Blocks ordered r turn under (c ∷ stack)
deeper ordered r turn c under stack b = record {
  beneath = c ∷ b.beneath;
  over = b.over;
  parts = ap (λ l. c ∷ l) b.parts;
  least = ap (least_of ordered) (sym (append_assoc under (c ∷ []) b.beneath)) ∙ b.least;
  lower = b.lower;
}

turn_found : (ordered r : ℕ) (under stack : List ℕ) → turn_in ordered r under stack ≤ ordered → Blocks ordered r (turn_in ordered r under stack) under stack
turn_found ordered r under [] le = absurd (omega arith)
turn_found ordered r under (c ∷ stack) le = ⊎_elim
    (λ t.
    let p = and_parts (c == r) (nat_lt (least_of ordered under) r) t in
    let is : turn_in ordered r under (c ∷ stack) ≡ least_of ordered under = rw t refl in
    record {
      beneath = [];
      over = stack;
      parts = ap (λ x. x ∷ stack) (eqb-true c r p.0);
      least = ap (least_of ordered) (append-nil under) ∙ sym is;
      lower = omega (arith, is, ltb-true (least_of ordered under) r p.1);
    })
    (λ f.
    let is : turn_in ordered r under (c ∷ stack) ≡ turn_in ordered r (under ++ c ∷ []) stack = rw f refl in
    subst (λ n. Blocks ordered r n under (c ∷ stack)) (sym is)
    (deeper ordered r (turn_in ordered r (under ++ c ∷ []) stack) c under stack (turn_found ordered r (under ++ c ∷ []) stack (omega (arith, is)))))
    (cases_Bool ((c == r) && nat_lt (least_of ordered under) r))

turn_least : (ordered r : ℕ) (under beneath over : List ℕ) → times r beneath ≡ 0 → least_of ordered (under ++ beneath) < r →
    turn_in ordered r under (beneath ++ r ∷ over) ≡ least_of ordered (under ++ beneath)
turn_least ordered r under [] over none lt =
    let e : under ++ [] ≡ under = append-nil under in
    let lower : nat_lt (least_of ordered under) r ≡ true = lt-ltb (least_of ordered under) r (omega (arith, ap (least_of ordered) e)) in
    let is : turn_in ordered r under (r ∷ over) ≡ least_of ordered under = rw (eq-eqb r r refl) (rw lower refl) in
    is ∙ ap (least_of ordered) (sym e)
turn_least ordered r under (c ∷ beneath) over none lt =
    let other : c == r ≡ false = ⊎_elim (λ t. absurd (omega (arith, none, times-cons r c beneath, ap one_if t))) (λ f. f) (cases_Bool (c == r)) in
    let e : (under ++ c ∷ []) ++ beneath ≡ under ++ c ∷ beneath = append_assoc under (c ∷ []) beneath in
    let is : turn_in ordered r under (c ∷ beneath ++ r ∷ over) ≡ turn_in ordered r (under ++ c ∷ []) (beneath ++ r ∷ over) = rw other refl in
    is ∙ turn_least ordered r (under ++ c ∷ []) beneath over (omega (arith, none, times-cons r c beneath)) (omega (arith, ap (least_of ordered) e)) ∙ ap (least_of ordered) e

among_found : (ordered r : ℕ) (stacks : List (List ℕ)) → turn_among ordered r stacks ≤ ordered →
    (row : ℕ) × (stack : List ℕ) × (slice_get stacks row ≡ Some stack) × Blocks ordered r (turn_among ordered r stacks) [] stack
among_found ordered r [] le = absurd (omega arith)
among_found ordered r (stack ∷ stacks) le = ⊎_elim
    (λ lt.
    let is : turn_among ordered r (stack ∷ stacks) ≡ turn_in ordered r [] stack = omega arith in
    (zero, stack, refl, subst (λ n. Blocks ordered r n [] stack) (sym is) (turn_found ordered r [] stack (omega arith))))
    (λ ge.
    let is : turn_among ordered r (stack ∷ stacks) ≡ turn_among ordered r stacks = omega arith in
    let q = among_found ordered r stacks (omega arith) in
    (suc q.0, q.1, q.2, subst (λ n. Blocks ordered r n [] q.1) (sym is) q.3))
    (cases_lt (turn_in ordered r [] stack) (turn_among ordered r stacks))

among_le : (ordered r : ℕ) (stacks : List (List ℕ)) (row : ℕ) (stack : List ℕ) → slice_get stacks row ≡ Some stack → turn_among ordered r stacks ≤ turn_in ordered r [] stack
among_le ordered r [] row stack here = cc
among_le ordered r (top ∷ stacks) zero stack here =
    let same : top ≡ stack = cc in omega (arith, ap (turn_in ordered r []) same)
among_le ordered r (top ∷ stacks) (suc row) stack here = omega (arith, among_le ordered r stacks row stack here)

-- what stands on a list whose least ordered rank is lower has its first job in the turn of that
pub first_from : (s : Position) (row r turn : ℕ) (stack : List ℕ) → slice_get s.stacks row ≡ Some stack → turn ≤ s.ordered → Blocks s.ordered r turn [] stack →
    IsFirst s (record { rank = r; turn = turn })
first_from s row r turn stack here le b = record {
  beneath = b.beneath;
  stands = record { row = row; over = b.over; stands = here ∙ ap (λ l. Some l) b.parts };
  turn_stands = least_held s.ordered turn b.beneath b.least le;
  is_ordered = le;
  is_lower = b.lower;
  least = λ x x_le held. omega (arith, b.least, least_le s.ordered x b.beneath held);
}

-- the turn that is computed is that of a first job
pub turn_first : (s : Position) (r : ℕ) → turn_of s r ≤ s.ordered → IsFirst s (record { rank = r; turn = turn_of s r })
turn_first s r le =
    let q = among_found s.ordered r s.stacks le in
    first_from s q.0 r (turn_of s r) q.1 q.2 le q.3

-- the least of what it stands on
pub first_least : (s : Position) (j : Job) → (f : IsFirst s j) → least_of s.ordered f.beneath ≡ j.turn
first_least s j f =
    let le : j.turn ≤ s.ordered = f.is_ordered in
    least_is s.ordered j.turn f.beneath le f.turn_stands (λ x held. ⊎_elim (λ gt. omega arith) (λ x_le. f.least x x_le held) (cases_lt s.ordered x))

-- and it is computed of each
pub turn_is : (s : Position) (j : Job) → IsClear s → IsFirst s j → turn_of s j.rank ≡ j.turn
turn_is s j is f =
    let st : StandsOn s.stacks f.beneath j.rank = f.stands in
    let lt : j.turn < j.rank = f.is_lower in
    let le : j.turn ≤ s.ordered = f.is_ordered in
    let least : least_of s.ordered f.beneath ≡ j.turn = first_least s j f in
    let none : times j.rank f.beneath ≡ 0 = omega (
      arith,
      is.once j.rank,
      at_le_sum (times j.rank) s.stacks st.row (f.beneath ++ j.rank ∷ st.over) st.stands,
      times-append j.rank f.beneath (j.rank ∷ st.over),
      times-cons j.rank j.rank st.over,
      same_is_one j.rank,
    ) in
    let at : turn_of s j.rank ≤ j.turn = omega (
      arith,
      among_le s.ordered j.rank s.stacks st.row (f.beneath ++ j.rank ∷ st.over) st.stands,
      turn_least s.ordered j.rank [] f.beneath st.over none (omega arith),
      least,
    ) in
    one_turn s (record { rank = j.rank; turn = turn_of s j.rank }) j is (turn_first s j.rank (omega arith)) f refl
