-- A play goes on without a container that it only passes, and with one that hinders nobody. So where the blocker hinders nobody, a play from there is as
-- cheap as any.
use Rattle.std.proofs.Common.{◌≡◌, ◌≢◌, ℕ, zero, suc, ◌+◌, ◌-◌, ◌<◌, ◌≤◌, Bool, true, false, not, ◌==◌, ◌&&◌, nat_le, nat_lt, List, [], ◌∷◌, ◌++◌, length, Contains, Some, slice_get, slice_set, get_or, refl, sym, ap, ◌∙◌, subst, ⊎_elim, arith, append-nil, length-append}
use Rattle.std.proofs.lemmas.Option.{get_or_from_slice_get}
use Rattle.std.proofs.lemmas.Bool.{cases_Bool, cases_eq, cases_lt, and_parts, and_from, lt-ltb, leb-true, not_from_false, both_ways}
use Rattle.crp_plan.specs.Rows.{holds}
use Rattle.crp_plan.specs.Bay.{Position}
use Rattle.crp_plan.proofs.Lists.{times, one_if, at_le_sum, get_put_other, times-cons, times_push, times_held, times_not_held, same_is_one, other_is_zero}
use Rattle.crp_plan.proofs.Determined.{times_under}
use Rattle.crp_plan.proofs.Sound.{occurrences_taken}
use Rattle.crp_bay.specs.Positions.{top, without_top, source, stack_at, shifted}
use Rattle.crp_bay.proofs.Walked.{is_place}
use Rattle.crp_bounds.specs.Bounds.{holds_lower}
use Rattle.crp_bounds.proofs.Blocked.{lower_from_held, none_lower}
use Rattle.crp_thinned.specs.Hindering.{hindered, lower_blocking, hinders_nobody}
use Rattle.crp_thinned.specs.Thinned.{settle_most, blocker, good_rows, child_at, lifted, child_without}
use Rattle.crp_thinned.specs.Missing.{IsSoundlyThin}
use Rattle.crp_thinned.proofs.Keeping.{thin_at, thin_without}
use Rattle.crp_thinned.proofs.Stepping.{top_push, without_push, on}
use Rattle.crp_thinned.proofs.Beside.{Beside, pop, push, fewer, row_more, times_both, may_stand, misses, all_lower, all_hindered, lower_push, hindered_push, lower_falls, hindered_falls}
use Rattle.crp_thinned.proofs.Facing.{buried, good, is_good}
use Rattle.crp_thinned.proofs.Falling.{onto_still, once_lifted, once_shifted}
use Rattle.crp_thinned.proofs.Playing.{Choice, To, Out, Plays, price}
use Rattle.crp_thinned.proofs.Alongside.{Apart, Stays, carry, occurs_more, settle_both}

-- where none lower stands, no such rank does
lower_none : (ordered c d : ℕ) (ys : List ℕ) → holds_lower ordered c ys ≡ false → d ≤ ordered → d < c → times d ys ≡ 0
lower_none ordered c d ys free le lt = ⊎_elim
    (λ t. absurd (both_ways (holds_lower ordered c ys) free (lower_from_held ordered d c ys le lt t)))
    (λ f. times_not_held d ys f)
    (cases_Bool (holds d ys))

-- what the position with one more has, beside the other, on top of the stack of the next one
pub record Opposite (x r height : ℕ) (roomy : Bool) (c : Position) (W : List (List ℕ)) : Type 0 where
  pub under : List ℕ
  pub got : slice_get W (source c) ≡ Some (under ++ blocker c ∷ [])
  pub source_is : source (on c c.next W) ≡ source c
  pub blocker_is : blocker (on c c.next W) ≡ blocker c
  pub lifted_is : lifted (on c c.next W) ≡ on c c.next (slice_set W (source c) under)
  pub left : Beside c.ordered x r height (one_if (may_stand c.ordered x (without_top (stack_at c (source c))) (blocker c))) roomy (lifted c).stacks (slice_set W (source c) under)

pub opposite : (x r height : ℕ) (roomy : Bool) (c : Position) (W : List (List ℕ)) → IsSoundlyThin c → IsSoundlyThin (on c c.next W) → Beside c.ordered x r height 0 roomy c.stacks W → c.next ≤ c.ordered → c.next < x →
    Opposite x r height roomy c W
opposite x r height roomy c W thin thin' b le lt =
    let n : ℕ = c.next in let y : ℕ = blocker c in
    let w : Position = on c n W in
    let rest : List ℕ = without_top (stack_at c (source c)) in
    let u = buried c thin le in
    let p = pop c.ordered x r height roomy c.stacks W (source c) y rest n b u.here le lt (times_under n y rest u.held) in
    let source_is : source w ≡ source c = is_place n W (source c) (p.under ++ y ∷ []) (thin'.once n) p.got (omega (arith, times_push n p.under y, p.more n, times_held n rest u.held)) in
    let stack_is : stack_at w (source w) ≡ p.under ++ y ∷ [] = get_or_from_slice_get W (source w) (p.under ++ y ∷ []) [] (ap (slice_get W) source_is ∙ p.got) in
    record {
      under = p.under;
      got = p.got;
      source_is = source_is;
      blocker_is = ap top stack_is ∙ top_push p.under y;
      lifted_is = ap (λ i. on c n (slice_set W i (without_top (stack_at w (source w))))) source_is
          ∙ ap (λ l. on c n (slice_set W (source c) (without_top l))) stack_is
          ∙ ap (λ l. on c n (slice_set W (source c) l)) (without_push p.under y);
      left = p.left;
    }

-- before its turn
turn_later : (x r height : ℕ) (roomy : Bool) (c : Position) (W : List (List ℕ)) → IsSoundlyThin c → IsSoundlyThin (on c c.next W) → Beside c.ordered x r height 0 roomy c.stacks W → x ≤ c.ordered → c.next ≤ x → c.next < x
turn_later x r height roomy c W thin thin' b low before = ⊎_elim
    (λ e. absurd (omega (arith, thin.settled.there (omega arith), thin'.once c.next, occurs_more c.ordered x r height 0 roomy c.stacks W c.next b, ap (λ z. one_if (z == c.next)) e, same_is_one c.next)))
    (λ ne. omega arith)
    (cases_eq c.next x)

-- the blocker is another container than x
not_it : (x r height : ℕ) (roomy : Bool) (c : Position) (W : List (List ℕ)) → IsSoundlyThin c → IsSoundlyThin (on c c.next W) → Beside c.ordered x r height 0 roomy c.stacks W → c.next ≤ c.ordered → blocker c ≢ x
not_it x r height roomy c W thin thin' b le e =
    let y : ℕ = blocker c in let rest : List ℕ = without_top (stack_at c (source c)) in
    omega (
      arith,
      thin'.once y,
      occurs_more c.ordered x r height 0 roomy c.stacks W y b,
      ap (λ z. one_if (z == y)) e,
      same_is_one y,
      at_le_sum (times y) c.stacks (source c) (rest ++ y ∷ []) (buried c thin le).here,
      times_push y rest y,
    )

-- both lift it out
lift_step : (x r height : ℕ) (roomy : Bool) (c : Position) (W : List (List ℕ)) → IsSoundlyThin c → IsSoundlyThin (on c c.next W) → Beside c.ordered x r height 0 roomy c.stacks W → x ≤ c.ordered → c.next < x → get_or c.heights r 0 ≡ height →
    Stays x r height roomy (child_without c) (child_without (on c c.next W))
lift_step x r height roomy c W thin thin' b low lt high =
    let N : ℕ = c.ordered in let n : ℕ = c.next in
    let le : n ≤ N = omega arith in
    let o = opposite x r height roomy c W thin thin' b le lt in
    let spare : ℕ = one_if (may_stand N x (without_top (stack_at c (source c))) (blocker c)) in
    let W' : List (List ℕ) = slice_set W (source c) o.under in
    let fuel : ℕ = c.ordered + 1 - c.next in
    let s = settle_both fuel x r height roomy (lifted c) W'
    (λ y. omega (arith, occurrences_taken y (blocker c) W (source c) o.under o.got, thin'.once y))
    (λ y less. omega (arith, once_lifted c thin le y, thin.settled.gone y less))
    (fewer N x r height spare 0 roomy (lifted c).stacks W' (λ k. omega arith) o.left) low (omega arith) high in
    carry x r height roomy (child_without c) (settle_most fuel (on c n W')) (child_without c) (child_without (on c n W)) refl (ap (settle_most fuel) o.lifted_is) s

-- both put it onto a row
row_step : (x r height : ℕ) (roomy : Bool) (c : Position) (W : List (List ℕ)) (row : ℕ) → IsSoundlyThin c → IsSoundlyThin (on c c.next W) → Beside c.ordered x r height 0 roomy c.stacks W → x ≤ c.ordered → c.next < x → get_or c.heights r 0 ≡ height →
    Contains (good_rows c) row → (row - 1 ≡ r → blocker c < x) → Stays x r height roomy (child_at c row) (child_at (on c c.next W) row)
row_step x r height roomy c W row thin thin' b low lt high legal small =
    let N : ℕ = c.ordered in let n : ℕ = c.next in let y : ℕ = blocker c in
    let w : Position = on c n W in
    let le : n ≤ N = omega arith in
    let g = good c row thin legal in
    let u = buried c thin le in
    let o = opposite x r height roomy c W thin thin' b le lt in
    let rest : List ℕ = without_top (stack_at c (source c)) in
    let onto : List ℕ = stack_at c (row - 1) in
    let blocks : holds_lower N y rest ≡ true = lower_from_held N n y rest le u.above u.held in
    let one : row - 1 ≡ r → roomy ≡ true → 1 ≤ one_if (may_stand N x rest y) =
    λ e t. omega (arith, ap one_if (and_from (nat_lt y x) (holds_lower N y rest) (lt-ltb y x (small e)) blocks)) in
    let W' : List (List ℕ) = slice_set W (source c) o.under in
    let p = push N x r height (one_if (may_stand N x rest y)) roomy (lifted c).stacks W' (row - 1) y onto low o.left (onto_still c row g) g.free small one in
    let T : List (List ℕ) = slice_set W' (row - 1) (p.onto' ++ y ∷ []) in
    let there : slice_get W (row - 1) ≡ Some p.onto' = sym (get_put_other W (source c) (row - 1) o.under (λ e. g.another (sym e))) ∙ p.got in
    let onto_is : stack_at w (row - 1) ≡ p.onto' = get_or_from_slice_get W (row - 1) p.onto' [] there in
    let moved : shifted w row ≡ on c n T =
    ap (λ (v : Position). on c n (slice_set v.stacks (row - 1) (stack_at w (row - 1) ++ blocker w ∷ []))) o.lifted_is
    ∙ ap (λ l. on c n (slice_set W' (row - 1) (l ++ blocker w ∷ []))) onto_is
    ∙ ap (λ z. on c n (slice_set W' (row - 1) (p.onto' ++ z ∷ []))) o.blocker_is in
    let fuel : ℕ = c.ordered + 1 - c.next in
    let s = settle_both fuel x r height roomy (shifted c row) T
    (λ z. omega (arith, occurs_more N x r height 0 roomy (shifted c row).stacks T z p.left, occurs_more N x r height 0 roomy c.stacks W z b, once_shifted c row thin legal z, thin'.once z))
    (λ z less. omega (arith, once_shifted c row thin legal z, thin.settled.gone z less))
    p.left low (omega arith) high in
    carry x r height roomy (child_at c row) (settle_most fuel (on c n T)) (child_at c row) (child_at w row) refl (ap (settle_most fuel) moved) s

-- the row of the one and of the other
record Rows (x r : ℕ) (c : Position) (W : List (List ℕ)) (pre post : List ℕ) : Type 0 where
  pub less : stack_at c r ≡ pre ++ post
  pub more : stack_at (on c c.next W) r ≡ pre ++ x ∷ post

rows_at : (x r height : ℕ) (roomy : Bool) (c : Position) (W : List (List ℕ)) → (b : Beside c.ordered x r height 0 roomy c.stacks W) → Rows x r c W b.pre b.post
rows_at x r height roomy c W b = record {
  less = get_or_from_slice_get c.stacks r (b.pre ++ b.post) [] b.here;
  more = get_or_from_slice_get W r (b.pre ++ x ∷ b.post) [] (row_more c.ordered x r height 0 roomy c.stacks W b);
}

other_row : (x r height : ℕ) (roomy : Bool) (c : Position) (W : List (List ℕ)) (i : ℕ) → Beside c.ordered x r height 0 roomy c.stacks W → i ≢ r → stack_at (on c c.next W) i ≡ stack_at c i
other_row x r height roomy c W i b ne = ap (λ l. get_or l i []) b.is_it ∙ at_other c.stacks r i (b.pre ++ x ∷ b.post) ne
  where
    at_other : (xs : List (List ℕ)) (i j : ℕ) (y : List ℕ) → j ≢ i → get_or (slice_set xs i y) j [] ≡ get_or xs j []
    at_other [] i j y ne = refl
    at_other (z ∷ zs) zero zero y ne = absurd (ne refl)
    at_other (z ∷ zs) zero (suc j) y ne = refl
    at_other (z ∷ zs) (suc i) zero y ne = refl
    at_other (z ∷ zs) (suc i) (suc j) y ne = at_other zs i j y (λ e. ne (ap suc e))

-- where it is well placed with x there, it is well placed without, and lower than x
pub record GoodWithout (x r : ℕ) (c : Position) (row : ℕ) : Type 0 where
  pub legal : Contains (good_rows c) row
  pub small : row - 1 ≡ r → blocker c < x

good_without : (x r height : ℕ) (roomy : Bool) (c : Position) (W : List (List ℕ)) (row : ℕ) → IsSoundlyThin c → IsSoundlyThin (on c c.next W) → Beside c.ordered x r height 0 roomy c.stacks W → x ≤ c.ordered → c.next < x →
    Contains (good_rows (on c c.next W)) row → GoodWithout x r c row
good_without x r height roomy c W row thin thin' b low lt legal =
    let N : ℕ = c.ordered in let n : ℕ = c.next in let y : ℕ = blocker c in
    let w : Position = on c n W in
    let le : n ≤ N = omega arith in
    let g = good w row thin' legal in
    let o = opposite x r height roomy c W thin thin' b le lt in
    let free : holds_lower N y (stack_at w (row - 1)) ≡ false = ap (λ z. holds_lower N z (stack_at w (row - 1))) (sym o.blocker_is) ∙ g.free in
    let another : source c ≢ row - 1 = λ e. g.another (o.source_is ∙ e) in
    ⊎_elim
    (λ e.
    let k = rows_at x r height roomy c W b in
    let more : stack_at w (row - 1) ≡ b.pre ++ x ∷ b.post = ap (stack_at w) e ∙ k.more in
    let less : stack_at c (row - 1) ≡ b.pre ++ b.post = ap (stack_at c) e ∙ k.less in
    let counts : (d : ℕ) → times d (stack_at w (row - 1)) ≡ times d b.pre + one_if (x == d) + times d b.post = λ d. omega (arith, ap (times d) more, times_both d b.pre (x ∷ b.post), times-cons d x b.post) in
    let small : y < x = ⊎_elim
    (λ under. under)
    (λ ge. ⊎_elim
    (λ q. absurd (not_it x r height roomy c W thin thin' b le q))
    (λ ne. absurd (omega (arith, lower_none N y x (stack_at w (row - 1)) free low (omega arith), counts x, same_is_one x)))
    (cases_eq y x))
    (cases_lt y x) in
    record {
      legal = is_good c row le g.counts another
          (let q = g.room in omega (arith, ap length more, ap length less, length-append b.pre (x ∷ b.post), length-append b.pre b.post))
          (none_lower N y (stack_at c (row - 1)) (λ d dn dy. omega (arith, lower_none N y d (stack_at w (row - 1)) free dn dy, counts d, ap (times d) less, times_both d b.pre b.post)));
      small = λ q. small;
    })
    (λ ne.
    let same : stack_at w (row - 1) ≡ stack_at c (row - 1) = other_row x r height roomy c W (row - 1) b ne in
    record {
      legal = is_good c row le g.counts another (let q = g.room in omega (arith, ap length same)) (ap (holds_lower N y) (sym same) ∙ free);
      small = λ q. absurd (ne q);
    })
    (cases_eq (row - 1) r)

-- where x hinders nobody: what is well placed without it is well placed with it
pub record GoodWith (x r : ℕ) (c : Position) (W : List (List ℕ)) (row : ℕ) : Type 0 where
  pub legal : Contains (good_rows (on c c.next W)) row
  pub small : row - 1 ≡ r → blocker c < x

good_with : (x r height : ℕ) (c : Position) (W : List (List ℕ)) (row : ℕ) → IsSoundlyThin c → IsSoundlyThin (on c c.next W) → Beside c.ordered x r height 0 true c.stacks W → x ≤ c.ordered → c.next < x → get_or c.heights r 0 ≡ height →
    Contains (good_rows c) row → GoodWith x r c W row
good_with x r height c W row thin thin' b low lt high legal =
    let N : ℕ = c.ordered in let n : ℕ = c.next in let y : ℕ = blocker c in let C : List (List ℕ) = c.stacks in
    let w : Position = on c n W in
    let le : n ≤ N = omega arith in
    let g = good c row thin legal in
    let u = buried c thin le in
    let o = opposite x r height true c W thin thin' b le lt in
    let rest : List ℕ = without_top (stack_at c (source c)) in
    let another : source w ≢ row - 1 = λ e. g.another (sym o.source_is ∙ e) in
    ⊎_elim
    (λ e.
    let k = rows_at x r height true c W b in
    let more : stack_at w (row - 1) ≡ b.pre ++ x ∷ b.post = ap (stack_at w) e ∙ k.more in
    let less : stack_at c (row - 1) ≡ b.pre ++ b.post = ap (stack_at c) e ∙ k.less in
    let counts : (d : ℕ) → times d (stack_at w (row - 1)) ≡ times d (stack_at c (row - 1)) + one_if (x == d) =
    λ d. omega (arith, ap (times d) more, ap (times d) less, times_both d b.pre (x ∷ b.post), times_both d b.pre b.post, times-cons d x b.post) in
    let free_pre : holds_lower N y b.pre ≡ false = none_lower N y b.pre (λ d dn dy. omega (arith, lower_none N y d (stack_at c (row - 1)) g.free dn dy, ap (times d) less, times_both d b.pre b.post)) in
    let small : y < x = ⊎_elim
    (λ under. under)
    (λ ge. ⊎_elim
    (λ q. absurd (not_it x r height true c W thin thin' b le q))
    (λ ne.
    let over : x < y = omega arith in
    let would : misses N x b.pre rest y ≡ true =
    and_from (nat_lt x y) (holds_lower N x rest && not (holds_lower N y b.pre)) (lt-ltb x y over)
    (and_from (holds_lower N x rest) (not (holds_lower N y b.pre)) (lower_from_held N n x rest le lt u.held) (not_from_false (holds_lower N y b.pre) free_pre)) in
    absurd (omega (
      arith,
      b.clear refl,
      at_le_sum (λ stack. hindered N x b.pre [] stack) C (source c) (rest ++ y ∷ []) u.here,
      hindered_push N x b.pre [] rest y,
      ap one_if would,
    )))
    (cases_eq y x))
    (cases_lt y x) in
    let stands_on : may_stand N x rest y ≡ true = and_from (nat_lt y x) (holds_lower N y rest) (lt-ltb y x small) (lower_from_held N n y rest le u.above u.held) in
    let place : length (stack_at w (row - 1)) < get_or c.heights (row - 1) 0 =
    omega (
      arith,
      ap length more,
      length-append b.pre (x ∷ b.post),
      b.room refl,
      at_le_sum (λ stack. lower_blocking N x [] stack) C (source c) (rest ++ y ∷ []) u.here,
      lower_push N x [] rest y,
      ap one_if stands_on,
      high,
      ap (λ i. get_or c.heights i 0) e,
    ) in
    let free : holds_lower N y (stack_at w (row - 1)) ≡ false =
    none_lower N y (stack_at w (row - 1)) (λ d dn dy. omega (arith, counts d, lower_none N y d (stack_at c (row - 1)) g.free dn dy, other_is_zero d x (λ q. absurd (omega arith)))) in
    record {
      legal = is_good w row le g.counts another place (ap (λ z. holds_lower N z (stack_at w (row - 1))) o.blocker_is ∙ free);
      small = λ q. small;
    })
    (λ ne.
    let same : stack_at w (row - 1) ≡ stack_at c (row - 1) = other_row x r height true c W (row - 1) b ne in
    record {
      legal = is_good w row le g.counts another (let q = g.room in omega (arith, ap length same)) (ap (λ z. holds_lower N z (stack_at w (row - 1))) o.blocker_is ∙ (ap (holds_lower N y) same ∙ g.free));
      small = λ q. absurd (ne q);
    })
    (cases_eq (row - 1) r)

-- the position with x, as it is written
with_rows : (x r height : ℕ) (roomy : Bool) (c w : Position) → IsSoundlyThin w → (a : Apart x r height roomy c w) → IsSoundlyThin (on c c.next a.rows)
with_rows x r height roomy c w thin a = subst IsSoundlyThin a.is_it thin

-- a play goes on without x
down_from : (play : List Choice) (x r height : ℕ) (c : Position) (W : List (List ℕ)) → IsSoundlyThin c → IsSoundlyThin (on c c.next W) → Beside c.ordered x r height 0 false c.stacks W → x ≤ c.ordered → c.next ≤ x → get_or c.heights r 0 ≡ height →
    Plays (on c c.next W) play → Plays c play
down_from [] x r height c W thin thin' b low before high p = p
down_from (To row ∷ play) x r height c W thin thin' b low before high p =
    let w : Position = on c c.next W in
    let lt = turn_later x r height false c W thin thin' b low before in
    let g = good_without x r height false c W row thin thin' b low lt p.0 in (
      g.legal,
      ⊎_elim
          (λ e. subst (λ (v : Position). Plays v play) (sym e) p.1)
          (λ (a : Apart x r height false (child_at c row) (child_at w row)).
          down_from play x r height (child_at c row) a.rows (thin_at c row thin g.legal) (with_rows x r height false (child_at c row) (child_at w row) (thin_at w row thin' p.0) a) a.beside a.low a.before a.high
          (subst (λ (v : Position). Plays v play) a.is_it p.1))
          (row_step x r height false c W row thin thin' b low lt high g.legal g.small),
    )
down_from (Out ∷ play) x r height c W thin thin' b low before high p =
    let w : Position = on c c.next W in
    let lt = turn_later x r height false c W thin thin' b low before in (
      p.0,
      ⊎_elim
          (λ e. subst (λ (v : Position). Plays v play) (sym e) p.1)
          (λ (a : Apart x r height false (child_without c) (child_without w)).
          down_from play x r height (child_without c) a.rows (thin_without c thin p.0) (with_rows x r height false (child_without c) (child_without w) (thin_without w thin' p.0) a) a.beside a.low a.before a.high
          (subst (λ (v : Position). Plays v play) a.is_it p.1))
          (lift_step x r height false c W thin thin' b low lt high),
    )

pub down : (play : List Choice) (x r height : ℕ) (c w : Position) → IsSoundlyThin c → IsSoundlyThin w → Stays x r height false c w → Plays w play → Plays c play
down play x r height c w thin thin' h p = ⊎_elim
    (λ e. subst (λ (v : Position). Plays v play) (sym e) p)
    (λ (a : Apart x r height false c w).
    down_from play x r height c a.rows thin (with_rows x r height false c w thin' a) a.beside a.low a.before a.high (subst (λ (v : Position). Plays v play) a.is_it p))
    h

-- and with x, where it hinders nobody
up_from : (play : List Choice) (x r height : ℕ) (c : Position) (W : List (List ℕ)) → IsSoundlyThin c → IsSoundlyThin (on c c.next W) → Beside c.ordered x r height 0 true c.stacks W → x ≤ c.ordered → c.next ≤ x → get_or c.heights r 0 ≡ height →
    Plays c play → Plays (on c c.next W) play
up_from [] x r height c W thin thin' b low before high p = p
up_from (To row ∷ play) x r height c W thin thin' b low before high p =
    let w : Position = on c c.next W in
    let lt = turn_later x r height true c W thin thin' b low before in
    let g = good_with x r height c W row thin thin' b low lt high p.0 in (
      g.legal,
      ⊎_elim
          (λ e. subst (λ (v : Position). Plays v play) e p.1)
          (λ (a : Apart x r height true (child_at c row) (child_at w row)).
          let thin_w = with_rows x r height true (child_at c row) (child_at w row) (thin_at w row thin' g.legal) a in
          subst (λ (v : Position). Plays v play) (sym a.is_it) (up_from play x r height (child_at c row) a.rows (thin_at c row thin p.0) thin_w a.beside a.low a.before a.high p.1))
          (row_step x r height true c W row thin thin' b low lt high p.0 g.small),
    )
up_from (Out ∷ play) x r height c W thin thin' b low before high p =
    let w : Position = on c c.next W in
    let lt = turn_later x r height true c W thin thin' b low before in (
      p.0,
      ⊎_elim
          (λ e. subst (λ (v : Position). Plays v play) e p.1)
          (λ (a : Apart x r height true (child_without c) (child_without w)).
          let thin_w = with_rows x r height true (child_without c) (child_without w) (thin_without w thin' p.0) a in
          subst (λ (v : Position). Plays v play) (sym a.is_it) (up_from play x r height (child_without c) a.rows (thin_without c thin p.0) thin_w a.beside a.low a.before a.high p.1))
          (lift_step x r height true c W thin thin' b low lt high),
    )

pub up : (play : List Choice) (x r height : ℕ) (c w : Position) → IsSoundlyThin c → IsSoundlyThin w → Stays x r height true c w → Plays c play → Plays w play
up play x r height c w thin thin' h p = ⊎_elim
    (λ e. subst (λ (v : Position). Plays v play) e p)
    (λ (a : Apart x r height true c w).
    subst (λ (v : Position). Plays v play) (sym a.is_it) (up_from play x r height c a.rows thin (with_rows x r height true c w thin' a) a.beside a.low a.before a.high p))
    h

-- the tests of a row where the blocker hinders nobody
abbrev pub HindersNobody : Position → ℕ → Type 0
HindersNobody s row = hinders_nobody s.ordered (blocker s) s.stacks (get_or s.heights (row - 1) 0) (stack_at s (row - 1)) ≡ true

pub record Unhindered (s : Position) (row : ℕ) : Type 0 where
  pub leaves : blocker s ≤ s.ordered
  pub clear : all_hindered s.ordered (blocker s) (stack_at s (row - 1)) s.stacks ≡ 0
  pub room : length (stack_at s (row - 1)) + 1 + all_lower s.ordered (blocker s) s.stacks ≤ get_or s.heights (row - 1) 0

pub unhindered : (s : Position) (row : ℕ) → HindersNobody s row → Unhindered s row
unhindered s row h =
    let N : ℕ = s.ordered in let x : ℕ = blocker s in let onto : List ℕ = stack_at s (row - 1) in
    let some : ℕ = all_hindered N x onto s.stacks in
    let need : ℕ = length onto + 1 + all_lower N x s.stacks in
    let height : ℕ = get_or s.heights (row - 1) 0 in
    let a = and_parts (nat_le x N) (nat_le some 0 && nat_le need height) h in
    let b = and_parts (nat_le some 0) (nat_le need height) a.1 in
    record { leaves = leb-true x N a.0; clear = (let z = leb-true some 0 b.0 in omega arith); room = leb-true need height b.1 }

-- the blocker on a row, beside the bay without it
put_there : (roomy : Bool) (s : Position) (row : ℕ) → IsSoundlyThin s → Contains (good_rows s) row → blocker s ≤ s.ordered → (roomy ≡ true → HindersNobody s row) →
    Stays (blocker s) (row - 1) (get_or s.heights (row - 1) 0) roomy (child_without s) (child_at s row)
put_there roomy s row thin legal leaves free =
    let N : ℕ = s.ordered in let n : ℕ = s.next in let x : ℕ = blocker s in
    let g = good s row thin legal in
    let u = buried s thin g.unfinished in
    let onto : List ℕ = stack_at s (row - 1) in
    let rest : List ℕ = without_top (stack_at s (source s)) in
    let b : Beside N x (row - 1) (get_or s.heights (row - 1) 0) 0 roomy (lifted s).stacks (shifted s row).stacks = record {
      pre = onto;
      post = [];
      here = onto_still s row g ∙ ap Some (sym (append-nil onto));
      is_it = refl;
      least = g.free;
      small = λ y some. absurd (omega arith);
      room = λ t. let k = unhindered s row (free t) in let q = k.room in omega (arith, lower_falls N x s.stacks (source s) x rest u.here);
      clear = λ t. let k = unhindered s row (free t) in omega (arith, k.clear, hindered_falls N x onto s.stacks (source s) x rest u.here);
    } in
    settle_both (s.ordered + 1 - s.next) x (row - 1) (get_or s.heights (row - 1) 0) roomy (lifted s) (shifted s row).stacks
    (λ y. omega (arith, once_shifted s row thin legal y, thin.once y))
    (λ y less. omega (arith, once_lifted s thin g.unfinished y, thin.settled.gone y less))
    b leaves (let a = u.above in omega arith) refl

-- where the blocker hinders nobody, a play from there is as cheap as any
abbrev pub Cheaper : Position → ℕ → ℕ → Type 0
Cheaper s row cost = (play : List Choice) × Plays (child_at s row) play × (1 + price play ≤ cost)

pub exchange : (s : Position) (row : ℕ) (play : List Choice) → IsSoundlyThin s → Contains (good_rows s) row → HindersNobody s row → Plays s play → Cheaper s row (price play)
exchange s row [] thin legal free p = absurd (let le = (good s row thin legal).unfinished in omega arith)
exchange s row (To other ∷ play) thin legal free p =
    let x : ℕ = blocker s in
    let leaves = (unhindered s row free).leaves in
    let le = (good s row thin legal).unfinished in
    let without : Plays (child_without s) play =
    down play x (other - 1) (get_or s.heights (other - 1) 0) (child_without s) (child_at s other) (thin_without s thin le) (thin_at s other thin p.0)
    (put_there false s other thin p.0 leaves (λ t. cc)) p.1 in
    (play, up play x (row - 1) (get_or s.heights (row - 1) 0) (child_without s) (child_at s row) (thin_without s thin le) (thin_at s row thin legal) (put_there true s row thin legal leaves (λ t. free)) without, omega arith)
exchange s row (Out ∷ play) thin legal free p =
    let x : ℕ = blocker s in
    let leaves = (unhindered s row free).leaves in
    (play, up play x (row - 1) (get_or s.heights (row - 1) 0) (child_without s) (child_at s row) (thin_without s thin p.0) (thin_at s row thin legal) (put_there true s row thin legal leaves (λ t. free)) p.1, omega arith)
