-- A push is undone, and what is kept over it.
use Rattle.std.proofs.Common.{◌≡◌, ◌≢◌, ℕ, suc, ◌+◌, ◌-◌, ◌<◌, ◌≤◌, true, List, [], ◌∷◌, ◌++◌, length, get_or, set, slice_get, Some, sym, ap, ◌∙◌, subst, arith, ⊎_elim, length-set}
use Rattle.std.proofs.lemmas.List.{set-set, set-get_or, get_or-set_same, get_or-set_other}
use Rattle.std.proofs.lemmas.Option.{same_Some}
use Rattle.std.proofs.lemmas.Bool.{cases_eq, eqb-true}
use Rattle.crp_plan.specs.Rows.{holds}
use Rattle.crp_plan.specs.Bay.{Position, IsSound}
use Rattle.crp_plan.proofs.Lists.{get_put_same, get_put_other, times_held}
use Rattle.crp_plan.proofs.Sound.{sound_shifted}
use Rattle.crp_plan.proofs.Determined.{same_row, times_top}
use Rattle.crp_bay.specs.Positions.{top, source, stack_at, settled, shifted}
use Rattle.crp_bay.specs.Reached.{IsReached}
use Rattle.crp_bay.proofs.Walked.{holds_push}
use Rattle.crp_bay.proofs.Reaching.{reached_settled, reached_low, reached_same_rows}
use Rattle.crp_bay.specs.declared.push.Push.{Push}
use Rattle.crp_bay.specs.Back.{all_back, shift_back, unsettled, undone, rows_before}
use Rattle.crp_bay.specs.Located.{IsLocated, StepsBack, WentBy}
use Rattle.crp_bay.proofs.Tops.{top_push, length_push, read_same}
use Rattle.crp_bay.proofs.Going.{holds_under, Shifts, shifts, shift_undone, settle_back, settle_grows, settle_steps}

-- the rank that was moved is on top
pub shift_top : (rows : List ℕ) (s : Position) (row : ℕ) → (k : Shifts rows s row) → top (stack_at (shifted s row) (row - 1)) ≡ k.rank
shift_top rows s row k =
    let less : List (List ℕ) = set s.stacks (source s) k.rest in
    let lt : row - 1 < length less = let b = k.to_lt in omega (arith, length-set s.stacks (source s) k.rest) in
    ap (λ (v : Position). top (stack_at v (row - 1))) k.after
    ∙ ap top (read_same less (row - 1) (k.onto ++ k.rank ∷ []) lt)
    ∙ top_push k.onto k.rank

-- where a stack stands after a shift
pub record Where (s : Position) (row : ℕ) (rest onto : List ℕ) (rank i : ℕ) (stack : List ℕ) : Type 0 where
  pub at_to : i ≡ row - 1 → stack ≡ onto ++ rank ∷ []
  pub at_from : i ≡ source s → stack ≡ rest
  pub elsewhere : i ≢ row - 1 → i ≢ source s → slice_get s.stacks i ≡ Some stack

pub where_after : (rows : List ℕ) (s : Position) (row : ℕ) → (k : Shifts rows s row) → (i : ℕ) (stack : List ℕ) → slice_get (shifted s row).stacks i ≡ Some stack → Where s row k.rest k.onto k.rank i stack
where_after rows s row k i stack e =
    let less : List (List ℕ) = set s.stacks (source s) k.rest in
    let e' : slice_get (set less (row - 1) (k.onto ++ k.rank ∷ [])) i ≡ Some stack = ap (λ (v : Position). slice_get v.stacks i) (sym k.after) ∙ e in
    let onto_less : slice_get less (row - 1) ≡ Some k.onto = get_put_other s.stacks (source s) (row - 1) k.rest k.apart ∙ k.got_onto in
    record {
      at_to = λ q. same_Some stack (k.onto ++ k.rank ∷ []) (sym e' ∙ ap (slice_get (set less (row - 1) (k.onto ++ k.rank ∷ []))) q ∙ get_put_same less (row - 1) k.onto (k.onto ++ k.rank ∷ []) onto_less);
      at_from = λ q. same_Some stack k.rest (sym e' ∙ ap (slice_get (set less (row - 1) (k.onto ++ k.rank ∷ []))) q
          ∙ get_put_other less (row - 1) (source s) (k.onto ++ k.rank ∷ []) (λ r. k.apart (sym r))
          ∙ get_put_same s.stacks (source s) (k.rest ++ k.rank ∷ []) k.rest k.got);
      elsewhere = λ ne ne'. sym (get_put_other s.stacks (source s) i k.rest ne') ∙ sym (get_put_other less (row - 1) i (k.onto ++ k.rank ∷ []) ne) ∙ e';
    }

-- a container that was not moved stands where it stood
stands_still : (rows : List ℕ) (s : Position) (row : ℕ) → IsLocated rows s → (k : Shifts rows s row) → (x i : ℕ) (stack : List ℕ) → x ≢ k.rank → Where s row k.rest k.onto k.rank i stack → holds x stack ≡ true → (x ≤ 96) × (get_or rows x 0 ≡ i)
stands_still rows s row l k x i stack ne w held = ⊎_elim
    (λ q. let in_push : holds x (k.onto ++ k.rank ∷ []) ≡ true = ap (holds x) (sym (w.at_to q)) ∙ held in
    let in_onto : holds x k.onto ≡ true = ⊎_elim (λ h. h) (λ h. absurd (ne (sym (eqb-true k.rank x h)))) (holds_push x k.onto k.rank in_push) in
    let r = l.row_is x (row - 1) k.onto k.got_onto in_onto in (r.0, r.1 ∙ sym q))
    (λ n. ⊎_elim
    (λ q. let r = l.row_is x (source s) (k.rest ++ k.rank ∷ []) k.got (holds_under x k.rest k.rank (ap (holds x) (sym (w.at_from q)) ∙ held)) in (r.0, r.1 ∙ sym q))
    (λ n'. l.row_is x i stack (w.elsewhere n n') held)
    (cases_eq i (source s)))
    (cases_eq i (row - 1))

-- what stands after a shift stands in the row that is known
located_rows : (rows : List ℕ) (s : Position) (row : ℕ) → IsLocated rows s → (k : Shifts rows s row) → (x i : ℕ) (stack : List ℕ) → slice_get (shifted s row).stacks i ≡ Some stack → holds x stack ≡ true → (x ≤ 96) × (get_or (set rows k.rank (row - 1)) x 0 ≡ i)
located_rows rows s row l k x i stack e held =
    let few = k.rank_few in
    ⊎_elim
    (λ q. let lt : k.rank < length rows = omega (arith, l.all_ranks) in
    let after : IsSound (shifted s row) = sound_shifted s (suc (source s)) row (shifted s row) l.sound k.made in
    let less : List (List ℕ) = set s.stacks (source s) k.rest in
    let onto_less : slice_get less (row - 1) ≡ Some k.onto = get_put_other s.stacks (source s) (row - 1) k.rest k.apart ∙ k.got_onto in
    let at_to : slice_get (shifted s row).stacks (row - 1) ≡ Some (k.onto ++ k.rank ∷ []) =
    ap (λ (v : Position). slice_get v.stacks (row - 1)) k.after ∙ get_put_same less (row - 1) k.onto (k.onto ++ k.rank ∷ []) onto_less in
    let here : row - 1 ≡ i = same_row k.rank (shifted s row).stacks (row - 1) i (k.onto ++ k.rank ∷ []) stack (after.once k.rank) at_to e (times_top k.rank k.onto) (times_held k.rank stack (ap (λ y. holds y stack) (sym q) ∙ held)) in
    (omega arith, ap (λ y. get_or (set rows k.rank (row - 1)) y 0) q ∙ get_or-set_same rows k.rank (row - 1) 0 lt ∙ here))
    (λ ne. let r = stands_still rows s row l k x i stack ne (where_after rows s row k i stack e) held in
    (r.0, get_or-set_other rows k.rank x (row - 1) 0 ne ∙ r.1))
    (cases_eq x k.rank)

-- no stack is above 8 after a shift
low_shifted : (rows : List ℕ) (s : Position) (row : ℕ) → IsReached s → IsLocated rows s → (k : Shifts rows s row) → (i : ℕ) (stack : List ℕ) → slice_get (shifted s row).stacks i ≡ Some stack → length stack ≤ 8
low_shifted rows s row r l k i stack e =
    let w : Where s row k.rest k.onto k.rank i stack = where_after rows s row k i stack e in
    ⊎_elim
    (λ q. let to_lt = k.to_lt in let room = k.room in
    let h = reached_low s r (row - 1) 0 (omega (arith, reached_same_rows s r)) in
    omega (arith, ap length (w.at_to q), length_push k.onto k.rank, h.1))
    (λ n. ⊎_elim
    (λ q. let b = l.low (source s) (k.rest ++ k.rank ∷ []) k.got in omega (arith, ap length (w.at_from q), length_push k.rest k.rank))
    (λ n'. l.low i stack (w.elsewhere n n'))
    (cases_eq i (source s)))
    (cases_eq i (row - 1))

-- the rows are known after a shift
pub located_shifted : (rows : List ℕ) (s : Position) (row : ℕ) → IsReached s → IsLocated rows s → (k : Shifts rows s row) → IsLocated (set rows k.rank (row - 1)) (shifted s row)
located_shifted rows s row r l k = record {
  sound = sound_shifted s (suc (source s)) row (shifted s row) l.sound k.made;
  row_is = located_rows rows s row l k;
  low = low_shifted rows s row r l k;
  all_ranks = length-set rows k.rank (row - 1) ∙ l.all_ranks;
}

-- before the takes of a push its shift was made, and the rows were known
pub went_after : (u : Push) (rows_t rows : List ℕ) (t s : Position) → IsReached t → IsLocated rows_t t → (w : WentBy u rows_t rows t s) → IsLocated rows (shifted t w.row)
went_after u rows_t rows t s r l w =
    let k : Shifts rows_t t w.row = shifts rows_t t w.row l (reached_settled t r) w.can in
    let rows_k : rows ≡ set rows_t k.rank (w.row - 1) = w.rows_are ∙ ap (λ x. set rows_t x (w.row - 1)) k.rank_is in
    subst (λ v. IsLocated v (shifted t w.row)) (sym rows_k) (located_shifted rows_t t w.row r l k)

-- so the takes are undone
pub went_unsettled : (u : Push) (rows_t rows : List ℕ) (t s : Position) → IsReached t → IsLocated rows_t t → (w : WentBy u rows_t rows t s) → unsettled rows u s ≡ shifted t w.row
went_unsettled u rows_t rows t s r l w =
    let after : Position = shifted t w.row in
    let back : all_back rows ((settled after).next - t.next) (settled after) ≡ after = settle_back rows (after.ordered + 1 - after.next) after (went_after u rows_t rows t s r l w) in
    ap (unsettled rows u) w.is_child
    ∙ ap (λ n. all_back rows ((settled after).next - n) (settled after)) w.next_is
    ∙ back

-- and each of them can be
pub went_steps : (u : Push) (rows_t rows : List ℕ) (t s : Position) → IsReached t → IsLocated rows_t t → (w : WentBy u rows_t rows t s) → (u.next ≤ s.next) × ((j : ℕ) → j < s.next - u.next → StepsBack rows (all_back rows j s))
went_steps u rows_t rows t s r l w =
    let after : Position = shifted t w.row in
    let g : t.next ≤ (settled after).next = settle_grows (after.ordered + 1 - after.next) after in
    let e : s.next ≡ (settled after).next = ap (λ (v : Position). v.next) w.is_child in
    let n : u.next ≡ t.next = w.next_is in
    let steps : (j : ℕ) → j < (settled after).next - t.next → StepsBack rows (all_back rows j (settled after)) = settle_steps rows (after.ordered + 1 - after.next) after (went_after u rows_t rows t s r l w) in
    (omega arith, λ j lt. subst (λ v. StepsBack rows (all_back rows j v)) (sym w.is_child) (steps j (omega arith)))

-- the push is undone
pub push_undone : (u : Push) (rows_t rows : List ℕ) (t s : Position) → IsReached t → IsLocated rows_t t → (w : WentBy u rows_t rows t s) → (undone rows u s ≡ t) × (rows_before rows u s ≡ rows_t)
push_undone u rows_t rows t s r l w =
    let k : Shifts rows_t t w.row = shifts rows_t t w.row l (reached_settled t r) w.can in
    let after : Position = shifted t w.row in
    let rows_k : rows ≡ set rows_t k.rank (w.row - 1) = w.rows_are ∙ ap (λ x. set rows_t x (w.row - 1)) k.rank_is in
    let un : unsettled rows u s ≡ after = went_unsettled u rows_t rows t s r l w in (
      ap (shift_back u.from u.to) un ∙ ap (λ i. shift_back i u.to after) w.from_is ∙ ap (λ j. shift_back (source t) j after) w.to_is ∙ shift_undone rows_t t w.row k,
      ap (λ (v : Position). set rows (top (stack_at v u.to)) u.from) un
          ∙ ap (λ j. set rows (top (stack_at after j)) u.from) w.to_is
          ∙ ap (λ x. set rows x u.from) (shift_top rows_t t w.row k)
          ∙ ap (set rows k.rank) w.from_is
          ∙ ap (λ v. set v k.rank (source t)) rows_k
          ∙ set-set rows_t k.rank (w.row - 1) (source t)
          ∙ ap (set rows_t k.rank) (sym k.rank_row)
          ∙ set-get_or rows_t k.rank 0,
    )
