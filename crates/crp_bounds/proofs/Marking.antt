-- How the least ordered ranks are found, and read.
use Rattle.std.proofs.Common.{◌≡◌, ◌≢◌, ℕ, zero, suc, ◌+◌, ◌-◌, ◌<◌, ◌≤◌, min, true, false, nat_le, if◌then◌else◌, List, [], ◌∷◌, length, take, get_or, set, Some, slice_get, refl, sym, ap, ◌∙◌, subst, ⊎_elim, arith}
use Rattle.std.proofs.lemmas.Bool.{cases_Bool, cases_lt}
use Rattle.std.proofs.lemmas.List.{get_or-set_same, get_or-set_other, take_more}
use Rattle.std.proofs.lemmas.Option.{same_Some}
use Rattle.crp_plan.specs.Rows.{holds}
use Rattle.crp_plan.specs.Bay.{Position, IsSound}
use Rattle.crp_plan.proofs.Lists.{times, times_held, times-cons, same_is_one, at_le_sum}
use Rattle.crp_plan.proofs.Determined.{same_row}
use Rattle.crp_bay.specs.Positions.{top, place, source}
use Rattle.crp_bay.specs.Located.{moved}
use Rattle.crp_bay.specs.Reached.{IsReached}
use Rattle.crp_bay.proofs.Walked.{Found, found}
use Rattle.crp_bay.proofs.Reaching.{reached_sound}
use Rattle.crp_bay.proofs.Begun.{holds_at}
use Rattle.crp_bounds.specs.Leasts.{least_ordered}
use Rattle.crp_bounds.proofs.Leasts.{least_push}

-- where each rank stands once, two places have two ranks
pub apart_in : (ranks : List ℕ) (i j : ℕ) → ((x : ℕ) → times x ranks ≤ 1) → i < j → j < length ranks → get_or ranks i 0 ≢ get_or ranks j 0
apart_in [] i j once lt lt' e = absurd (omega arith)
apart_in (y ∷ ys) i zero once lt lt' e = absurd (omega arith)
apart_in (y ∷ ys) zero (suc j) once lt lt' e =
    let held = times_held y ys (ap (λ x. holds x ys) e ∙ holds_at ys j (omega arith)) in
    absurd (omega (arith, once y, times-cons y y ys, same_is_one y))
apart_in (y ∷ ys) (suc i) (suc j) once lt lt' e = apart_in ys i j (λ x. omega (arith, once x, times-cons x y ys)) (omega arith) (omega arith) e

-- one container more is marked
pub marked_more : (ordered : ℕ) (ranks leasts : List ℕ) (i least new : ℕ) → ((x : ℕ) → times x ranks ≤ 1) → i < length ranks → get_or ranks i 0 < length leasts → least ≡ least_ordered ordered (take i ranks) →
    new ≡ (if nat_le (get_or ranks i 0) ordered then min (get_or ranks i 0) least else least) →
    ((k : ℕ) → k < i → get_or leasts (get_or ranks k 0) 0 ≡ least_ordered ordered (take (suc k) ranks)) →
    (new ≡ least_ordered ordered (take (i + 1) ranks)) × ((k : ℕ) → k < i + 1 → get_or (set leasts (get_or ranks i 0) new) (get_or ranks k 0) 0 ≡ least_ordered ordered (take (suc k) ranks))
marked_more ordered ranks leasts i least new once lt few is made done =
    let c : ℕ = get_or ranks i 0 in
    let now : new ≡ least_ordered ordered (take (i + 1) ranks) =
    made ∙ ap (λ l. (if nat_le c ordered then min c l else l)) is ∙ sym (least_push ordered (take i ranks) c) ∙ ap (least_ordered ordered) (sym (take_more ranks i 0 lt)) in
    let up : suc i ≡ i + 1 = omega arith in (
      now,
      λ k less. ⊎_elim
          (λ below. get_or-set_other leasts c (get_or ranks k 0) new 0 (apart_in ranks k i once below lt) ∙ done k below)
          (λ at. let q : k ≡ i = omega arith in
          ap (λ n. get_or (set leasts c new) (get_or ranks n 0) 0) q ∙ get_or-set_same leasts c new 0 few ∙ now ∙ ap (λ n. least_ordered ordered (take n ranks)) (sym up) ∙ ap (λ n. least_ordered ordered (take (suc n) ranks)) (sym q))
          (cases_lt k i),
    )

-- a stack of a sound position has each rank once
pub once_in : (s : Position) (r : ℕ) (stack : List ℕ) → IsSound s → slice_get s.stacks r ≡ Some stack → (x : ℕ) → times x stack ≤ 1
once_in s r stack sound e x = omega (arith, at_le_sum (times x) s.stacks r stack e, sound.once x)

-- one row more is known
pub rows_known : (s : Position) (leasts new : List ℕ) (row : ℕ) (stack : List ℕ) → IsSound s → 1 ≤ row → slice_get s.stacks (row - 1) ≡ Some stack →
    ((r i : ℕ) (st : List ℕ) → r < row - 1 → slice_get s.stacks r ≡ Some st → i < length st → get_or leasts (get_or st i 0) 0 ≡ least_ordered s.ordered (take (suc i) st)) →
    ((i : ℕ) → i < length stack → get_or new (get_or stack i 0) 0 ≡ least_ordered s.ordered (take (suc i) stack)) → ((x : ℕ) → holds x stack ≡ false → get_or new x 0 ≡ get_or leasts x 0) →
    (r i : ℕ) (st : List ℕ) → r < row + 1 - 1 → slice_get s.stacks r ≡ Some st → i < length st → get_or new (get_or st i 0) 0 ≡ least_ordered s.ordered (take (suc i) st)
rows_known s leasts new row stack sound lo here done known others r i st less e lt = ⊎_elim
    (λ below.
    let x : ℕ = get_or st i 0 in
    let free : holds x stack ≡ false = ⊎_elim
    (λ t. absurd (let q : r ≡ row - 1 = same_row x s.stacks r (row - 1) st stack (sound.once x) e here (times_held x st (holds_at st i lt)) (times_held x stack t) in omega arith))
    (λ f. f)
    (cases_Bool (holds x stack)) in
    others x free ∙ done r i st below e lt)
    (λ at.
    let q : r ≡ row - 1 = omega arith in
    let same : stack ≡ st = same_Some stack st (sym here ∙ ap (slice_get s.stacks) (sym q) ∙ e) in
    subst (λ v. get_or new (get_or v i 0) 0 ≡ least_ordered s.ordered (take (suc i) v)) same (known i (omega (arith, ap length same))))
    (cases_lt r (row - 1))

-- the rank on top is at the last index
top_at : (stack : List ℕ) → 0 < length stack → get_or stack (length stack - 1) 0 ≡ top stack
top_at [] h = absurd (omega arith)
top_at (x ∷ []) h = refl
top_at (x ∷ y ∷ ys) h = let e : suc (suc (length ys)) - 1 ≡ suc (suc (length ys) - 1) = omega arith in rw e (top_at (y ∷ ys) (omega arith))

holds_some : (x : ℕ) (stack : List ℕ) → holds x stack ≡ true → 0 < length stack
holds_some x [] h = cc
holds_some x (y ∷ ys) h = omega arith

-- the stack of the next container, and the rank on its top
pub top_read : (s : Position) (row : ℕ) (stack : List ℕ) → IsReached s → s.next ≤ s.ordered → row ≡ place s.next s.stacks + 1 → slice_get s.stacks (row - 1) ≡ Some stack →
    (0 < length stack) × (get_or stack (length stack - 1) 0 ≡ moved s)
top_read s row stack r le is here =
    let f : Found s = found s (reached_sound s r) le in
    let e : row - 1 ≡ source s = omega arith in
    let same : f.stack ≡ stack = same_Some f.stack stack (sym f.stands ∙ ap (slice_get s.stacks) (sym e) ∙ here) in
    let some : 0 < length stack = omega (arith, holds_some s.next f.stack f.held, ap length same) in
    (some, top_at stack some ∙ ap top (sym same ∙ sym f.is_at))
