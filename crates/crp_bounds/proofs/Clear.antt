-- Which ranks still stand at their turn: those that stand above no lower one.
use Rattle.std.proofs.Common.{◌≡◌, ◌≢◌, ℕ, suc, ◌+◌, ◌<◌, ◌≤◌, true, false, ◌==◌, List, [], ◌∷◌, length, take, get_or, set, Some, slice_get, sym, ap, ◌∙◌, ⊎_elim, arith}
use Rattle.std.proofs.lemmas.Bool.{cases_Bool, cases_eq, cases_lt, eqb-true, or_cases, both_ways}
use Rattle.std.proofs.lemmas.List.{get_or-take, length-take, take-take, get_or-set_same, get_or-set_other}
use Rattle.std.proofs.lemmas.Option.{get_or_from_slice_get}
use Rattle.crp_plan.specs.Rows.{holds}
use Rattle.crp_plan.specs.Bay.{Position}
use Rattle.crp_plan.proofs.Lists.{times, times_not_held}
use Rattle.crp_bay.specs.Positions.{place}
use Rattle.crp_bay.specs.Reached.{IsReached}
use Rattle.crp_bay.proofs.Reaching.{reached_sound, reached_ordered}
use Rattle.crp_bay.proofs.Walked.{placed}
use Rattle.crp_bay.proofs.Begun.{holds_at}
use Rattle.crp_bounds.specs.Leasts.{least_ordered, KnowsLeasts}
use Rattle.crp_bounds.specs.Offers.{cut}
use Rattle.crp_bounds.proofs.Cutting.{cut_at, times_take, held_in, least_le, least_is}
use Rattle.crp_bounds.proofs.Tallying.{Ahead}
use Rattle.crp_bounds.proofs.Scanned.{Reads, held_test}

-- where a rank stands
index_of : (k : ℕ) (xs : List ℕ) → holds k xs ≡ true → (i : ℕ) × (i < length xs) × (get_or xs i 0 ≡ k)
index_of k [] h = cc
index_of k (y ∷ xs) h = ⊎_elim
    (λ t. (0, omega arith, eqb-true y k t))
    (λ t. let at = index_of k xs t in (suc at.0, omega (arith, at.1), at.2))
    (or_cases (y == k) (holds k xs) h)

-- a rank stands in a part that reaches beyond it
held_before : (k i n : ℕ) (xs : List ℕ) → get_or xs i 0 ≡ k → i < n → i < length xs → holds k (take n xs) ≡ true
held_before k i n xs e lt there =
    let read : get_or (take n xs) i 0 ≡ k = get_or-take n xs i 0 lt ∙ e in
    ap (λ x. holds x (take n xs)) (sym read) ∙ holds_at (take n xs) i (omega (arith, length-take n xs))

-- what is cut off stands above a rank whose turn came
pub record IsCutOff (ordered : ℕ) (stacks : List (List ℕ)) (k : ℕ) (left : List ℕ) : Type 0 where
  pub lower : (r i : ℕ) → get_or left r 0 ≤ i → i < length (get_or stacks r []) → least_ordered ordered (take (suc i) (get_or stacks r [])) < k

-- at first nothing is
pub cut_off_begins : (ordered : ℕ) (stacks : List (List ℕ)) (k : ℕ) (left : List ℕ) → ((r : ℕ) → get_or left r 0 ≡ length (get_or stacks r [])) → IsCutOff ordered stacks k left
cut_off_begins ordered stacks k left all = record { lower = λ r i ge lt. absurd (omega (arith, all r)) }

-- at a rank that is gone no more is
pub cut_off_absent : (ordered : ℕ) (stacks : List (List ℕ)) (k : ℕ) (left : List ℕ) → IsCutOff ordered stacks k left → IsCutOff ordered stacks (k + 1) left
cut_off_absent ordered stacks k left c = record { lower = λ r i ge lt. omega (arith, c.lower r i ge lt) }

-- at a rank that stands what is above it is
pub cut_off_met : (ordered : ℕ) (stacks : List (List ℕ)) (k : ℕ) (left : List ℕ) (r kept : ℕ) → k ≤ ordered → r < length left → get_or (get_or stacks r []) kept 0 ≡ k → IsCutOff ordered stacks k left → IsCutOff ordered stacks (k + 1) (set left r kept)
cut_off_met ordered stacks k left r kept le there found c = record {
  lower = λ q i ge lt. ⊎_elim
      (λ e. let own : kept ≤ i = omega (arith, ge, ap (λ j. get_or (set left r kept) j 0) e, get_or-set_same left r kept 0 there) in
      let low : least_ordered ordered (take (suc i) (get_or stacks r [])) ≤ k = least_le ordered k (take (suc i) (get_or stacks r [])) (held_before k kept (suc i) (get_or stacks r []) found (omega arith) (omega (arith, ap (λ j. length (get_or stacks j [])) e))) le in
      omega (arith, low, ap (λ j. least_ordered ordered (take (suc i) (get_or stacks j []))) e))
      (λ ne. omega (arith, c.lower q i (omega (arith, ge, get_or-set_other left r q kept 0 ne)) lt))
      (cases_eq q r);
}

-- a rank that still stands is the least at or below it
least_there : (s : Position) (k i : ℕ) (left : List ℕ) (most again : ℕ) → IsReached s → Ahead s.ordered s.next s.heights s.stacks k left most again → k ≤ s.ordered →
    i < get_or left (place k s.stacks) 0 → i < length (get_or s.stacks (place k s.stacks) []) → get_or (get_or s.stacks (place k s.stacks) []) i 0 ≡ k → least_ordered s.ordered (take (suc i) (get_or s.stacks (place k s.stacks) [])) ≡ k
least_there s k i left most again r a le lt there e =
    let j : ℕ = place k s.stacks in
    let stack : List ℕ = get_or s.stacks j [] in
    let part : List ℕ = take (get_or left j 0) stack in
    let here : get_or (cut left s.stacks) j [] ≡ part = cut_at left s.stacks j in
    let gone : (d : ℕ) → d < k → times d part ≡ 0 = λ d less. ⊎_elim
    (λ t. let q = held_in d (cut left s.stacks) j (ap (holds d) here ∙ t) in omega (arith, q, a.gone d less, ap (times d) here))
    (λ f. times_not_held d part f)
    (cases_Bool (holds d part)) in
    let same : take (suc i) part ≡ take (suc i) stack = take-take (suc i) (get_or left j 0) stack (omega arith) in
    least_is s.ordered k (take (suc i) stack) le (reached_ordered s r)
    (λ d less. omega (arith, gone d less, times_take d (suc i) part, ap (times d) same))
    (held_before k i (suc i) stack e (omega arith) there)

-- a rank still stands exactly where it is the least at or below it
pub clear_test : (s : Position) (k : ℕ) (left leasts : List ℕ) (most again : ℕ) → IsReached s → KnowsLeasts leasts s → Ahead s.ordered s.next s.heights s.stacks k left most again → IsCutOff s.ordered s.stacks k left → s.next ≤ k → k ≤ s.ordered →
    (get_or leasts k 0 ≡ k → holds k (take (get_or left (place k s.stacks) 0) (get_or s.stacks (place k s.stacks) [])) ≡ true)
    × (get_or leasts k 0 ≢ k → holds k (take (get_or left (place k s.stacks) 0) (get_or s.stacks (place k s.stacks) [])) ≡ false)
clear_test s k left leasts most again r l a c ge le =
    let sound = reached_sound s r in
    let j : ℕ = place k s.stacks in
    let stack : List ℕ = get_or s.stacks j [] in
    let found = placed k s.stacks (let one = sound.waiting k ge le in omega arith) in
    let is : stack ≡ found.0 = get_or_from_slice_get s.stacks j found.0 [] found.1 in
    let here : slice_get s.stacks j ≡ Some stack = found.1 ∙ ap (λ (xs : List ℕ). Some xs) (sym is) in
    let known : (i : ℕ) → i < length stack → get_or stack i 0 ≡ k → get_or leasts k 0 ≡ least_ordered s.ordered (take (suc i) stack) = λ i there e. ap (λ x. get_or leasts x 0) (sym e) ∙ l.known j i stack here there in
    let held : holds k stack ≡ true = ap (holds k) is ∙ found.2 in (
      λ e. let at = index_of k stack held in ⊎_elim
          (λ lt. held_before k at.0 (get_or left j 0) stack at.2 lt at.1)
          (λ over. absurd (omega (arith, e, known at.0 at.1 at.2, c.lower j at.0 over at.1)))
          (cases_lt at.0 (get_or left j 0)),
      λ ne. ⊎_elim
          (λ t. let at = index_of k (take (get_or left j 0) stack) t in
          let lt : at.0 < get_or left j 0 = omega (arith, at.1, length-take (get_or left j 0) stack) in
          let there : at.0 < length stack = omega (arith, at.1, length-take (get_or left j 0) stack) in
          let e : get_or stack at.0 0 ≡ k = sym (get_or-take (get_or left j 0) stack at.0 0 lt) ∙ at.2 in
          absurd (ne (known at.0 there e ∙ least_there s k at.0 left most again r a le lt there e)))
          (λ f. f)
          (cases_Bool (holds k (take (get_or left j 0) stack))),
    )

-- then it is the least of what is left of its stack, as that is read
pub clear_least : (s : Position) (k row : ℕ) (stack left leasts : List ℕ) (most again : ℕ) → IsReached s → KnowsLeasts leasts s → Reads s k row stack left → Ahead s.ordered s.next s.heights s.stacks k left most again → IsCutOff s.ordered s.stacks k left →
    s.next ≤ k → k ≤ s.ordered → get_or leasts k 0 ≡ k → least_ordered s.ordered (take (get_or left row 0) stack) ≡ k
clear_least s k row stack left leasts most again r l w a c ge le e =
    let part : List ℕ = take (get_or left row 0) stack in
    let same : take (get_or left (place k s.stacks) 0) (get_or s.stacks (place k s.stacks) []) ≡ part = ap (λ j. take (get_or left j 0) (get_or s.stacks j [])) (sym w.index) ∙ ap (take (get_or left row 0)) w.stack_is in
    let held : holds k part ≡ true = ap (holds k) (sym same) ∙ (clear_test s k left leasts most again r l a c ge le).0 e in
    ⊎_elim (λ is. is) (λ ne. absurd (both_ways (holds k part) ((held_test s k row stack left most again r w a le).1 ne) held)) (cases_eq (least_ordered s.ordered part) k)

-- what is known of a stack is known of what is left of it
pub known_part : (leasts : List ℕ) (ordered n : ℕ) (xs : List ℕ) → ((i : ℕ) → i < length xs → get_or leasts (get_or xs i 0) 0 ≡ least_ordered ordered (take (suc i) xs)) →
    (i : ℕ) → i < length (take n xs) → get_or leasts (get_or (take n xs) i 0) 0 ≡ least_ordered ordered (take (suc i) (take n xs))
known_part leasts ordered n xs known i lt =
    let low : i < n = omega (arith, length-take n xs) in
    ap (λ x. get_or leasts x 0) (get_or-take n xs i 0 low) ∙ known i (omega (arith, length-take n xs)) ∙ ap (least_ordered ordered) (sym (take-take (suc i) n xs (omega arith)))
