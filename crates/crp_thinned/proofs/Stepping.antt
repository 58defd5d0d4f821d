-- What a move of the real bay is in the thinned one.
use Rattle.std.proofs.Common.{◌≡◌, ◌≢◌, ℕ, suc, ◌-◌, ◌≤◌, Bool, true, false, List, [], ◌∷◌, ◌++◌, filter, Some, slice_get, slice_set, All, refl, sym, ap, ◌∙◌, subst, ⊎_elim, arith}
use Rattle.std.proofs.lemmas.List.{map-set}
use Rattle.std.proofs.lemmas.List.Elements.{All-set}
use Rattle.std.proofs.lemmas.Bool.{cases_lt, both_ways, false_from_ne_true}
use Rattle.crp_plan.specs.Rows.{occurrences}
use Rattle.crp_plan.specs.Bay.{Position, IsSound, IsTaken, IsShifted}
use Rattle.crp_plan.proofs.Lists.{get_put_other}
use Rattle.crp_plan.proofs.Sound.{apart}
use Rattle.crp_bay.specs.Positions.{top, without_top}
use Rattle.crp_bounds.specs.Bounds.{holds_lower}
use Rattle.crp_thinned.specs.Missing.{left_of, SitsLow, IsSettled, IsThinned}
use Rattle.crp_thinned.proofs.Kept.{rows_left, left_at, push_kept, push_missing, all_left, all_kept, put_same}
use Rattle.crp_thinned.proofs.Sitting.{sits_push, sits_rest, low_at}

pub top_push : (rest : List ℕ) (x : ℕ) → top (rest ++ x ∷ []) ≡ x
top_push [] x = refl
top_push (y ∷ []) x = refl
top_push (y ∷ z ∷ rest) x = top_push (z ∷ rest) x

pub without_push : (rest : List ℕ) (x : ℕ) → without_top (rest ++ x ∷ []) ≡ rest
without_push [] x = refl
without_push (y ∷ []) x = refl
without_push (y ∷ z ∷ rest) x = ap (λ l. y ∷ l) (without_push (z ∷ rest) x)

-- a rank that stays, where it is the real one's turn, has its turn in what is left
pub same_turn : (s : Position) (keep : ℕ → Bool) (n : ℕ) → IsSound s → IsSettled (left_of keep n s) → s.next ≤ s.ordered → keep s.next ≡ true → n ≡ s.next
same_turn s keep n sound settled le k =
    let A : List (List ℕ) = rows_left keep s.stacks in
    let some : 1 ≤ occurrences s.next A = omega (arith, all_kept keep s.next s.stacks k, sound.waiting s.next (omega arith) le) in
    let not_past : n ≤ s.next = ⊎_elim (λ lt. absurd (omega (arith, settled.gone s.next lt))) (λ ge. ge) (cases_lt s.next n) in
    ⊎_elim
    (λ lt. absurd (omega (arith, settled.there (omega arith), all_left keep n s.stacks, sound.gone n lt)))
    (λ ge. omega arith)
    (cases_lt n s.next)

-- the one that is retrieved is missing
pub taken_missing : (s : Position) (row : ℕ) (t : Position) (keep : ℕ → Bool) (n : ℕ) → IsSound s → IsSettled (left_of keep n s) → IsTaken s row t → keep s.next ≡ false
taken_missing s row t keep n sound settled k = false_from_ne_true (keep s.next) (λ stays.
    let e : n ≡ s.next = same_turn s keep n sound settled k.unfinished stays in
    let A : List (List ℕ) = rows_left keep s.stacks in
    let le = k.unfinished in
    let here : slice_get A (row - 1) ≡ Some (filter keep k.rest ++ s.next ∷ []) = left_at keep s.stacks (row - 1) (k.rest ++ s.next ∷ []) k.stack ∙ ap Some (push_kept keep k.rest s.next stays) in
    settled.no_take row (record { heights = s.heights; ordered = s.ordered; next = suc n; stacks = slice_set A (row - 1) (filter keep k.rest) }) (record {
      unfinished = omega arith;
      row_counts = k.row_counts;
      rest = filter keep k.rest;
      stack = here ∙ ap (λ x. Some (filter keep k.rest ++ x ∷ [])) (sym e);
      after = refl;
    }))

-- where a missing one is retrieved, all that is left stays
rows_taken : (keep : ℕ → Bool) (stacks : List (List ℕ)) (i : ℕ) (rest : List ℕ) (x : ℕ) → slice_get stacks i ≡ Some (rest ++ x ∷ []) → keep x ≡ false → rows_left keep (slice_set stacks i rest) ≡ rows_left keep stacks
rows_taken keep stacks i rest x h f =
    map-set (filter keep) stacks i rest ∙ put_same (rows_left keep stacks) i (filter keep rest) (left_at keep stacks i (rest ++ x ∷ []) h ∙ ap Some (push_missing keep rest x f))

pub rows_shifted : (keep : ℕ → Bool) (stacks : List (List ℕ)) (i j : ℕ) (rest onto : List ℕ) (x : ℕ) → j ≢ i → slice_get stacks i ≡ Some (rest ++ x ∷ []) → slice_get stacks j ≡ Some onto → keep x ≡ false →
    rows_left keep (slice_set (slice_set stacks i rest) j (onto ++ x ∷ [])) ≡ rows_left keep stacks
rows_shifted keep stacks i j rest onto x ne hi hj f =
    let M : List (List ℕ) = slice_set stacks i rest in
    map-set (filter keep) M j (onto ++ x ∷ [])
    ∙ put_same (rows_left keep M) j (filter keep (onto ++ x ∷ [])) (left_at keep M j onto (get_put_other stacks i j rest ne ∙ hj) ∙ ap Some (sym (push_missing keep onto x f)))
    ∙ rows_taken keep stacks i rest x hi f

-- the same positions with other stacks
abbrev pub on : Position → ℕ → List (List ℕ) → Position
on s n stacks = record { heights = s.heights; ordered = s.ordered; next = n; stacks = stacks }

pub take_step : (s : Position) (row : ℕ) (t v : Position) → IsSound s → IsTaken s row t → IsThinned s v → IsThinned t v
take_step s row t v sound k h =
    let A : List (List ℕ) = s.stacks in
    let settled : IsSettled (left_of h.keep v.next s) = subst IsSettled h.is_left h.settled in
    let f : h.keep s.next ≡ false = taken_missing s row t h.keep v.next sound settled k in
    let u : Position = record s { next = suc s.next; stacks = slice_set A (row - 1) k.rest } in
    let made : IsThinned u v = record {
      keep = h.keep;
      is_left = h.is_left ∙ ap (on s v.next) (sym (rows_taken h.keep A (row - 1) k.rest s.next k.stack f));
      low = All-set (SitsLow h.keep s.ordered []) A (row - 1) k.rest (sits_rest h.keep s.ordered [] k.rest s.next (low_at (SitsLow h.keep s.ordered []) A (row - 1) (k.rest ++ s.next ∷ []) k.stack h.low)).0 h.low;
      settled = h.settled;
    } in
    let P : Position → Type 0 = λ w. IsThinned w v in
    subst P (sym k.after) made

-- the stacks after a relocation, where what stays sits low
pub low_shifted : (keep : ℕ → Bool) (ordered : ℕ) (stacks : List (List ℕ)) (i j : ℕ) (rest onto : List ℕ) (x : ℕ) → slice_get stacks i ≡ Some (rest ++ x ∷ []) → slice_get stacks j ≡ Some onto →
    (keep x ≡ true → holds_lower ordered x onto ≡ false) → All (SitsLow keep ordered []) stacks → All (SitsLow keep ordered []) (slice_set (slice_set stacks i rest) j (onto ++ x ∷ []))
low_shifted keep ordered stacks i j rest onto x hi hj well low =
    let P : List ℕ → Type 0 = SitsLow keep ordered [] in
    All-set P (slice_set stacks i rest) j (onto ++ x ∷ [])
    (sits_push keep ordered [] onto x (low_at P stacks j onto hj low) (λ k f. well k))
    (All-set P stacks i rest (sits_rest keep ordered [] rest x (low_at P stacks i (rest ++ x ∷ []) hi low)).0 low)

-- where a missing one is relocated, all that is left stays
pub missing_step : (s : Position) (from to : ℕ) (t v : Position) → (k : IsShifted s from to t) → (h : IsThinned s v) → h.keep k.moved ≡ false → IsThinned t v
missing_step s from to t v k h f =
    let A : List (List ℕ) = s.stacks in
    let u : Position = record s { stacks = slice_set (slice_set A (from - 1) k.rest) (to - 1) (k.onto ++ k.moved ∷ []) } in
    let made : IsThinned u v = record {
      keep = h.keep;
      is_left = h.is_left ∙ ap (on s v.next) (sym (rows_shifted h.keep A (from - 1) (to - 1) k.rest k.onto k.moved (apart from to k.from_counts k.to_counts k.another) k.stack k.target f));
      low = low_shifted h.keep s.ordered A (from - 1) (to - 1) k.rest k.onto k.moved k.stack k.target (λ t. absurd (both_ways (h.keep k.moved) f t)) h.low;
      settled = h.settled;
    } in
    let P : Position → Type 0 = λ w. IsThinned w v in
    subst P (sym k.after) made
