-- Where a container is relocated that stays in the thinned position.
use Rattle.std.proofs.Common.{◌≡◌, ◌≢◌, ℕ, ◌+◌, ◌-◌, ◌<◌, ◌⊎◌, inl, inr, Bool, true, false, ◌==◌, ◌&&◌, nat_le, nat_lt, List, [], ◌∷◌, ◌++◌, length, filter, Contains, Some, slice_get, slice_set, get_or, sum_by, All, refl, sym, ap, ◌∙◌, subst, ⊎_elim, arith}
use Rattle.std.specs.List.{list_all}
use Rattle.std.proofs.lemmas.List.{map-set}
use Rattle.std.proofs.lemmas.Option.{get_or_from_slice_get}
use Rattle.std.proofs.lemmas.Bool.{cases_Bool, and_from, and_right, eq-eqb, ne_eqb, le-leb, lt-ltb, both_ways, not_from_true, not_from_false, false_from_ne_true}
use Rattle.crp_plan.specs.Rows.{occurrences}
use Rattle.crp_plan.specs.Bay.{Position, IsSound, IsShifted}
use Rattle.crp_plan.proofs.Lists.{times, one_if, times_held, sum_put, get_put_other}
use Rattle.crp_plan.proofs.Determined.{times_under}
use Rattle.crp_plan.proofs.Sound.{apart, occurrences_shifted, sound_shifted}
use Rattle.crp_bay.specs.Positions.{top, without_top, source, stack_at, can_shift, shifted, targets}
use Rattle.crp_bay.proofs.Members.{in_filter}
use Rattle.crp_bay.proofs.Walked.{is_place, row_is_target}
use Rattle.crp_bounds.specs.Bounds.{holds_lower, blocked_in, blocking}
use Rattle.crp_bounds.proofs.Blocked.{blocked_push, lower_from_held, above_next, blocking_shifted}
use Rattle.crp_thinned.specs.Thinned.{blocker, is_well_placed, good_rows, child_at, lifted, child_without, settle_most}
use Rattle.crp_thinned.specs.Missing.{left_of, SitsLow, IsSettled, IsThinned}
use Rattle.crp_thinned.proofs.Kept.{rows_left, other, without, left_at, push_kept, times_missing, all_left, any_left, length_left}
use Rattle.crp_thinned.proofs.Sitting.{sits_rest, low_at, all_stay}
use Rattle.crp_thinned.proofs.Settling.{Over, over, lost}
use Rattle.crp_thinned.proofs.Stepping.{top_push, without_push, same_turn, low_shifted, rows_shifted, on}

-- what the thinned position has there: the container on top of the same stack, whole, and the other row as it is left
pub record Facing (s : Position) (keep : ℕ → Bool) (i j : ℕ) (rest onto : List ℕ) (x : ℕ) : Type 0 where
  pub whole : filter keep rest ≡ rest
  pub next_stays : keep s.next ≡ true
  pub here : slice_get (rows_left keep s.stacks) i ≡ Some (rest ++ x ∷ [])
  pub there : slice_get (rows_left keep s.stacks) j ≡ Some (filter keep onto)
  pub source_is : source (left_of keep s.next s) ≡ i
  pub stack_is : stack_at (left_of keep s.next s) (source (left_of keep s.next s)) ≡ rest ++ x ∷ []
  pub onto_is : stack_at (left_of keep s.next s) j ≡ filter keep onto

-- it blocks, so nothing below it is missing
pub facing : (s : Position) (from to : ℕ) (t : Position) (keep : ℕ → Bool) → IsSound s → (k : IsShifted s from to t) → All (SitsLow keep s.ordered []) s.stacks → keep k.moved ≡ true →
    Facing s keep (from - 1) (to - 1) k.rest k.onto k.moved
facing s from to t keep sound k low stays =
    let N : ℕ = s.ordered in let x : ℕ = k.moved in let A : List (List ℕ) = rows_left keep s.stacks in
    let v : Position = left_of keep s.next s in
    let blocks : holds_lower N x k.rest ≡ true = lower_from_held N s.next x k.rest k.unfinished (above_next s from to t sound k) k.buried in
    let sits = sits_rest keep N [] k.rest x (low_at (SitsLow keep N []) s.stacks (from - 1) (k.rest ++ x ∷ []) k.stack low) in
    let all : list_all keep k.rest ≡ true = ⊎_elim (λ t. t) (λ f. absurd (both_ways (holds_lower N x k.rest) (sits.1 stays f) blocks)) (cases_Bool (list_all keep k.rest)) in
    let whole : filter keep k.rest ≡ k.rest = all_stay keep k.rest all in
    let next_stays : keep s.next ≡ true = ⊎_elim (λ t. t) (λ f. absurd (omega (arith, times_missing keep s.next k.rest f, ap (times s.next) whole, times_held s.next k.rest k.buried))) (cases_Bool (keep s.next)) in
    let here : slice_get A (from - 1) ≡ Some (k.rest ++ x ∷ []) = left_at keep s.stacks (from - 1) (k.rest ++ x ∷ []) k.stack ∙ ap Some (push_kept keep k.rest x stays) ∙ ap (λ l. Some (l ++ x ∷ [])) whole in
    let there : slice_get A (to - 1) ≡ Some (filter keep k.onto) = left_at keep s.stacks (to - 1) k.onto k.target in
    let source_is : source v ≡ from - 1 = is_place s.next A (from - 1) (k.rest ++ x ∷ []) (omega (arith, all_left keep s.next s.stacks, sound.once s.next)) here (times_under s.next x k.rest k.buried) in
    record {
      whole = whole;
      next_stays = next_stays;
      here = here;
      there = there;
      source_is = source_is;
      stack_is = get_or_from_slice_get A (source v) (k.rest ++ x ∷ []) [] (ap (slice_get A) source_is ∙ here);
      onto_is = get_or_from_slice_get A (to - 1) (filter keep k.onto) [] there;
    }

-- so many block after a relocation
blocked_moved : (N c : ℕ) (stacks : List (List ℕ)) (i j : ℕ) (rest onto : List ℕ) → j ≢ i → slice_get stacks i ≡ Some (rest ++ c ∷ []) → slice_get stacks j ≡ Some onto → holds_lower N c rest ≡ true → holds_lower N c onto ≡ false →
    sum_by (λ st. blocked_in N [] st) (slice_set (slice_set stacks i rest) j (onto ++ c ∷ [])) + 1 ≡ sum_by (λ st. blocked_in N [] st) stacks
blocked_moved N c stacks i j rest onto ne hi hj held free =
    let f : List ℕ → ℕ = λ st. blocked_in N [] st in
    let mid : List (List ℕ) = slice_set stacks i rest in
    omega (
      arith,
      sum_put f stacks i (rest ++ c ∷ []) rest hi,
      blocked_push N [] rest c,
      ap one_if held,
      sum_put f mid j onto (onto ++ c ∷ []) (get_put_other stacks i j rest ne ∙ hj),
      blocked_push N [] onto c,
      ap one_if free,
    )

-- it goes to a row where it is well placed: the thinned position goes there too
pub record Well (s t v : Position) (row : ℕ) : Type 0 where
  pub good : Contains (good_rows v) row
  pub thinned : IsThinned t (child_at v row)
  pub real : blocking t + 1 ≡ blocking s
  pub left : blocking (child_at v row) + 1 ≡ blocking v

-- it goes where it is badly placed: the thinned position loses it
pub record Bad (s t v : Position) : Type 0 where
  pub thinned : IsThinned t (child_without v)
  pub real : blocking t ≡ blocking s
  pub left : blocking (child_without v) + 1 ≡ blocking v

-- what settles is what is left
settled_is : (s u : Position) (count : ℕ) → Over s count u → IsThinned s u
settled_is s u count o = record {
  keep = o.keep;
  is_left = o.is_left ∙ ap (λ m. left_of o.keep m s) (sym (ap (λ w. w.next) o.is_left));
  low = o.low;
  settled = o.settled;
}

-- none that has left in the real bay is left
gone_shifted : (s : Position) (i j : ℕ) (rest onto : List ℕ) (c : ℕ) (keep : ℕ → Bool) → IsSound s → j ≢ i → slice_get s.stacks i ≡ Some (rest ++ c ∷ []) → slice_get s.stacks j ≡ Some onto →
    (x : ℕ) → x < s.next → occurrences x (rows_left keep (slice_set (slice_set s.stacks i rest) j (onto ++ c ∷ []))) ≡ 0
gone_shifted s i j rest onto c keep sound ne hi hj x lt =
    omega (arith, all_left keep x (slice_set (slice_set s.stacks i rest) j (onto ++ c ∷ [])), occurrences_shifted x c s.stacks i j rest onto ne hi hj, sound.gone x lt)

well_step : (s : Position) (from to : ℕ) (t : Position) (keep : ℕ → Bool) → IsSound s → (k : IsShifted s from to t) → All (SitsLow keep s.ordered []) s.stacks → keep k.moved ≡ true →
    holds_lower s.ordered k.moved k.onto ≡ false → Well s t (left_of keep s.next s) to
well_step s from to t keep sound k low stays free =
    let N : ℕ = s.ordered in let x : ℕ = k.moved in let S : List (List ℕ) = s.stacks in let A : List (List ℕ) = rows_left keep S in
    let v : Position = left_of keep s.next s in
    let f = facing s from to t keep sound k low stays in
    let ne : to - 1 ≢ from - 1 = apart from to k.from_counts k.to_counts k.another in
    let T : List (List ℕ) = slice_set (slice_set S (from - 1) k.rest) (to - 1) (k.onto ++ x ∷ []) in
    let u : Position = record s { stacks = T } in
    let free' : holds_lower N x (filter keep k.onto) ≡ false = false_from_ne_true (holds_lower N x (filter keep k.onto)) (λ e. both_ways (holds_lower N x k.onto) free (any_left keep (λ d. nat_le d N && nat_lt d x) k.onto e)) in
    let is_blocker : blocker v ≡ x = ap top f.stack_is ∙ top_push k.rest x in
    let room : length (stack_at v (to - 1)) < get_or s.heights (to - 1) 0 =
    let r = k.room in omega (arith, ap length f.onto_is, length_left keep k.onto, get_or_from_slice_get s.heights (to - 1) k.height 0 k.limit) in
    let apart' : source v ≡ to - 1 → ⊥ = λ q. ne (sym q ∙ f.source_is) in
    let can : can_shift v to ≡ true =
    and_from _ _ (le-leb s.next s.ordered k.unfinished)
    (and_from _ _ (le-leb 1 to k.to_counts)
    (and_from _ _ (not_from_false (source v == to - 1) (ne_eqb (source v) (to - 1) apart')) (lt-ltb _ _ room))) in
    let well : is_well_placed v to ≡ true = not_from_false (holds_lower N (blocker v) (stack_at v (to - 1))) (ap (λ c. holds_lower N c (stack_at v (to - 1))) is_blocker ∙ ap (holds_lower N x) f.onto_is ∙ free') in
    let after_rows : rows_left keep T ≡ slice_set (slice_set A (from - 1) k.rest) (to - 1) (filter keep k.onto ++ x ∷ []) =
    map-set (filter keep) (slice_set S (from - 1) k.rest) (to - 1) (k.onto ++ x ∷ [])
    ∙ ap (λ l. slice_set l (to - 1) (filter keep (k.onto ++ x ∷ []))) (map-set (filter keep) S (from - 1) k.rest)
    ∙ ap (λ l. slice_set (slice_set A (from - 1) l) (to - 1) (filter keep (k.onto ++ x ∷ []))) f.whole
    ∙ ap (λ l. slice_set (slice_set A (from - 1) k.rest) (to - 1) l) (push_kept keep k.onto x stays) in
    let made : ℕ → List ℕ → List ℕ → Position = λ i from_it to_it. on s s.next (slice_set (slice_set A i (without_top from_it)) (to - 1) (to_it ++ top from_it ∷ [])) in
    let moved : shifted v to ≡ left_of keep s.next u =
    ap (λ i. made i (stack_at v (source v)) (stack_at v (to - 1))) f.source_is
    ∙ ap (λ l. made (from - 1) l (stack_at v (to - 1))) f.stack_is
    ∙ ap (λ l. made (from - 1) (k.rest ++ x ∷ []) l) f.onto_is
    ∙ ap (λ l. on s s.next (slice_set (slice_set A (from - 1) l) (to - 1) (filter keep k.onto ++ top (k.rest ++ x ∷ []) ∷ []))) (without_push k.rest x)
    ∙ ap (λ c. on s s.next (slice_set (slice_set A (from - 1) k.rest) (to - 1) (filter keep k.onto ++ c ∷ []))) (top_push k.rest x)
    ∙ ap (on s s.next) (sym after_rows) in
    let sound' : IsSound u = subst IsSound k.after (sound_shifted s from to t sound k) in
    let o = over (s.ordered + 1 - s.next) u keep s.next sound' (low_shifted keep N S (from - 1) (to - 1) k.rest k.onto x k.stack k.target (λ e. free) low) (gone_shifted s (from - 1) (to - 1) k.rest k.onto x keep sound ne k.stack k.target) (omega arith) in
    let child : child_at v to ≡ settle_most (s.ordered + 1 - s.next) (left_of keep s.next u) = ap (settle_most (s.ordered + 1 - s.next)) moved in
    let P : Position → Type 0 = λ w. IsThinned u w in
    let Q : Position → Type 0 = λ w. IsThinned w (child_at v to) in
    let held : holds_lower N x k.rest ≡ true = lower_from_held N s.next x k.rest k.unfinished (above_next s from to t sound k) k.buried in
    let fewer = blocked_moved N x A (from - 1) (to - 1) k.rest (filter keep k.onto) ne f.here f.there held free' in
    record {
      good = in_filter (is_well_placed v) (targets v) to (row_is_target v to can) well;
      thinned = subst Q (sym k.after) (subst P (sym child) (settled_is u (settle_most (s.ordered + 1 - s.next) (left_of keep s.next u)) (blocking (left_of keep s.next u)) o));
      real = omega (arith, blocking_shifted s from to t sound k, ap one_if free);
      left = omega (arith, ap blocking child, o.same, ap (sum_by (λ st. blocked_in N [] st)) after_rows, fewer);
    }

bad_step : (s : Position) (from to : ℕ) (t : Position) (keep : ℕ → Bool) → IsSound s → (k : IsShifted s from to t) → All (SitsLow keep s.ordered []) s.stacks → keep k.moved ≡ true →
    holds_lower s.ordered k.moved k.onto ≡ true → Bad s t (left_of keep s.next s)
bad_step s from to t keep sound k low stays blocked =
    let N : ℕ = s.ordered in let x : ℕ = k.moved in let S : List (List ℕ) = s.stacks in let A : List (List ℕ) = rows_left keep S in
    let v : Position = left_of keep s.next s in
    let f = facing s from to t keep sound k low stays in
    let ne : to - 1 ≢ from - 1 = apart from to k.from_counts k.to_counts k.another in
    let T : List (List ℕ) = slice_set (slice_set S (from - 1) k.rest) (to - 1) (k.onto ++ x ∷ []) in
    let u : Position = record s { stacks = T } in
    let keep' : ℕ → Bool = without x keep in
    let missing : keep' x ≡ false = and_right (keep x) (other x x) (not_from_true (x == x) (eq-eqb x x refl)) in
    let l = lost keep x (from - 1) k.rest s sound low f.here in
    let after_rows : rows_left keep' T ≡ rows_left keep' S = rows_shifted keep' S (from - 1) (to - 1) k.rest k.onto x ne k.stack k.target missing in
    let made : ℕ → List ℕ → Position = λ i from_it. on s s.next (slice_set A i (without_top from_it)) in
    let moved : lifted v ≡ left_of keep' s.next u =
    ap (λ i. made i (stack_at v (source v))) f.source_is
    ∙ ap (made (from - 1)) f.stack_is
    ∙ ap (λ r. on s s.next (slice_set A (from - 1) r)) (without_push k.rest x)
    ∙ ap (on s s.next) (l.rows ∙ sym after_rows) in
    let sound' : IsSound u = subst IsSound k.after (sound_shifted s from to t sound k) in
    let o = over (s.ordered + 1 - s.next) u keep' s.next sound' (low_shifted keep' N S (from - 1) (to - 1) k.rest k.onto x k.stack k.target (λ e. absurd (both_ways (keep' x) missing e)) l.low) (gone_shifted s (from - 1) (to - 1) k.rest k.onto x keep' sound ne k.stack k.target) (omega arith) in
    let child : child_without v ≡ settle_most (s.ordered + 1 - s.next) (left_of keep' s.next u) = ap (settle_most (s.ordered + 1 - s.next)) moved in
    let P : Position → Type 0 = λ w. IsThinned u w in
    let Q : Position → Type 0 = λ w. IsThinned w (child_without v) in
    let held : holds_lower N x k.rest ≡ true = lower_from_held N s.next x k.rest k.unfinished (above_next s from to t sound k) k.buried in
    record {
      thinned = subst Q (sym k.after) (subst P (sym child) (settled_is u (settle_most (s.ordered + 1 - s.next) (left_of keep' s.next u)) (blocking (left_of keep' s.next u)) o));
      real = omega (arith, blocking_shifted s from to t sound k, ap one_if blocked);
      left = omega (arith, ap blocking child, o.same, ap (sum_by (λ st. blocked_in N [] st)) after_rows, l.blocks, ap one_if held);
    }

-- one of both
pub kept_step : (s : Position) (from to : ℕ) (t v : Position) → IsSound s → (k : IsShifted s from to t) → (h : IsThinned s v) → h.keep k.moved ≡ true → Well s t v to ⊎ Bad s t v
kept_step s from to t v sound k h stays =
    let f = facing s from to t h.keep sound k h.low stays in
    let n : v.next ≡ s.next = same_turn s h.keep v.next sound (subst IsSettled h.is_left h.settled) k.unfinished f.next_stays in
    let e : v ≡ left_of h.keep s.next s = h.is_left ∙ ap (λ m. left_of h.keep m s) n in
    let P : Position → Type 0 = λ w. Well s t w to ⊎ Bad s t w in
    subst P (sym e) (⊎_elim
    (λ bad. inr (bad_step s from to t h.keep sound k h.low stays bad))
    (λ good. inl (well_step s from to t h.keep sound k h.low stays good))
    (cases_Bool (holds_lower s.ordered k.moved k.onto)))
