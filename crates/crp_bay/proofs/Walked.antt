-- The computed position at a path is the position at the path.
use Rattle.std.proofs.Common.{◌≡◌, ◌≢◌, ℕ, zero, suc, ◌+◌, ◌-◌, ◌<◌, ◌≤◌, ◌⊎◌, inl, inr, ⊎_elim, Bool, true, false, not, ◌==◌, ◌&&◌, nat_le, nat_lt, List, [], ◌∷◌, ◌++◌, length, filter, Contains, get_or, Some, None, slice_get, slice_set, refl, sym, ap, ◌∙◌, subst, arith, append_assoc, append-nil, add-one}
use Rattle.std.proofs.lemmas.Option.{same_Some, get_or_from_slice_get, slice_get-get_or}
use Rattle.std.proofs.lemmas.Bool.{cases_Bool, cases_eq, or_cases, or_left, or_right, and_parts, and_from, leb-true, le-leb, ltb-true, lt-ltb, eq-eqb, eqb-true, eqb-false, ne_eqb, both_ways, not-true, not_from_false}
use Rattle.crp_plan.specs.declared.moves.Move.{Move}
use Rattle.crp_plan.specs.declared.moves.Move.TheVariants.{Shift, Take}
use Rattle.crp_plan.specs.Rows.{holds, occurrences, FitRows}
use Rattle.crp_plan.specs.Bay.{Problem, IsProblem, start, IsAt, Position, IsSound, IsTaken, IsShifted, Runs, path_of}
use Rattle.crp_bay.specs.Positions.{top, without_top, ends_in, place, source, stack_at, can_take, taken, settle, settled, can_shift, shifted, child, counted, targets, walk, at}
use Rattle.crp_plan.proofs.Lists.{times, times_held, times_not_held, times_push, same_is_one, snoc_parts}
use Rattle.crp_plan.proofs.Determined.{same_row, no_shift_beside_take, times_top, times_under}
use Rattle.crp_plan.proofs.Sound.{sound_legal, sound_start, sound_taken}
use Rattle.crp_plan.proofs.Paths.{NoTake, same_at, last_shift}
use Rattle.crp_plan.proofs.Covered.{passes, at_sound, at_child}
use Rattle.crp_bay.proofs.Members.{in_head, in_tail, in_filter, from_filter}

-- a stack with something in it is its rest and its top
pub top_splits : (x : ℕ) (ys : List ℕ) → x ∷ ys ≡ without_top (x ∷ ys) ++ top (x ∷ ys) ∷ []
top_splits x [] = refl
top_splits x (y ∷ ys) = ap (λ l. x ∷ l) (top_splits y ys)

-- a stack that holds something is its rest and its top
pub held_splits : (x : ℕ) (stack : List ℕ) → holds x stack ≡ true → stack ≡ without_top stack ++ top stack ∷ []
held_splits x [] h = cc
held_splits x (y ∷ ys) h = top_splits y ys

-- what is put on top is on top
pub ends_push : (x : ℕ) (rest : List ℕ) (y : ℕ) → ends_in x (rest ++ y ∷ []) ≡ (y == x)
ends_push x [] y = refl
ends_push x (z ∷ []) y = refl
ends_push x (z ∷ w ∷ rest) y = ends_push x (w ∷ rest) y

-- what a stack holds after a push was there before, or is the new top
pub holds_push : (x : ℕ) (rest : List ℕ) (y : ℕ) → holds x (rest ++ y ∷ []) ≡ true → (holds x rest ≡ true) ⊎ ((y == x) ≡ true)
holds_push x [] y h = ⊎_elim (λ e. inr e) (λ e. cc) (or_cases (y == x) false h)
holds_push x (z ∷ rest) y h = ⊎_elim
    (λ e. inl (or_left (z == x) (holds x rest) e))
    (λ e. ⊎_elim (λ r. inl (or_right (z == x) (holds x rest) r)) (λ r. inr r) (holds_push x rest y e))
    (or_cases (z == x) (holds x (rest ++ y ∷ [])) h)

-- a stack that holds the rank is found
pub placed : (x : ℕ) (stacks : List (List ℕ)) → 1 ≤ occurrences x stacks → (stack : List ℕ) × (slice_get stacks (place x stacks) ≡ Some stack) × (holds x stack ≡ true)
placed x [] h = absurd (omega arith)
placed x (stack ∷ stacks) h = ⊎_elim
    (λ t. (stack, rw t refl, t))
    (λ f. let r = placed x stacks (omega (arith, Rattle.crp_plan.proofs.Lists.occurrences-cons x stack stacks, times_not_held x stack f)) in (r.0, rw f r.1, r.2))
    (cases_Bool (holds x stack))

-- the row where a rank stands is the computed one
pub is_place : (x : ℕ) (stacks : List (List ℕ)) (i : ℕ) (stack : List ℕ) → occurrences x stacks ≤ 1 → slice_get stacks i ≡ Some stack → 1 ≤ times x stack → place x stacks ≡ i
is_place x stacks i stack once e t =
    let found = placed x stacks (let l = Rattle.crp_plan.proofs.Lists.at_le_sum (times x) stacks i stack e in omega arith) in
    same_row x stacks (place x stacks) i found.0 stack once found.1 e (times_held x found.0 found.2) t

-- the next container's stack, where there is one
pub record Found (s : Position) : Type 0 where
  pub stack : List ℕ
  pub stands : slice_get s.stacks (source s) ≡ Some stack
  pub is_at : stack_at s (source s) ≡ stack
  pub held : holds s.next stack ≡ true

-- the next container is found where it is computed
pub found : (s : Position) → IsSound s → s.next ≤ s.ordered → Found s
found s sound le =
    let w = sound.waiting s.next (omega arith) le in
    let r = placed s.next s.stacks (omega arith) in
    record { stack = r.0; stands = r.1; is_at = get_or_from_slice_get s.stacks (source s) r.0 [] r.1; held = r.2 }

-- a take is the computed one
pub take_found : (s : Position) (row : ℕ) (t : Position) → IsSound s → IsTaken s row t → can_take s ≡ true
take_found s row t sound k =
    let e : source s ≡ row - 1 = is_place s.next s.stacks (row - 1) (k.rest ++ s.next ∷ []) (sound.once s.next) k.stack (times_top s.next k.rest) in
    let here : stack_at s (source s) ≡ k.rest ++ s.next ∷ [] = get_or_from_slice_get s.stacks (source s) (k.rest ++ s.next ∷ []) [] (ap (slice_get s.stacks) e ∙ k.stack) in
    and_from (nat_le s.next s.ordered) (ends_in s.next (stack_at s (source s))) (le-leb s.next s.ordered k.unfinished)
    (ap (ends_in s.next) here ∙ ends_push s.next k.rest s.next ∙ eq-eqb s.next s.next refl)

-- a computed take is legal
pub take_made : (s : Position) → IsSound s → can_take s ≡ true → IsTaken s (suc (source s)) (taken s)
take_made s sound h =
    let parts = and_parts (nat_le s.next s.ordered) (ends_in s.next (stack_at s (source s))) h in
    let le = leb-true s.next s.ordered parts.0 in
    let f = found s sound le in
    let split : f.stack ≡ without_top f.stack ++ top f.stack ∷ [] = held_splits s.next f.stack f.held in
    let ends : (top f.stack == s.next) ≡ true = sym (ends_push s.next (without_top f.stack) (top f.stack)) ∙ ap (ends_in s.next) (sym split) ∙ ap (ends_in s.next) (sym f.is_at) ∙ parts.1 in
    let is_top : top f.stack ≡ s.next = eqb-true (top f.stack) s.next ends in
    let e : suc (source s) - 1 ≡ source s = omega arith in
    record {
      unfinished = le;
      row_counts = omega arith;
      rest = without_top f.stack;
      stack = ap (slice_get s.stacks) e ∙ f.stands ∙ ap Some (split ∙ ap (λ x. without_top f.stack ++ x ∷ []) is_top);
      after = ap (λ i. record s { next = suc s.next; stacks = slice_set s.stacks i (without_top (stack_at s (source s))) }) (sym e)
          ∙ ap (λ l. record s { next = suc s.next; stacks = slice_set s.stacks (suc (source s) - 1) (without_top l) }) f.is_at;
    }

-- takes alone lead to a position where none is left
abbrev SettlesAs : Position → Position → Type 0
SettlesAs s t = (takes : List Move) × Runs s takes t × (path_of takes ≡ []) × NoTake t

-- enough computed takes settle a position
settles_to : (most : ℕ) (s : Position) → IsSound s → s.ordered + 1 ≤ s.next + most → SettlesAs s (settle most s)
settles_to zero s sound enough = ([], refl, refl, λ row t k. let u = k.unfinished in absurd (omega arith))
settles_to (suc most) s sound enough = ⊎_elim
    (λ t. let k = take_made s sound t in
    let r = settles_to most (taken s) (sound_taken s (suc (source s)) (taken s) sound k) (omega arith) in
    rw t (Take (suc (source s)) ∷ r.0, (taken s, k, r.1), r.2, r.3))
    (λ f. rw f ([], refl, refl, λ row t k. both_ways (can_take s) f (take_found s row t sound k)))
    (cases_Bool (can_take s))

-- the settled position is reached by takes alone, and none is left
pub settled_is : (s : Position) → IsSound s → SettlesAs s (settled s)
settled_is s sound = settles_to (s.ordered + 1 - s.next) s sound (omega arith)

-- the settled start is the position at the empty path
pub begins_at : (p : Problem) → IsProblem p → IsAt p [] (settled (start p))
begins_at p is =
    let r = settled_is (start p) (sound_start p is) in
    record { moves = r.0; runs = r.1; by_path = r.2; no_take = r.3 }

-- a legal row is a computed one, and leads where it says
pub shift_found : (s : Position) (from row : ℕ) (t : Position) → IsSound s → IsShifted s from row t → can_shift s row ≡ true
shift_found s from row t sound k =
    let e : source s ≡ from - 1 = is_place s.next s.stacks (from - 1) (k.rest ++ k.moved ∷ []) (sound.once s.next) k.stack (times_under s.next k.moved k.rest k.buried) in
    let ne : source s ≡ row - 1 → ⊥ = λ q. let a = k.from_counts in let b = k.to_counts in k.another (omega arith) in
    let here : stack_at s (row - 1) ≡ k.onto = get_or_from_slice_get s.stacks (row - 1) k.onto [] k.target in
    let high : get_or s.heights (row - 1) 0 ≡ k.height = get_or_from_slice_get s.heights (row - 1) k.height 0 k.limit in
    let room : length (stack_at s (row - 1)) < get_or s.heights (row - 1) 0 = let r = k.room in omega (arith, ap length here, high) in
    and_from _ _ (le-leb s.next s.ordered k.unfinished)
    (and_from _ _ (le-leb 1 row k.to_counts)
    (and_from _ _ (not_from_false (source s == row - 1) (ne_eqb (source s) (row - 1) ne)) (lt-ltb _ _ room)))

pub record Allows (s : Position) (row : ℕ) : Type 0 where
  pub unfinished : s.next ≤ s.ordered
  pub counts : 1 ≤ row
  pub another : source s ≢ row - 1
  pub room : length (stack_at s (row - 1)) < get_or s.heights (row - 1) 0

-- what the computed test of a row says
pub allows : (s : Position) (row : ℕ) → can_shift s row ≡ true → Allows s row
allows s row h =
    let a = and_parts (nat_le s.next s.ordered) (nat_le 1 row && (not (source s == row - 1) && nat_lt (length (stack_at s (row - 1))) (get_or s.heights (row - 1) 0))) h in
    let b = and_parts (nat_le 1 row) (not (source s == row - 1) && nat_lt (length (stack_at s (row - 1))) (get_or s.heights (row - 1) 0)) a.1 in
    let c = and_parts (not (source s == row - 1)) (nat_lt (length (stack_at s (row - 1))) (get_or s.heights (row - 1) 0)) b.1 in
    record {
      unfinished = leb-true s.next s.ordered a.0;
      counts = leb-true 1 row b.0;
      another = eqb-false (source s) (row - 1) (not-true (source s == row - 1) c.0);
      room = ltb-true (length (stack_at s (row - 1))) (get_or s.heights (row - 1) 0) c.1;
    }

-- there are as many heights as stacks
fit_lengths : (heights : List ℕ) (stacks : List (List ℕ)) → FitRows heights stacks → length heights ≡ length stacks
fit_lengths [] [] fit = refl
fit_lengths [] (x ∷ xs) fit = absurd fit
fit_lengths (h ∷ hs) [] fit = absurd fit
fit_lengths (h ∷ hs) (x ∷ xs) fit = ap suc (fit_lengths hs xs fit.1)

-- an index whose height is above 0 is within the rows
pub within : (hs : List ℕ) (i : ℕ) → 0 < get_or hs i 0 → i < length hs
within [] i h = absurd (omega arith)
within (x ∷ hs) zero h = omega arith
within (x ∷ hs) (suc i) h = let r = within hs i h in omega arith

-- a computed target can be shifted to
pub shift_made : (s : Position) (row : ℕ) → IsSound s → NoTake s → can_shift s row ≡ true → IsShifted s (suc (source s)) row (shifted s row)
shift_made s row sound none h =
    let a = allows s row h in
    let le : s.next ≤ s.ordered = a.unfinished in
    let counts : 1 ≤ row = a.counts in
    let f = found s sound le in
    let split : f.stack ≡ without_top f.stack ++ top f.stack ∷ [] = held_splits s.next f.stack f.held in
    let e : suc (source s) - 1 ≡ source s = omega arith in
    let apart : source s ≡ row - 1 → ⊥ = a.another in
    let not_top : top f.stack ≢ s.next = λ q.
    none (suc (source s)) (taken s) (take_made s sound (and_from _ _ (le-leb s.next s.ordered le)
    (ap (ends_in s.next) f.is_at ∙ ap (ends_in s.next) split ∙ ends_push s.next (without_top f.stack) (top f.stack) ∙ eq-eqb (top f.stack) s.next q))) in
    let room : length (stack_at s (row - 1)) < get_or s.heights (row - 1) 0 = a.room in
    let in_heights : row - 1 < length s.heights = within s.heights (row - 1) (omega arith) in
    let in_stacks : row - 1 < length s.stacks = omega (arith, fit_lengths s.heights s.stacks sound.stacks_fit) in
    record {
      unfinished = le;
      from_counts = omega arith;
      to_counts = counts;
      another = λ q. apart (omega arith);
      rest = without_top f.stack;
      moved = top f.stack;
      stack = ap (slice_get s.stacks) e ∙ f.stands ∙ ap Some split;
      buried = ⊎_elim (λ b. b) (λ t. absurd (not_top (eqb-true (top f.stack) s.next t)))
          (holds_push s.next (without_top f.stack) (top f.stack) (ap (holds s.next) (sym split) ∙ f.held));
      not_top = not_top;
      onto = stack_at s (row - 1);
      target = slice_get-get_or s.stacks (row - 1) [] in_stacks;
      height = get_or s.heights (row - 1) 0;
      limit = slice_get-get_or s.heights (row - 1) 0 in_heights;
      room = room;
      after = ap (λ i. made i (stack_at s (source s))) (sym e) ∙ ap (made (suc (source s) - 1)) f.is_at;
    }
  where
    made : ℕ → List ℕ → Position
    made i from = record s { stacks = slice_set (slice_set s.stacks i (without_top from)) (row - 1) (stack_at s (row - 1) ++ top from ∷ []) }

-- a computed target goes on the path
pub goes_to : (p : Problem) (path : List ℕ) (s : Position) (row : ℕ) → IsProblem p → IsAt p path s → can_shift s row ≡ true → IsAt p (path ++ row ∷ []) (child s row)
goes_to p path s row is a h =
    let sound : IsSound s = at_sound p path s is a in
    let k = shift_made s row sound a.no_take h in
    let r = settled_is (shifted s row) (sound_legal s (Shift (suc (source s)) row) (shifted s row) sound k) in
    at_child p path s (suc (source s)) row (shifted s row) (child s row) r.0 a k r.1 r.2 r.3

-- what stands among the numbers from one on
pub in_counted : (from more x : ℕ) → from ≤ x → x < from + more → Contains (counted from more) x
in_counted from zero x lo hi = absurd (omega arith)
in_counted from (suc more) x lo hi = ⊎_elim
    (λ e. subst (λ z. Contains (from ∷ counted (suc from) more) z) e (in_head from (counted (suc from) more)))
    (λ ne. in_tail from (counted (suc from) more) x (in_counted (suc from) more x (omega arith) (omega arith)))
    (cases_eq from x)

-- the last row of a path is a legal one where the rest leads
pub last_legal : (p : Problem) (path : List ℕ) (s : Position) (row : ℕ) (t : Position) → IsProblem p → IsAt p path s → IsAt p (path ++ row ∷ []) t → can_shift s row ≡ true
last_legal p path s row t is a b =
    let l = last_shift (start p) t b.moves path row b.runs b.by_path in
    let sound : IsSound l.before = Rattle.crp_plan.proofs.Sound.sound_runs (start p) l.first l.before (sound_start p is) l.to_it in
    let here : IsAt p path l.before = record { moves = l.first; runs = l.to_it; by_path = l.by_path; no_take = λ r u k. no_shift_beside_take l.before r l.from row u l.after sound k l.shift } in
    let same : l.before ≡ s = same_at p path l.before s is here a in
    ap (λ v. can_shift v row) (sym same) ∙ shift_found l.before l.from row l.after sound l.shift

-- a row that passes the test is a target
pub row_is_target : (s : Position) (row : ℕ) → can_shift s row ≡ true → Contains (targets s) row
row_is_target s row h =
    let a = allows s row h in
    let lo : 1 ≤ row = a.counts in
    let lt : row - 1 < length s.heights = within s.heights (row - 1) (let r = a.room in omega arith) in
    in_filter (can_shift s) (counted 1 (length s.heights)) row (in_counted 1 (length s.heights) row lo (omega arith)) h

-- each target goes on the path
pub target_goes_on : (p : Problem) (path : List ℕ) (s : Position) (row : ℕ) → IsProblem p → IsAt p path s → Contains (targets s) row → IsAt p (path ++ row ∷ []) (child s row)
target_goes_on p path s row is a c = goes_to p path s row is a (from_filter (can_shift s) (counted 1 (length s.heights)) row c).0

-- each row by which the path goes on is a target, and leads to the computed position
pub every_target : (p : Problem) (path : List ℕ) (s : Position) (row : ℕ) (t : Position) → IsProblem p → IsAt p path s → IsAt p (path ++ row ∷ []) t → Contains (targets s) row × (child s row ≡ t)
every_target p path s row t is a b =
    let h = last_legal p path s row t is a b in
    (row_is_target s row h, same_at p (path ++ row ∷ []) (child s row) t is (goes_to p path s row is a h) b)

-- a walk leads on
pub walk_leads : (p : Problem) (path more : List ℕ) (s t : Position) → IsProblem p → IsAt p path s → walk s more ≡ Some t → IsAt p (path ++ more) t
walk_leads p path [] s t is a e =
    let same : s ≡ t = same_Some s t e in
    rw append-nil (subst (IsAt p path) same a)
walk_leads p path (row ∷ more) s t is a e = ⊎_elim
    (λ h. let r = walk_leads p (path ++ row ∷ []) more (child s row) t is (goes_to p path s row is a h) (rw h at e) in
    subst (λ l. IsAt p l t) (append_assoc path (row ∷ []) more) r)
    (λ h. let e' : None ≡ Some t = rw h at e in cc)
    (cases_Bool (can_shift s row))

-- where a path leads, each of its beginnings does
pub leads_before : (p : Problem) (path more : List ℕ) (t : Position) → IsProblem p → IsAt p (path ++ more) t → (s : Position) × IsAt p path s
leads_before p path more t is b =
    let l = passes (start p) t b.moves path more (sound_start p is) b.runs b.no_take b.by_path in
    (l.middle, record { moves = l.first; runs = l.to_it; by_path = l.by_path; no_take = l.no_take })

-- where a path leads, the computed walk leads
pub walk_reaches : (p : Problem) (path more : List ℕ) (s t : Position) → IsProblem p → IsAt p path s → IsAt p (path ++ more) t → walk s more ≡ Some t
walk_reaches p path [] s t is a b = ap Some (same_at p path s t is a (rw append-nil at b))
walk_reaches p path (row ∷ more) s t is a b =
    let b' : IsAt p ((path ++ row ∷ []) ++ more) t = subst (λ l. IsAt p l t) (sym (append_assoc path (row ∷ []) more)) b in
    let u = leads_before p (path ++ row ∷ []) more t is b' in
    let h = last_legal p path s row u.0 is a u.1 in
    let r = walk_reaches p (path ++ row ∷ []) more (child s row) t is (goes_to p path s row is a h) b' in
    rw h r

-- the position at a path is the computed one
pub at_reads : (p : Problem) (path : List ℕ) (s : Position) → IsProblem p → IsAt p path s → at p path ≡ Some s
at_reads p path s is a = walk_reaches p [] path (settled (start p)) s is (begins_at p is) a

-- the computed position is the one at the path
pub at_means : (p : Problem) (path : List ℕ) (s : Position) → IsProblem p → at p path ≡ Some s → IsAt p path s
at_means p path s is e = walk_leads p [] path (settled (start p)) s is (begins_at p is) e

-- numbers that rise stay so where some are left out
rises_from : (p : ℕ → Bool) (from more k : ℕ) → k < length (filter p (counted from more)) → from ≤ get_or (filter p (counted from more)) k 0
rises_from p from zero k h = absurd (omega arith)
rises_from p from (suc more) zero h = ⊎_elim
    (λ t. rw t (omega arith))
    (λ f. rw f (let r = rises_from p (suc from) more zero (rw f at h) in omega arith))
    (cases_Bool (p from))
rises_from p from (suc more) (suc k) h = ⊎_elim
    (λ t. rw t (let g = rw t at h in let r = rises_from p (suc from) more k (omega arith) in omega arith))
    (λ f. rw f (let r = rises_from p (suc from) more (suc k) (rw f at h) in omega arith))
    (cases_Bool (p from))

-- each kept number is below the one after it
rises_suc : (p : ℕ → Bool) (from more k : ℕ) → suc k < length (filter p (counted from more)) → get_or (filter p (counted from more)) k 0 < get_or (filter p (counted from more)) (suc k) 0
rises_suc p from zero k h = absurd (omega arith)
rises_suc p from (suc more) zero h = ⊎_elim
    (λ t. rw t (let g = rw t at h in rises_from p (suc from) more zero (omega arith)))
    (λ f. rw f (rises_suc p (suc from) more zero (rw f at h)))
    (cases_Bool (p from))
rises_suc p from (suc more) (suc k) h = ⊎_elim
    (λ t. rw t (let g = rw t at h in rises_suc p (suc from) more k (omega arith)))
    (λ f. rw f (rises_suc p (suc from) more (suc k) (rw f at h)))
    (cases_Bool (p from))

-- the same, as it is said of lists
pub rises : (p : ℕ → Bool) (from more k : ℕ) → k + 1 < length (filter p (counted from more)) → get_or (filter p (counted from more)) k 0 < get_or (filter p (counted from more)) (k + 1) 0
rises p from more k h = rw add-one (rises_suc p from more k (omega arith))
