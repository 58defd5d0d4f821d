-- csv's machine, record by record.
use Rattle.std.proofs.Common.{◌≡◌, ◌≢◌, ◌<◌, ◌≤◌, ◌+◌, ◌-◌, ℕ, zero, suc, Bool, true, false, cond, eqb, List, [], ◌∷◌, ◌++◌, length, drop, get_or, Option, Some, None, option_map, refl, sym, ap, subst, ◌∙◌, inl, inr, ⊎_elim, arith, tests, rules}
use Rattle.std.specs.List.{starts_with}
use Rattle.std.specs.Prelude.{nat_eq}
use Rattle.std.proofs.lemmas.Bool.{cases_lt}
use Rattle.csv.specs.Machine.{Read, next_record, step, fields_after, field_after, ends_at_end}
use Rattle.csv.specs.Reading.{strip_bom}
use Rattle.csv.specs.declared.parser.Action.TheVariants as act
use Rattle.csv.specs.declared.parser.State.{State}
use Rattle.csv.specs.declared.parser.State.TheVariants as st
use Rattle.edi_text.specs.Reading.{after_line_ends, is_line_end}
use Rattle.crp_separated.specs.Separators.{parted_by}
use Rattle.crp_places.specs.declared.records.Place.{Place}
use Rattle.crp_places.specs.declared.records.Place.TheVariants.{FieldStart, Field, Quoted, QuoteEnd}
use Rattle.crp_places.specs.Records.{behind_next, offset_of_last, behind_records, record_start, state_at, IsBetween, Ends, GoesOn, LeavesRecord}

-- the first byte goes on with the record
pub record-goes_on : (x : ℕ) (place behind : Place) (fields : List (List ℕ)) (field bytes : List ℕ) → 1 ≤ length bytes → GoesOn x place (get_or bytes 0 0) behind
    → (more : List (List ℕ)) × (part : List ℕ) × (next_record (parted_by x) (state_at place) fields field bytes ≡ next_record (parted_by x) (state_at behind) more part (drop 1 bytes))
unfolding next_record
record-goes_on x place behind fields field [] some h = absurd (omega arith)
record-goes_on x place behind fields field (b ∷ bytes) some h =
    let s = state_at place in
    (fields_after (step (parted_by x) s b).1 fields field, field_after (step (parted_by x) s b).1 b field, rw (h.0, h.1) refl)

-- the first byte ends the record
pub record-ends : (x : ℕ) (place : Place) (fields : List (List ℕ)) (field bytes : List ℕ) → 1 ≤ length bytes → Ends x place (get_or bytes 0 0)
    → (all : List (List ℕ)) × (s : State) × IsBetween s × (next_record (parted_by x) (state_at place) fields field bytes ≡ Some (all, s, drop 1 bytes))
unfolding next_record
record-ends x place fields field [] some h = absurd (omega arith)
record-ends x place fields field (b ∷ bytes) some h =
    let s = state_at place in
    (fields_after (step (parted_by x) s b).1 fields field, (step (parted_by x) s b).0, h.1, rw h.0 refl)

at_end : (place : Place) → ends_at_end (state_at place) ≡ true
at_end FieldStart = refl
at_end Field = refl
at_end Quoted = refl
at_end QuoteEnd = refl

-- the end of the text ends the record
pub record-last : (x : ℕ) (place : Place) (fields : List (List ℕ)) (field bytes : List ℕ) → length bytes < 1
    → next_record (parted_by x) (state_at place) fields field bytes ≡ Some (fields ++ field ∷ [], st.StartRecord, bytes)
unfolding next_record
record-last x place fields field [] none = rw (at_end place) refl
record-last x place fields field (b ∷ bytes) none = absurd (omega arith)

-- what stands behind the byte order mark, if the text begins with one
pub strip-is : (text : List ℕ) → strip_bom text ≡ cond (starts_with nat_eq text (239 ∷ 187 ∷ 191 ∷ [])) (drop 3 text) text
unfolding strip_bom
strip-is [] = refl
strip-is (a ∷ []) = grind arith
strip-is (a ∷ b ∷ []) = grind arith
strip-is (a ∷ b ∷ c ∷ rest) = grind arith

one_way : {A : Type 0} (t : Bool) (x y : A) → y ≡ x → cond t x y ≡ x
one_way true x y h = refl
one_way false x y h = h

other_way : {A : Type 0} (t : Bool) (x y z : A) → t ≡ false → y ≡ z → cond t x y ≡ z
other_way true x y z h k = absurd cc
other_way false x y z h k = k

is_feed-false : (b : ℕ) → is_line_end b ≡ false → eqb b 10 ≡ false
is_feed-false b h = grind (arith, tests)

-- between two records, a line end is passed over
passes : (x b : ℕ) (s : State) → IsBetween s → is_line_end b ≡ true → step (parted_by x) s b ≡ (st.StartRecord, act.Skip)
passes x b s (inl e) h = rw (e, h) refl
passes x b s (inr e) h = rw e (one_way (eqb b 10) _ _ (rw h refl))

-- another byte is the first of a field
opens : (x b : ℕ) (s : State) → IsBetween s → is_line_end b ≡ false → step (parted_by x) s b ≡ step (parted_by x) st.StartField b
opens x b s (inl e) h = rw (e, h) refl
opens x b s (inr e) h = rw e (other_way (eqb b 10) _ _ _ (is_feed-false b h) (rw h refl))

passed : (x b : ℕ) (bytes : List ℕ) (s : State) → step (parted_by x) s b ≡ (st.StartRecord, act.Skip)
    → next_record (parted_by x) s [] [] (b ∷ bytes) ≡ next_record (parted_by x) st.StartRecord [] [] bytes
unfolding next_record
passed x b bytes s h = rw h refl

opened : (x b : ℕ) (bytes : List ℕ) (s : State) → step (parted_by x) s b ≡ step (parted_by x) st.StartField b
    → next_record (parted_by x) s [] [] (b ∷ bytes) ≡ next_record (parted_by x) st.StartField [] [] (b ∷ bytes)
unfolding next_record
opened x b bytes s h = rw h refl

ended : (x : ℕ) (s : State) → IsBetween s → next_record (parted_by x) s [] [] [] ≡ None
unfolding next_record
ended x s (inl e) = rw e refl
ended x s (inr e) = rw e refl

-- the next record is read behind the line ends, if anything stands there
abbrev pub record_or_none : ℕ → List ℕ → Option Read
record_or_none x [] = None
record_or_none x (b ∷ bytes) = next_record (parted_by x) st.StartField [] [] (b ∷ bytes)

next-by : (x : ℕ) (t : Bool) (b : ℕ) (bytes : List ℕ) (s : State) → IsBetween s → is_line_end b ≡ t
    → next_record (parted_by x) st.StartRecord [] [] bytes ≡ record_or_none x (after_line_ends bytes)
    → next_record (parted_by x) s [] [] (b ∷ bytes) ≡ record_or_none x (cond t (after_line_ends bytes) (b ∷ bytes))
next-by x true b bytes s h e more = passed x b bytes s (passes x b s h e) ∙ more
next-by x false b bytes s h e more = opened x b bytes s (opens x b s h e)

next-is : (x : ℕ) (s : State) (bytes : List ℕ) → IsBetween s → next_record (parted_by x) s [] [] bytes ≡ record_or_none x (after_line_ends bytes)
next-is x s [] h = ended x s h
next-is x s (b ∷ bytes) h = next-by x (is_line_end b) b bytes s h refl (next-is x st.StartRecord bytes (inl refl))

some-read : (x : ℕ) (bytes : List ℕ) (read : Read) → length bytes ≢ 0 → next_record (parted_by x) st.StartField [] [] bytes ≡ Some read → record_or_none x bytes ≡ Some read
some-read x [] read some h = absurd (some refl)
some-read x (b ∷ bytes) read some h = h

no-read : (x : ℕ) (bytes : List ℕ) → length bytes ≡ 0 → record_or_none x bytes ≡ None
no-read x [] none = refl
no-read x (b ∷ bytes) none = absurd (omega arith)

-- csv's machine stands between the records before this number and the next one
pub record IsBehind (x : ℕ) (text : List ℕ) (count : ℕ) (rest : List ℕ) : Type 0 where
  pub state : State
  pub bytes : List ℕ
  pub between : IsBetween state
  pub behind : behind_records x text count ≡ Some (state, bytes)
  pub passed : rest ≡ after_line_ends bytes

pub behind-start : (x : ℕ) (text rest : List ℕ) → rest ≡ after_line_ends (strip_bom text) → IsBehind x text 0 rest
behind-start x text rest h = record { state = st.StartRecord; bytes = strip_bom text; between = inl refl; behind = refl; passed = h }

-- one record more
pub behind-more : (x : ℕ) (text : List ℕ) (count : ℕ) (rest left after : List ℕ) → IsBehind x text count rest → length rest ≢ 0 → LeavesRecord x rest left
    → after ≡ after_line_ends left → IsBehind x text (suc count) after
behind-more x text count rest left after h some (fields, s, between, read) e =
    let next : next_record (parted_by x) h.state [] [] h.bytes ≡ Some (fields, s, left) =
    next-is x h.state h.bytes h.between ∙ ap (record_or_none x) (sym h.passed) ∙ some-read x rest (fields, s, left) some read in
    record {
      state = s;
      bytes = left;
      between = between;
      behind = ap (behind_next x) h.behind ∙ ap (option_map (λ (read : Read). (read.1, read.2))) next;
      passed = e;
    }

-- behind the last record there is none
behind-none : (x : ℕ) (text : List ℕ) (count : ℕ) (rest : List ℕ) → IsBehind x text count rest → length rest ≡ 0 → behind_records x text (suc count) ≡ None
behind-none x text count rest h none =
    let next = next-is x h.state h.bytes h.between ∙ ap (record_or_none x) (sym h.passed) ∙ no-read x rest none in
    ap (behind_next x) h.behind ∙ ap (option_map (λ (read : Read). (read.1, read.2))) next

none-from : (x : ℕ) (text : List ℕ) (n m : ℕ) → behind_records x text n ≡ None → n ≤ m → behind_records x text m ≡ None
none-from x text n zero h le = let same : n ≡ zero = omega arith in subst (λ k. behind_records x text k ≡ None) same h
none-from x text n (suc m) h le = ⊎_elim (λ (at : m < n). let same : n ≡ suc m = omega arith in subst (λ k. behind_records x text k ≡ None) same h) (λ (below : n ≤ m). ap (behind_next x) (none-from x text n m h below)) (cases_lt m n)

differs : (n : ℕ) → n ≢ 0 → eqb n 0 ≡ false
differs n h = search (rules, tests)

-- so no record has a number beyond
pub start-none : (x : ℕ) (text : List ℕ) (number count : ℕ) (rest : List ℕ) → IsBehind x text count rest → length rest ≡ 0 → count + 1 < number → record_start x text number ≡ None
start-none x text number count rest h none beyond =
    let some : number ≢ 0 = λ e. absurd (omega arith) in
    let absent = none-from x text (suc count) (number - 1) (behind-none x text count rest h none) (omega arith) in
    rw (differs number some, absent) refl

pub start-is : (x : ℕ) (text : List ℕ) (number : ℕ) (rest : List ℕ) → number ≢ 0 → IsBehind x text (number - 1) rest → record_start x text number ≡ offset_of_last text rest
start-is x text number rest some h = rw (differs number some, h.behind, h.passed) refl
