-- The records that csv's reader gives in turn are a front of the records of the text, and at its end they are all.
use Rattle.std.proofs.Common.{◌≡◌, ◌<◌, ◌≤◌, ℕ, zero, suc, Bool, true, false, List, [], ◌∷◌, ◌++◌, length, Option, Some, None, refl, sym, ap₂, arith, subst, cond, append-nil, append_assoc, ◌∙◌, Bor}
use Rattle.csv.specs.Machine.{Read, ends_at_end, field_after, fields_after, is_end, next_record, step}
use Rattle.csv.specs.Reading.{AreRecords, Reached, ReadRecord, default_config, records, records_from, source_of}
use Rattle.csv.specs.declared.reader.Reader.{Reader}
use Rattle.csv.proofs.ReadFacts.{rows-end}
use Rattle.csv.specs.declared.parser.Config.{Config}
use Rattle.csv.specs.declared.parser.State.{State}
use Rattle.csv.specs.declared.parser.State.TheVariants as st

chosen : {A : Type 0} (b : Bool) (x y : Option A) (z : A) (P : A → Type 0)
    → cond b x y ≡ Some z → (x ≡ Some z → P z) → (y ≡ Some z → P z) → P z
chosen true x y z P e f g = f e
chosen false x y z P e f g = g e

some_is : {A : Type 0} (x z : A) (P : A → Type 0) → Some x ≡ Some z → P x → P z
some_is x z P e h = let same : x ≡ z = cc in subst P same h

none_is : {A : Type 0} (z : A) (P : Type 0) → None ≡ Some z → P
none_is z P e = absurd (cc)

-- the end of a text gives a record at most, and nothing after it
last : (cfg : Config) (s : State) (fields : List (List ℕ)) (field : List ℕ) (p : Read)
    → next_record cfg s fields field [] ≡ Some p → (p.1 ≡ st.StartRecord) × (p.2 ≡ [])
unfolding next_record
last cfg s fields field p e =
    chosen (ends_at_end s) (Some (fields ++ (field ∷ []), st.StartRecord, [])) None p (λ (q : Read). (q.1 ≡ st.StartRecord) × (q.2 ≡ [])) e
    (λ h. some_is (fields ++ (field ∷ []), st.StartRecord, []) p (λ (q : Read). (q.1 ≡ st.StartRecord) × (q.2 ≡ [])) h (refl, refl))
    (λ h. none_is p _ h)

-- what is left after a record is no longer than the text
within : (cfg : Config) (s : State) (fields : List (List ℕ)) (field xs : List ℕ) (p : Read)
    → next_record cfg s fields field xs ≡ Some p → length p.2 ≤ length xs
unfolding next_record
within cfg s fields field [] p e = let h : p.2 ≡ [] = (last cfg s fields field p e).1 in rw h (omega arith)
within cfg s fields field (c ∷ rest) p e =
    chosen (is_end (step cfg s c).1) _ _ p (λ (q : Read). length q.2 ≤ suc (length rest)) e
    (λ h. some_is (fields_after (step cfg s c).1 fields field, (step cfg s c).0, rest) p (λ (q : Read). length q.2 ≤ suc (length rest)) h (omega arith))
    (λ h. omega (arith, within cfg (step cfg s c).0 (fields_after (step cfg s c).1 fields field) (field_after (step cfg s c).1 c field) rest p h))

-- a record takes a byte at least, where there is one
shorter : (cfg : Config) (s : State) (fields : List (List ℕ)) (field : List ℕ) (c : ℕ) (rest : List ℕ) (p : Read)
    → next_record cfg s fields field (c ∷ rest) ≡ Some p → length p.2 ≤ length rest
unfolding next_record
shorter cfg s fields field c rest p e =
    chosen (is_end (step cfg s c).1) _ _ p (λ (q : Read). length q.2 ≤ length rest) e
    (λ h. some_is (fields_after (step cfg s c).1 fields field, (step cfg s c).0, rest) p (λ (q : Read). length q.2 ≤ length rest) h (omega arith))
    (λ h. within cfg (step cfg s c).0 (fields_after (step cfg s c).1 fields field) (field_after (step cfg s c).1 c field) rest p h)

-- no bytes give no records
none_left : (cfg : Config) (n : ℕ) (s2 : State) (ys : List ℕ) (rows : List (List (List ℕ)))
    → Reached cfg st.StartRecord [] rows s2 ys → records_from cfg n st.StartRecord [] ≡ rows
unfolding Reached records_from next_record
none_left cfg zero s2 ys [] h = refl
none_left cfg (suc n) s2 ys [] h = refl
none_left cfg n s2 ys (r ∷ rs) h = none_is h.0 _ h.1

-- with more turns than bytes, the turns give the records
pub given : (cfg : Config) (n : ℕ) (s s2 : State) (xs ys : List ℕ) (rows : List (List (List ℕ)))
    → length xs < n → Reached cfg s xs rows s2 ys → next_record cfg s2 [] [] ys ≡ None → records_from cfg n s xs ≡ rows
unfolding Reached records_from
given cfg zero s s2 xs ys rows more reached ends = absurd (omega arith)
given cfg (suc n) s s2 xs ys [] more reached ends = rw (reached.0, reached.1, ends) refl
given cfg (suc n) s s2 [] ys (r ∷ rs) more reached ends =
    let (p, e, is, after) = reached in
    let at = last cfg s [] [] p e in
    let left : records_from cfg n p.1 p.2 ≡ rs = rw (at.0, at.1) (none_left cfg n s2 ys rs (rw (at.0, at.1) at after)) in
    rw e (ap₂ (λ a b. a ∷ b) (sym is) left)
given cfg (suc n) s s2 (c ∷ xs) ys (r ∷ rs) more reached ends =
    let (p, e, is, after) = reached in
    let small : length p.2 < n = omega (arith, shorter cfg s [] [] c xs p e) in
    rw e (ap₂ (λ a b. a ∷ b) (sym is) (given cfg n p.1 s2 p.2 ys rs small after ends))

-- with more turns than bytes, the turns begin with the records
front_given : (cfg : Config) (n : ℕ) (s s2 : State) (xs ys : List ℕ) (rows : List (List (List ℕ)))
    → length xs < n → Reached cfg s xs rows s2 ys → (more : List (List (List ℕ))) × (records_from cfg n s xs ≡ rows ++ more)
unfolding Reached records_from
front_given cfg zero s s2 xs ys rows more reached = absurd (omega arith)
front_given cfg (suc n) s s2 xs ys [] more reached = (records_from cfg (suc n) s xs, refl)
front_given cfg (suc n) s s2 [] ys (r ∷ rs) more reached =
    let (p, e, is, after) = reached in
    let at = last cfg s [] [] p e in
    let left : records_from cfg n p.1 p.2 ≡ rs = rw (at.0, at.1) (none_left cfg n s2 ys rs (rw (at.0, at.1) at after)) in
    ([], rw e (ap₂ (λ a b. a ∷ b) (sym is) (left ∙ sym (append-nil rs))))
front_given cfg (suc n) s s2 (c ∷ xs) ys (r ∷ rs) more reached =
    let (p, e, is, after) = reached in
    let small : length p.2 < n = omega (arith, shorter cfg s [] [] c xs p e) in
    let rest = front_given cfg n p.1 s2 p.2 ys rs small after in
    (rest.0, rw e (ap₂ (λ a b. a ∷ b) (sym is) rest.1))

-- the records of a text are the one list that `AreRecords` has
pub records-are : (cfg : Config) (xs : List ℕ) (rows : List (List (List ℕ))) → AreRecords cfg st.StartRecord xs rows → rows ≡ records cfg xs
records-are cfg xs rows h = let (s2, ys, reached, ends) = h in sym (given cfg _ st.StartRecord s2 xs ys rows (omega arith) reached ends)

-- the records that were reached are a front of the records of the text
records-front : (cfg : Config) (xs ys : List ℕ) (rows : List (List (List ℕ))) (s2 : State) → Reached cfg st.StartRecord xs rows s2 ys
    → (more : List (List (List ℕ))) × (records cfg xs ≡ rows ++ more)
records-front cfg xs ys rows s2 reached = front_given cfg _ st.StartRecord s2 xs ys rows (omega arith) reached

-- the same, of which the last is stated apart
pub records-next : (cfg : Config) (xs ys : List ℕ) (rows : List (List (List ℕ))) (row : List (List ℕ)) (s2 : State) → Reached cfg st.StartRecord xs (rows ++ row ∷ []) s2 ys
    → (more : List (List (List ℕ))) × (records cfg xs ≡ rows ++ row ∷ more)
records-next cfg xs ys rows row s2 reached =
    let front = records-front cfg xs ys (rows ++ row ∷ []) s2 reached in
    (front.0, front.1 ∙ append_assoc rows (row ∷ []) front.0)

-- where the reader finds no record more, those that were reached are all
pub records-ended : (a b : Reader (Bor (List ℕ))) (xs y : List ℕ) (rows : List (List (List ℕ))) → a.config ≡ default_config
    → source_of (λ s. Some s.now) a ≡ Some y → Reached default_config st.StartRecord xs rows a.state y → ReadRecord (λ s. Some s.now) a b false []
    → records default_config xs ≡ rows
records-ended a b xs y rows config source reached end =
    sym (records-are default_config xs rows (a.state, y, reached, rows-end (λ s. Some s.now) a b [] default_config y config source end))
