-- Names of parts: what is read is what the name says and leads where it leads, and a name is read again.
use Rattle.std.proofs.Common.{◌≡◌, ◌≢◌, ℕ, zero, suc, ◌+◌, ◌-◌, ◌<◌, ◌≤◌, ⊎_elim, Bool, true, false, cond, ◌==◌, List, [], ◌∷◌, ◌++◌, length, Contains, Option, Some, None, refl, sym, ap, ◌∙◌, subst, arith, append_assoc}
use Rattle.std.specs.Char.{is_ascii_digit}
use Rattle.std.specs.Prelude.{codes}
use Rattle.std.specs.List.{flat_map, AllByRecursion}
use Rattle.std.specs.Fmt.{decimal}
use Rattle.std.proofs.lemmas.Bool.{cases_Bool, ne_eqb}
use Rattle.std.proofs.lemmas.Option.{some_pair_parts, same_Some}
use Rattle.std.proofs.lemmas.List.{append-nil}
use Rattle.crp_plan.specs.Bay.{Problem, IsProblem, Position, start}
use Rattle.crp_bay.specs.Positions.{can_take, taken, settle, settled, shifted, can_shift, child, targets, walk, at}
use Rattle.crp_bay.proofs.Reaching.{shift_needs}
use Rattle.crp_bay.proofs.Walked.{row_is_target}
use Rattle.crp_tree.specs.Names.{name_text}
use Rattle.crp_cert.specs.Reading.{◌>>=◌, tag_at, number_at}
use Rattle.crp_cert.specs.PartReading.{line_at, tagged, in_front, rows_at, name_at}
use Rattle.crp_cert.proofs.Numbers.{bind_some, if_some, chosen, tag_takes, number_takes, number_again}
use Rattle.crp_cert.proofs.Lines.{starts_high}

-- ---- to the end of a line

-- what was read is what the bytes begin with, and has no line feed
pub line_takes : (bytes line rest : List ℕ) → line_at bytes ≡ Some (line, rest) → (bytes ≡ line ++ rest) × AllByRecursion (λ b. b ≢ 10) line
line_takes [] line rest e = absurd cc
line_takes (b ∷ bytes) line rest e =
    ⊎_elim
    (λ here. let p = some_pair_parts [] line (b ∷ bytes) rest here.1 in
    subst (λ l. (b ∷ bytes ≡ l ++ rest) × AllByRecursion (λ x. x ≢ 10) l) p.0 (p.1, tt))
    (λ on.
    let x = bind_some (line_at bytes) (λ x. Some (b ∷ x.0, x.1)) (line, rest) on.1 in
    let p = some_pair_parts (b ∷ x.0.0) line x.0.1 rest x.2 in
    let t = line_takes bytes x.0.0 x.0.1 x.1 in
    subst (λ l. (b ∷ bytes ≡ l ++ rest) × AllByRecursion (λ x. x ≢ 10) l) p.0
    (ap (λ l. b ∷ l) (t.0 ∙ ap (λ r. x.0.0 ++ r) p.1), (λ ten. let yes : true ≡ false = sym (ap (λ y. y == 10) ten) ∙ on.0 in cc, t.1)))
    (chosen (b == 10) (Some ([], b ∷ bytes)) (line_at bytes >>= λ x. Some (b ∷ x.0, x.1)) (Some (line, rest)) e)

-- bytes without a line feed are read again
pub line_again : (line rest : List ℕ) → AllByRecursion (λ b. b ≢ 10) line → line_at (line ++ 10 ∷ rest) ≡ Some (line, 10 ∷ rest)
line_again [] rest none = refl
line_again (b ∷ line) rest none = let ne = none.0 in rw (ne_eqb b 10 ne, line_again line rest none.1) refl

-- ---- the rows of a position

-- retrievals keep the rows
settle_rows : (most : ℕ) (s : Position) → length ((settle most s).heights) ≡ length s.heights
settle_rows zero s = refl
settle_rows (suc most) s = by_test (can_take s) (settle_rows most (taken s))
  where
    by_test : (b : Bool) → length ((settle most (taken s)).heights) ≡ length s.heights → length ((cond b (settle most (taken s)) s).heights) ≡ length s.heights
    by_test true e = e
    by_test false e = refl

-- and so does a relocation
pub child_rows : (s : Position) (row : ℕ) → length ((child s row).heights) ≡ length s.heights
child_rows s row = settle_rows (s.ordered + 1 - s.next) (shifted s row)

-- there are as many rows before the first relocation as the problem has
pub first_rows : (p : Problem) → length ((settled (start p)).heights) ≡ length p.heights
first_rows p = settle_rows (p.ordered + 1 - 1) (start p)

-- a legal row is one of the rows
pub legal_low : (s : Position) (row : ℕ) → can_shift s row ≡ true → (1 ≤ row) × (row ≤ length s.heights)
legal_low s row h = let n = (shift_needs s row h).1 in (n.counts, n.there)

-- a walk goes by legal rows
pub walk_goes : (s t : Position) (row : ℕ) (path : List ℕ) → walk s (row ∷ path) ≡ Some t → (can_shift s row ≡ true) × (walk (child s row) path ≡ Some t)
walk_goes s t row path e = if_some (can_shift s row) (walk (child s row) path) t e

-- each row of a walk is one of the rows
pub rows_low : (most : ℕ) (s t : Position) (path : List ℕ) → length s.heights ≤ most → walk s path ≡ Some t → AllByRecursion (λ row. (1 ≤ row) × (row ≤ most)) path
rows_low most s t [] few e = tt
rows_low most s t (row ∷ path) few e =
    let g = walk_goes s t row path e in
    let l = legal_low s row g.0 in let lo = l.0 in let hi = l.1 in
    ((lo, omega arith), rows_low most (child s row) t path (omega (arith, child_rows s row)) g.1)

-- ---- rows with points between them

-- no row without a number
pub rows_no_number : (room : ℕ) (s : Position) (bytes : List ℕ) → number_at 99 bytes ≡ None → rows_at room s bytes ≡ None
rows_no_number zero s bytes e = refl
rows_no_number (suc room) s bytes e = rw e refl

-- no row that is not legal
pub rows_illegal : (room : ℕ) (s : Position) (bytes : List ℕ) (n : ℕ) (rest : List ℕ) → number_at 99 bytes ≡ Some (n, rest) → can_shift s n ≡ false → rows_at room s bytes ≡ None
rows_illegal zero s bytes n rest e no' = refl
rows_illegal (suc room) s bytes n rest e no' = rw (e, no') refl

-- the last row
pub rows_last : (room : ℕ) (s : Position) (bytes : List ℕ) (n : ℕ) (rest : List ℕ) → number_at 99 bytes ≡ Some (n, rest) → can_shift s n ≡ true → tag_at (codes ".") rest ≡ None →
    rows_at (suc room) s bytes ≡ Some ((n ∷ [], child s n), rest)
rows_last room s bytes n rest e legal none = rw (e, legal, none) refl

-- a row with others behind it
pub rows_more : (room : ℕ) (s : Position) (bytes : List ℕ) (n : ℕ) (rest more : List ℕ) → number_at 99 bytes ≡ Some (n, rest) → can_shift s n ≡ true → tag_at (codes ".") rest ≡ Some more →
    rows_at (suc room) s bytes ≡ (rows_at room (child s n) more >>= in_front n)
rows_more room s bytes n rest more e legal some = rw (e, legal, some) refl

-- ---- a loop over them

-- rows, where they lead, and what follows them
abbrev pub RowsFound : Type 0
RowsFound = (List ℕ × Position) × List ℕ

-- rows behind others
abbrev pub rows_behind : List ℕ → RowsFound → Option RowsFound
rows_behind name x = Some ((name ++ x.0.0, x.0.1), x.1)

-- one more row at the end of those before
rows_regrouped : (name : List ℕ) (n : ℕ) (o : Option RowsFound) → (o >>= rows_behind (name ++ n ∷ [])) ≡ ((o >>= in_front n) >>= rows_behind name)
rows_regrouped name n None = refl
rows_regrouped name n (Some x) = ap (λ (l : List ℕ). Some ((l, x.0.1), x.1)) (append_assoc name (n ∷ []) x.0.0)

-- nothing is read at first
pub names_begin : (name : List ℕ) (place first : Position) (bytes : List ℕ) → name ≡ [] → place ≡ first → (rows_at (8 - length name) place bytes >>= rows_behind name) ≡ rows_at 8 first bytes
names_begin name place first bytes e f =
    ap (λ n. rows_at (8 - length n) place bytes >>= rows_behind n) e ∙ behind_none (rows_at 8 place bytes) ∙ ap (λ v. rows_at 8 v bytes) f
  where
    behind_none : (o : Option RowsFound) → (o >>= rows_behind []) ≡ o
    behind_none None = refl
    behind_none (Some x) = refl

-- where the rows end in nothing, nothing was read
pub names_fail : (room : ℕ) (name : List ℕ) (place first : Position) (rest bytes : List ℕ) → (rows_at room place rest >>= rows_behind name) ≡ rows_at 8 first bytes → rows_at room place rest ≡ None → rows_at 8 first bytes ≡ None
names_fail room name place first rest bytes inv e = sym inv ∙ ap (λ o. o >>= rows_behind name) e

-- the last row ends the loop
pub names_end : (name longer : List ℕ) (place first next : Position) (n : ℕ) (rest bytes after : List ℕ) → length name < 8 → longer ≡ name ++ n ∷ [] → next ≡ child place n →
    (rows_at (8 - length name) place rest >>= rows_behind name) ≡ rows_at 8 first bytes → number_at 99 rest ≡ Some (n, after) → can_shift place n ≡ true → tag_at (codes ".") after ≡ None →
    rows_at 8 first bytes ≡ Some ((longer, next), after)
names_end name longer place first next n rest bytes after lt l c inv e legal none =
    let s : 8 - length name ≡ suc (7 - length name) = omega arith in
    sym inv ∙ ap (λ m. rows_at m place rest >>= rows_behind name) s ∙ ap (λ o. o >>= rows_behind name) (rows_last (7 - length name) place rest n after e legal none)
    ∙ ap (λ (m : List ℕ). Some ((m, child place n), after)) (sym l) ∙ ap (λ (v : Position). Some ((longer, v), after)) (sym c)

-- a row more
pub names_go_on : (name longer : List ℕ) (place first next : Position) (n : ℕ) (rest bytes after more : List ℕ) → length name < 8 → longer ≡ name ++ n ∷ [] → next ≡ child place n →
    (rows_at (8 - length name) place rest >>= rows_behind name) ≡ rows_at 8 first bytes → number_at 99 rest ≡ Some (n, after) → can_shift place n ≡ true → tag_at (codes ".") after ≡ Some more →
    (rows_at (8 - length longer) next more >>= rows_behind longer) ≡ rows_at 8 first bytes
names_go_on name longer place first next n rest bytes after more lt l c inv e legal some =
    let long : length longer ≡ suc (length name) = ap length l ∙ length_push name n in
    let s : 8 - length name ≡ suc (8 - length longer) = omega arith in
    ap (λ v. rows_at (8 - length longer) v more >>= rows_behind longer) c ∙ ap (λ m. rows_at (8 - length longer) (child place n) more >>= rows_behind m) l
    ∙ rows_regrouped name n (rows_at (8 - length longer) (child place n) more)
    ∙ ap (λ o. o >>= rows_behind name) (sym (rows_more (8 - length longer) place rest n after more e legal some))
    ∙ ap (λ m. rows_at m place rest >>= rows_behind name) (sym s) ∙ inv
  where
    length_push : (xs : List ℕ) (x : ℕ) → length (xs ++ x ∷ []) ≡ suc (length xs)
    length_push [] x = refl
    length_push (y ∷ xs) x = ap suc (length_push xs x)

-- ---- what a name says

-- rows that were read: one at least, no more than there was room for, and they lead where the walk leads
record AreRowsRead (room : ℕ) (s : Position) (bytes name : List ℕ) (t : Position) (rest : List ℕ) : Type 0 where
  first : ℕ
  others : List ℕ
  is : name ≡ first ∷ others
  few : length name ≤ room
  goes : walk s name ≡ Some t
  text : bytes ≡ name_text name ++ rest

-- what is read of rows is what they say
rows_take : (room : ℕ) (s : Position) (bytes name : List ℕ) (t : Position) (rest : List ℕ) → rows_at room s bytes ≡ Some ((name, t), rest) → AreRowsRead room s bytes name t rest
rows_take zero s bytes name t rest e = absurd cc
rows_take (suc room) s bytes name t rest e =
    let x = bind_some (number_at 99 bytes) (λ x. cond (can_shift s x.0) (tagged (tag_at (codes ".") x.1) (last x.0 x.1) (more x.0)) None) ((name, t), rest) e in
    let k = if_some (can_shift s x.0.0) (tagged (tag_at (codes ".") x.0.1) (last x.0.0 x.0.1) (more x.0.0)) ((name, t), rest) x.2 in
    by_tag (λ n behind name' t' after' f. rows_take room (child s n) behind name' t' after' f) x.0.0 x.0.1 (tag_at (codes ".") x.0.1) refl k.0 (number_takes 99 bytes x.0.0 x.0.1 (omega arith) (omega arith) x.1).0 k.1
  where
    last : ℕ → List ℕ → Option RowsFound
    last n after = Some ((n ∷ [], child s n), after)

    more : ℕ → List ℕ → Option RowsFound
    more n after = rows_at room (child s n) after >>= in_front n

    P : RowsFound → Type 0
    P v = AreRowsRead (suc room) s bytes v.0.0 v.0.1 v.1

    pointed : (n first : ℕ) (others name more rest : List ℕ) → name ≡ first ∷ others → more ≡ name_text name ++ rest → decimal n ++ 46 ∷ more ≡ name_text (n ∷ name) ++ rest
    pointed n first others name more rest is m =
        ap (λ l. decimal n ++ 46 ∷ l) (m ∙ ap (λ l. name_text l ++ rest) is)
        ∙ sym (append_assoc (decimal n) (46 ∷ name_text (first ∷ others)) rest)
        ∙ ap (λ l. name_text (n ∷ l) ++ rest) (sym is)

    Deeper : Type 0
    Deeper = (n : ℕ) (behind name' : List ℕ) (t' : Position) (after' : List ℕ) → rows_at room (child s n) behind ≡ Some ((name', t'), after') → AreRowsRead room (child s n) behind name' t' after'

    by_tag : Deeper → (n : ℕ) (after : List ℕ) (o : Option (List ℕ)) → tag_at (codes ".") after ≡ o → can_shift s n ≡ true → bytes ≡ decimal n ++ after → tagged o (last n after) (more n) ≡ Some ((name, t), rest) → P ((name, t), rest)
    by_tag deeper n after None d legal text f =
        subst P (same_Some ((n ∷ [], child s n), after) ((name, t), rest) f)
        (record { first = n; others = []; is = refl; few = omega arith; goes = rw legal refl; text = text ∙ ap (λ l. l ++ after) (sym (append-nil (decimal n))) })
    by_tag deeper n after (Some behind) d legal text f =
        let y = bind_some (rows_at room (child s n) behind) (in_front n) ((name, t), rest) f in
        let r = deeper n behind y.0.0.0 y.0.0.1 y.0.1 y.1 in
        let few = r.few in
        subst P (same_Some ((n ∷ y.0.0.0, y.0.0.1), y.0.1) ((name, t), rest) y.2)
        (record {
          first = n;
          others = y.0.0.0;
          is = refl;
          few = omega arith;
          goes = rw legal r.goes;
          text = text ∙ ap (λ l. decimal n ++ l) (tag_takes (codes ".") after behind d) ∙ pointed n r.first r.others y.0.0.0 behind y.0.1 r.is r.text;
        })

-- rows are read again where neither a digit nor a point follows
rows_again : (room : ℕ) (s t : Position) (row : ℕ) (rows : List ℕ) (stop : ℕ) (rest : List ℕ) → length s.heights ≤ 12 → length rows < room → walk s (row ∷ rows) ≡ Some t → is_ascii_digit stop ≡ false → stop ≢ 46 →
    rows_at room s (name_text (row ∷ rows) ++ stop ∷ rest) ≡ Some ((row ∷ rows, t), stop ∷ rest)
rows_again zero s t row rows stop rest few lt goes not ne = absurd (omega arith)
rows_again (suc room) s t row [] stop rest few lt goes not ne =
    let g = walk_goes s t row [] goes in
    let l = legal_low s row g.0 in let hi = l.1 in
    let n : number_at 99 (decimal row ++ stop ∷ rest) ≡ Some (row, stop ∷ rest) = number_again 99 row stop rest (omega arith) (omega arith) (omega arith) not in
    let none : tag_at (codes ".") (stop ∷ rest) ≡ None = rw (ne_eqb stop 46 ne) refl in
    ap (λ (l : List ℕ). rows_at (suc room) s (l ++ stop ∷ rest)) (append-nil (decimal row))
    ∙ rows_last room s (decimal row ++ stop ∷ rest) row (stop ∷ rest) n g.0 none
    ∙ ap (λ (v : Position). Some ((row ∷ [], v), stop ∷ rest)) (same_Some (child s row) t g.1)
rows_again (suc room) s t row (next ∷ rows) stop rest few lt goes not ne =
    let g = walk_goes s t row (next ∷ rows) goes in
    let l = legal_low s row g.0 in let hi = l.1 in
    let more : List ℕ = name_text (next ∷ rows) ++ stop ∷ rest in
    let n : number_at 99 (decimal row ++ 46 ∷ more) ≡ Some (row, 46 ∷ more) = number_again 99 row 46 more (omega arith) (omega arith) (omega arith) refl in
    ap (rows_at (suc room) s) (append_assoc (decimal row) (46 ∷ name_text (next ∷ rows)) (stop ∷ rest))
    ∙ rows_more room s (decimal row ++ 46 ∷ more) row (46 ∷ more) more n g.0 refl
    ∙ ap (λ o. o >>= in_front row) (rows_again room (child s row) t next rows stop rest (omega (arith, child_rows s row)) (omega arith) g.1 not ne)

-- what is read of a name is what it says, and it leads where it is said to lead
pub name_takes : (p : Problem) (bytes name : List ℕ) (t : Position) (rest : List ℕ) → name_at p bytes ≡ Some ((name, t), rest) → (length name ≤ 8) × (at p name ≡ Some t) × (bytes ≡ name_text name ++ rest)
unfolding name_at
name_takes p bytes name t rest e = by_tag (tag_at (codes "/") bytes) refl e
  where
    root : List ℕ → Option RowsFound
    root after = Some (([], settled (start p)), after)

    by_tag : (o : Option (List ℕ)) → tag_at (codes "/") bytes ≡ o → tagged o (rows_at 8 (settled (start p)) bytes) root ≡ Some ((name, t), rest) → (length name ≤ 8) × (at p name ≡ Some t) × (bytes ≡ name_text name ++ rest)
    by_tag None d f = let r = rows_take 8 (settled (start p)) bytes name t rest f in (r.few, r.goes, r.text)
    by_tag (Some after) d f =
        subst (λ (v : RowsFound). (length v.0.0 ≤ 8) × (at p v.0.0 ≡ Some v.0.1) × (bytes ≡ name_text v.0.0 ++ v.1)) (same_Some (([], settled (start p)), after) ((name, t), rest) f)
        (omega arith, refl, tag_takes (codes "/") bytes after d)

-- a name is read again where neither a digit nor a point follows
pub name_again : (p : Problem) (name : List ℕ) (t : Position) (stop : ℕ) (rest : List ℕ) → IsProblem p → length name ≤ 8 → at p name ≡ Some t → is_ascii_digit stop ≡ false → stop ≢ 46 →
    name_at p (name_text name ++ stop ∷ rest) ≡ Some ((name, t), stop ∷ rest)
unfolding name_at
name_again p [] t stop rest is few goes not ne = ap (λ (v : Position). Some (([], v), stop ∷ rest)) (same_Some (settled (start p)) t goes)
name_again p (row ∷ rows) t stop rest is few goes not ne =
    let most = is.few_rows in
    let g = walk_goes (settled (start p)) t row rows goes in
    let l = legal_low (settled (start p)) row g.0 in let hi = l.1 in
    let low : length ((settled (start p)).heights) ≤ 12 = omega (arith, first_rows p) in
    let bytes : List ℕ = name_text (row ∷ rows) ++ stop ∷ rest in
    ap (λ o. tagged o (rows_at 8 (settled (start p)) bytes) (λ after. Some (([], settled (start p)), after))) (no_slash row (flat_map (λ r. 46 ∷ decimal r) rows) (stop ∷ rest) (omega arith))
    ∙ rows_again 8 (settled (start p)) t row rows stop rest low (omega arith) goes not ne
  where
    no_slash : (row : ℕ) (others rest : List ℕ) → row ≤ 12 → tag_at (codes "/") ((decimal row ++ others) ++ rest) ≡ None
    no_slash row others rest low =
        let h = starts_high row (omega arith) in
        let hi = h.3 in
        ap (λ l. tag_at (codes "/") ((l ++ others) ++ rest)) h.2 ∙ rw (ne_eqb h.0 47 (λ e. omega arith)) refl

-- ---- what the reader of names meets

-- no name but the root's, and no rows
pub none_named : (p : Problem) (bytes : List ℕ) → tag_at (codes "/") bytes ≡ None → rows_at 8 (settled (start p)) bytes ≡ None → name_at p bytes ≡ None
unfolding name_at
none_named p bytes e f = ap (λ o. tagged o (rows_at 8 (settled (start p)) bytes) (λ rest. Some (([], settled (start p)), rest))) e ∙ f

-- rows
pub some_named : (p : Problem) (bytes : List ℕ) (x : RowsFound) → tag_at (codes "/") bytes ≡ None → rows_at 8 (settled (start p)) bytes ≡ Some x → name_at p bytes ≡ Some x
unfolding name_at
some_named p bytes x e f = ap (λ o. tagged o (rows_at 8 (settled (start p)) bytes) (λ rest. Some (([], settled (start p)), rest))) e ∙ f

-- a row that is no target is not legal
pub not_legal : (s : Position) (row : ℕ) → (Contains (targets s) row → ⊥) → can_shift s row ≡ false
not_legal s row never = ⊎_elim (λ legal. absurd (never (row_is_target s row legal))) (λ e. e) (cases_Bool (can_shift s row))

-- there is room for no row
pub no_room : (name : List ℕ) (s : Position) (bytes : List ℕ) → 8 ≤ length name → rows_at (8 - length name) s bytes ≡ None
no_room name s bytes full = let z : 8 - length name ≡ 0 = omega arith in ap (λ m. rows_at m s bytes) z
