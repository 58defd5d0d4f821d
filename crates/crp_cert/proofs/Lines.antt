-- What is read of a line is what the line says, and a line is read again.
use Rattle.std.proofs.Common.{◌≡◌, ℕ, ◌+◌, ◌*◌, ◌/◌, ◌%◌, ◌^◌, ◌<◌, ◌≤◌, ⊎_elim, true, false, cond, ◌==◌, List, [], ◌∷◌, ◌++◌, length, Option, Some, None, refl, sym, ap, ◌∙◌, subst, arith, append_assoc, nat_le, nat_lt}
use Rattle.std.specs.List.{flat_map, AllByRecursion}
use Rattle.std.specs.Fmt.{decimal}
use Rattle.std.proofs.lemmas.Bool.{and_parts, and_from, leb-true, le-leb, ne_eqb, ltb-false, le-ltb}
use Rattle.std.proofs.lemmas.Option.{some_pair_parts, none-some}
use Rattle.std.proofs.lemmas.Fmt.{decimal_by_steps}
use Rattle.std.proofs.lemmas.Nat.{mul-le}
use Rattle.std.specs.Prelude.{codes, IfSome}
use Rattle.std.proofs.lemmas.List.Elements.{recursion_from_All}
use Rattle.crp_plan.specs.BayNames.{YardBay, IsYardBay}
use Rattle.crp_cert.specs.declared.size.Size.{Size}
use Rattle.crp_cert.specs.Text.{spaced, numbers_line, size_line, row_line, bay_line, plan_line, AreRows, IsSize}
use Rattle.crp_cert.specs.Reading.{◌>>=◌, tag_at, spaced_at, newline_at, numbers_at, word_at, is_size, size_at, bound_at, row_at, name_at, plan_at}
use Rattle.std.proofs.lemmas.List.Elements.{All-from_recursion}
use Rattle.std.proofs.Common.{◌&&◌}
use Rattle.std.specs.Option.{option_or}
use Rattle.crp_cert.proofs.Numbers.{bind_some, if_some, if_none, chosen, tag_takes, tag_again, newline_takes, spaced_takes, spaced_again_at, numbers_take, numbers_again, stops}

-- ---- words

-- a word is what the bytes begin with
pub word_takes : (bytes word rest : List ℕ) → word_at bytes ≡ Some (word, rest) → bytes ≡ word ++ rest
word_takes [] word rest e = absurd cc
word_takes (b ∷ bytes) word rest e =
    ⊎_elim
    (λ here. let p = some_pair_parts [] word (b ∷ bytes) rest here.1 in subst (λ w. b ∷ bytes ≡ w ++ rest) p.0 p.1)
    (λ on.
    let x = bind_some (word_at bytes) (λ x. Some (b ∷ x.0, x.1)) (word, rest) on.1 in
    let p = some_pair_parts (b ∷ x.0.0) word x.0.1 rest x.2 in
    ap (λ l. b ∷ l) (word_takes bytes x.0.0 x.0.1 x.1) ∙ ap (λ w. w ++ x.0.1) p.0 ∙ ap (λ r. word ++ r) p.1)
    (chosen (b == 32) (Some ([], b ∷ bytes)) (word_at bytes >>= λ x. Some (b ∷ x.0, x.1)) (Some (word, rest)) e)

-- a word of printed characters is read again
pub word_again : (word rest : List ℕ) → AllByRecursion (λ b. (33 ≤ b) × (b ≤ 126)) word → word_at (word ++ 32 ∷ rest) ≡ Some (word, 32 ∷ rest)
word_again [] rest low = refl
word_again (b ∷ word) rest low =
    let lo = low.0.0 in
    rw (ne_eqb b 32 (λ e. omega arith), word_again word rest low.1) refl

-- ---- lines

-- a line of numbers and what follows it, piece by piece
pub numbers_line_then : (word ns rest : List ℕ) → numbers_line word ns ++ rest ≡ word ++ (spaced ns ++ 10 ∷ rest)
numbers_line_then word ns rest =
    append_assoc word (spaced ns ++ 10 ∷ []) rest ∙ ap (λ l. word ++ l) (append_assoc (spaced ns) (10 ∷ []) rest)

-- the first of some numbers and what follows it
pub spaced_then : (n : ℕ) (ns rest : List ℕ) → spaced (n ∷ ns) ++ rest ≡ 32 ∷ (decimal n ++ (spaced ns ++ rest))
spaced_then n ns rest = append_assoc (32 ∷ decimal n) (spaced ns) rest

-- a size line is read again
pub size_again : (size : Size) (rest : List ℕ) → IsSize size → size_at (size_line size ++ rest) ≡ Some (size, rest)
unfolding size_at
size_again size rest is =
    let r : ℕ = size.rows in let t : ℕ = size.tiers in let n : ℕ = size.ordered in let m : ℕ = size.total in
    let r' = is.few_rows in let t' = is.few_tiers in let n' = is.ordered_fit in let m' = is.room in
    let most : m ≤ 96 = omega (arith, mul-le r t 12 8 r' t', m') in
    let d : List ℕ = spaced [] ++ 10 ∷ rest in
    let c : List ℕ = spaced (m ∷ []) ++ 10 ∷ rest in
    let b : List ℕ = spaced (n ∷ m ∷ []) ++ 10 ∷ rest in
    let a : List ℕ = spaced (t ∷ n ∷ m ∷ []) ++ 10 ∷ rest in
    let e1 : spaced_at 99 (spaced (r ∷ t ∷ n ∷ m ∷ []) ++ 10 ∷ rest) ≡ Some (r, a) = ap (spaced_at 99) (spaced_then r (t ∷ n ∷ m ∷ []) (10 ∷ rest)) ∙ spaced_again_at 99 r a (omega arith) (omega arith) (omega arith) (stops (t ∷ n ∷ m ∷ []) rest) in
    let e2 : spaced_at 99 a ≡ Some (t, b) = ap (spaced_at 99) (spaced_then t (n ∷ m ∷ []) (10 ∷ rest)) ∙ spaced_again_at 99 t b (omega arith) (omega arith) (omega arith) (stops (n ∷ m ∷ []) rest) in
    let e3 : spaced_at 99 b ≡ Some (n, c) = ap (spaced_at 99) (spaced_then n (m ∷ []) (10 ∷ rest)) ∙ spaced_again_at 99 n c (omega arith) (omega arith) (omega arith) (stops (m ∷ []) rest) in
    let e4 : spaced_at 99 c ≡ Some (m, d) = ap (spaced_at 99) (spaced_then m [] (10 ∷ rest)) ∙ spaced_again_at 99 m d (omega arith) (omega arith) (omega arith) (stops [] rest) in
    let yes : is_size size ≡ true = is_size_from size is in
    ap size_at (numbers_line_then (codes "size") (r ∷ t ∷ n ∷ m ∷ []) rest) ∙ rw (e1, e2, e3, e4, yes) refl
  where
    is_size_from : (size : Size) → IsSize size → is_size size ≡ true
    is_size_from size is = and_from _ _ (le-leb 1 size.rows is.some_rows) (and_from _ _ (le-leb size.rows 12 is.few_rows) (and_from _ _ (le-leb 1 size.tiers is.some_tiers) (and_from _ _ (le-leb size.tiers 8 is.few_tiers) (and_from _ _ (le-leb size.ordered size.total is.ordered_fit) (le-leb size.total (size.rows * size.tiers) is.room)))))

-- a line of a word and a bound is read again
pub bound_again : (word : List ℕ) (most bound : ℕ) (rest : List ℕ) → bound ≤ most → most ≤ 9999 → bound_at word most (numbers_line word (bound ∷ []) ++ rest) ≡ Some (bound, rest)
unfolding bound_at
bound_again word most bound rest low few =
    let d : List ℕ = spaced [] ++ 10 ∷ rest in
    let e : spaced_at 9999 (spaced (bound ∷ []) ++ 10 ∷ rest) ≡ Some (bound, d) = ap (spaced_at 9999) (spaced_then bound [] (10 ∷ rest)) ∙ spaced_again_at 9999 bound d (omega arith) (omega arith) (omega arith) (stops [] rest) in
    ap (bound_at word most) (numbers_line_then word (bound ∷ []) rest) ∙ rw (tag_again word (spaced (bound ∷ []) ++ 10 ∷ rest), e, le-ltb most bound low) refl

-- another word is not read
pub bound_not : (most b t : ℕ) (word bytes : List ℕ) → (b == t) ≡ false → bound_at (t ∷ word) most (b ∷ bytes) ≡ None
unfolding bound_at
bound_not most b t word bytes e = rw e refl

-- ---- rows and plans

-- a row line is read again
pub row_again : (most : ℕ) (stack rest : List ℕ) → length stack ≤ most → AllByRecursion (λ n. n ≤ 99) stack → row_at most (row_line stack ++ rest) ≡ Some (stack, rest)
unfolding row_at
row_again most stack rest few low = ap (row_at most) (numbers_line_then (codes "row") stack rest) ∙ numbers_again most stack rest few low

-- what is read of a row line is what it says
pub row_takes : (most : ℕ) (bytes stack rest : List ℕ) → row_at most bytes ≡ Some (stack, rest) → (bytes ≡ row_line stack ++ rest) × (length stack ≤ most) × AllByRecursion (λ n. n ≤ 99) stack
unfolding row_at
row_takes most bytes stack rest e =
    let a = bind_some (tag_at (codes "row") bytes) (λ x. numbers_at most x) (stack, rest) e in
    let r = numbers_take most a.0 stack rest a.2 in
    (tag_takes (codes "row") bytes a.0 a.1 ∙ ap (λ l. codes "row" ++ l) r.0 ∙ sym (numbers_line_then (codes "row") stack rest), r.1, r.2)

-- ---- names of bays

-- the line of a bay is read again
pub name_again : (name : YardBay) (rest : List ℕ) → IsYardBay name → name_at (bay_line name ++ rest) ≡ Some ((name.block, name.bay), rest)
unfolding name_at
name_again name rest is =
    let block : List ℕ = name.block in
    let d : List ℕ = spaced [] ++ 10 ∷ rest in
    let after : List ℕ = 32 ∷ (decimal name.bay ++ d) in
    let low = is.four_digits in
    let tail : (spaced (name.bay ∷ []) ++ 10 ∷ []) ++ rest ≡ after = append_assoc (spaced (name.bay ∷ [])) (10 ∷ []) rest ∙ spaced_then name.bay [] (10 ∷ rest) in
    let text : bay_line name ++ rest ≡ codes "bay " ++ (block ++ after) =
    append_assoc (codes "bay ") (block ++ (spaced (name.bay ∷ []) ++ 10 ∷ [])) rest ∙ ap (λ l. codes "bay " ++ l) (append_assoc block (spaced (name.bay ∷ []) ++ 10 ∷ []) rest ∙ ap (λ l. block ++ l) tail) in
    let w : word_at (block ++ after) ≡ Some (block, after) = word_again block (decimal name.bay ++ d) (recursion_from_All (λ b. (33 ≤ b) × (b ≤ 126)) block is.printed) in
    let e : spaced_at 9999 after ≡ Some (name.bay, d) = spaced_again_at 9999 name.bay d (omega arith) (omega arith) low (stops [] rest) in
    ap name_at text ∙ rw (w, e) refl

-- what is read of the line of a bay is what it says
pub name_takes : (bytes block : List ℕ) (bay : ℕ) (rest : List ℕ) → name_at bytes ≡ Some ((block, bay), rest) → (bytes ≡ bay_line (record { block = block; bay = bay }) ++ rest) × (bay ≤ 9999)
unfolding name_at
name_takes bytes block bay rest e =
    let a = bind_some (tag_at (codes "bay ") bytes) (λ a. word_at a >>= λ word. (spaced_at 9999 word.1 >>= λ bay'. (newline_at bay'.1 >>= λ r. Some ((word.0, bay'.0), r)))) ((block, bay), rest) e in
    let w = bind_some (word_at a.0) (λ word. spaced_at 9999 word.1 >>= λ bay'. (newline_at bay'.1 >>= λ r. Some ((word.0, bay'.0), r))) ((block, bay), rest) a.2 in
    let n = bind_some (spaced_at 9999 w.0.1) (λ bay'. newline_at bay'.1 >>= λ r. Some ((w.0.0, bay'.0), r)) ((block, bay), rest) w.2 in
    let l = bind_some (newline_at n.0.1) (λ r. Some ((w.0.0, n.0.0), r)) ((block, bay), rest) n.2 in
    let p = some_pair_parts (w.0.0, n.0.0) (block, bay) l.0 rest l.2 in
    let same_block : w.0.0 ≡ block = ap (λ (x : List ℕ × ℕ). x.0) p.0 in
    let same_bay : n.0.0 ≡ bay = ap (λ (x : List ℕ × ℕ). x.1) p.0 in
    let s = spaced_takes 9999 w.0.1 n.0.0 n.0.1 (omega arith) (omega arith) n.1 in
    let tail : w.0.1 ≡ 32 ∷ (decimal bay ++ 10 ∷ rest) = s.0 ∙ ap (λ x. 32 ∷ (decimal x ++ n.0.1)) same_bay ∙ ap (λ x. 32 ∷ (decimal bay ++ x)) (newline_takes n.0.1 l.0 l.1 ∙ ap (λ x. 10 ∷ x) p.1) in
    let text : a.0 ≡ block ++ 32 ∷ (decimal bay ++ 10 ∷ rest) = word_takes a.0 w.0.0 w.0.1 w.1 ∙ ap (λ x. x ++ w.0.1) same_block ∙ ap (λ x. block ++ x) tail in
    let back : (spaced (bay ∷ []) ++ 10 ∷ []) ++ rest ≡ 32 ∷ (decimal bay ++ 10 ∷ rest) = append_assoc (spaced (bay ∷ [])) (10 ∷ []) rest ∙ spaced_then bay [] (10 ∷ rest) in
    let whole : bay_line (record { block = block; bay = bay }) ++ rest ≡ codes "bay " ++ (block ++ 32 ∷ (decimal bay ++ 10 ∷ rest)) =
    append_assoc (codes "bay ") (block ++ (spaced (bay ∷ []) ++ 10 ∷ [])) rest ∙ ap (λ x. codes "bay " ++ x) (append_assoc block (spaced (bay ∷ []) ++ 10 ∷ []) rest ∙ ap (λ x. block ++ x) back) in
    (tag_takes (codes "bay ") bytes a.0 a.1 ∙ ap (λ x. codes "bay " ++ x) text ∙ sym whole, subst (λ x. x ≤ 9999) same_bay s.1)

-- where nothing is read, no bay's line stands
pub name_none : (bytes : List ℕ) (name : YardBay) (rest : List ℕ) → name_at bytes ≡ None → IsYardBay name → bytes ≡ bay_line name ++ rest → ⊥
name_none bytes name rest none is e =
    none-some ((name.block, name.bay), rest) (sym none ∙ ap name_at e ∙ name_again name rest is)

-- what is read is the name whose line stands there
pub name_is : (bytes block : List ℕ) (bay : ℕ) (after : List ℕ) (name : YardBay) (rest : List ℕ) → name_at bytes ≡ Some ((block, bay), after) → IsYardBay name → bytes ≡ bay_line name ++ rest →
    (name ≡ record { block = block; bay = bay }) × (rest ≡ after)
name_is bytes block bay after name rest read is e =
    let h : Some ((name.block, name.bay), rest) ≡ Some ((block, bay), after) = sym (name_again name rest is) ∙ ap name_at (sym e) ∙ read in
    let p = some_pair_parts (name.block, name.bay) (block, bay) rest after h in
    let made : List ℕ × ℕ → YardBay = λ x. record { block = x.0; bay = x.1 } in
    (ap made p.0, p.1)

-- ---- a line begins with one text at most

-- bytes begin with one bay's line at most
pub bay_once : (a b : YardBay) (x y : List ℕ) → IsYardBay a → IsYardBay b → bay_line a ++ x ≡ bay_line b ++ y → (a ≡ b) × (x ≡ y)
bay_once a b x y is-a is-b e = name_is (bay_line b ++ y) b.block b.bay y a x (name_again b y is-b) is-a (sym e)

-- bytes begin with one size line at most
pub size_once : (a b : Size) (x y : List ℕ) → IsSize a → IsSize b → size_line a ++ x ≡ size_line b ++ y → (a ≡ b) × (x ≡ y)
size_once a b x y is-a is-b e = some_pair_parts a b x y (sym (size_again a x is-a) ∙ ap size_at e ∙ size_again b y is-b)

-- not too many numbers, each of one digit or two
abbrev pub AreLow : ℕ → List ℕ → Type 0
AreLow most ns = (length ns ≤ most) × AllByRecursion (λ n. n ≤ 99) ns

-- bytes begin with one row line at most
pub row_once : (most : ℕ) (a b x y : List ℕ) → AreLow most a → AreLow most b → row_line a ++ x ≡ row_line b ++ y → (a ≡ b) × (x ≡ y)
row_once most a b x y low-a low-b e = some_pair_parts a b x y (sym (row_again most a x low-a.0 low-a.1) ∙ ap (row_at most) e ∙ row_again most b y low-b.0 low-b.1)

-- bytes begin with so many row lines in one way at most
pub rows_once : (most : ℕ) (as' bs : List (List ℕ)) (x y : List ℕ) → length as' ≡ length bs → AllByRecursion (AreLow most) as' → AllByRecursion (AreLow most) bs →
    flat_map row_line as' ++ x ≡ flat_map row_line bs ++ y → (as' ≡ bs) × (x ≡ y)
rows_once most [] [] x y len low-a low-b e = (refl, e)
rows_once most [] (b ∷ bs) x y len low-a low-b e = absurd (omega arith)
rows_once most (a ∷ as') [] x y len low-a low-b e = absurd (omega arith)
rows_once most (a ∷ as') (b ∷ bs) x y len low-a low-b e =
    let h = row_once most a b (flat_map row_line as' ++ x) (flat_map row_line bs ++ y) low-a.0 low-b.0 (sym (append_assoc (row_line a) (flat_map row_line as') x) ∙ e ∙ append_assoc (row_line b) (flat_map row_line bs) y) in
    let t = rows_once most as' bs x y (omega arith) low-a.1 low-b.1 h.1 in
    (ap (λ l. l ∷ as') h.0 ∙ ap (λ l. b ∷ l) t.0, t.1)

-- ---- plans

-- a number begins with a digit
pub starts_high : (n : ℕ) → n < 2 ^ 64 → (d : ℕ) × (tail : List ℕ) × (decimal n ≡ d ∷ tail) × (48 ≤ d)
starts_high n small = decimal_by_steps P one step n small
  where
    P : ℕ → List ℕ → Type 0
    P m ds = (d : ℕ) × (tail : List ℕ) × (ds ≡ d ∷ tail) × (48 ≤ d)

    one : (m : ℕ) → m < 10 → P m ((48 + m) ∷ [])
    one m lt = (48 + m, [], refl, omega arith)

    step : (m : ℕ) (ds : List ℕ) → 10 ≤ m → P (m / 10) ds → P m (ds ++ (48 + m % 10) ∷ [])
    step m ds ten h = (h.0, h.1 ++ (48 + m % 10) ∷ [], ap (λ l. l ++ (48 + m % 10) ∷ []) h.2, h.3)

-- what stands behind the word of a plan line where there is no plan
abbrev dash : List ℕ
dash = 32 ∷ 45 ∷ 10 ∷ []

-- numbers do not begin as no plan does
no_dash : (rows rest : List ℕ) → AllByRecursion (λ n. n ≤ 99) rows → tag_at dash (spaced rows ++ 10 ∷ rest) ≡ None
no_dash [] rest low = refl
no_dash (n ∷ ns) rest low =
    let lo = low.0 in
    let h = starts_high n (omega arith) in
    let hi = h.3 in
    let more : List ℕ = spaced ns ++ 10 ∷ rest in
    let text : decimal n ++ more ≡ h.0 ∷ (h.1 ++ more) = ap (λ l. l ++ more) h.2 in
    ap (tag_at dash) (spaced_then n ns (10 ∷ rest)) ∙ ap (λ l. tag_at dash (32 ∷ l)) text ∙ rw (ne_eqb h.0 45 (λ e. omega arith)) refl

-- a plan line is read again
pub plan_again : (plan : Option (List ℕ)) (rest : List ℕ) → IfSome plan (λ rows. (length rows ≤ 672) × AllByRecursion (λ n. n ≤ 99) rows) → plan_at (plan_line plan ++ rest) ≡ Some (plan, rest)
unfolding plan_at
plan_again None rest fits = refl
plan_again (Some rows) rest fits =
    ap plan_at (numbers_line_then (codes "plan") rows rest) ∙ rw (no_dash rows rest fits.1, numbers_again 672 rows rest fits.0 fits.1) refl

-- the rows of a plan line, by recursion
pub plan_low : (a : Option (List ℕ)) → IfSome a AreRows → IfSome a (λ rows. (length rows ≤ 672) × AllByRecursion (λ n. n ≤ 99) rows)
plan_low None h = tt
plan_low (Some rows) h = (h.0, recursion_from_All (λ n. n ≤ 99) rows h.1)

-- bytes begin with one plan line at most
pub plan_once : (a b : Option (List ℕ)) (x y : List ℕ) → IfSome a AreRows → IfSome b AreRows → plan_line a ++ x ≡ plan_line b ++ y → (a ≡ b) × (x ≡ y)
plan_once a b x y fits-a fits-b e = some_pair_parts a b x y (sym (plan_again a x (plan_low a fits-a)) ∙ ap plan_at e ∙ plan_again b y (plan_low b fits-b))

-- ---- lines that are taken

-- one more number before some
join : (n : ℕ) (ns bytes more rest : List ℕ) → bytes ≡ 32 ∷ (decimal n ++ more) → more ≡ spaced ns ++ 10 ∷ rest → bytes ≡ spaced (n ∷ ns) ++ 10 ∷ rest
join n ns bytes more rest e f = e ∙ ap (λ x. 32 ∷ (decimal n ++ x)) f ∙ sym (spaced_then n ns (10 ∷ rest))

-- a size that passes the test is within the limits
is_size_to : (size : Size) → is_size size ≡ true → IsSize size
is_size_to size e =
    let a = and_parts (nat_le 1 size.rows) (nat_le size.rows 12 && (nat_le 1 size.tiers && (nat_le size.tiers 8 && (nat_le size.ordered size.total && nat_le size.total (size.rows * size.tiers))))) e in
    let b = and_parts (nat_le size.rows 12) (nat_le 1 size.tiers && (nat_le size.tiers 8 && (nat_le size.ordered size.total && nat_le size.total (size.rows * size.tiers)))) a.1 in
    let c = and_parts (nat_le 1 size.tiers) (nat_le size.tiers 8 && (nat_le size.ordered size.total && nat_le size.total (size.rows * size.tiers))) b.1 in
    let d = and_parts (nat_le size.tiers 8) (nat_le size.ordered size.total && nat_le size.total (size.rows * size.tiers)) c.1 in
    let f = and_parts (nat_le size.ordered size.total) (nat_le size.total (size.rows * size.tiers)) d.1 in
    record {
      some_rows = leb-true 1 size.rows a.0;
      few_rows = leb-true size.rows 12 b.0;
      some_tiers = leb-true 1 size.tiers c.0;
      few_tiers = leb-true size.tiers 8 d.0;
      ordered_fit = leb-true size.ordered size.total f.0;
      room = leb-true size.total (size.rows * size.tiers) f.1;
    }

-- what is not read yet
abbrev Rest : Type 0
Rest = List ℕ

-- a size of four numbers
abbrev made_size : ℕ → ℕ → ℕ → ℕ → Size
made_size r t n m = record { rows = r; tiers = t; ordered = n; total = m }

-- the size if it passes the test
abbrev kept_size : Size → Rest → Option (Size × Rest)
kept_size size rest = cond (is_size size) (Some (size, rest)) None

-- what is read of a size line is what it says
pub size_takes : (bytes : List ℕ) (size : Size) (rest : List ℕ) → size_at bytes ≡ Some (size, rest) → IsSize size × (bytes ≡ size_line size ++ rest)
unfolding size_at
size_takes bytes size rest e =
    let a = bind_some (tag_at (codes "size") bytes) (λ a. spaced_at 99 a >>= λ r. (spaced_at 99 r.1 >>= λ t. (spaced_at 99 t.1 >>= λ n. (spaced_at 99 n.1 >>= λ m. (newline_at m.1 >>= kept_size (made_size r.0 t.0 n.0 m.0)))))) (size, rest) e in
    let r = bind_some (spaced_at 99 a.0) (λ r. spaced_at 99 r.1 >>= λ t. (spaced_at 99 t.1 >>= λ n. (spaced_at 99 n.1 >>= λ m. (newline_at m.1 >>= kept_size (made_size r.0 t.0 n.0 m.0))))) (size, rest) a.2 in
    let t = bind_some (spaced_at 99 r.0.1) (λ t. spaced_at 99 t.1 >>= λ n. (spaced_at 99 n.1 >>= λ m. (newline_at m.1 >>= kept_size (made_size r.0.0 t.0 n.0 m.0)))) (size, rest) r.2 in
    let n = bind_some (spaced_at 99 t.0.1) (λ n. spaced_at 99 n.1 >>= λ m. (newline_at m.1 >>= kept_size (made_size r.0.0 t.0.0 n.0 m.0))) (size, rest) t.2 in
    let m = bind_some (spaced_at 99 n.0.1) (λ m. newline_at m.1 >>= kept_size (made_size r.0.0 t.0.0 n.0.0 m.0)) (size, rest) n.2 in
    let l = bind_some (newline_at m.0.1) (kept_size (made_size r.0.0 t.0.0 n.0.0 m.0.0)) (size, rest) m.2 in
    take_size bytes size rest a.0 r.0.1 t.0.1 n.0.1 m.0.1 l.0 r.0.0 t.0.0 n.0.0 m.0.0 a.1 r.1 t.1 n.1 m.1 l.1 l.2
  where
    take_size : (bytes : List ℕ) (size : Size) (rest a b c d e f : List ℕ) (r t n m : ℕ) → tag_at (codes "size") bytes ≡ Some a → spaced_at 99 a ≡ Some (r, b) → spaced_at 99 b ≡ Some (t, c) →
        spaced_at 99 c ≡ Some (n, d) → spaced_at 99 d ≡ Some (m, e) → newline_at e ≡ Some f → kept_size (made_size r t n m) f ≡ Some (size, rest) → IsSize size × (bytes ≡ size_line size ++ rest)
    take_size bytes size rest a b c d e f r t n m ea eb ec ed ee ef eg =
        let k = if_some (is_size (made_size r t n m)) (Some (made_size r t n m, f)) (size, rest) eg in
        let p = some_pair_parts (made_size r t n m) size f rest k.1 in
        let text : List ℕ → Type 0 = λ (l : List ℕ). bytes ≡ l in
        let s1 : d ≡ spaced (m ∷ []) ++ 10 ∷ f = join m [] d e f (spaced_takes 99 d m e (omega arith) (omega arith) ee).0 (newline_takes e f ef) in
        let s2 : c ≡ spaced (n ∷ m ∷ []) ++ 10 ∷ f = join n (m ∷ []) c d f (spaced_takes 99 c n d (omega arith) (omega arith) ed).0 s1 in
        let s3 : b ≡ spaced (t ∷ n ∷ m ∷ []) ++ 10 ∷ f = join t (n ∷ m ∷ []) b c f (spaced_takes 99 b t c (omega arith) (omega arith) ec).0 s2 in
        let s4 : a ≡ spaced (r ∷ t ∷ n ∷ m ∷ []) ++ 10 ∷ f = join r (t ∷ n ∷ m ∷ []) a b f (spaced_takes 99 a r b (omega arith) (omega arith) eb).0 s3 in
        let whole : bytes ≡ size_line (made_size r t n m) ++ f = tag_takes (codes "size") bytes a ea ∙ ap (λ l. codes "size" ++ l) s4 ∙ sym (numbers_line_then (codes "size") (r ∷ t ∷ n ∷ m ∷ []) f) in
        (subst IsSize p.0 (is_size_to (made_size r t n m) k.0), whole ∙ ap (λ (s : Size). size_line s ++ f) p.0 ∙ ap (λ l. size_line size ++ l) p.1)

-- what is read of a line of a word and a bound is what it says
pub bound_takes : (word : List ℕ) (most : ℕ) (bytes : List ℕ) (bound : ℕ) (rest : List ℕ) → bound_at word most bytes ≡ Some (bound, rest) → (bound ≤ most) × (bytes ≡ numbers_line word (bound ∷ []) ++ rest)
unfolding bound_at
bound_takes word most bytes bound rest e =
    let a = bind_some (tag_at word bytes) (λ a. spaced_at 9999 a >>= λ x. (newline_at x.1 >>= λ r. cond (nat_lt most x.0) None (Some (x.0, r)))) (bound, rest) e in
    let x = bind_some (spaced_at 9999 a.0) (λ x. newline_at x.1 >>= λ r. cond (nat_lt most x.0) None (Some (x.0, r))) (bound, rest) a.2 in
    let l = bind_some (newline_at x.0.1) (λ r. cond (nat_lt most x.0.0) None (Some (x.0.0, r))) (bound, rest) x.2 in
    let k = if_none (nat_lt most x.0.0) (Some (x.0.0, l.0)) (bound, rest) l.2 in
    let p = some_pair_parts x.0.0 bound l.0 rest k.1 in
    let s : a.0 ≡ spaced (x.0.0 ∷ []) ++ 10 ∷ l.0 = join x.0.0 [] a.0 x.0.1 l.0 (spaced_takes 9999 a.0 x.0.0 x.0.1 (omega arith) (omega arith) x.1).0 (newline_takes x.0.1 l.0 l.1) in
    let whole : bytes ≡ numbers_line word (x.0.0 ∷ []) ++ l.0 = tag_takes word bytes a.0 a.1 ∙ ap (λ z. word ++ z) s ∙ sym (numbers_line_then word (x.0.0 ∷ []) l.0) in
    (subst (λ c. c ≤ most) p.0 (ltb-false most x.0.0 k.0), whole ∙ ap (λ c. numbers_line word (c ∷ []) ++ l.0) p.0 ∙ ap (λ z. numbers_line word (bound ∷ []) ++ z) p.1)

-- what is read of a plan line is what it says
pub plan_takes : (bytes : List ℕ) (plan : Option (List ℕ)) (rest : List ℕ) → plan_at bytes ≡ Some (plan, rest) → IfSome plan AreRows × (bytes ≡ plan_line plan ++ rest)
unfolding plan_at
plan_takes bytes plan rest e =
    let a = bind_some (tag_at (codes "plan") bytes) (λ a. option_or (tag_at dash a >>= none_then) (numbers_at 672 a >>= some_then)) (plan, rest) e in
    let t = tag_takes (codes "plan") bytes a.0 a.1 in
    by_dash (tag_at dash a.0) a.0 t refl a.2
  where
    none_then : List ℕ → Option (Option (List ℕ) × List ℕ)
    none_then rest = Some (None, rest)

    some_then : List ℕ × List ℕ → Option (Option (List ℕ) × List ℕ)
    some_then x = Some (Some x.0, x.1)

    by_dash : (o : Option (List ℕ)) (a : List ℕ) → bytes ≡ codes "plan" ++ a → tag_at dash a ≡ o → option_or (o >>= none_then) (numbers_at 672 a >>= some_then) ≡ Some (plan, rest) → IfSome plan AreRows × (bytes ≡ plan_line plan ++ rest)
    by_dash None a t d e =
        let x = bind_some (numbers_at 672 a) some_then (plan, rest) e in
        let p = some_pair_parts (Some x.0.0) plan x.0.1 rest x.2 in
        let n = numbers_take 672 a x.0.0 x.0.1 x.1 in
        let whole : bytes ≡ plan_line (Some x.0.0) ++ x.0.1 = t ∙ ap (λ l. codes "plan" ++ l) n.0 ∙ sym (numbers_line_then (codes "plan") x.0.0 x.0.1) in
        (subst (λ o. IfSome o AreRows) p.0 (n.1, All-from_recursion (λ r. r ≤ 99) x.0.0 n.2), whole ∙ ap (λ o. plan_line o ++ x.0.1) p.0 ∙ ap (λ l. plan_line plan ++ l) p.1)
    by_dash (Some r) a t d e =
        let p = some_pair_parts None plan r rest e in
        let whole : bytes ≡ plan_line None ++ r = t ∙ ap (λ l. codes "plan" ++ l) (tag_takes dash a r d) in
        (subst (λ o. IfSome o AreRows) p.0 tt, whole ∙ ap (λ o. plan_line o ++ r) p.0 ∙ ap (λ l. plan_line plan ++ l) p.1)
