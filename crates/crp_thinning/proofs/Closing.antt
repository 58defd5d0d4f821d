-- The trees of a thinned branch, one after the other.
use Rattle.std.proofs.Common.{◌≡◌, ℕ, ◌+◌, ◌-◌, ◌≤◌, Bool, true, false, List, [], ◌∷◌, ◌++◌, length, take, drop, get_or, codes, refl, sym, ap, ◌∙◌, subst, arith, append_assoc, append-nil, Contains, length-drop, length-append}
use borrow.Rule.Slice.PartMut.{put_mid, mid_of, post_of}
use Rattle.std.specs.List.{between}
use Rattle.std.proofs.lemmas.List.{length-take, take-take, take-append-drop, get_or-take, get_or-drop, take_at, drop_at, take_all, drop_all}
use Rattle.std.proofs.lemmas.List.Elements.{Contains-get_or}
use Rattle.std.proofs.lemmas.Slice.{between_is}
use Rattle.crp_plan.specs.Bay.{Position}
use Rattle.std.specs.Bool.{OnTrue, OnFalse}
use Rattle.crp_bay.specs.Back.{PlaceAndTrail}
use Rattle.crp_bounds.specs.Bounds.{blocking, look_ahead}
use Rattle.crp_thinned.specs.Tree.{CutB, CutL, Thin, Free, Trees, no_trees, one_and}
use Rattle.crp_thinned.specs.Thinned.{good_rows, free_row, child_at, child_without, FitsEachGood, shown_by_each}
use Rattle.crp_thinning.specs.Symbols.{symbols_of, symbols_of_each, Closes}
use Rattle.crp_thinning.specs.EachRow.{AreGood, CloseEach}

-- one more row
pub each_more : (s : Position) (need : ℕ) (rows : List ℕ) (text : List ℕ) (row : ℕ) (here : List ℕ) → CloseEach s need rows text → Closes (child_at s row) (need - 1) here → CloseEach s need (rows ++ row ∷ []) (text ++ here)
each_more s need [] text row here f k = (here, [], k, ap (λ l. l ++ here) f ∙ sym (append-nil here), refl)
each_more s need (r ∷ rows) text row here f k =
    (f.0, f.1 ++ here, f.2, ap (λ l. l ++ here) f.3 ∙ append_assoc f.0 f.1 here, each_more s need rows f.1 row here f.4 k)

-- more rows
pub each_append : (s : Position) (need : ℕ) (rows more text texts : List ℕ) → CloseEach s need rows text → CloseEach s need more texts → CloseEach s need (rows ++ more) (text ++ texts)
each_append s need [] more text texts f k = subst (λ l. CloseEach s need more (l ++ texts)) (sym f) k
each_append s need (r ∷ rows) more text texts f k =
    (f.0, f.1 ++ texts, f.2, ap (λ l. l ++ texts) f.3 ∙ append_assoc f.0 f.1 texts, each_append s need rows more f.1 texts f.4 k)

-- the rows in three parts
pub rows_in_parts : (rows : List ℕ) (i j : ℕ) → i ≤ j → (take i rows ++ between i j rows) ++ drop j rows ≡ rows
rows_in_parts rows i j le =
    ap (λ l. (l ++ between i j rows) ++ drop j rows) (sym (take-take i j rows le))
    ∙ ap (λ l. (take i (take j rows) ++ l) ++ drop j rows) (between_is rows i j)
    ∙ ap (λ l. l ++ drop j rows) (take-append-drop i (take j rows))
    ∙ take-append-drop j rows

pub good_all : (s : Position) (rows : List ℕ) → rows ≡ good_rows s → AreGood s rows
good_all s rows e k lt = subst (λ l. Contains l (get_or rows k 0)) e (Contains-get_or rows k 0 lt)

pub good_first : (s : Position) (rows : List ℕ) (i : ℕ) → AreGood s rows → AreGood s (take i rows)
good_first s rows i h k lt = let m = length-take i rows in subst (Contains (good_rows s)) (sym (get_or-take i rows k 0 (omega arith))) (h k (omega arith))

pub good_rest : (s : Position) (rows : List ℕ) (i : ℕ) → AreGood s rows → AreGood s (drop i rows)
good_rest s rows i h k lt = let m = length-drop i rows in subst (Contains (good_rows s)) (sym (get_or-drop i rows k 0)) (h (i + k) (omega arith))

pub good_between : (s : Position) (rows : List ℕ) (i j : ℕ) → AreGood s rows → AreGood s (between i j rows)
good_between s rows i j h = subst (AreGood s) (sym (between_is rows i j)) (good_rest s (take j rows) i (good_first s rows j h))

-- the trees of a whole branch
pub record Ends (s : Position) (need : ℕ) (rows text : List ℕ) : Type 0 where
  pub all : Trees
  pub fits : FitsEachGood s rows all
  pub reaches : need ≤ shown_by_each s rows all
  pub is_text : text ≡ symbols_of_each all

pub each_ends : (s : Position) (need : ℕ) (rows text last : List ℕ) → CloseEach s need rows text → Closes (child_without s) (need - 2) last → Ends s need rows (text ++ last)
each_ends s need [] text last f k =
    let r = k.reaches in
    record {
      all = one_and k.tree no_trees;
      fits = k.fits;
      reaches = omega arith;
      is_text = ap (λ l. l ++ last) f ∙ k.is_text ∙ sym (append-nil (symbols_of k.tree));
    }
each_ends s need (row ∷ rows) text last f k =
    let below = each_ends s need rows f.1 last f.4 k in
    let r = below.reaches in let here = f.2 in let q = here.reaches in
    record {
      all = one_and here.tree below.all;
      fits = (here.fits, below.fits);
      reaches = omega arith;
      is_text = ap (λ l. l ++ last) f.3 ∙ append_assoc f.0 f.1 last ∙ ap (λ l. l ++ (f.1 ++ last)) here.is_text ∙ ap (λ l. symbols_of here.tree ++ l) below.is_text;
    }

-- a whole branch
pub branch_closes : (s : Position) (need : ℕ) (text last : List ℕ) → s.next ≤ s.ordered → CloseEach s need (good_rows s) text → Closes (child_without s) (need - 2) last → Closes s need (codes "R" ++ (text ++ last))
branch_closes s need text last le f k =
    let e = each_ends s need (good_rows s) text last f k in
    record { tree = Thin e.all; fits = (le, e.fits); reaches = e.reaches; is_text = ap (λ l. codes "R" ++ l) e.is_text }

-- a branch with one tree
pub free_closes : (s : Position) (need : ℕ) (text : List ℕ) → 1 ≤ free_row s → Closes (child_at s (free_row s)) (need - 1) text → Closes s need (codes "F" ++ text)
free_closes s need text some k = let r = k.reaches in record { tree = Free k.tree; fits = (some, k.fits); reaches = omega arith; is_text = ap (λ l. codes "F" ++ l) k.is_text }

-- cuts
pub blocking_closes : (s : Position) (need : ℕ) → need ≤ blocking s → Closes s need (codes "B")
blocking_closes s need le = record { tree = CutB; fits = tt; reaches = le; is_text = refl }

pub ahead_closes : (s : Position) (need : ℕ) → need ≤ look_ahead s → Closes s need (codes "L")
ahead_closes s need le = record { tree = CutL; fits = tt; reaches = le; is_text = refl }

-- after a move and what was done below it, to undo leads back
pub back_again : (b : Bool) (u v w z : PlaceAndTrail) (t : Position) → v ≡ record { place = t; trail = u.place ∷ u.trail } → w ≡ v → OnTrue b (w.trail ≡ z.place ∷ z.trail) → OnFalse b (w.trail ≡ []) → z ≡ u
back_again true u v w z t e q yes_b no_b =
    let r : z.place ∷ z.trail ≡ u.place ∷ u.trail = sym yes_b ∙ ap (λ (x : PlaceAndTrail). x.trail) (q ∙ e) in
    ap (λ p. record { place = p; trail = z.trail }) (ap (first u.place) r) ∙ ap (λ l. record { place = u.place; trail = l }) (ap rest r)
  where
    first : Position → List Position → Position
    first d [] = d
    first d (x ∷ xs) = x

    rest : List Position → List Position
    rest [] = []
    rest (x ∷ xs) = xs
back_again false u v w z t e q yes_b no_b =
    let r : u.place ∷ u.trail ≡ [] = ap (λ (x : PlaceAndTrail). x.trail) (sym (q ∙ e)) ∙ no_b in absurd (let n = ap length r in omega arith)

-- one text behind another
pub grown_on : (old now new more text : List ℕ) → now ≡ old ++ more → new ≡ now ++ text → new ≡ old ++ (more ++ text)
grown_on old now new more text e f = f ∙ ap (λ l. l ++ text) e ∙ append_assoc old more text

-- two parts at the end change places: a write to the part of a list from `start` on, of which the first k go behind the others
pub swapped : (before one other xs ys rest : List ℕ) (start middle len n k : ℕ) → xs ≡ before ++ (one ++ other) → length before ≡ start → length (before ++ one) ≡ middle → len ≡ length xs → n ≡ length xs - start → k ≡ middle - start →
    ys ≡ drop k (mid_of start n xs) ++ take k (mid_of start n xs) → take len (put_mid start n xs ys ++ rest) ≡ before ++ (other ++ one)
swapped before one other xs ys rest start middle len n k e b m l room kis turned =
    let long : length xs ≡ length before + (length one + length other) = ap length e ∙ length-append before (one ++ other) ∙ ap (λ i. length before + i) (length-append one other) in
    let front : take start xs ≡ before = ap (take start) e ∙ take_at before (one ++ other) start b in
    let back : drop start xs ≡ one ++ other = ap (drop start) e ∙ drop_at before (one ++ other) start b in
    let few : length (drop start xs) ≤ n = omega (arith, length-drop start xs) in
    let one_is : length one ≡ k = omega (arith, length-append before one) in
    let mid : mid_of start n xs ≡ one ++ other = take_all n (drop start xs) few ∙ back in
    let none : post_of start n xs ≡ [] = drop_all n (drop start xs) few in
    let y : ys ≡ other ++ one = turned ∙ ap (λ v. drop k v ++ take k v) mid ∙ ap (λ v. v ++ take k (one ++ other)) (drop_at one other k one_is) ∙ ap (λ v. other ++ v) (take_at one other k one_is) in
    let whole : put_mid start n xs ys ≡ before ++ (other ++ one) =
    ap (λ v. v ++ (ys ++ post_of start n xs)) front ∙ ap (λ v. before ++ (ys ++ v)) none ∙ ap (λ v. before ++ v) (append-nil ys) ∙ ap (λ v. before ++ v) y in
    take_at (put_mid start n xs ys) rest len (ap length whole ∙ length-append before (other ++ one) ∙ omega (arith, length-append other one)) ∙ whole
