-- Texts of items, one after the other, numbered or not.
use Rattle.std.proofs.Common.{◌≡◌, ◌∙◌, ℕ, suc, ◌+◌, ◌<◌, ◌≤◌, List, [], ◌∷◌, ◌++◌, length, map, take, drop, get_or, sym, ap, arith, append_assoc, append-nil, take-append-drop}
use Rattle.std.specs.Prelude.{flat_map}
use Rattle.std.proofs.lemmas.List.{map-append, length-map, take_more, length-take-le}
use Rattle.std.proofs.lemmas.Grind.{flat_map-append}
use Rattle.crp_page.specs.Numbered.{numbered_text}

-- ---- numbered

-- the texts of some items and of more items
numbered-append : {X : Type 0} (f : ℕ → X → List ℕ) (k : ℕ) (xs ys : List X) → numbered_text f k (xs ++ ys) ≡ numbered_text f k xs ++ numbered_text f (k + length xs) ys
numbered-append f k [] ys = let same : k ≡ k + 0 = omega arith in ap (λ n. numbered_text f n ys) same
numbered-append f k (x ∷ xs) ys =
    let same : suc k + length xs ≡ k + suc (length xs) = omega arith in
    ap (λ l. f k x ++ l) (numbered-append f (suc k) xs ys ∙ ap (λ n. numbered_text f (suc k) xs ++ numbered_text f n ys) same)
    ∙ sym (append_assoc (f k x) (numbered_text f (suc k) xs) (numbered_text f (k + suc (length xs)) ys))

-- the text of one item behind so many
one_behind : {X : Type 0} (f : ℕ → X → List ℕ) (xs : List X) (x : X) (i : ℕ) → 1 + length xs ≡ i + 1 → numbered_text f 1 (xs ++ x ∷ []) ≡ numbered_text f 1 xs ++ f (i + 1) x
one_behind f xs x i is =
    numbered-append f 1 xs (x ∷ []) ∙ ap (λ n. numbered_text f 1 xs ++ (f n x ++ [])) is ∙ ap (λ l. numbered_text f 1 xs ++ l) (append-nil (f (i + 1) x))

-- the items before one, and it
pub with_it : {X : Type 0} (xs : List X) (i : ℕ) (x : X) → i < length xs → x ≡ get_or xs i x → take (i + 1) xs ≡ take i xs ++ x ∷ []
with_it xs i x lt at = take_more xs i x lt ∙ ap (λ y. take i xs ++ y ∷ []) (sym at)

so_many : {X : Type 0} (xs : List X) (i : ℕ) → i < length xs → 1 + length (take i xs) ≡ i + 1
so_many xs i lt =
    let short : i ≤ length xs = omega arith in
    omega (arith, length-take-le i xs short)

-- one item more is added
pub added_next : {X : Type 0} (f : ℕ → X → List ℕ) (xs : List X) (i : ℕ) (x : X) (init text new : List ℕ) → i < length xs → x ≡ get_or xs i x
    → text ≡ init ++ numbered_text f 1 (take i xs) → new ≡ text ++ f (i + 1) x → new ≡ init ++ numbered_text f 1 (take (i + 1) xs)
added_next f xs i x init text new lt at is e =
    let before = numbered_text f 1 (take i xs) in
    e ∙ ap (λ l. l ++ f (i + 1) x) is ∙ append_assoc init before (f (i + 1) x)
    ∙ ap (λ l. init ++ l) (sym (ap (numbered_text f 1) (with_it xs i x lt at) ∙ one_behind f (take i xs) x i (so_many xs i lt)))

-- the text of one item more
pub numbered_more : {X Y : Type 0} (f : ℕ → Y → List ℕ) (g : X → Y) (xs : List X) (i : ℕ) (x : X) → i < length xs → x ≡ get_or xs i x
    → numbered_text f 1 (map g (take (i + 1) xs)) ≡ numbered_text f 1 (map g (take i xs)) ++ f (i + 1) (g x)
numbered_more f g xs i x lt at =
    let count : 1 + length (map g (take i xs)) ≡ i + 1 = omega (arith, length-map (take i xs) g, so_many xs i lt) in
    ap (λ l. numbered_text f 1 (map g l)) (with_it xs i x lt at) ∙ ap (numbered_text f 1) (map-append g (take i xs) (x ∷ [])) ∙ one_behind f (map g (take i xs)) (g x) i count

pub added_more : {X Y : Type 0} (f : ℕ → Y → List ℕ) (g : X → Y) (xs : List X) (i : ℕ) (x : X) (init text new : List ℕ) → i < length xs → x ≡ get_or xs i x
    → text ≡ init ++ numbered_text f 1 (map g (take i xs)) → new ≡ text ++ f (i + 1) (g x) → new ≡ init ++ numbered_text f 1 (map g (take (i + 1) xs))
added_more f g xs i x init text new lt at is e =
    e ∙ ap (λ l. l ++ f (i + 1) (g x)) is ∙ append_assoc init (numbered_text f 1 (map g (take i xs))) (f (i + 1) (g x))
    ∙ ap (λ l. init ++ l) (sym (numbered_more f g xs i x lt at))

-- the text of an item stands behind those of the items before it, and before others
pub numbered_split : {X Y : Type 0} (f : ℕ → Y → List ℕ) (g : X → Y) (xs : List X) (i : ℕ) (x : X) → i < length xs → x ≡ get_or xs i x
    → (rest : List ℕ) × (numbered_text f 1 (map g xs) ≡ (numbered_text f 1 (map g (take i xs)) ++ f (i + 1) (g x)) ++ rest)
numbered_split f g xs i x lt at =
    let whole : take (i + 1) xs ++ drop (i + 1) xs ≡ xs = take-append-drop (i + 1) xs in
    let rest = numbered_text f (1 + length (map g (take (i + 1) xs))) (map g (drop (i + 1) xs)) in (
      rest,
      ap (λ l. numbered_text f 1 (map g l)) (sym whole) ∙ ap (numbered_text f 1) (map-append g (take (i + 1) xs) (drop (i + 1) xs))
          ∙ numbered-append f 1 (map g (take (i + 1) xs)) (map g (drop (i + 1) xs)) ∙ ap (λ l. l ++ rest) (numbered_more f g xs i x lt at),
    )

-- ---- not numbered

pub each_more : {X Y : Type 0} (f : Y → List ℕ) (g : X → Y) (xs : List X) (i : ℕ) (x : X) → i < length xs → x ≡ get_or xs i x
    → flat_map f (map g (take (i + 1) xs)) ≡ flat_map f (map g (take i xs)) ++ f (g x)
each_more f g xs i x lt at =
    ap (λ l. flat_map f (map g l)) (with_it xs i x lt at) ∙ ap (flat_map f) (map-append g (take i xs) (x ∷ [])) ∙ flat_map-append f (map g (take i xs)) (g x ∷ [])
    ∙ ap (λ l. flat_map f (map g (take i xs)) ++ l) (append-nil (f (g x)))

pub each_split : {X Y : Type 0} (f : Y → List ℕ) (g : X → Y) (xs : List X) (i : ℕ) (x : X) → i < length xs → x ≡ get_or xs i x
    → (rest : List ℕ) × (flat_map f (map g xs) ≡ (flat_map f (map g (take i xs)) ++ f (g x)) ++ rest)
each_split f g xs i x lt at =
    let whole : take (i + 1) xs ++ drop (i + 1) xs ≡ xs = take-append-drop (i + 1) xs in
    let rest = flat_map f (map g (drop (i + 1) xs)) in (
      rest,
      ap (λ l. flat_map f (map g l)) (sym whole) ∙ ap (flat_map f) (map-append g (take (i + 1) xs) (drop (i + 1) xs))
          ∙ flat_map-append f (map g (take (i + 1) xs)) (map g (drop (i + 1) xs)) ∙ ap (λ l. l ++ rest) (each_more f g xs i x lt at),
    )
