-- Names that are taken and names that are left.
use Rattle.std.proofs.Common.{◌≡◌, ◌<◌, ℕ, ◌+◌, Bool, true, false, cond, ◌&&◌, ◌||◌, List, [], ◌∷◌, ◌++◌, length, map, filter, flat_map, take, get_or, not, Some, None, Bor, arith, refl, sym, ap, subst, ◌∙◌, append-nil, append_assoc}
use Rattle.std.specs.List.{list_any}
use Rattle.std.specs.Str.{bytes_eq}
use Rattle.std.proofs.lemmas.Cmp.{nat_list_eq_equiv}
use Rattle.std.proofs.lemmas.List.Folds.{list_any-append}
use Rattle.std.proofs.lemmas.List.Elements.{filter-append}
use Rattle.std.proofs.lemmas.Grind.{flat_map-append}
use Rattle.std.proofs.lemmas.Slice.Eq.{bytes_eq-Decides}
use Rattle.std.proofs.lemmas.List.{map_more, take_more}
use Rattle.crp_said.specs.declared.moves.SaidMove.{SaidMove as Move}
use Rattle.crp_follow.specs.declared.stated.StatedMove.{StatedMove}
use Rattle.crp_follow.specs.Stated.{moves_of}
use Rattle.crp_plan.specs.BayNames.{YardBay}
use Rattle.crp_yard.specs.Inventory.{is_among}
use Rattle.crp_notes.specs.Wording.{left_note}
use Rattle.crp_notes.specs.Left.{is_left, left_in, note_if_left}

either : (c d : Bool) → cond c true d ≡ (d || (c || false))
either true true = refl
either true false = refl
either false true = refl
either false false = refl

nothing-more : (d : Bool) → d ≡ (d || (false || false))
nothing-more true = refl
nothing-more false = refl

-- one more that passes the test by its name
pub any-with : {X : Type 0} (test : X → Bool) (xs : List X) (m : X) (c : Bool) → test m ≡ c → list_any test (xs ++ m ∷ []) ≡ cond c true (list_any test xs)
any-with test xs m c e = list_any-append test xs (m ∷ []) ∙ ap (λ t. list_any test xs || (t || false)) e ∙ sym (either c (list_any test xs))

-- of the sequence one more that is not taken
pub left-with : (is_taken : List ℕ → Bool) (xs : List (List ℕ)) (x q : List ℕ) → is_taken x ≡ false → (t : Bool) → bytes_eq x q ≡ t
    → (is_among (xs ++ x ∷ []) q && not (is_taken q)) ≡ cond t true (is_among xs q && not (is_taken q))
left-with is_taken xs x q free true e =
    let same : x ≡ q = (bytes_eq-Decides x q).0 e in
    let known : is_taken q ≡ false = subst (λ y. is_taken y ≡ false) same free in
    let test : bytes_eq q x ≡ true = nat_list_eq_equiv.symm q x ∙ e in
    rw (any-with (bytes_eq q) xs x true test, known) refl
left-with is_taken xs x q free false e =
    let test : bytes_eq q x ≡ false = nat_list_eq_equiv.symm q x ∙ e in
    rw (any-with (bytes_eq q) xs x false test) refl

-- one more that is taken
pub left-without : (is_taken : List ℕ → Bool) (xs : List (List ℕ)) (x q : List ℕ) → is_taken x ≡ true → (t : Bool) → bytes_eq x q ≡ t
    → (is_among (xs ++ x ∷ []) q && not (is_taken q)) ≡ (is_among xs q && not (is_taken q))
left-without is_taken xs x q gone true e =
    let same : x ≡ q = (bytes_eq-Decides x q).0 e in
    let known : is_taken q ≡ true = subst (λ y. is_taken y ≡ true) same gone in
    rw known (neither (is_among (xs ++ x ∷ []) q) (is_among xs q))
  where
    neither : (a b : Bool) → (a && false) ≡ (b && false)
    neither true true = refl
    neither true false = refl
    neither false true = refl
    neither false false = refl
left-without is_taken xs x q gone false e =
    let test : bytes_eq q x ≡ false = nat_list_eq_equiv.symm q x ∙ e in
    rw (any-with (bytes_eq q) xs x false test) refl

-- of a list that is filtered one more
pub filter-with : {X : Type 0} (passes : X → Bool) (xs : List X) (x : X) (t : Bool) → passes x ≡ t → filter passes (xs ++ x ∷ []) ≡ cond t (filter passes xs ++ x ∷ []) (filter passes xs)
filter-with passes xs x true e = filter-append passes xs (x ∷ []) ∙ ap (λ c. filter passes xs ++ cond c (x ∷ []) []) e
filter-with passes xs x false e = filter-append passes xs (x ∷ []) ∙ ap (λ c. filter passes xs ++ cond c (x ∷ []) []) e ∙ append-nil (filter passes xs)

-- of moves one more behind others
pub moves-more : (before : List Move) (moves : List StatedMove) (i : ℕ) (x : StatedMove) → i < length moves → x ≡ get_or moves i x
    → before ++ moves_of (take (i + 1) moves) ≡ (before ++ moves_of (take i moves)) ++ x.said ∷ []
moves-more before moves i x below at =
    ap (λ l. before ++ l) (map_more (λ (m : StatedMove). m.said) moves i x below) ∙ ap (λ (y : StatedMove). before ++ (moves_of (take i moves) ++ y.said ∷ [])) (sym at)
    ∙ sym (append_assoc before (moves_of (take i moves)) (x.said ∷ []))

-- of a list one more
pub list-more : {X : Type 0} (xs : List X) (i : ℕ) (x : X) → i < length xs → x ≡ get_or xs i x → take (i + 1) xs ≡ take i xs ++ x ∷ []
list-more xs i x below at = take_more xs i x below ∙ ap (λ y. take i xs ++ y ∷ []) (sym at)

-- what is left in a bay with one row more
pub left-more : (sequence : List (List ℕ)) (moves : List Move) (rows : List (List (List ℕ))) (stack : List (List ℕ))
    → left_in sequence moves (rows ++ stack ∷ []) ≡ left_in sequence moves rows ++ filter (is_left sequence moves) stack
left-more sequence moves rows stack =
    ap (filter (is_left sequence moves)) (flat_map-append (λ (s : List (List ℕ)). s) rows (stack ∷ []) ∙ ap (λ l. flat_map (λ (s : List (List ℕ)). s) rows ++ l) (append-nil stack))
    ∙ filter-append (is_left sequence moves) (flat_map (λ (s : List (List ℕ)). s) rows) stack

-- where nothing is left there is no note, else there is one
pub no-note-left : (bay : YardBay) (found : List (Bor (List ℕ))) (names : List (List ℕ)) → map (λ name. name.now) found ≡ names → length found ≡ 0 → None ≡ note_if_left bay names
no-note-left bay [] names e none = ap (note_if_left bay) e
no-note-left bay (x ∷ found) names e none = absurd (cc)

pub some-note-left : (bay : YardBay) (found : List (Bor (List ℕ))) (names : List (List ℕ)) → map (λ name. name.now) found ≡ names → 0 < length found
    → Some (left_note bay (map (λ name. name.now) found)) ≡ note_if_left bay names
some-note-left bay [] names e some = absurd (omega (arith, some))
some-note-left bay (x ∷ found) names e some = ap (note_if_left bay) e
