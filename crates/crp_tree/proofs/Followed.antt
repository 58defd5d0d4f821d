-- Following a path row by row.
use Rattle.std.proofs.Common.{◌≡◌, ℕ, ◌+◌, ◌-◌, ◌<◌, ◌≤◌, ⊎_elim, Bool, true, false, IsTrue, List, [], ◌∷◌, ◌++◌, length, take, drop, get_or, Option, Some, None, IsSome, IfSome, Contains, ◌↔◌, refl, sym, ap, ◌∙◌, subst, arith, add-one, length-append}
use Rattle.std.specs.Bool.{OnTrue, OnFalse}
use Rattle.std.proofs.Math.Seq.{drop-cons}
use Rattle.std.proofs.lemmas.Bool.{cases_Bool}
use Rattle.std.proofs.lemmas.List.{drop_all}
use Rattle.crp_plan.specs.Bay.{Problem, IsProblem, Position, IsAt}
use Rattle.crp_bay.specs.Positions.{targets, child, can_shift, walk, at}
use Rattle.crp_bay.specs.Back.{PlaceAndTrail}
use Rattle.crp_bay.proofs.Walked.{row_is_target, at_reads, at_means}
use Rattle.crp_bay.proofs.Reaching.{can_from_target}

-- a legal row is walked
pub walk_yes : (s : Position) (row : ℕ) (path : List ℕ) → Contains (targets s) row → walk s (row ∷ path) ≡ walk (child s row) path
walk_yes s row path c = rw (can_from_target s row c) refl

-- at another row the walk ends without a position
pub walk_no : (s : Position) (row : ℕ) (path : List ℕ) → (Contains (targets s) row → ⊥) → walk s (row ∷ path) ≡ None
walk_no s row path none = ⊎_elim (λ t. absurd (none (row_is_target s row t))) (λ f. rw f refl) (cases_Bool (can_shift s row))

-- the rows from an index on are the row there and those after it
pub rows_from : (rows items : List ℕ) (i : ℕ) → items ≡ rows → i < length items → drop i rows ≡ get_or items i 0 ∷ drop (i + 1) rows
rows_from rows items i same lt = subst (λ l. drop i l ≡ get_or items i 0 ∷ drop (i + 1) l) same (rw (add-one) (drop-cons items i 0 lt))

-- what a call of `child` made of the position
abbrev pub Made : Position → ℕ → Option PlaceAndTrail → Type 0
Made s row made = (IsSome made ↔ Contains (targets s) row) × IfSome made (λ t. t ≡ record { place = child s row; trail = [] })

-- it went on: the walk goes on from there
pub went_on : (s : Position) (t : PlaceAndTrail) (rows items : List ℕ) (i : ℕ) (made : Option PlaceAndTrail) → items ≡ rows → i < length items → made ≡ Some t → Made s (get_or items i 0) made → walk t.place (drop (i + 1) rows) ≡ walk s (drop i rows)
went_on s t rows items i made same lt e m =
    let row : ℕ = get_or items i 0 in
    let k : Made s row (Some t) = subst (Made s row) e m in
    ap (λ (v : PlaceAndTrail). walk v.place (drop (i + 1) rows)) k.1 ∙ sym (walk_yes s row (drop (i + 1) rows) (k.0.0 refl)) ∙ ap (walk s) (sym (rows_from rows items i same lt))

-- it did not: the walk ends without a position
pub stopped : (s : Position) (rows items : List ℕ) (i : ℕ) (made : Option PlaceAndTrail) → items ≡ rows → i < length items → made ≡ None → Made s (get_or items i 0) made → walk s (drop i rows) ≡ None
stopped s rows items i made same lt e m =
    let row : ℕ = get_or items i 0 in
    let k : Made s row None = subst (Made s row) e m in
    ap (walk s) (rows_from rows items i same lt) ∙ walk_no s row (drop (i + 1) rows) (λ c. let a = k.0.1 c in cc)

-- a path to which the walk finds no position has none
pub no_position : (p : Problem) (rows : List ℕ) (s : Position) → IsProblem p → at p rows ≡ None → IsAt p rows s → ⊥
no_position p rows s is e a = let b = at_reads p rows s is a in cc

-- what a push to a row makes of a position
pub record Pushes (old : PlaceAndTrail) (row : ℕ) (new : PlaceAndTrail) (is_pushed : Bool) : Type 0 where
  pub target : IsTrue is_pushed ↔ Contains (targets old.place) row
  pub pushed : OnTrue is_pushed (new ≡ record { place = child old.place row; trail = old.place ∷ old.trail })

-- a push to a legal row is made
pub legal_push : (old : PlaceAndTrail) (row : ℕ) (new : PlaceAndTrail) (is_pushed : Bool) → Pushes old row new is_pushed → Contains (targets old.place) row → new ≡ record { place = child old.place row; trail = old.place ∷ old.trail }
legal_push old row new true k legal = k.pushed
legal_push old row new false k legal = let no = k.target.1 legal in cc

-- what a pop makes of a position
pub record Pops (old new : PlaceAndTrail) (is_popped : Bool) : Type 0 where
  pub popped : OnTrue is_popped (old.trail ≡ new.place ∷ new.trail)
  pub none : OnFalse is_popped (old.trail ≡ [])

-- what was pushed is popped
pub pop_back : (before old new : PlaceAndTrail) (row : ℕ) (is_popped : Bool) → old ≡ record { place = child before.place row; trail = before.place ∷ before.trail } → Pops old new is_popped → new ≡ before
pop_back before old new row true e k =
    let same : before.place ∷ before.trail ≡ new.place ∷ new.trail = sym (ap (λ (v : PlaceAndTrail). v.trail) e) ∙ k.popped in
    let a : before.place ≡ new.place = cc in
    let b : before.trail ≡ new.trail = cc in
    sym (ap (λ (s : Position). record { place = s; trail = before.trail }) a ∙ ap (λ (t : List Position). record { place = new.place; trail = t }) b)
pop_back before old new row false e k =
    let no : before.place ∷ before.trail ≡ [] = sym (ap (λ (v : PlaceAndTrail). v.trail) e) ∙ k.none in
    absurd (cc)

-- it is made: the walk goes on from there
pub pushed_on : (old new : PlaceAndTrail) (rows items : List ℕ) (i : ℕ) (is_pushed : Bool) → items ≡ rows → i < length items → is_pushed ≡ true → Pushes old (get_or items i 0) new is_pushed → walk new.place (drop (i + 1) rows) ≡ walk old.place (drop i rows)
pushed_on old new rows items i is_pushed same lt is k =
    let row : ℕ = get_or items i 0 in
    let legal : Contains (targets old.place) row = k.target.0 is in
    ap (λ (v : PlaceAndTrail). walk v.place (drop (i + 1) rows)) (legal_push old row new is_pushed k legal) ∙ sym (walk_yes old.place row (drop (i + 1) rows) legal) ∙ ap (walk old.place) (sym (rows_from rows items i same lt))

-- it is refused: the walk ends without a position
pub not_pushed : (old new : PlaceAndTrail) (rows items : List ℕ) (i : ℕ) (is_pushed : Bool) → items ≡ rows → i < length items → is_pushed ≡ false → Pushes old (get_or items i 0) new is_pushed → walk old.place (drop i rows) ≡ None
not_pushed old new rows items i is_pushed same lt is k =
    let row : ℕ = get_or items i 0 in
    ap (walk old.place) (rows_from rows items i same lt) ∙ walk_no old.place row (drop (i + 1) rows) (λ legal. let e = k.target.1 legal in cc)

-- after the last row the walk is where it is to be
pub arrived : (p : Problem) (rows items : List ℕ) (i : ℕ) (s : Position) → IsProblem p → items ≡ rows → length items ≤ i → walk s (drop i rows) ≡ at p rows → IsAt p rows s
arrived p rows items i s is same done e =
    at_means p rows s is (sym e ∙ ap (walk s) (drop_all i rows (subst (λ l. length l ≤ i) same done)))

-- the row that was put behind a path is taken off again
pub back_again : (popped full path : List ℕ) (n row : ℕ) → n ≡ length full → full ≡ path ++ row ∷ [] → popped ≡ take (n - 1) full → popped ≡ path
back_again popped full path n row size e p =
    let shorter : n - 1 ≡ length path = omega (arith, ap length e, length-append path (row ∷ [])) in
    p ∙ ap (λ k. take k full) shorter ∙ ap (take (length path)) e ∙ take_own path (row ∷ [])
  where
    take_own : (xs ys : List ℕ) → take (length xs) (xs ++ ys) ≡ xs
    take_own [] ys = refl
    take_own (x ∷ xs) ys = ap (λ l. x ∷ l) (take_own xs ys)
