-- From a node to the next tree that branches owe.
use Rattle.std.proofs.Common.{◌≡◌, ◌↔◌, ℕ, zero, suc, ◌+◌, ◌-◌, ◌<◌, ◌≤◌, Bool, true, false, IsTrue, Contains, List, [], ◌∷◌, ◌++◌, length, filter, get_or, slice_set, take, Option, Some, None, refl, sym, ap, ◌∙◌, subst, arith, length-append}
use Rattle.std.specs.Bool.{OnTrue, OnFalse}
use Rattle.std.proofs.Math.Seq.{set-append_seam}
use Rattle.std.proofs.lemmas.Bool.{lt-leb}
use Rattle.std.proofs.lemmas.List.{take_at}
use Rattle.crp_plan.specs.Bay.{Position}
use Rattle.crp_bay.specs.Positions.{top, can_shift, child, counted, targets}
use Rattle.crp_bay.specs.Back.{PlaceAndTrail}
use Rattle.crp_bay.proofs.Tops.{top_push}
use Rattle.crp_bay.proofs.Walked.{row_is_target}
use Rattle.crp_tree.proofs.Followed.{legal_push}
use Rattle.crp_tree.specs.Mark.{X}
use Rattle.crp_tree.specs.Spots.{spots_below, owed_behind}
use Rattle.crp_checker.specs.Pending.{up, back_on, back, rows_behind, pending, below, spot_at}

-- ---- legal rows behind a row

counted_on : (row many : ℕ) → row < many → counted (suc row) (many - row) ≡ suc row ∷ counted (suc (suc row)) (many - suc row)
counted_on row many lt = let e : many - row ≡ suc (many - suc row) = omega arith in ap (counted (suc row)) e

pub is_next : (s : Position) (row next : ℕ) → next ≡ row + 1 → row < length s.heights → can_shift s next ≡ true → rows_behind row s ≡ next ∷ rows_behind next s
is_next s row next e lt =
    let same : suc row ≡ next = omega (arith, e) in
    subst (λ n. can_shift s n ≡ true → rows_behind row s ≡ n ∷ rows_behind n s) same (λ can. ap (filter (can_shift s)) (counted_on row (length s.heights) lt) ∙ rw can refl)

pub is_passed : (s : Position) (row next : ℕ) → next ≡ row + 1 → row < length s.heights → can_shift s next ≡ false → rows_behind row s ≡ rows_behind next s
is_passed s row next e lt =
    let same : suc row ≡ next = omega (arith, e) in
    subst (λ n. can_shift s n ≡ false → rows_behind row s ≡ rows_behind n s) same (λ cannot. ap (filter (can_shift s)) (counted_on row (length s.heights) lt) ∙ rw cannot refl)

pub none_behind : (s : Position) (row : ℕ) → length s.heights ≤ row → rows_behind row s ≡ []
none_behind s row le = let e : length s.heights - row ≡ 0 = omega arith in ap (λ n. filter (can_shift s) (counted (suc row) n)) e

pub none_left : (s : Position) (row : ℕ) → s.ordered < s.next → rows_behind row s ≡ []
none_left s row lt = none (counted (suc row) (length s.heights - row))
  where
    none : (rows : List ℕ) → filter (can_shift s) rows ≡ []
    none [] = refl
    none (next ∷ rows) = let out : can_shift s next ≡ false = rw (lt-leb s.next s.ordered lt) refl in rw out (none rows)

-- ---- one branch

-- a path, by its last row
pub last_split : (path : List ℕ) (i row : ℕ) → i + 1 ≡ length path → row ≡ get_or path i row → path ≡ take i path ++ row ∷ []
last_split [] i row e is = absurd (omega (arith, e))
last_split (x ∷ []) zero row e is = ap (λ y. y ∷ []) (sym is)
last_split (x ∷ y ∷ ys) zero row e is = absurd (omega (arith, e))
last_split (x ∷ xs) (suc i) row e is = ap (λ l. x ∷ l) (last_split xs i row (omega (arith, e)) is)

-- another row in its place
pub last_set : (path old : List ℕ) (i row next : ℕ) → i + 1 ≡ length old → old ≡ path ++ row ∷ [] → slice_set old i next ≡ path ++ next ∷ []
last_set path old i row next e is =
    let at : i ≡ length path = omega (arith, ap length is, e, length-append path (row ∷ [])) in
    ap (λ k. slice_set old k next) at ∙ ap (λ l. slice_set l (length path) next) is ∙ set-append_seam path row [] next

-- a path has one last row
pub same_last : (path front back : List ℕ) (x y : ℕ) → path ≡ front ++ x ∷ [] → path ≡ back ++ y ∷ [] → x ≡ y
same_last path front back x y a b = sym (top_push front x) ∙ ap top (sym a ∙ b) ∙ top_push back y

-- the path below a branch goes back to it
pub up_again : (path : List ℕ) (row : ℕ) → up (path ++ row ∷ []) ≡ path
up_again path row =
    let shorter : length path ≡ length (path ++ row ∷ []) - 1 = omega (arith, length-append path (row ∷ [])) in
    take_at path (row ∷ []) (length (path ++ row ∷ []) - 1) shorter

-- what a branch and those above it owe behind a row
pub branch_owes : (above : ℕ) (path longer : List ℕ) (s : PlaceAndTrail) (row : ℕ) → longer ≡ path ++ row ∷ [] → above ≤ length path →
    pending (length longer - above) longer s ≡ spots_below path s.place (rows_behind row s.place) ++ pending (length path - above) path (back s)
branch_owes above path longer s row e le =
    let more : length longer - above ≡ suc (length path - above) = omega (arith, ap length e, length-append path (row ∷ [])) in
    ap (λ n. pending n longer s) more
    ∙ ap (λ l. spots_below (up l) s.place (rows_behind (top l) s.place) ++ pending (length path - above) (up l) (back s)) e
    ∙ ap (λ l. spots_below l s.place (rows_behind (top (path ++ row ∷ [])) s.place) ++ pending (length path - above) l (back s)) (up_again path row)
    ∙ ap (λ r. spots_below path s.place (rows_behind r s.place) ++ pending (length path - above) path (back s)) (top_push path row)

-- a pop goes back
pub gone_back : (old new : PlaceAndTrail) (is_popped : Bool) → OnTrue is_popped (old.trail ≡ new.place ∷ new.trail) → OnFalse is_popped (old.trail ≡ []) → OnFalse is_popped (new ≡ old) → new ≡ back old
gone_back old new true popped none same = sym (ap (back_on old.place) popped)
gone_back old new false popped none same = same ∙ ap (λ l. record { place = old.place; trail = l }) none ∙ sym (ap (back_on old.place) none)

-- the next legal row
pub goes_down : (above : ℕ) (path old new : List ℕ) (s : PlaceAndTrail) (row next : ℕ) → old ≡ path ++ row ∷ [] → above ≤ length path → rows_behind row s.place ≡ next ∷ rows_behind next s.place → new ≡ path ++ next ∷ [] →
    pending (length old - above) old s ≡ spot_at (Some next) new s.place ∷ pending (length new - above) new s
goes_down above path old new s row next was le rows is =
    branch_owes above path old s row was le
    ∙ ap (λ l. spots_below path s.place l ++ pending (length path - above) path (back s)) rows
    ∙ ap (λ l. spot_at (Some next) (path ++ next ∷ []) s.place ∷ l) (sym (branch_owes above path new s next is le))
    ∙ ap (λ l. spot_at (Some next) l s.place ∷ pending (length new - above) new s) (sym is)

-- no legal row is left
pub goes_up : (above : ℕ) (path old : List ℕ) (s : PlaceAndTrail) (row : ℕ) → old ≡ path ++ row ∷ [] → above ≤ length path → rows_behind row s.place ≡ [] →
    pending (length path - above) path (back s) ≡ pending (length old - above) old s
goes_up above path old s row was le none = sym (branch_owes above path old s row was le ∙ ap (λ l. spots_below path s.place l ++ pending (length path - above) path (back s)) none)

-- no branch is left
pub ends : (above : ℕ) (path : List ℕ) (s : PlaceAndTrail) → length path ≤ above → [] ≡ pending (length path - above) path s
ends above path s le = let none : 0 ≡ length path - above = omega arith in ap (λ n. pending n path s) none

-- ---- one symbol

-- a push to a legal row is made
pub pushed : (old : PlaceAndTrail) (row : ℕ) (new : PlaceAndTrail) (is_pushed : Bool) → IsTrue is_pushed ↔ Contains (targets old.place) row → OnTrue is_pushed (new ≡ record { place = child old.place row; trail = old.place ∷ old.trail }) →
    can_shift old.place row ≡ true → new ≡ record { place = child old.place row; trail = old.place ∷ old.trail }
pushed old row new is_pushed target made can = legal_push old row new is_pushed (record { target = target; pushed = made }) (row_is_target old.place row can)

-- a branch that begins owes a tree for each legal row
pub opens : (row : Option ℕ) (above : ℕ) (path longer : List ℕ) (s new : PlaceAndTrail) → above ≤ length path → (row ≡ None → length path ≤ above) →
    longer ≡ path ++ 0 ∷ [] → new.place ≡ below row s.place → ((next : ℕ) → row ≡ Some next → back new ≡ s) →
    pending (length longer - above) longer new ≡ owed_behind X (spot_at row path s.place) (pending (length path - above) path s)
opens row above path longer s new within alone is entered goes_back =
    let all : length new.place.heights - 0 ≡ length new.place.heights = omega arith in
    branch_owes above path longer new 0 is within
    ∙ ap (λ n. spots_below path new.place (filter (can_shift new.place) (counted 1 n)) ++ pending (length path - above) path (back new)) all
    ∙ ap (λ (t : Position). spots_below path t (targets t) ++ pending (length path - above) path (back new)) entered
    ∙ ap (λ l. spots_below path (below row s.place) (targets (below row s.place)) ++ l) (rest row alone goes_back)
  where
    rest : (row : Option ℕ) → (row ≡ None → length path ≤ above) → ((next : ℕ) → row ≡ Some next → back new ≡ s) → pending (length path - above) path (back new) ≡ pending (length path - above) path s
    rest None alone goes_back = let le = alone refl in sym (ends above path (back new) le) ∙ ends above path s le
    rest (Some next) alone goes_back = ap (pending (length path - above) path) (goes_back next refl)
