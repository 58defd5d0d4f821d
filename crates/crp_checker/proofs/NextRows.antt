-- To the next tree that branches owe, with no symbols between.
use Rattle.std.proofs.Common.{◌≡◌, ℕ, false, ◌+◌, ◌-◌, ◌≤◌, ◌<◌, List, [], ◌∷◌, ◌++◌, length, take, get_or, slice_set, Option, Some, None, IfSome, refl, sym, ap, ◌∙◌, arith, length-append, length-take-le}
use Rattle.std.specs.Option.{is_some}
use Rattle.std.proofs.lemmas.List.{nil_from_length}
use Rattle.std.proofs.lemmas.List.Elements.{length_all_zip}
use Rattle.crp_plan.specs.Bay.{Position}
use Rattle.crp_bay.specs.Back.{PlaceAndTrail}
use Rattle.crp_checker.specs.Pending.{up, back, rows_behind, pending, spot_at}
use Rattle.crp_checker.specs.Passed.{IsHighCut, ArePassed, rows_from}
use Rattle.crp_checker.proofs.Onward.{last_split, last_set, goes_down, goes_up}

-- where no byte came, nothing was passed over
pub nothing_passed : (least : ℕ) (s : Position) (rows left : List ℕ) (n m : ℕ) → ArePassed least s rows left (take n []) (take m []) → m ≤ 0 → rows ≡ left
nothing_passed least s rows left n m p le =
    let none : length p.passed ≡ 0 =
    omega (arith, le, length-take-le {A = ℕ} m [] le, ap length p.bytes_are, length-append (take n []) p.letters, length_all_zip (IsHighCut least s) p.passed p.letters p.cuts) in
    p.rows_are ∙ ap (λ l. l ++ left) (nil_from_length p.passed none)

-- no row is left
pub no_rows : (s : Position) (next : Option ℕ) → is_some next ≡ false → rows_from next s ≡ []
no_rows s None e = refl
no_rows s (Some next) e = absurd (cc)

-- a legal row is left: its tree is owed next
pub row_is_owed : (above last row : ℕ) (path : List ℕ) (s : PlaceAndTrail) (next : Option ℕ) → last + 1 ≡ length path → above < length path → row ≡ get_or path last row → rows_behind row s.place ≡ rows_from next s.place →
    IfSome next (λ next. pending (length path - above) path s ≡ spot_at (Some next) (slice_set path (length path - 1) next) s.place ∷ pending (length path - above) (slice_set path (length path - 1) next) s)
row_is_owed above last row path s None end lt is rows = tt
row_is_owed above last row path s (Some next) end lt is rows =
    let was = last_split path last row end is in
    let now = last_set (take last path) path last row next end was in
    let le : above ≤ length (take last path) = omega (arith, ap length was, length-append (take last path) (row ∷ []), lt) in
    let same : length (slice_set path last next) ≡ length path = omega (arith, ap length was, ap length now, length-append (take last path) (row ∷ []), length-append (take last path) (next ∷ [])) in
    let at : last ≡ length path - 1 = omega (arith, end) in
    goes_down above (take last path) path (slice_set path last next) s row next was le rows now
    ∙ ap (λ n. spot_at (Some next) (slice_set path last next) s.place ∷ pending (n - above) (slice_set path last next) s) same
    ∙ ap (λ i. spot_at (Some next) (slice_set path i next) s.place ∷ pending (length path - above) (slice_set path i next) s) at

-- none is left: the branch is left
pub none_is_owed : (above last row : ℕ) (path new : List ℕ) (s t : PlaceAndTrail) → last + 1 ≡ length path → above < length path → row ≡ get_or path last row → rows_behind row s.place ≡ [] → new ≡ up path → t ≡ back s →
    pending (length new - above) new t ≡ pending (length path - above) path s
none_is_owed above last row path new s t end lt is rows gone goes_back =
    let was = last_split path last row end is in
    let le : above ≤ length (take last path) = omega (arith, ap length was, length-append (take last path) (row ∷ []), lt) in
    let same : last ≡ length path - 1 = omega (arith, end) in
    let left : new ≡ take last path = gone ∙ ap (λ i. take i path) (sym same) in
    ap (λ l. pending (length l - above) l t) left
    ∙ ap (pending (length (take last path) - above) (take last path)) goes_back
    ∙ goes_up above (take last path) path s row was le rows
