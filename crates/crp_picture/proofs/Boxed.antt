-- Each container of a position is one box, at its place.
use Rattle.std.proofs.Common.{◌≡◌, ◌≢◌, ◌∙◌, ℕ, zero, suc, ◌+◌, ◌<◌, ◌≤◌, ◌==◌, Bool, true, false, List, [], ◌∷◌, ◌++◌, length, map, take, Option, None, Some, slice_get, refl, sym, ap, inl, inr, arith}
use Rattle.std.specs.Prelude.{◌&&◌, is_some, option_map, option_to_list, unwrap_or}
use Rattle.std.proofs.lemmas.Bool.{eq-eqb}
use Rattle.std.proofs.lemmas.Bool.Decides.{eqb_tells}
use Rattle.std.proofs.lemmas.List.{length-take-le}
use Rattle.std.proofs.lemmas.Option.{none-some, slice_get_within, slice_get_cases}
use Rattle.crp_said.specs.declared.moves.Place.{Place}
use Rattle.crp_said.specs.declared.moves.SaidMove.{SaidMove}
use Rattle.crp_said.specs.declared.moves.SaidMove.TheVariants.{Shift, Take}
use Rattle.crp_follow.specs.declared.stated.StatedMove.{StatedMove}
use Rattle.crp_follow.specs.Crane.{Stack}
use Rattle.crp_picture.specs.declared.cell.Kind.{Kind}
use Rattle.crp_picture.specs.declared.cell.Kind.TheVariants.{Soonest, Soon, Midway, Late, Latest, Stays, Moved, Goal, Taken}
use Rattle.crp_picture.specs.declared.mark.Mark.{Mark}
use Rattle.crp_picture.specs.Cells.{Cell, cell_on, stack_in, row_cells, cells_to, cells_of}
use Rattle.crp_picture.specs.Frames.{Frame, is_at, shown_in, goal_of, goals, frame_cells}
use Rattle.crp_picture.specs.Pictures.{letter_of, has_mark, boxes}
use Rattle.crp_picture.specs.Boxes.{one_if, times_among, at_tier, standing_at, puts_at, goal_is_at}

-- ---- one box for each container

kind_once : (kind : Kind) (b : Bool)
    → one_if ((letter_of kind == 48) && b) + (one_if ((letter_of kind == 49) && b) + (one_if ((letter_of kind == 50) && b) + (one_if ((letter_of kind == 51) && b)
    + (one_if ((letter_of kind == 52) && b) + (one_if ((letter_of kind == 115) && b) + (one_if ((letter_of kind == 109) && b) + (one_if ((letter_of kind == 116) && b)
    + (one_if ((letter_of kind == 111) && b) + 0)))))))) ≡ one_if b
kind_once Soonest true = refl
kind_once Soonest false = refl
kind_once Soon true = refl
kind_once Soon false = refl
kind_once Midway true = refl
kind_once Midway false = refl
kind_once Late true = refl
kind_once Late false = refl
kind_once Latest true = refl
kind_once Latest false = refl
kind_once Stays true = refl
kind_once Stays false = refl
kind_once Moved true = refl
kind_once Moved false = refl
kind_once Goal true = refl
kind_once Goal false = refl
kind_once Taken true = refl
kind_once Taken false = refl

-- how many of these marks a container gets at a place
abbrev first_among : Cell → Place → List Mark → ℕ
first_among c place [] = 0
first_among c place (m ∷ ms) = one_if (has_mark m c && is_at c place) + first_among c place ms

among_cons : (c : Cell) (cells : List Cell) (place : Place) (ms : List Mark) → times_among (c ∷ cells) place ms ≡ first_among c place ms + times_among cells place ms
among_cons c cells place [] = refl
among_cons c cells place (m ∷ ms) = let more = among_cons c cells place ms in omega (arith, more)

-- how many containers stand at a place
abbrev count_at : List Cell → Place → ℕ
count_at [] place = 0
count_at (c ∷ cells) place = one_if (is_at c place) + count_at cells place

all_once : (cells : List Cell) (place : Place) → times_among cells place boxes ≡ count_at cells place
all_once [] place = refl
all_once (c ∷ cells) place =
    among_cons c cells place boxes ∙ ap (λ n. n + times_among cells place boxes) (kind_once c.kind (is_at c place)) ∙ ap (λ n. one_if (is_at c place) + n) (all_once cells place)

count_append : (a b : List Cell) (place : Place) → count_at (a ++ b) place ≡ count_at a place + count_at b place
count_append [] b place = omega arith
count_append (c ∷ a) b place = let more = count_append a b place in omega (arith, more)

-- ---- a container that stands there, or elsewhere

none_and : (a : Bool) → one_if (a && false) ≡ 0
none_and true = refl
none_and false = refl

other_row : (c : Cell) (place : Place) → c.row ≢ place.row → one_if (is_at c place) ≡ 0
other_row c place other =
    elim (eqb_tells c.row place.row) [ inl h ↦ absurd (other h.1) | inr h ↦ ap (λ (b : Bool). one_if (b && (c.tier == place.tier))) h.0 ]

other_tier : (c : Cell) (place : Place) → c.tier ≢ place.tier → one_if (is_at c place) ≡ 0
other_tier c place other =
    elim (eqb_tells c.tier place.tier) [ inl h ↦ absurd (other h.1) | inr h ↦ ap (λ (b : Bool). one_if ((c.row == place.row) && b)) h.0 ∙ none_and (c.row == place.row) ]

there : (c : Cell) (place : Place) → c.row ≡ place.row → c.tier ≡ place.tier → one_if (is_at c place) ≡ 1
there c place row tier =
    ap (λ (b : Bool). one_if (b && (c.tier == place.tier))) (eq-eqb c.row place.row row) ∙ ap (λ (b : Bool). one_if (true && b)) (eq-eqb c.tier place.tier tier)

-- the container of a row above its first n, if there is one
abbrev added : List SaidMove → ℕ → Stack → ℕ → Option (List ℕ) → List Cell
added moves row stack n o = option_to_list (option_map (cell_on moves row (take n stack)) o)

added_elsewhere : (moves : List SaidMove) (row : ℕ) (stack : Stack) (n : ℕ) (o : Option (List ℕ)) (place : Place) → row ≢ place.row → count_at (added moves row stack n o) place ≡ 0
added_elsewhere moves row stack n None place other = refl
added_elsewhere moves row stack n (Some name) place other = let none = other_row (cell_on moves row (take n stack) name) place other in omega (arith, none)

added_none : (moves : List SaidMove) (row : ℕ) (stack : Stack) (n : ℕ) (o : Option (List ℕ)) (place : Place) → slice_get stack n ≡ o → ((name : List ℕ) → slice_get stack n ≡ Some name → suc n ≢ place.tier)
    → count_at (added moves row stack n o) place ≡ 0
added_none moves row stack n None place e other = refl
added_none moves row stack n (Some name) place e other =
    let within : n < length stack = slice_get_within stack n name e in
    let low : n ≤ length stack = omega arith in
    let long : length (take n stack) ≡ n = length-take-le n stack low in
    let none = other_tier (cell_on moves row (take n stack) name) place (λ same. other name e (sym (ap suc long) ∙ same)) in
    omega (arith, none)

added_here : (moves : List SaidMove) (row : ℕ) (stack : Stack) (n : ℕ) (name : List ℕ) (place : Place) → slice_get stack n ≡ Some name → row ≡ place.row → suc n ≡ place.tier
    → count_at (added moves row stack n (slice_get stack n)) place ≡ 1
added_here moves row stack n name place e same tier =
    let within : n < length stack = slice_get_within stack n name e in
    let low : n ≤ length stack = omega arith in
    let long : length (take n stack) ≡ n = length-take-le n stack low in
    let one = there (cell_on moves row (take n stack) name) place same (ap suc long ∙ tier) in
    ap (λ (o : Option (List ℕ)). count_at (added moves row stack n o) place) e ∙ (omega (arith, one))

-- ---- a row

row_elsewhere : (moves : List SaidMove) (row : ℕ) (stack : Stack) (n : ℕ) (place : Place) → row ≢ place.row → count_at (row_cells moves row stack n) place ≡ 0
row_elsewhere moves row stack zero place other = refl
row_elsewhere moves row stack (suc n) place other =
    let both = count_append (row_cells moves row stack n) (added moves row stack n (slice_get stack n)) place in
    let before = row_elsewhere moves row stack n place other in
    let last = added_elsewhere moves row stack n (slice_get stack n) place other in
    omega (arith, both, before, last)

-- no container of the first n stands at the tier
row_none : (moves : List SaidMove) (row : ℕ) (stack : Stack) (n : ℕ) (place : Place) → ((k : ℕ) (name : List ℕ) → k < n → slice_get stack k ≡ Some name → suc k ≢ place.tier)
    → count_at (row_cells moves row stack n) place ≡ 0
row_none moves row stack zero place none = refl
row_none moves row stack (suc n) place none =
    let both = count_append (row_cells moves row stack n) (added moves row stack n (slice_get stack n)) place in
    let before = row_none moves row stack n place (λ k name lt e. none k name (omega arith) e) in
    let last = added_none moves row stack n (slice_get stack n) place refl (λ name e. none n name (omega arith) e) in
    omega (arith, both, before, last)

-- one of them does
row_one : (moves : List SaidMove) (row : ℕ) (stack : Stack) (n t : ℕ) (name : List ℕ) (place : Place) → slice_get stack t ≡ Some name → row ≡ place.row → suc t ≡ place.tier → t < n
    → count_at (row_cells moves row stack n) place ≡ 1
row_one moves row stack zero t name place e same tier lt = absurd (omega arith)
row_one moves row stack (suc n) t name place e same tier lt =
    let both = count_append (row_cells moves row stack n) (added moves row stack n (slice_get stack n)) place in
    elim (eqb_tells t n) [
      | inl h ↦
          let here : t ≡ n = h.1 in
          let before = row_none moves row stack n place (λ k other less at up. let no : ⊥ = omega arith in no) in
          let last = added_here moves row stack n name place (ap (slice_get stack) (sym here) ∙ e) same (ap suc (sym here) ∙ tier) in
          omega (arith, both, before, last)
      | inr h ↦
          let apart : t ≢ n = h.1 in
          let less : t < n = omega arith in
          let before = row_one moves row stack n t name place e same tier less in
          let last = added_none moves row stack n (slice_get stack n) place refl (λ other at up. apart (omega arith)) in
          omega (arith, both, before, last)
    ]

row_by : (moves : List SaidMove) (row : ℕ) (stack : Stack) (t : ℕ) (o : Option (List ℕ)) (place : Place) → slice_get stack t ≡ o → row ≡ place.row → suc t ≡ place.tier
    → count_at (row_cells moves row stack (length stack)) place ≡ one_if (is_some o)
row_by moves row stack t None place e same tier =
    row_none moves row stack (length stack) place
    (λ k name lt at up. let there : t ≡ k = omega arith in none-some name (sym e ∙ ap (slice_get stack) there ∙ at))
row_by moves row stack t (Some name) place e same tier = row_one moves row stack (length stack) t name place e same tier (slice_get_within stack t name e)

row_all : (moves : List SaidMove) (row : ℕ) (stack : Stack) (t : ℕ) (place : Place) → row ≡ place.row → place.tier ≡ t → count_at (row_cells moves row stack (length stack)) place ≡ one_if (is_some (at_tier stack t))
row_all moves row stack zero place same e = row_none moves row stack (length stack) place (λ k name lt at up. let no : ⊥ = omega arith in no)
row_all moves row stack (suc t) place same e = row_by moves row stack t (slice_get stack t) place refl same (sym e)

-- ---- all rows

abbrev the_row : List SaidMove → List Stack → ℕ → List Cell
the_row moves rows r = row_cells moves (suc r) (stack_in rows (suc r)) (length (stack_in rows (suc r)))

to_none : (moves : List SaidMove) (rows : List Stack) (n : ℕ) (place : Place) → ((k : ℕ) → k < n → suc k ≢ place.row) → count_at (cells_to moves rows n) place ≡ 0
to_none moves rows zero place none = refl
to_none moves rows (suc n) place none =
    let both = count_append (cells_to moves rows n) (the_row moves rows n) place in
    let before = to_none moves rows n place (λ k lt. none k (omega arith)) in
    let last = row_elsewhere moves (suc n) (stack_in rows (suc n)) (length (stack_in rows (suc n))) place (none n (omega arith)) in
    omega (arith, both, before, last)

to_one : (moves : List SaidMove) (rows : List Stack) (n r : ℕ) (place : Place) → suc r ≡ place.row → r < n → count_at (cells_to moves rows n) place ≡ count_at (the_row moves rows r) place
to_one moves rows zero r place e lt = absurd (omega arith)
to_one moves rows (suc n) r place e lt =
    let both = count_append (cells_to moves rows n) (the_row moves rows n) place in
    elim (eqb_tells r n) [
      | inl h ↦
          let here : r ≡ n = h.1 in
          let before = to_none moves rows n place (λ k less up. let no : ⊥ = omega arith in no) in
          let last = ap (λ (k : ℕ). count_at (the_row moves rows k) place) here in
          omega (arith, both, before, last)
      | inr h ↦
          let apart : r ≢ n = h.1 in
          let less : r < n = omega arith in
          let before = to_one moves rows n r place e less in
          let last = row_elsewhere moves (suc n) (stack_in rows (suc n)) (length (stack_in rows (suc n))) place (λ up. apart (omega arith)) in
          omega (arith, both, before, last)
    ]

empty_tier : (t : ℕ) → one_if (is_some (at_tier [] t)) ≡ 0
empty_tier zero = refl
empty_tier (suc t) = refl

whole : (moves : List SaidMove) (rows : List Stack) (place : Place) (r : ℕ) → place.row ≡ r → count_at (cells_of moves rows) place ≡ one_if (is_some (at_tier (stack_in rows r) place.tier))
whole moves rows place zero e = to_none moves rows (length rows) place (λ k lt up. let no : ⊥ = omega arith in no) ∙ sym (empty_tier place.tier)
whole moves rows place (suc r) e =
    elim ((slice_get_cases rows r).1) [
      | inl h ↦ to_one moves rows (length rows) r place (sym e) h.1 ∙ row_all moves (suc r) (stack_in rows (suc r)) place.tier place (sym e) refl
      | inr h ↦
          let past : length rows ≤ r = h.0 in
          to_none moves rows (length rows) place (λ k lt up. let no : ⊥ = omega arith in no)
          ∙ sym (ap (λ (o : Option Stack). one_if (is_some (at_tier (unwrap_or o []) place.tier))) h.1 ∙ empty_tier place.tier)
    ]

pub drawn_once : (moves : List SaidMove) (rows : List Stack) (place : Place) → times_among (cells_of moves rows) place boxes ≡ one_if (is_some (standing_at rows place))
drawn_once moves rows place = all_once (cells_of moves rows) place ∙ whole moves rows place place.row refl

-- ---- a frame

count_shown : (moves : List StatedMove) (cells : List Cell) (place : Place) → count_at (map (shown_in moves) cells) place ≡ count_at cells place
count_shown moves [] place = refl
count_shown moves (c ∷ cells) place = ap (λ n. one_if (is_at c place) + n) (count_shown moves cells place)

goal_once : (all : List SaidMove) (rows : List Stack) (said : SaidMove) (place : Place) → count_at (goal_of all rows said) place ≡ one_if (puts_at rows said place)
goal_once all rows (Shift from to container) place = let one : (n : ℕ) → n + 0 ≡ n = λ n. omega arith in one (one_if (puts_at rows (Shift from to container) place))
goal_once all rows (Take from container) place = refl

goals_once : (all : List SaidMove) (rows : List Stack) (moves : List StatedMove) (place : Place) → count_at (goals all rows moves) place ≡ one_if (goal_is_at rows moves place)
goals_once all rows [] place = refl
goals_once all rows (m ∷ moves) place = goal_once all rows m.said place

pub frame_once : (all : List SaidMove) (f : Frame) (place : Place)
    → times_among (frame_cells all f) place boxes ≡ one_if (is_some (standing_at f.before place)) + one_if (goal_is_at f.before f.moves place)
frame_once all f place =
    all_once (frame_cells all f) place ∙ count_shown f.moves (cells_of all f.before ++ goals all f.before f.moves) place ∙ count_append (cells_of all f.before) (goals all f.before f.moves) place
    ∙ ap (λ n. n + count_at (goals all f.before f.moves) place) (whole all f.before place place.row refl) ∙ ap (λ n. one_if (is_some (standing_at f.before place)) + n) (goals_once all f.before f.moves place)
