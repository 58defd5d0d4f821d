-- Moves that are sorted by turns, turn by turn.
use Rattle.std.proofs.Common.{◌≡◌, ◌∙◌, ℕ, zero, suc, ◌+◌, ◌-◌, ◌<◌, ◌≤◌, ◌==◌, arith, Bool, true, false, cond, Option, Some, None, List, [], ◌∷◌, ◌++◌, length, map, take, drop, get_or, refl, sym, ap, append_assoc}
use Rattle.std.specs.Prelude.{filter, flat_map, codes}
use Rattle.std.specs.List.{AllByRecursion, range_with_len}
use Rattle.std.proofs.lemmas.Bool.{false≢true}
use Rattle.std.proofs.lemmas.Bool.Decides.{nat_tests}
use Rattle.std.proofs.lemmas.List.{drop_more, take_all, length-map, length-drop}
use Rattle.std.specs.List.{take-map, drop-map}
use Rattle.std.proofs.Math.Seq.{take-append_seam, drop-append_seam}
use Rattle.crp_movins.specs.declared.slot.Slot.{Slot}
use Rattle.crp_loading.specs.declared.recording.TurnColumns.{TurnColumns}
use Rattle.crp_loading.specs.Turns.{ShipOrder, slot_for}
use Rattle.crp_loading.specs.Loading.{TurnRecord, is_turn, is_no_turn, by_turns}
use Rattle.crp_loading.specs.Views.{recorded}
use Rattle.crp_page.specs.Numbered.{numbered_text}
use Rattle.crp_page.specs.Turns.{leading, moves_at, moves_behind, taken_words, relocations_words, turn_words, behind_item, behind_part, turn_text, turn_item}
use Rattle.crp_page.proofs.Numbering.{added_next}

-- ---- where there are moves

pub some_done : (xs : List TurnColumns) (t : Bool) → t ≡ (length xs == 0) → t ≡ false
    → turn_words (map recorded xs) ≡ flat_map taken_words (map recorded xs) ++ (codes "; relocations before it: " ++ relocations_words (map recorded xs))
some_done [] t is none = absurd (false≢true (sym none ∙ is))
some_done (x ∷ xs) t is none = refl

pub some_behind : (xs : List TurnColumns) (t : Bool) → t ≡ (length xs == 0) → t ≡ false
    → behind_part (map recorded xs) ≡ codes "<p>Behind the last take of the bay:</p><ol style=\"columns:auto;padding-left:3.5em\">\n" ++ (flat_map behind_item (map recorded xs) ++ codes "</ol>")
some_behind [] t is none = absurd (false≢true (sym none ∙ is))
some_behind (x ∷ xs) t is none = refl

-- ---- the first moves of one turn

at_item : (n : ℕ) (xs : List TurnColumns) (i : ℕ) (x : TurnColumns) → i < length xs → x ≡ get_or xs i x
    → leading n (map recorded (drop i xs)) ≡ cond (is_turn n x.turn) (suc (leading n (map recorded (drop (i + 1) xs)))) 0
at_item n xs i x lt at = ap (λ l. leading n (map recorded l)) (drop_more xs i x lt ∙ ap (λ y. y ∷ drop (i + 1) xs) (sym at))

pub one_leads : (n : ℕ) (xs : List TurnColumns) (i : ℕ) (x : TurnColumns) → i < length xs → x ≡ get_or xs i x → leading n (map recorded xs) ≡ i + leading n (map recorded (drop i xs))
    → is_turn n x.turn ≡ true → leading n (map recorded xs) ≡ (i + 1) + leading n (map recorded (drop (i + 1) xs))
one_leads n xs i x lt at so is =
    let next : leading n (map recorded (drop i xs)) ≡ suc (leading n (map recorded (drop (i + 1) xs))) =
    at_item n xs i x lt at ∙ ap (λ b. cond b (suc (leading n (map recorded (drop (i + 1) xs)))) 0) is in
    omega (arith, so, next)

pub none_leads : (n : ℕ) (xs : List TurnColumns) (i : ℕ) (x : TurnColumns) → i < length xs → x ≡ get_or xs i x → leading n (map recorded xs) ≡ i + leading n (map recorded (drop i xs))
    → is_turn n x.turn ≡ false → i ≡ leading n (map recorded xs)
none_leads n xs i x lt at so is =
    let last : leading n (map recorded (drop i xs)) ≡ 0 = at_item n xs i x lt at ∙ ap (λ b. cond b (suc (leading n (map recorded (drop (i + 1) xs)))) 0) is in
    omega (arith, so, last)

few_lead : (n : ℕ) (moves : List TurnRecord) → leading n moves ≤ length moves
few_lead n [] = omega arith
few_lead n (r ∷ moves) = go (is_turn n r.turn) (few_lead n moves)
  where
    go : (b : Bool) → leading n moves ≤ length moves → cond b (suc (leading n moves)) 0 ≤ suc (length moves)
    go true le = omega (arith, le)
    go false le = omega arith

pub all_led : (n : ℕ) (xs : List TurnColumns) (i : ℕ) → length xs ≤ i → leading n (map recorded xs) ≡ i + leading n (map recorded (drop i xs)) → length xs ≡ leading n (map recorded xs)
all_led n xs i ge so =
    let few = few_lead n (map recorded xs) in
    let same = length-map xs recorded in
    omega (arith, so, few, same, ge)

-- all of these lead, and none behind them
all_lead : (n : ℕ) (these later : List TurnRecord) → AllByRecursion (λ r. is_turn n r.turn ≡ true) these → AllByRecursion (λ r. is_turn n r.turn ≡ false) later → leading n (these ++ later) ≡ length these
all_lead n [] [] have lack = refl
all_lead n [] (r ∷ later) have lack = rw (lack.0) refl
all_lead n (r ∷ these) later have lack = rw (have.0) (ap suc (all_lead n these later have.1 lack))

parted : (n k : ℕ) (xs front back : List TurnColumns) (these later : List TurnRecord) → k ≡ leading n (map recorded xs) → front ≡ take k xs → back ≡ drop k xs → map recorded xs ≡ these ++ later
    → AllByRecursion (λ r. is_turn n r.turn ≡ true) these → AllByRecursion (λ r. is_turn n r.turn ≡ false) later → (map recorded front ≡ these) × (map recorded back ≡ later)
parted n k xs front back these later count front_is back_is all have lack =
    let so_many : k ≡ length these = count ∙ ap (leading n) all ∙ all_lead n these later have lack in (
      ap (map recorded) front_is ∙ sym (take-map recorded k xs) ∙ ap (take k) all ∙ ap (λ j. take j (these ++ later)) so_many ∙ take-append_seam these later,
      ap (map recorded) back_is ∙ sym (drop-map recorded k xs) ∙ ap (drop k) all ∙ ap (λ j. drop j (these ++ later)) so_many ∙ drop-append_seam these later,
    )

-- what is left of a list behind so many, as a range of it
pub rest_is : (k : ℕ) (xs : List TurnColumns) → drop k xs ≡ take (length xs - k) (drop k xs)
rest_is k xs = sym (take_all (length xs - k) (drop k xs) (omega (arith, length-drop k xs)))

pub fewer_left : (k : ℕ) (xs : List TurnColumns) → length (take (length xs - k) (drop k xs)) ≤ length xs
fewer_left k xs = omega (arith, length-drop k xs, ap length (rest_is k xs))

-- ---- what is kept has the turn, and what is still to come has not

kept : (P : TurnRecord → Type 0) (p : TurnRecord → Bool) → ((r : TurnRecord) → p r ≡ true → P r) → (records : List TurnRecord) → AllByRecursion P (filter p records)
kept P p f [] = tt
kept P p f (r ∷ records) = go (p r) refl (kept P p f records)
  where
    go : (b : Bool) → p r ≡ b → AllByRecursion P (filter p records) → AllByRecursion P (cond b (r ∷ filter p records) (filter p records))
    go true e rest = (f r e, rest)
    go false e rest = rest

both : (P : TurnRecord → Type 0) (xs ys : List TurnRecord) → AllByRecursion P xs → AllByRecursion P ys → AllByRecursion P (xs ++ ys)
both P [] ys a b = b
both P (x ∷ xs) ys a b = (a.0, both P xs ys a.1 b)

other_turn : (n m : ℕ) (turn : Option ℕ) → n < m → is_turn m turn ≡ true → is_turn n turn ≡ false
other_turn n m None lt e = refl
other_turn n m (Some t) lt e = grind (arith, nat_tests)

no_turn : (n : ℕ) (turn : Option ℕ) → is_no_turn turn ≡ true → is_turn n turn ≡ false
no_turn n None e = refl
no_turn n (Some t) e = absurd (false≢true e)

-- the moves of so many turns, from this one, and those of none
abbrev pub still : ℕ → ℕ → List TurnRecord → List TurnRecord
still from count records = flat_map (λ n. moves_at n records) (range_with_len from count) ++ moves_behind records

none_has : (n from count : ℕ) (records : List TurnRecord) → n < from → AllByRecursion (λ r. is_turn n r.turn ≡ false) (still from count records)
none_has n from count records lt =
    both (λ r. is_turn n r.turn ≡ false) (flat_map (λ m. moves_at m records) (range_with_len from count)) (moves_behind records) (turns from count lt)
    (kept (λ r. is_turn n r.turn ≡ false) (λ r. is_no_turn r.turn) (λ r e. no_turn n r.turn e) records)
  where
    turns : (m k : ℕ) → n < m → AllByRecursion (λ (r : TurnRecord). is_turn n r.turn ≡ false) (flat_map (λ j. moves_at j records) (range_with_len m k))
    turns m zero low = tt
    turns m (suc k) low =
        both (λ r. is_turn n r.turn ≡ false) (moves_at m records) (flat_map (λ j. moves_at j records) (range_with_len (m + 1) k))
        (kept (λ r. is_turn n r.turn ≡ false) (λ r. is_turn m r.turn) (λ r e. other_turn n m r.turn low e) records) (turns (m + 1) k (omega arith))

all_have : (n : ℕ) (records : List TurnRecord) → AllByRecursion (λ r. is_turn n r.turn ≡ true) (moves_at n records)
all_have n records = kept (λ r. is_turn n r.turn ≡ true) (λ r. is_turn n r.turn) (λ r e. e) records

next_turn : (i turns : ℕ) (records : List TurnRecord) → i < turns → still (i + 1) (turns - i) records ≡ moves_at (i + 1) records ++ still (i + 1 + 1) (turns - (i + 1)) records
next_turn i turns records lt =
    let one : turns - i ≡ suc (turns - (i + 1)) = omega arith in
    ap (λ k. still (i + 1) k records) one
    ∙ append_assoc (moves_at (i + 1) records) (flat_map (λ n. moves_at n records) (range_with_len (i + 1 + 1) (turns - (i + 1)))) (moves_behind records)

-- ---- the turns so far

-- their items are added, and the moves of the others are left
pub record IsSoFar (ship : ShipOrder) (records : List TurnRecord) (before text : List ℕ) (rest : List TurnColumns) (i : ℕ) : Type 0 where
  pub added : text ≡ before ++ numbered_text (turn_item ship.orders records) 1 (take i ship.sequence)
  pub left : map recorded rest ≡ still (i + 1) (length ship.sequence - i) records

pub none_yet : (ship : ShipOrder) (records : List TurnRecord) (text : List ℕ) (moves : List TurnColumns) → map recorded moves ≡ by_turns (length ship.sequence) records → text ≡ text ++ []
    → IsSoFar ship records text text moves 0
none_yet ship records text moves sorted same =
    let all : length ship.sequence ≡ length ship.sequence - 0 = omega arith in
    record { added = same; left = sorted ∙ ap (λ k. still 1 k records) all }

pub one_turn : (ship : ShipOrder) (records : List TurnRecord) (before text new : List ℕ) (rest front back : List TurnColumns) (i k : ℕ) (name : List ℕ) (slot : Option Slot) → i < length ship.sequence
    → name ≡ get_or ship.sequence i name → slot ≡ slot_for ship.orders name → IsSoFar ship records before text rest i → k ≡ leading (i + 1) (map recorded rest) → front ≡ take k rest → back ≡ drop k rest
    → new ≡ text ++ turn_text slot name (map recorded front) → IsSoFar ship records before new back (i + 1)
one_turn ship records before text new rest front back i k name slot lt at slot_is so count front_is back_is push =
    let parts = parted (i + 1) k rest front back (moves_at (i + 1) records) (still (i + 1 + 1) (length ship.sequence - (i + 1)) records) count front_is back_is
    (so.left ∙ next_turn i (length ship.sequence) records lt) (all_have (i + 1) records) (none_has (i + 1) (i + 1 + 1) (length ship.sequence - (i + 1)) records (omega arith)) in
    record {
      added = added_next (turn_item ship.orders records) ship.sequence i name before text new lt at so.added
          (push ∙ ap (λ s. text ++ turn_text s name (map recorded front)) slot_is ∙ ap (λ moves. text ++ turn_text (slot_for ship.orders name) name moves) parts.0);
      left = parts.1;
    }

pub all_turns : (ship : ShipOrder) (records : List TurnRecord) (before text : List ℕ) (rest : List TurnColumns) (i : ℕ) → length ship.sequence ≤ i → IsSoFar ship records before text rest i
    → (text ≡ before ++ numbered_text (turn_item ship.orders records) 1 ship.sequence) × (map recorded rest ≡ moves_behind records)
all_turns ship records before text rest i le so =
    let none : length ship.sequence - i ≡ 0 = omega arith in
    (so.added ∙ ap (λ l. before ++ numbered_text (turn_item ship.orders records) 1 l) (take_all i ship.sequence le), so.left ∙ ap (λ k. still (i + 1) k records) none)
