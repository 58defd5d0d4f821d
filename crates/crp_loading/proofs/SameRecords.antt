-- The records of the table.
use Rattle.std.proofs.Common.{◌≡◌, ◌∙◌, ℕ, zero, suc, ◌+◌, ◌≤◌, arith, Bool, true, false, cond, Option, Some, None, List, [], ◌∷◌, ◌++◌, length, map, take, nat_le, append-nil, refl, ap}
use Rattle.std.specs.Prelude.{filter, flat_map, sum_by, IfSome}
use Rattle.std.specs.List.{range_with_len}
use Rattle.std.proofs.lemmas.List.Concat.{flat_map-append}
use Rattle.std.proofs.lemmas.Bool.Decides.{nat_tests}
use Rattle.std.proofs.lemmas.List.Sums.{sum_by-cons, sum_by-append}
use Rattle.crp_movins.specs.declared.order.Order.{Order}
use Rattle.crp_follow.specs.Followed.{BayFollowed}
use Rattle.crp_follow.specs.Table.{MoveColumns, columns_of}
use Rattle.crp_follow.specs.Table as table
use Rattle.crp_loading.specs.Loading.{TurnRecord, is_turn, is_no_turn, record_at, turn_fields, records_of, by_turns}
use Rattle.crp_loading.specs.Views.{AreTurns}
use Rattle.crp_loading.proofs.Buckets.{one_more}
use Rattle.crp_loading.proofs.RecordSteps.{are_turns}

-- ---- the columns of the table of moves

-- the record of a move begins with that of the table of moves
begin_same : (sequence : List (List ℕ)) (orders : List Order) (moves : List MoveColumns) → map (λ r. take 12 (turn_fields r)) (map (record_at sequence orders) moves) ≡ map table.fields_of moves
begin_same sequence orders [] = refl
begin_same sequence orders (c ∷ moves) = ap (λ l. table.fields_of c ∷ l) (begin_same sequence orders moves)

pub columns_same : (sequence : List (List ℕ)) (orders : List Order) (bays : List BayFollowed) → map (λ r. take 12 (turn_fields r)) (records_of sequence orders bays) ≡ table.records_of bays
columns_same sequence orders bays = begin_same sequence orders (columns_of bays)

-- ---- each record once

module _ (count : TurnRecord → ℕ) where
  kept_more : (p : TurnRecord → Bool) (r : TurnRecord) (records : List TurnRecord) → sum_by count (filter p (r ∷ records)) ≡ cond (p r) (count r) 0 + sum_by count (filter p records)
  kept_more p r records = go (p r)
    where
      go : (b : Bool) → sum_by count (cond b (r ∷ filter p records) (filter p records)) ≡ cond b (count r) 0 + sum_by count (filter p records)
      go true = sum_by-cons count r (filter p records)
      go false = omega arith

  -- what is counted of the records of the first n turns, and of those of none
  abbrev of_firsts : ℕ → List TurnRecord → ℕ
  of_firsts n records = sum_by count (flat_map (λ k. filter (λ (r : TurnRecord). is_turn k r.turn) records) (range_with_len 1 n))

  abbrev of_none : List TurnRecord → ℕ
  of_none records = sum_by count (filter (λ (r : TurnRecord). is_no_turn r.turn) records)

  one_turn_more : (n : ℕ) (records : List TurnRecord) → of_firsts (suc n) records ≡ of_firsts n records + sum_by count (filter (λ (r : TurnRecord). is_turn (suc n) r.turn) records)
  one_turn_more n records =
      let f = λ (k : ℕ). filter (λ (r : TurnRecord). is_turn k r.turn) records in
      ap (λ l. sum_by count (flat_map f l)) (one_more n)
      ∙ ap (sum_by count) (flat_map-append f (range_with_len 1 n) (suc n ∷ []) ∙ ap (λ l. flat_map f (range_with_len 1 n) ++ l) (append-nil (f (suc n))))
      ∙ sum_by-append count (flat_map f (range_with_len 1 n)) (f (suc n))

  -- a record counts among the first n turns where its turn is one of them
  abbrev is_among_first : ℕ → Option ℕ → Bool
  is_among_first n None = false
  is_among_first n (Some turn) = nat_le turn n

  no_first : (turn : Option ℕ) (weight : ℕ) → IfSome turn (λ t. 1 ≤ t) → cond (is_among_first 0 turn) weight 0 ≡ 0
  no_first None weight low = refl
  no_first (Some t) weight low = grind (arith, nat_tests)

  next_first : (n : ℕ) (turn : Option ℕ) (weight : ℕ) → cond (is_among_first (suc n) turn) weight 0 ≡ cond (is_among_first n turn) weight 0 + cond (is_turn (suc n) turn) weight 0
  next_first n None weight = refl
  next_first n (Some t) weight = grind (arith, nat_tests)

  firsts_more : (n : ℕ) (r : TurnRecord) (records : List TurnRecord) → IfSome r.turn (λ t. 1 ≤ t) → of_firsts n (r ∷ records) ≡ cond (is_among_first n r.turn) (count r) 0 + of_firsts n records
  firsts_more zero r records low = omega (arith, no_first r.turn (count r) low)
  firsts_more (suc n) r records low =
      omega (arith, one_turn_more n (r ∷ records), one_turn_more n records, firsts_more n r records low, kept_more (λ (x : TurnRecord). is_turn (suc n) x.turn) r records, next_first n r.turn (count r))

  either_one : (turns : ℕ) (turn : Option ℕ) (weight : ℕ) → IfSome turn (λ t. (1 ≤ t) × (t ≤ turns)) → cond (is_among_first turns turn) weight 0 + cond (is_no_turn turn) weight 0 ≡ weight
  either_one turns None weight good = omega arith
  either_one turns (Some t) weight good = grind (arith, nat_tests)

  from_one : (turns : ℕ) (turn : Option ℕ) → IfSome turn (λ t. (1 ≤ t) × (t ≤ turns)) → IfSome turn (λ t. 1 ≤ t)
  from_one turns None good = tt
  from_one turns (Some t) good = good.0

  no_records : (n : ℕ) → of_firsts n [] ≡ 0
  no_records zero = refl
  no_records (suc n) = omega (arith, one_turn_more n [], no_records n)

  all_count : (turns : ℕ) (records : List TurnRecord) → AreTurns turns records → of_firsts turns records + of_none records ≡ sum_by count records
  all_count turns [] good = omega (arith, no_records turns)
  all_count turns (r ∷ records) good =
      omega (
        arith,
        firsts_more turns r records (from_one turns r.turn good.0),
        kept_more (λ (x : TurnRecord). is_no_turn x.turn) r records,
        either_one turns r.turn (count r) good.0,
        all_count turns records good.1,
        sum_by-cons count r records,
      )

  pub counts_same : (sequence : List (List ℕ)) (orders : List Order) (bays : List BayFollowed)
      → sum_by count (by_turns (length sequence) (records_of sequence orders bays)) ≡ sum_by count (records_of sequence orders bays)
  counts_same sequence orders bays =
      let records = records_of sequence orders bays in
      sum_by-append count (flat_map (λ k. filter (λ (r : TurnRecord). is_turn k r.turn) records) (range_with_len 1 (length sequence))) (filter (λ (r : TurnRecord). is_no_turn r.turn) records)
      ∙ all_count (length sequence) records (are_turns sequence orders (columns_of bays))
