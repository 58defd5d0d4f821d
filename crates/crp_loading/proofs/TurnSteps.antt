-- Records that are sorted by their turns.
use Rattle.std.proofs.Common.{◌≡◌, ◌∙◌, ℕ, ◌<◌, Bool, true, false, cond, List, [], ◌∷◌, ◌++◌, map, refl, ap}
use Rattle.std.specs.Prelude.{filter, flat_map, unwrap_or}
use Rattle.std.specs.Ordering.{nat_cmp}
use Rattle.std.specs.List.{AllByRecursion, range_with_len}
use Rattle.std.specs.List.Sorted.{IsNonDecreasingBy, IsPermutation, IsStableByKey}
use Rattle.std.proofs.lemmas.List.{map-append}
use Rattle.std.proofs.lemmas.List.Elements.{recursion_from_All, All-from_recursion}
use Rattle.std.proofs.lemmas.List.Sorted.{All-permutation}
use Rattle.crp_loading.specs.declared.recording.TurnColumns.{TurnColumns}
use Rattle.crp_loading.specs.Loading.{TurnRecord, is_turn, is_no_turn, by_turns}
use Rattle.crp_loading.specs.Views.{recorded, AreTurns}
use Rattle.crp_loading.proofs.Buckets.{IsGood, firsts, sorted_are}

map-filter : {X Y : Type 0} (f : X → Y) (p : Y → Bool) (xs : List X) → map f (filter (λ x. p (f x)) xs) ≡ filter p (map f xs)
map-filter f p [] = refl
map-filter f p (x ∷ xs) = go (p (f x)) (map-filter f p xs)
  where
    go : (b : Bool) → map f (filter (λ y. p (f y)) xs) ≡ filter p (map f xs) → map f (cond b (x ∷ filter (λ y. p (f y)) xs) (filter (λ y. p (f y)) xs)) ≡ cond b (f x ∷ filter p (map f xs)) (filter p (map f xs))
    go true rest = ap (λ l. f x ∷ l) rest
    go false rest = rest

map-filters : {X Y : Type 0} (f : X → Y) (p : ℕ → Y → Bool) (xs : List X) (ks : List ℕ)
    → map f (flat_map (λ k. filter (λ x. p k (f x)) xs) ks) ≡ flat_map (λ k. filter (p k) (map f xs)) ks
map-filters f p xs [] = refl
map-filters f p xs (k ∷ ks) =
    map-append f (filter (λ x. p k (f x)) xs) (flat_map (λ k. filter (λ x. p k (f x)) xs) ks)
    ∙ ap (λ l. l ++ map f (flat_map (λ k. filter (λ x. p k (f x)) xs) ks)) (map-filter f (p k) xs) ∙ ap (λ l. filter (p k) (map f xs) ++ l) (map-filters f p xs ks)

good_columns : (turns : ℕ) (xs : List TurnColumns) → AreTurns turns (map recorded xs) → AllByRecursion (λ (c : TurnColumns). IsGood turns c.turn) xs
good_columns turns [] good = tt
good_columns turns (x ∷ xs) good = (good.0, good_columns turns xs good.1)

pub sorted_by_turns : (turns top : ℕ) (xs ys : List TurnColumns) → turns < top → AreTurns turns (map recorded xs) → IsPermutation xs ys → IsNonDecreasingBy (λ c. unwrap_or c.turn top) ys
    → IsStableByKey (λ (c : TurnColumns). unwrap_or c.turn top) nat_cmp xs ys → map recorded ys ≡ by_turns turns (map recorded xs)
sorted_by_turns turns top xs ys high good same rising stable =
    let turn = λ (c : TurnColumns). c.turn in
    let fine = good_columns turns xs good in
    let all = recursion_from_All (λ (c : TurnColumns). IsGood turns c.turn) ys (All-permutation (λ (c : TurnColumns). IsGood turns c.turn) xs ys same (All-from_recursion (λ (c : TurnColumns). IsGood turns c.turn) xs fine)) in
    let none = filter (λ (c : TurnColumns). is_no_turn c.turn) xs in
    ap (map recorded) (sorted_are turn turns top high xs ys fine all rising stable)
    ∙ map-append recorded (firsts turn turns top high turns xs) none
    ∙ ap (λ l. l ++ map recorded none) (map-filters recorded (λ k (r : TurnRecord). is_turn k r.turn) xs (range_with_len 1 turns))
    ∙ ap (λ l. flat_map (λ k. filter (λ (r : TurnRecord). is_turn k r.turn) (map recorded xs)) (range_with_len 1 turns) ++ l) (map-filter recorded (λ (r : TurnRecord). is_no_turn r.turn) xs)
