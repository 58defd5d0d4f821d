-- One record more of a table.
use Rattle.std.proofs.Common.{◌≡◌, ◌∙◌, ℕ, suc, ◌+◌, ◌<◌, arith, List, [], ◌∷◌, ◌++◌, length, map, take, drop, get_or, sym, ap, append_assoc}
use Rattle.std.proofs.lemmas.List.{map-append, take_more, drop_more, flat_map_more}
use Rattle.crp_plan.specs.BayNames.{YardBay}
use Rattle.crp_yard.specs.Text.{text_of_records}
use Rattle.crp_follow.specs.declared.columns.Columns.{Columns}
use Rattle.crp_follow.specs.declared.stated.StatedMove.{StatedMove}
use Rattle.crp_follow.specs.Stated.{moves_of}
use Rattle.crp_follow.specs.Table.{MoveColumns, columns_at, columns_from, record_text}
use Rattle.crp_follow.specs.Views.{columns_as}

-- the columns of one move more
pub move_more : (bay : YardBay) (count : ℕ) (takes : List (ℕ × List ℕ)) (moves : List StatedMove) (i : ℕ) (m : StatedMove) (old new : List Columns) (made : Columns) (all : List MoveColumns)
    → i < length moves → m ≡ get_or moves i m → map columns_as old ++ columns_from bay count takes (suc i) (moves_of (drop i moves)) ≡ all → new ≡ old ++ made ∷ []
    → columns_as made ≡ columns_at bay count takes (i + 1) m.said → map columns_as new ++ columns_from bay count takes (suc (i + 1)) (moves_of (drop (i + 1) moves)) ≡ all
move_more bay count takes moves i m old new made all lt at before longer is =
    let rest = columns_from bay count takes (suc (i + 1)) (moves_of (drop (i + 1) moves)) in
    let next : i + 1 ≡ suc i = omega arith in
    let left : drop i moves ≡ m ∷ drop (i + 1) moves = drop_more moves i m lt ∙ ap (λ y. y ∷ drop (i + 1) moves) (sym at) in
    let own : columns_as made ∷ rest ≡ columns_from bay count takes (suc i) (moves_of (drop i moves)) =
    ap (λ c. c ∷ rest) is ∙ ap (λ n. columns_at bay count takes n m.said ∷ columns_from bay count takes (suc n) (moves_of (drop (i + 1) moves))) next
    ∙ sym (ap (λ l. columns_from bay count takes (suc i) (moves_of l)) left) in
    ap (λ l. map columns_as l ++ rest) longer ∙ ap (λ l. l ++ rest) (map-append columns_as old (made ∷ [])) ∙ append_assoc (map columns_as old) (columns_as made ∷ []) rest
    ∙ ap (λ l. map columns_as old ++ l) own ∙ before

-- the text of one record more, where records are made of these
pub record_more : {X Y : Type 0} (view : X → Y) (fields : Y → List (List ℕ)) (names : List (List ℕ)) (xs : List X) (i : ℕ) (x : X) (old new : List ℕ) → i < length xs → x ≡ get_or xs i x
    → old ≡ text_of_records (names ∷ map fields (map view (take i xs))) → new ≡ old ++ record_text (fields (view x)) → new ≡ text_of_records (names ∷ map fields (map view (take (i + 1) xs)))
record_more view fields names xs i x old new lt at is longer =
    let more : take (i + 1) xs ≡ take i xs ++ x ∷ [] = take_more xs i x lt ∙ ap (λ y. take i xs ++ y ∷ []) (sym at) in
    longer ∙ ap (λ t. t ++ record_text (fields (view x))) is ∙ flat_map_more record_text (record_text names) (map fields (map view (take i xs))) (fields (view x))
    ∙ ap (λ l. text_of_records (names ∷ l)) (sym (map-append fields (map view (take i xs)) (view x ∷ [])))
    ∙ ap (λ l. text_of_records (names ∷ map fields l)) (sym (ap (map view) more ∙ map-append view (take i xs) (x ∷ [])))
