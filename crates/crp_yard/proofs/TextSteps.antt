-- The text of one container, one stack or one bay more.
use Rattle.std.proofs.Common.{◌≡◌, ◌<◌, ◌≤◌, ◌+◌, ℕ, suc, List, [], ◌∷◌, ◌++◌, take, length, get_or, Some, refl, sym, ap, ◌∙◌, arith, append_assoc, append-nil, add-one}
use Rattle.std.specs.Prelude.{slice_get}
use Rattle.std.proofs.lemmas.List.{take_more, length-take-le}
use Rattle.std.proofs.lemmas.List.Concat.{flat_map-append}
use Rattle.csv.specs.Writing.{default_writer, row_text}
use Rattle.crp_plan.specs.BayNames.{YardBay}
use Rattle.crp_yard.specs.Inventory.{StackedBay}
use Rattle.crp_yard.specs.Text.{fields_at, records_of_stack, records_of_rows, records_of_yard, text_of_records}
use Rattle.crp_yard.proofs.BuildingSteps.{take_next}

text-append : (xs ys : List (List (List ℕ))) → text_of_records (xs ++ ys) ≡ text_of_records xs ++ text_of_records ys
text-append xs ys = flat_map-append (λ fields. row_text default_writer fields) xs ys

stack-push : (bay : YardBay) (row tier : ℕ) (stack : List (List ℕ)) (x : List ℕ) → records_of_stack bay row tier (stack ++ x ∷ []) ≡ records_of_stack bay row tier stack ++ fields_at bay row (tier + length stack) x ∷ []
stack-push bay row tier [] x = let same : tier ≡ tier + 0 = omega arith in ap (λ t. fields_at bay row t x ∷ []) same
stack-push bay row tier (y ∷ stack) x =
    let same : suc tier + length stack ≡ tier + suc (length stack) = omega arith in
    rw (stack-push bay row (suc tier) stack x, same) refl

rows-push : (bay : YardBay) (row : ℕ) (stacks : List (List (List ℕ))) (x : List (List ℕ)) → records_of_rows bay row (stacks ++ x ∷ []) ≡ records_of_rows bay row stacks ++ records_of_stack bay (row + length stacks) 1 x
rows-push bay row [] x = let same : row ≡ row + 0 = omega arith in append-nil (records_of_stack bay row 1 x) ∙ ap (λ r. records_of_stack bay r 1 x) same
rows-push bay row (y ∷ stacks) x =
    let same : suc row + length stacks ≡ row + suc (length stacks) = omega arith in
    rw (rows-push bay (suc row) stacks x, same) (sym (append_assoc (records_of_stack bay row 1 y) (records_of_rows bay (suc row) stacks) (records_of_stack bay (row + suc (length stacks)) 1 x)))

-- one piece more of a text
piece : (new text init a b : List ℕ) (all more : List (List (List ℕ))) → new ≡ text ++ b → text ≡ init ++ text_of_records all → b ≡ text_of_records more → new ≡ init ++ text_of_records (all ++ more)
piece new text init a b all more e is same = rw (e, is, same, text-append all more) (append_assoc init (text_of_records all) (text_of_records more))

module _ (bay : YardBay) (init text new : List ℕ) where
  pub container-more : (row : ℕ) (stack : List (List ℕ)) (i : ℕ) (x : List ℕ) → i < length stack → x ≡ get_or stack i x → text ≡ init ++ text_of_records (records_of_stack bay row 1 (take i stack))
      → new ≡ text ++ row_text default_writer (fields_at bay row (i + 1) x) → new ≡ init ++ text_of_records (records_of_stack bay row 1 (take (i + 1) stack))
  container-more row stack i x within at is e =
      let short : i ≤ length stack = omega arith in
      let tier : 1 + length (take i stack) ≡ i + 1 = omega (arith, length-take-le i stack short) in
      let last = row_text default_writer (fields_at bay row (i + 1) x) in
      let own : last ≡ text_of_records (fields_at bay row (i + 1) x ∷ []) = sym (append-nil last) in
      rw (take_more stack i x within, ← at, stack-push bay row 1 (take i stack) x, tier)
      (piece new text init [] last (records_of_stack bay row 1 (take i stack)) (fields_at bay row (i + 1) x ∷ []) e is own)

  pub stack-more : (stacks : List (List (List ℕ))) (i : ℕ) (x : List (List ℕ)) → i < length stacks → x ≡ get_or stacks i x → text ≡ init ++ text_of_records (records_of_rows bay 1 (take i stacks))
      → new ≡ text ++ text_of_records (records_of_stack bay (i + 1) 1 x) → new ≡ init ++ text_of_records (records_of_rows bay 1 (take (i + 1) stacks))
  stack-more stacks i x within at is e =
      let short : i ≤ length stacks = omega arith in
      let row : 1 + length (take i stacks) ≡ i + 1 = omega (arith, length-take-le i stacks short) in
      rw (take_more stacks i x within, ← at, rows-push bay 1 (take i stacks) x, row)
      (piece new text init [] (text_of_records (records_of_stack bay (i + 1) 1 x)) (records_of_rows bay 1 (take i stacks)) (records_of_stack bay (i + 1) 1 x) e is refl)

pub bay-more : (bays : List StackedBay) (i : ℕ) (bay : StackedBay) (text new : List ℕ) → slice_get bays i ≡ Some bay → text ≡ text_of_records (records_of_yard (take i bays))
    → new ≡ text ++ text_of_records (records_of_rows bay.0 1 bay.1) → new ≡ text_of_records (records_of_yard (take (i + 1) bays))
bay-more bays i bay text new at is e =
    let own = records_of_rows bay.0 1 bay.1 in
    let all : records_of_yard (take (i + 1) bays) ≡ records_of_yard (take i bays) ++ own =
    rw (add-one i, take_next bays i bay at, flat_map-append (λ (b : StackedBay). records_of_rows b.0 1 b.1) (take i bays) (bay ∷ []), append-nil own) refl in
    piece new text [] [] (text_of_records own) (records_of_yard (take i bays)) own e is refl ∙ sym (ap text_of_records all)
