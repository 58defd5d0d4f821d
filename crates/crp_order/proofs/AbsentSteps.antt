-- The list of absent containers, and the first container that is alike, one step after the other.
use Rattle.std.proofs.Common.{◌≡◌, ◌<◌, ◌≤◌, ◌+◌, ℕ, suc, Bool, true, false, cond, List, [], ◌∷◌, ◌++◌, length, map, take, drop, get_or, Some, slice_get, refl, sym, ap, ◌∙◌, arith}
use Rattle.std.specs.Prelude.{filter, flat_map, not, option_map}
use denote.Ref.{Bor}
use Rattle.std.proofs.lemmas.Grind.{flat_map-append}
use Rattle.std.proofs.lemmas.Option.{slice_get_within, get_or_from_slice_get, slice_get-map, slice_get-get_or}
use Rattle.csv.specs.Writing.{default_writer, row_text}
use Rattle.std.proofs.lemmas.List.{take_more, length-take-le, append-nil, append_assoc, take-append-drop, drop_more, map-append}
use Rattle.std.proofs.lemmas.List.Elements.{filter-append}
use Rattle.crp_movins.specs.declared.order.Order.{Order}
use Rattle.crp_yard.specs.Inventory.{Inventory, StackedBay, stands, containers_of}
use Rattle.crp_order.specs.BayProblems.{standing}
use Rattle.crp_order.specs.Groups.{pointed}
use Rattle.crp_order.proofs.YardSteps.{take_next}
use Rattle.crp_yard.specs.Text.{text_of_records}
use Rattle.crp_order.specs.Absences.{header, Numbered, numbered_from, is_absent, fields_of, records_of, absent_text}

numbered-more : (n : ℕ) (xs : List Order) (x : Order) → numbered_from n (xs ++ x ∷ []) ≡ numbered_from n xs ++ (n + length xs, x) ∷ []
numbered-more n [] x = let e : n ≡ n + 0 = omega arith in ap (λ k. (k, x) ∷ []) e
numbered-more n (y ∷ xs) x =
    let e : suc n + length xs ≡ n + suc (length xs) = omega arith in
    ap (λ l. (n, y) ∷ l) (numbered-more (suc n) xs x ∙ ap (λ k. numbered_from (suc n) xs ++ (k, x) ∷ []) e)

one-filtered : (p : Numbered → Bool) (f : Numbered → List (List ℕ)) (x : Numbered) → map f (filter p (x ∷ [])) ≡ cond (p x) (f x ∷ []) []
one-filtered p f x = by (p x)
  where
    by : (b : Bool) → map f (cond b (x ∷ []) []) ≡ cond b (f x ∷ []) []
    by true = refl
    by false = refl

records-more : (yard : Inventory) (orders : List Order) (i : ℕ) (x : Order) → i < length orders → x ≡ get_or orders i x
    → records_of yard (take (i + 1) orders) ≡ records_of yard (take i orders) ++ cond (is_absent yard (i + 1, x)) (fields_of yard (i + 1, x) ∷ []) []
records-more yard orders i x within at =
    let numbers = numbered_from 1 (take i orders) in
    let taken : take (i + 1) orders ≡ take i orders ++ x ∷ [] = take_more orders i x within ∙ ap (λ y. take i orders ++ y ∷ []) (sym at) in
    let number : 1 + length (take i orders) ≡ i + 1 = omega (arith, length-take-le i orders (omega (arith, within))) in
    let numbered : numbered_from 1 (take (i + 1) orders) ≡ numbers ++ (i + 1, x) ∷ [] = ap (numbered_from 1) taken ∙ numbered-more 1 (take i orders) x ∙ ap (λ k. numbers ++ (k, x) ∷ []) number in
    ap (λ l. map (fields_of yard) (filter (is_absent yard) l)) numbered
    ∙ ap (map (fields_of yard)) (filter-append (is_absent yard) numbers ((i + 1, x) ∷ []))
    ∙ map-append (fields_of yard) (filter (is_absent yard) numbers) (filter (is_absent yard) ((i + 1, x) ∷ []))
    ∙ ap (λ l. records_of yard (take i orders) ++ l) (one-filtered (is_absent yard) (fields_of yard) (i + 1, x))

text-append : (records more : List (List (List ℕ))) → text_of_records (records ++ more) ≡ text_of_records records ++ text_of_records more
text-append [] more = refl
text-append (r ∷ records) more = ap (λ l. row_text default_writer r ++ l) (text-append records more) ∙ sym (append_assoc (row_text default_writer r) (text_of_records records) (text_of_records more))

-- an order whose container is not in the yard
pub absent-more : (yard : Inventory) (orders : List Order) (i : ℕ) (x : Order) (new : List ℕ) → i < length orders → x ≡ get_or orders i x → stands yard.bays x.container ≡ false
    → new ≡ absent_text yard (take i orders) ++ row_text default_writer (fields_of yard (i + 1, x)) → new ≡ absent_text yard (take (i + 1) orders)
absent-more yard orders i x new within at absent e =
    let more : records_of yard (take (i + 1) orders) ≡ records_of yard (take i orders) ++ fields_of yard (i + 1, x) ∷ [] =
    records-more yard orders i x within at ∙ ap (λ b. records_of yard (take i orders) ++ cond (not b) (fields_of yard (i + 1, x) ∷ []) []) absent in
    let row : text_of_records (fields_of yard (i + 1, x) ∷ []) ≡ row_text default_writer (fields_of yard (i + 1, x)) = append-nil (row_text default_writer (fields_of yard (i + 1, x))) in
    e ∙ ap (λ l. absent_text yard (take i orders) ++ l) (sym row) ∙ sym (text-append (header ∷ records_of yard (take i orders)) (fields_of yard (i + 1, x) ∷ []))
    ∙ ap (λ l. text_of_records (header ∷ l)) (sym more)

-- one whose container is there
pub present-more : (yard : Inventory) (orders : List Order) (i : ℕ) (x : Order) (old : List ℕ) → i < length orders → x ≡ get_or orders i x → stands yard.bays x.container ≡ true
    → old ≡ absent_text yard (take i orders) → old ≡ absent_text yard (take (i + 1) orders)
present-more yard orders i x old within at present e =
    let more : records_of yard (take (i + 1) orders) ≡ records_of yard (take i orders) =
    records-more yard orders i x within at ∙ ap (λ b. records_of yard (take i orders) ++ cond (not b) (fields_of yard (i + 1, x) ∷ []) []) present ∙ append-nil (records_of yard (take i orders)) in
    e ∙ ap (λ l. text_of_records (header ∷ l)) (sym more)

-- the first that passes a test
pub first-found : (p : List ℕ → Bool) (xs : List (List ℕ)) (i : ℕ) (x : List ℕ) → slice_get xs i ≡ Some x → filter p (take i xs) ≡ [] → p x ≡ true → slice_get (filter p xs) 0 ≡ Some x
first-found p xs i x at none passes =
    let parts : xs ≡ take i xs ++ x ∷ drop (i + 1) xs = sym (take-append-drop i xs) ∙ ap (λ l. take i xs ++ l) (drop_more xs i x (slice_get_within xs i x at) ∙ ap (λ y. y ∷ drop (i + 1) xs) (get_or_from_slice_get xs i x x at)) in
    let kept : filter p xs ≡ x ∷ filter p (drop (i + 1) xs) =
    ap (filter p) parts ∙ filter-append p (take i xs) (x ∷ drop (i + 1) xs) ∙ ap (λ l. l ++ filter p (x ∷ drop (i + 1) xs)) none ∙ ap (λ b. cond b (x ∷ filter p (drop (i + 1) xs)) (filter p (drop (i + 1) xs))) passes in
    ap (λ l. slice_get l 0) kept

pub none-more : (p : List ℕ → Bool) (xs : List (List ℕ)) (i : ℕ) (x : List ℕ) → slice_get xs i ≡ Some x → filter p (take i xs) ≡ [] → p x ≡ false → filter p (take (i + 1) xs) ≡ []
none-more p xs i x at none fails =
    ap (filter p) (take_next xs i x at) ∙ filter-append p (take i xs) (x ∷ []) ∙ ap (λ l. l ++ filter p (x ∷ [])) none
    ∙ ap (λ b. cond b (x ∷ []) []) fails

-- what a reference of a list points to
pub pointed-at : (references : List (Bor (List ℕ))) (i : ℕ) (d : Bor (List ℕ)) → i < length references → slice_get (pointed references) i ≡ Some (get_or references i d).now
pointed-at references i d within = slice_get-map (λ (r : Bor (List ℕ)). r.now) references i ∙ ap (option_map (λ (r : Bor (List ℕ)). r.now)) (slice_get-get_or references i d within)

-- the containers of one bay more
pub containers-more : (bays : List StackedBay) (i : ℕ) (bay : StackedBay) → slice_get bays i ≡ Some bay → containers_of (take (i + 1) bays) ≡ containers_of (take i bays) ++ standing bay.1
containers-more bays i bay at =
    ap containers_of (take_next bays i bay at) ∙ flat_map-append (λ (b : StackedBay). flat_map (λ stack. stack) b.1) (take i bays) (bay ∷ [])
    ∙ ap (λ l. containers_of (take i bays) ++ l) (append-nil (standing bay.1))
