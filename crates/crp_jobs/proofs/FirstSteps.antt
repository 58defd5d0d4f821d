-- The first records of a text, and the first of them that is like one of them.
use Rattle.std.proofs.Common.{◌≡◌, ◌≢◌, ◌<◌, ◌+◌, ◌-◌, ◌∙◌, ℕ, zero, suc, Bool, not, cond, List, [], ◌∷◌, ◌++◌, Option, Some, None, length, map, take, drop, refl, sym, ap, append_assoc, arith, length-append}
use Rattle.std.specs.Prelude.{slice_get, option_map, option_and_then, position}
use Rattle.std.specs.List.{prefix_len}
use Rattle.std.proofs.lemmas.Bool.{ne_eqb}
use Rattle.std.proofs.lemmas.List.{drop-map, length-map, take-map}
use Rattle.std.proofs.Math.Seq.{take-take, take-append_seam}
use Rattle.crp_jobs.specs.declared.firsts.Alike.{Alike}
use Rattle.crp_jobs.specs.Firsts.{are_alike, first_like, record_with}

prefix-map : {A B : Type 0} (p : B → Bool) (f : A → B) (xs : List A) → prefix_len p (map f xs) ≡ prefix_len (λ x. p (f x)) xs
prefix-map p f [] = refl
prefix-map p f (x ∷ xs) = ap (λ n. cond (p (f x)) (1 + n) 0) (prefix-map p f xs)

-- the first of the values at which a test passes
pub position-map : {A B : Type 0} (p : B → Bool) (f : A → B) (xs : List A) → position p (map f xs) ≡ position (λ x. p (f x)) xs
position-map p f xs = rw (prefix-map (λ y. not (p y)) f xs, length-map xs f) refl

-- a record by its number
pub record_is : (records : List (List (List ℕ))) (n : ℕ) → n ≢ 0 → record_with records n ≡ slice_get records (n - 1)
record_is records n counts = rw (ne_eqb n 0 counts) refl

-- the first that is like it, where it is there
pub like_is : {A : Type 0} (f : A → List (List ℕ)) (how : Alike) (records : List A) (n : ℕ) (fields : List (List ℕ)) (o : Option ℕ) → record_with (map f records) n ≡ Some fields
    → o ≡ position (λ y. are_alike how fields (f y)) (take (n - 1 - 1) (drop 1 records)) → first_like how (map f records) n ≡ option_map (λ i. i + 2) o
like_is f how records n fields o there is =
    let two : n - 2 ≡ n - 1 - 1 = omega arith in
    let before : take (n - 2) (drop 1 (map f records)) ≡ map f (take (n - 2) (drop 1 records)) = ap (take (n - 2)) (drop-map f 1 records) ∙ take-map f (n - 2) (drop 1 records) in
    rw there (ap (option_map (λ i. i + 2)) (ap (position (are_alike how fields)) before
    ∙ position-map (are_alike how fields) f (take (n - 2) (drop 1 records)) ∙ ap (λ k. position (λ y. are_alike how fields (f y)) (take k (drop 1 records))) two ∙ sym is))

none_of : (o : Option (List (List ℕ))) → option_and_then {U = ℕ} (λ fields. None) o ≡ None
none_of None = refl
none_of (Some fields) = refl

-- nothing stands before the first two records
pub like_none : (how : Alike) (records : List (List (List ℕ))) (n : ℕ) → n < 2 → first_like how records n ≡ None
like_none how records zero h = refl
like_none how records (suc zero) h = none_of (record_with records 1)
like_none how records (suc (suc n)) h = absurd (omega (arith, h))

-- of the first records of a text the same is the first
get-take : {A : Type 0} (n : ℕ) (xs : List A) → slice_get (take (suc n) xs) n ≡ slice_get xs n
get-take n [] = refl
get-take zero (x ∷ xs) = refl
get-take (suc n) (x ∷ xs) = get-take n xs

pub record-front : (records : List (List (List ℕ))) (n : ℕ) → record_with (take n records) n ≡ record_with records n
record-front records zero = refl
record-front records (suc n) =
    let e : suc n - 1 ≡ n = omega arith in
    record_is (take (suc n) records) (suc n) (λ e. cc) ∙ ap (slice_get (take (suc n) records)) e ∙ get-take n records ∙ ap (slice_get records) (sym e)
    ∙ sym (record_is records (suc n) (λ e. cc))

before-front : {A : Type 0} (n : ℕ) (xs : List A) → take (n - 2) (drop 1 (take n xs)) ≡ take (n - 2) (drop 1 xs)
before-front zero xs = refl
before-front (suc n) [] = refl
before-front (suc n) (x ∷ xs) = take-take (suc n - 2) n xs (omega arith)

pub like-front : (how : Alike) (records : List (List (List ℕ))) (n : ℕ) → first_like how (take n records) n ≡ first_like how records n
like-front how records n =
    ap (λ (r : Option (List (List ℕ))). option_and_then (λ fields. option_map (λ i. i + 2) (position (are_alike how fields) (take (n - 2) (drop 1 (take n records))))) r) (record-front records n)
    ∙ ap (λ (l : List (List (List ℕ))). option_and_then (λ fields. option_map (λ i. i + 2) (position (are_alike how fields) l)) (record_with records n)) (before-front n records)

-- one record more of a text
pub front_more : (whole read after : List (List (List ℕ))) (fields : List (List ℕ)) (i : ℕ) → whole ≡ read ++ fields ∷ after → length read ≡ i → take (i + 1) whole ≡ read ++ fields ∷ []
front_more whole read after fields i is counted =
    let parts : whole ≡ (read ++ fields ∷ []) ++ after = is ∙ sym (append_assoc read (fields ∷ []) after) in
    let n : i + 1 ≡ length (read ++ fields ∷ []) = omega (arith, counted, length-append read (fields ∷ [])) in
    ap (take (i + 1)) parts ∙ ap (λ k. take k ((read ++ fields ∷ []) ++ after)) n ∙ take-append_seam (read ++ fields ∷ []) after
