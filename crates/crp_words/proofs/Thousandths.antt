-- What digits write before a point and behind it, and where the point stands.
use Rattle.std.proofs.Common.{◌≡◌, ◌≢◌, ◌∙◌, ◌<◌, ◌≤◌, ◌+◌, ◌*◌, ◌/◌, ◌^◌, ℕ, zero, suc, List, [], ◌∷◌, ◌++◌, drop, length, get_or, Result, Ok, Err, refl, sym, ap, ap₂, subst, arith}
use Rattle.std.specs.Char.{digit_value}
use Rattle.std.specs.Str.Parse.{AllDigits, ParsesUnsigned, digits_value, digits_value_after}
use Rattle.std.proofs.Math.Nat.{pow-suc, mul-div_cancel}
use Rattle.std.proofs.lemmas.List.{append-nil, length-append}
use Rattle.std.proofs.Math.Seq.{get_or-append_seam}
use Rattle.std.proofs.lemmas.Str.Parse.{IsNumeralModel, numerals_by_value, tells_digits, not_in_digits, parse_digits, parse_plain, digits_value_short}
use Rattle.crp_words.specs.Seconds.{AreDigits, IsPart, IsSecondsText, IsThousandths, behind_point}

-- ---- what digits write

pub own : IsNumeralModel (AllDigits 10) (digits_value 10)
own = numerals_by_value (AllDigits 10) tells_digits

-- 1 to 5 digits are read
pub digits_read : {E : Type 0} (most : ℕ) (text : List ℕ) (r : Result ℕ E) → most ≤ 5 → ParsesUnsigned 64 10 text r → AreDigits most text → (e : E) → r ≡ Err e → ⊥
digits_read most text (Ok n) few reads are e is = absurd (cc)
digits_read most text (Err f) few reads are e is =
    let none = parse_digits own 64 text (Err f) reads are.0.1 in
    let low = digits_value_short own text 5 are.0.1 (omega (arith, few, are.1)) in
    none (are.0.0, omega (arith, low))

-- and what is read is less than the power of ten above them
pub digits_fit : {E : Type 0} (text : List ℕ) (r : Result ℕ E) (n : ℕ) → ParsesUnsigned 64 10 text r → get_or text 0 0 ≢ 43 → r ≡ Ok n → n < 10 ^ length text
digits_fit text (Err f) n reads plain is = absurd (cc)
digits_fit {E = E} text (Ok m) n reads plain is =
    let read = parse_plain own {E = E} 64 text (Ok m) reads plain in
    let low = digits_value_short own text (length text) read.0.0 (omega arith) in
    let same : m ≡ n = cc in
    omega (arith, low, read.1, same)

weigh : (n v p r all alone : ℕ) → all ≡ (n * 10 + v) * p + r → alone ≡ (0 * 10 + v) * p + r → all ≡ n * (p * 10) + alone
weigh n v p r all alone a b = omega (arith, a, b)

-- digits behind others
value_after : (n : ℕ) (ds : List ℕ) → digits_value_after 10 n ds ≡ n * 10 ^ length ds + digits_value 10 ds
value_after n [] = omega arith
value_after n (d ∷ ds) =
    weigh n (digit_value d) (10 ^ length ds) (digits_value 10 ds) _ (digits_value 10 (d ∷ ds)) (value_after (n * 10 + digit_value d) ds) (value_after (0 * 10 + digit_value d) ds)
    ∙ ap (λ q. n * q + digits_value 10 (d ∷ ds)) (sym (pow-suc 10 (length ds)))

value_more : (n : ℕ) (ws ds : List ℕ) → digits_value_after 10 n (ws ++ ds) ≡ digits_value_after 10 (digits_value_after 10 n ws) ds
value_more n [] ds = refl
value_more n (w ∷ ws) ds = value_more (n * 10 + digit_value w) ws ds

value_joined : (ws ds : List ℕ) → digits_value 10 (ws ++ ds) ≡ digits_value 10 ws * 10 ^ length ds + digits_value 10 ds
value_joined ws ds = value_more 0 ws ds ∙ value_after (digits_value 10 ws) ds

power_counts : (k : ℕ) → 1 ≤ 10 ^ k
power_counts zero = omega arith
power_counts (suc k) = let below = power_counts k in let power = pow-suc 10 k in omega (arith, below, power)

-- what is so many times as much is one number
same_times : (m n k : ℕ) → m * 10 ^ k ≡ n * 10 ^ k → m ≡ n
same_times m n k e = sym (mul-div_cancel m (power_counts k)) ∙ ap (λ x. x / 10 ^ k) e ∙ mul-div_cancel n (power_counts k)

-- ---- where the point stands

-- a point is no digit
no_point : (ds : List ℕ) → AllDigits 10 ds → (i : ℕ) → i < length ds → get_or ds i 0 ≢ 46
no_point ds all = not_in_digits own ds 46 all (λ h. omega (arith, h))

-- a list without a point has none before what follows
not_inside : (ws xs ys : List ℕ) → ((i : ℕ) → i < length ws → get_or ws i 0 ≢ 46) → ws ≡ xs ++ 46 ∷ ys → ⊥
not_inside ws xs ys without e =
    let long = ap length e ∙ length-append xs (46 ∷ ys) in
    without (length xs) (omega (arith, long)) (ap (λ (l : List ℕ). get_or l (length xs) 0) e ∙ get_or-append_seam xs 46 ys 0)

one_split : (xs ys ws ps : List ℕ) → ((i : ℕ) → i < length xs → get_or xs i 0 ≢ 46) → ((i : ℕ) → i < length ws → get_or ws i 0 ≢ 46)
    → xs ++ 46 ∷ ys ≡ ws ++ 46 ∷ ps → (xs ≡ ws) × (ys ≡ ps)
one_split [] ys [] ps a b e = (refl, ap (drop 1) e)
one_split [] ys (w ∷ ws) ps a b e = absurd (b 0 (omega arith) (sym (ap (λ (l : List ℕ). get_or l 0 0) e)))
one_split (x ∷ xs) ys [] ps a b e = absurd (a 0 (omega arith) (ap (λ (l : List ℕ). get_or l 0 0) e))
one_split (x ∷ xs) ys (w ∷ ws) ps a b e =
    let rest = one_split xs ys ws ps (λ i l. a (suc i) (omega (arith, l))) (λ i l. b (suc i) (omega (arith, l))) (ap (drop 1) e) in
    (ap₂ (λ (h : ℕ) (t : List ℕ). h ∷ t) (ap (λ (l : List ℕ). get_or l 0 0) e) rest.0, rest.1)

-- without a point all digits are whole seconds
pub none_whole : (text : List ℕ) → ((i : ℕ) → i < length text → get_or text i 0 ≢ 46) → ¬ AreDigits 5 text → (n : ℕ) → IsThousandths text n → ⊥
none_whole text without none n is = go is.part is.joined
  where
    go : (part : List ℕ) → text ≡ is.whole ++ behind_point part → ⊥
    go [] e = none (subst (AreDigits 5) (sym (e ∙ append-nil is.whole)) is.whole_digits)
    go (d ∷ ds) e = not_inside text is.whole (d ∷ ds) without e

-- with one the parts stand round it
parts_are : (text xs ys : List ℕ) → text ≡ xs ++ 46 ∷ ys → ((i : ℕ) → i < length xs → get_or xs i 0 ≢ 46) → (n : ℕ) (is : IsThousandths text n)
    → (is.whole ≡ xs) × (is.part ≡ ys) × (1 ≤ length ys)
parts_are text xs ys e without n is = go is.part is.joined
  where
    go : (part : List ℕ) → text ≡ is.whole ++ behind_point part → (is.whole ≡ xs) × (part ≡ ys) × (1 ≤ length ys)
    go [] f = absurd (not_inside is.whole xs ys (no_point is.whole is.whole_digits.0.1) (sym (append-nil is.whole) ∙ sym f ∙ e))
    go (d ∷ ds) f =
        let same = one_split is.whole (d ∷ ds) xs ys (no_point is.whole is.whole_digits.0.1) without (sym f ∙ e) in
        (same.0, same.1, subst (λ (l : List ℕ). 1 ≤ length l) same.1 (omega arith))

pub none_before : (text xs ys : List ℕ) → text ≡ xs ++ 46 ∷ ys → ((i : ℕ) → i < length xs → get_or xs i 0 ≢ 46) → ¬ AreDigits 5 xs → (n : ℕ)
    → IsThousandths text n → ⊥
none_before text xs ys e without none n is = none (subst (AreDigits 5) (parts_are text xs ys e without n is).0 is.whole_digits)

pub none_behind : (text xs ys : List ℕ) → text ≡ xs ++ 46 ∷ ys → ((i : ℕ) → i < length xs → get_or xs i 0 ≢ 46) → ¬ AreDigits 3 ys → (n : ℕ)
    → IsThousandths text n → ⊥
none_behind text xs ys e without none n is =
    let same = parts_are text xs ys e without n is in
    let digits = subst (λ (l : List ℕ). AllDigits 10 l × (length l ≤ 3)) same.1 is.part_digits in
    none ((same.2, digits.0), digits.1)

-- whole seconds, a point, and a part
pub joined_thousandths : (text xs ys : List ℕ) (m t : ℕ) → text ≡ xs ++ 46 ∷ ys → AreDigits 5 xs → m ≡ digits_value 10 xs → IsPart ys t → IsThousandths text (m * 1000 + t)
joined_thousandths text xs [] m t e whole is part = absurd (omega (arith, part.0.0.0))
joined_thousandths text xs (d ∷ ds) m t e whole is part = record {
  whole = xs;
  part = d ∷ ds;
  whole_digits = whole;
  part_digits = (part.0.0.1, part.0.1);
  joined = e;
  value = let joined = value_joined xs (d ∷ ds) in let thousandths = part.1 in grind (arith, joined, thousandths, is);
}

-- ---- how many thousandths there are

-- a text has one whole part and one behind the point
one_join : (ws ps xs ys : List ℕ) → AllDigits 10 ws → AllDigits 10 xs → ws ++ behind_point ps ≡ xs ++ behind_point ys → (ws ≡ xs) × (ps ≡ ys)
one_join ws [] xs [] a b e = (sym (append-nil ws) ∙ e ∙ append-nil xs, refl)
one_join ws [] xs (y ∷ ys) a b e = absurd (not_inside ws xs (y ∷ ys) (no_point ws a) (sym (append-nil ws) ∙ e))
one_join ws (p ∷ ps) xs [] a b e = absurd (not_inside xs ws (p ∷ ps) (no_point xs b) (sym (append-nil xs) ∙ sym e))
one_join ws (p ∷ ps) xs (y ∷ ys) a b e = one_split ws (p ∷ ps) xs (y ∷ ys) (no_point ws a) (no_point xs b) e

-- so it has one number of them
pub one_number : (text : List ℕ) (m n : ℕ) → IsThousandths text m → IsThousandths text n → m ≡ n
one_number text m n a b =
    let same = one_join a.whole a.part b.whole b.part a.whole_digits.0.1 b.whole_digits.0.1 (sym a.joined ∙ b.joined) in
    same_times m n (length b.part) (ap (λ (l : List ℕ). m * 10 ^ length l) (sym same.1) ∙ a.value
    ∙ ap₂ (λ (ws ps : List ℕ). 1000 * digits_value 10 (ws ++ ps)) same.0 same.1 ∙ sym b.value)

-- and where they are out of range, it is no number of seconds
pub out_of_range : (text : List ℕ) (m : ℕ) → IsThousandths text m → ((1 ≤ m) × (m ≤ 86400000) → ⊥) → (n : ℕ) → IsSecondsText text n → ⊥
out_of_range text m is none n seconds = none (subst (λ k. (1 ≤ k) × (k ≤ 86400000)) (one_number text n m seconds.0 is) (seconds.1, seconds.2))
