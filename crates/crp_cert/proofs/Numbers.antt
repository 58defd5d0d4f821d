-- What is read from the front of bytes is what its text says, and a text is read again: fixed words and numbers.
use Rattle.std.proofs.Common.{◌≡◌, ℕ, zero, suc, ◌+◌, ◌-◌, ◌*◌, ◌/◌, ◌%◌, ◌<◌, ◌≤◌, ◌⊎◌, inl, inr, ⊎_elim, Bool, true, false, cond, ◌==◌, List, [], ◌∷◌, ◌++◌, length, drop, Option, Some, None, refl, sym, ap, ◌∙◌, subst, arith, append_assoc, nat_le, nat_lt}
use Rattle.std.specs.Char.{is_ascii_digit}
use Rattle.std.specs.List.{AllByRecursion}
use Rattle.std.specs.Fmt.{decimal}
use Rattle.std.proofs.lemmas.Bool.{and_parts, and_from, leb-true, le-leb, eqb-true, eqb-false, eq-eqb, ne_eqb, ltb-false, le-ltb, cases_lt}
use Rattle.std.proofs.lemmas.Option.{some_pair_parts, same_Some}
use Rattle.std.proofs.lemmas.List.{append-nil}
use Rattle.std.proofs.lemmas.Fmt.{decimal_digit, decimal_step, decimal_by_steps}
use Rattle.crp_cert.specs.Text.{spaced}
use Rattle.crp_cert.specs.Reading.{◌>>=◌, tag_at, digits_at, number_at, spaced_at, newline_at, numbers_at}

-- ---- steps

-- both steps gave something
pub bind_some : {A B : Type 0} (o : Option A) (f : A → Option B) (y : B) → (o >>= f) ≡ Some y → (x : A) × (o ≡ Some x) × (f x ≡ Some y)
bind_some None f y e = absurd cc
bind_some (Some x) f y e = (x, refl, e)

-- something was given, so the test passed
pub if_some : {A : Type 0} (b : Bool) (o : Option A) (y : A) → cond b o None ≡ Some y → (b ≡ true) × (o ≡ Some y)
if_some true o y e = (refl, e)
if_some false o y e = absurd cc

-- something was given, so the test failed
pub if_none : {A : Type 0} (b : Bool) (o : Option A) (y : A) → cond b None o ≡ Some y → (b ≡ false) × (o ≡ Some y)
if_none true o y e = absurd cc
if_none false o y e = (refl, e)

-- one of two was chosen
pub chosen : {A : Type 0} (b : Bool) (x y z : A) → cond b x y ≡ z → ((b ≡ true) × (x ≡ z)) ⊎ ((b ≡ false) × (y ≡ z))
chosen true x y z e = inl (refl, e)
chosen false x y z e = inr (refl, e)

-- ---- words that are fixed

-- a tag that was read is what the bytes begin with
pub tag_takes : (tag bytes rest : List ℕ) → tag_at tag bytes ≡ Some rest → bytes ≡ tag ++ rest
tag_takes [] bytes rest e = same_Some bytes rest e
tag_takes (t ∷ tag) [] rest e = cc
tag_takes (t ∷ tag) (b ∷ bytes) rest e =
    let c = if_some (b == t) (tag_at tag bytes) rest e in
    let same : b ≡ t = eqb-true b t c.0 in
    let more : bytes ≡ tag ++ rest = tag_takes tag bytes rest c.1 in cc

-- a tag is read again
pub tag_again : (tag rest : List ℕ) → tag_at tag (tag ++ rest) ≡ Some rest
tag_again [] rest = refl
tag_again (t ∷ tag) rest = rw (eq-eqb t t refl) (tag_again tag rest)

-- the end of a line that was read is a line feed
pub newline_takes : (bytes rest : List ℕ) → newline_at bytes ≡ Some rest → bytes ≡ 10 ∷ rest
newline_takes [] rest e = cc
newline_takes (b ∷ bytes) rest e =
    let c = if_some (b == 10) (Some bytes) rest e in
    let same : b ≡ 10 = eqb-true b 10 c.0 in let more : bytes ≡ rest = same_Some bytes rest c.1 in cc

-- ---- numbers

-- a digit is a byte from 48 to 57
digit_parts : (b : ℕ) → is_ascii_digit b ≡ true → (48 ≤ b) × (b ≤ 57)
digit_parts b e = let p = and_parts (nat_le 48 b) (nat_le b 57) e in (leb-true 48 b p.0, leb-true b 57 p.1)

-- and such a byte is a digit
digit_from : (b : ℕ) → 48 ≤ b → b ≤ 57 → is_ascii_digit b ≡ true
digit_from b lo hi = and_from (nat_le 48 b) (nat_le b 57) (le-leb 48 b lo) (le-leb b 57 hi)

-- one more digit behind a number
decimal_more : (v b : ℕ) → 1 ≤ v → 48 ≤ b → b ≤ 57 → 10 * v + (b - 48) ≤ 4294967295 → decimal (10 * v + (b - 48)) ≡ decimal v ++ b ∷ []
decimal_more v b some lo hi low =
    let n : ℕ = 10 * v + (b - 48) in
    let q : n / 10 ≡ v = omega arith in
    let r : 48 + n % 10 ≡ b = omega arith in
    decimal_step n (omega arith) (omega arith) ∙ ap (λ x. decimal x ++ (48 + n % 10) ∷ []) q ∙ ap (λ x. decimal v ++ x ∷ []) r

-- digits that were read go on the number before them
pub digits_take : (limit value : ℕ) (bytes : List ℕ) (n : ℕ) (rest : List ℕ) → limit ≤ 4294967295 → 1 ≤ value → value ≤ limit → digits_at limit value bytes ≡ Some (n, rest) →
    (decimal value ++ bytes ≡ decimal n ++ rest) × (n ≤ limit)
digits_take limit value [] n rest most some low e =
    let p = some_pair_parts value n [] rest e in
    (ap (λ x. decimal x ++ []) p.0 ∙ ap (λ x. decimal n ++ x) p.1, subst (λ x. x ≤ limit) p.0 low)
digits_take limit value (b ∷ bytes) n rest most some low e =
    let more : ℕ = 10 * value + (b - 48) in
    ⊎_elim
    (λ yes.
    let d = digit_parts b yes.0 in
    let c = if_none (nat_lt limit more) (digits_at limit more bytes) (n, rest) yes.1 in
    let fits : more ≤ limit = ltb-false limit more c.0 in
    let r = digits_take limit more bytes n rest most (omega arith) fits c.1 in
    let text : decimal more ≡ decimal value ++ b ∷ [] = decimal_more value b some d.0 d.1 (omega arith) in
    (sym (append_assoc (decimal value) (b ∷ []) bytes) ∙ ap (λ x. x ++ bytes) (sym text) ∙ r.0, r.1))
    (λ no.
    let p = some_pair_parts value n (b ∷ bytes) rest no.1 in
    (ap (λ x. decimal x ++ b ∷ bytes) p.0 ∙ ap (λ x. decimal n ++ x) p.1, subst (λ x. x ≤ limit) p.0 low))
    (chosen (is_ascii_digit b) (cond (nat_lt limit more) None (digits_at limit more bytes)) (Some (value, b ∷ bytes)) (Some (n, rest)) e)

-- a number that was read is what the bytes begin with
pub number_takes : (limit : ℕ) (bytes : List ℕ) (n : ℕ) (rest : List ℕ) → 9 ≤ limit → limit ≤ 4294967295 → number_at limit bytes ≡ Some (n, rest) → (bytes ≡ decimal n ++ rest) × (n ≤ limit)
number_takes limit [] n rest least most e = absurd cc
number_takes limit (b ∷ bytes) n rest least most e =
    ⊎_elim
    (λ zero'.
    let p = some_pair_parts 0 n bytes rest zero'.1 in
    let same : b ≡ 48 = eqb-true b 48 zero'.0 in
    let text : decimal 0 ≡ 48 ∷ [] = decimal_digit 0 (omega arith) in
    (ap (λ x. x ∷ bytes) same ∙ ap (λ x. x ++ bytes) (sym text) ∙ ap (λ x. decimal x ++ bytes) p.0 ∙ ap (λ x. decimal n ++ x) p.1, omega (arith, p.0)))
    (λ other.
    let ne = eqb-false b 48 other.0 in
    let c = if_some (is_ascii_digit b) (digits_at limit (b - 48) bytes) (n, rest) other.1 in
    let d = digit_parts b c.0 in let lo = d.0 in let hi = d.1 in
    let r = digits_take limit (b - 48) bytes n rest most (omega arith) (omega arith) c.1 in
    let text : decimal (b - 48) ≡ b ∷ [] = decimal_digit (b - 48) (omega arith) ∙ (let k : 48 + (b - 48) ≡ b = omega arith in ap (λ x. x ∷ []) k) in
    (ap (λ x. x ++ bytes) (sym text) ∙ r.0, r.1))
    (chosen (b == 48) (Some (0, bytes)) (cond (is_ascii_digit b) (digits_at limit (b - 48) bytes) None) (Some (n, rest)) e)

-- a number's digits are read as far as they go
started : (limit n : ℕ) (more : List ℕ) → limit ≤ 4294967295 → 1 ≤ n → n ≤ limit → number_at limit (decimal n ++ more) ≡ digits_at limit n more
started limit n more most some low = decimal_by_steps P one step n (omega arith) more some low
  where
    P : ℕ → List ℕ → Type 0
    P m ds = (more : List ℕ) → 1 ≤ m → m ≤ limit → number_at limit (ds ++ more) ≡ digits_at limit m more

    one : (m : ℕ) → m < 10 → P m ((48 + m) ∷ [])
    one m lt more some low =
        let k : 48 + m - 48 ≡ m = omega arith in
        rw (ne_eqb (48 + m) 48 (λ e. omega arith), digit_from (48 + m) (omega arith) (omega arith)) (ap (λ x. digits_at limit x more) k)

    step : (m : ℕ) (ds : List ℕ) → 10 ≤ m → P (m / 10) ds → P m (ds ++ (48 + m % 10) ∷ [])
    step m ds ten h more some low =
        let b : ℕ = 48 + m % 10 in
        let k : 10 * (m / 10) + (b - 48) ≡ m = omega arith in
        let next : digits_at limit (m / 10) (b ∷ more) ≡ digits_at limit m more =
        rw (digit_from b (omega arith) (omega arith), le-ltb limit (10 * (m / 10) + (b - 48)) (omega arith)) (ap (λ x. digits_at limit x more) k) in
        ap (number_at limit) (append_assoc ds (b ∷ []) more) ∙ h (b ∷ more) (omega arith) (omega arith) ∙ next

-- a number is read again where no digit follows
pub number_again : (limit n stop : ℕ) (rest : List ℕ) → 9 ≤ limit → limit ≤ 4294967295 → n ≤ limit → is_ascii_digit stop ≡ false → number_at limit (decimal n ++ stop ∷ rest) ≡ Some (n, stop ∷ rest)
number_again limit n stop rest least most low not =
    ⊎_elim
    (λ none. let z : 0 ≡ n = omega arith in
    ap (λ x. number_at limit (decimal x ++ stop ∷ rest)) (sym z) ∙ ap (λ x. number_at limit (x ++ stop ∷ rest)) (decimal_digit 0 (omega arith)) ∙ ap (λ x. Some (x, stop ∷ rest)) z)
    (λ some. started limit n (stop ∷ rest) most some low ∙ rw not refl)
    (cases_lt n 1)

-- the same behind a space
pub spaced_takes : (limit : ℕ) (bytes : List ℕ) (n : ℕ) (rest : List ℕ) → 9 ≤ limit → limit ≤ 4294967295 → spaced_at limit bytes ≡ Some (n, rest) → (bytes ≡ 32 ∷ (decimal n ++ rest)) × (n ≤ limit)
spaced_takes limit [] n rest least most e = absurd cc
spaced_takes limit (b ∷ bytes) n rest least most e =
    let c = if_some (b == 32) (number_at limit bytes) (n, rest) e in
    let same : b ≡ 32 = eqb-true b 32 c.0 in
    let r = number_takes limit bytes n rest least most c.1 in
    (ap (λ x. x ∷ bytes) same ∙ ap (λ x. 32 ∷ x) r.0, r.1)

-- and again behind a space
pub spaced_again : (limit n stop : ℕ) (rest : List ℕ) → 9 ≤ limit → limit ≤ 4294967295 → n ≤ limit → is_ascii_digit stop ≡ false → spaced_at limit (32 ∷ (decimal n ++ stop ∷ rest)) ≡ Some (n, stop ∷ rest)
spaced_again limit n stop rest least most low not = number_again limit n stop rest least most low not

-- ---- numbers to the end of a line

-- no numbers at the end of the line
pub numbers_end : (m : ℕ) (bytes rest : List ℕ) → newline_at bytes ≡ Some rest → numbers_at m bytes ≡ Some ([], rest)
numbers_end zero bytes rest e = rw e refl
numbers_end (suc m) [] rest e = absurd cc
numbers_end (suc m) (b ∷ bytes) rest e =
    let c = if_some (b == 10) (Some bytes) rest e in rw c.0 (ap (λ x. Some ([], x)) (same_Some bytes rest c.1))

-- a byte that ends no line
not_newline : (b : ℕ) (bytes : List ℕ) → newline_at (b ∷ bytes) ≡ None → (b == 10) ≡ false
not_newline b bytes e = by_test (b == 10) bytes e
  where
    by_test : (t : Bool) (bytes : List ℕ) → cond t (Some bytes) None ≡ None → t ≡ false
    by_test true bytes e = absurd cc
    by_test false bytes e = refl

-- no numbers where neither a number nor the end of the line stands
pub numbers_none : (m : ℕ) (bytes : List ℕ) → newline_at bytes ≡ None → spaced_at 99 bytes ≡ None → numbers_at m bytes ≡ None
numbers_none zero bytes e f = rw e refl
numbers_none (suc m) [] e f = refl
numbers_none (suc m) (b ∷ bytes) e f = rw (not_newline b bytes e, f) refl

-- a number and further ones
pub numbers_more : (m n : ℕ) (bytes rest : List ℕ) → newline_at bytes ≡ None → spaced_at 99 bytes ≡ Some (n, rest) → numbers_at (suc m) bytes ≡ (numbers_at m rest >>= λ y. Some (n ∷ y.0, y.1))
numbers_more m n [] rest e f = absurd cc
numbers_more m n (b ∷ bytes) rest e f = rw (not_newline b bytes e, f) refl

-- numbers that were read are what the bytes begin with, and there are not too many
pub numbers_take : (most : ℕ) (bytes ns rest : List ℕ) → numbers_at most bytes ≡ Some (ns, rest) → (bytes ≡ spaced ns ++ 10 ∷ rest) × (length ns ≤ most) × AllByRecursion (λ n. n ≤ 99) ns
numbers_take zero bytes ns rest e =
    let b = bind_some (newline_at bytes) (λ x. Some ([], x)) (ns, rest) e in
    let p = some_pair_parts [] ns b.0 rest b.2 in
    subst (λ l. (bytes ≡ spaced l ++ 10 ∷ rest) × (length l ≤ 0) × AllByRecursion (λ n. n ≤ 99) l) p.0 (newline_takes bytes b.0 b.1 ∙ ap (λ x. 10 ∷ x) p.1, omega arith, tt)
numbers_take (suc most) [] ns rest e = absurd cc
numbers_take (suc most) (b ∷ bytes) ns rest e =
    ⊎_elim
    (λ end.
    let p = some_pair_parts [] ns bytes rest end.1 in
    let same : b ≡ 10 = eqb-true b 10 end.0 in
    subst (λ l. (b ∷ bytes ≡ spaced l ++ 10 ∷ rest) × (length l ≤ suc most) × AllByRecursion (λ n. n ≤ 99) l) p.0 (ap (λ x. x ∷ bytes) same ∙ ap (λ x. 10 ∷ x) p.1, omega arith, tt))
    (λ more.
    let x = bind_some (spaced_at 99 (b ∷ bytes)) (λ x. numbers_at most x.1 >>= λ y. Some (x.0 ∷ y.0, y.1)) (ns, rest) more.1 in
    let y = bind_some (numbers_at most x.0.1) (λ y. Some (x.0.0 ∷ y.0, y.1)) (ns, rest) x.2 in
    let p = some_pair_parts (x.0.0 ∷ y.0.0) ns y.0.1 rest y.2 in
    let s = spaced_takes 99 (b ∷ bytes) x.0.0 x.0.1 (omega arith) (omega arith) x.1 in
    let r = numbers_take most x.0.1 y.0.0 y.0.1 y.1 in
    let text : b ∷ bytes ≡ spaced (x.0.0 ∷ y.0.0) ++ 10 ∷ rest =
    s.0 ∙ ap (λ z. 32 ∷ (decimal x.0.0 ++ z)) (r.0 ∙ ap (λ z. spaced y.0.0 ++ 10 ∷ z) p.1) ∙ sym (append_assoc (32 ∷ decimal x.0.0) (spaced y.0.0) (10 ∷ rest)) in
    subst (λ l. (b ∷ bytes ≡ spaced l ++ 10 ∷ rest) × (length l ≤ suc most) × AllByRecursion (λ n. n ≤ 99) l) p.0 (text, (let le = r.1 in omega arith), (s.1, r.2)))
    (chosen (b == 10) (Some ([], bytes)) (spaced_at 99 (b ∷ bytes) >>= λ x. (numbers_at most x.1 >>= λ y. Some (x.0 ∷ y.0, y.1))) (Some (ns, rest)) e)

-- numbers are followed by a space or the end of the line
pub record Stops (bytes : List ℕ) : Type 0 where
  pub stop : ℕ
  pub rest : List ℕ
  pub is : bytes ≡ stop ∷ rest
  pub not_digit : is_ascii_digit stop ≡ false

-- what stands behind a number of a line
pub stops : (ns rest : List ℕ) → Stops (spaced ns ++ 10 ∷ rest)
stops [] rest = record { stop = 10; rest = rest; is = refl; not_digit = refl }
stops (n ∷ ns) rest = record { stop = 32; rest = (decimal n ++ spaced ns) ++ 10 ∷ rest; is = refl; not_digit = refl }

-- a number of a line is read again
pub spaced_again_at : (limit n : ℕ) (bytes : List ℕ) → 9 ≤ limit → limit ≤ 4294967295 → n ≤ limit → Stops bytes → spaced_at limit (32 ∷ (decimal n ++ bytes)) ≡ Some (n, bytes)
spaced_again_at limit n bytes least most low s =
    ap (λ x. spaced_at limit (32 ∷ (decimal n ++ x))) s.is ∙ spaced_again limit n s.stop s.rest least most low s.not_digit ∙ ap (λ x. Some (n, x)) (sym s.is)

-- numbers to the end of a line are read again
pub numbers_again : (most : ℕ) (ns rest : List ℕ) → length ns ≤ most → AllByRecursion (λ n. n ≤ 99) ns → numbers_at most (spaced ns ++ 10 ∷ rest) ≡ Some (ns, rest)
numbers_again most [] rest few low = numbers_end most (10 ∷ rest) rest refl
numbers_again zero (n ∷ ns) rest few low = absurd (omega arith)
numbers_again (suc most) (n ∷ ns) rest few low =
    let after : List ℕ = spaced ns ++ 10 ∷ rest in
    let text : spaced (n ∷ ns) ++ 10 ∷ rest ≡ 32 ∷ (decimal n ++ after) = append_assoc (32 ∷ decimal n) (spaced ns) (10 ∷ rest) in
    let one : spaced_at 99 (32 ∷ (decimal n ++ after)) ≡ Some (n, after) = spaced_again_at 99 n after (omega arith) (omega arith) low.0 (stops ns rest) in
    ap (numbers_at (suc most)) text ∙ numbers_more most n (32 ∷ (decimal n ++ after)) after refl one ∙ rw (numbers_again most ns rest (omega arith) low.1) refl

-- ---- a loop over them

-- numbers, and what follows their line
abbrev pub Found : Type 0
Found = List ℕ × List ℕ

-- numbers behind others
abbrev pub behind : List ℕ → Found → Option Found
behind items x = Some (items ++ x.0, x.1)

-- the end of the line ends the loop
pub loop_ends : (most k : ℕ) (items bytes rest after : List ℕ) → (numbers_at (most - k) rest >>= behind items) ≡ numbers_at most bytes → newline_at rest ≡ Some after → numbers_at most bytes ≡ Some (items, after)
loop_ends most k items bytes rest after inv e =
    sym inv ∙ ap (λ o. o >>= behind items) (numbers_end (most - k) rest after e) ∙ ap (λ l. Some (l, after)) (append-nil items)

-- where no number stands, none are read
pub loop_fails : (most k : ℕ) (items bytes rest : List ℕ) → (numbers_at (most - k) rest >>= behind items) ≡ numbers_at most bytes → newline_at rest ≡ None → spaced_at 99 rest ≡ None → numbers_at most bytes ≡ None
loop_fails most k items bytes rest inv e f = sym inv ∙ ap (λ o. o >>= behind items) (numbers_none (most - k) rest e f)

-- one more number at the end of those before
regrouped : (items : List ℕ) (n : ℕ) (o : Option Found) → (o >>= behind (items ++ n ∷ [])) ≡ ((o >>= λ y. Some (n ∷ y.0, y.1)) >>= behind items)
regrouped items n None = refl
regrouped items n (Some y) = ap (λ (l : List ℕ). Some (l, y.1)) (append_assoc items (n ∷ []) y.0)

-- a number more
pub loop_goes_on : (most k n : ℕ) (items bytes rest after : List ℕ) → k < most → (numbers_at (most - k) rest >>= behind items) ≡ numbers_at most bytes → newline_at rest ≡ None → spaced_at 99 rest ≡ Some (n, after) →
    (numbers_at (most - (k + 1)) after >>= behind (items ++ n ∷ [])) ≡ numbers_at most bytes
loop_goes_on most k n items bytes rest after lt inv e f =
    let s : most - k ≡ suc (most - (k + 1)) = omega arith in
    regrouped items n (numbers_at (most - (k + 1)) after) ∙ ap (λ o. o >>= behind items) (sym (numbers_more (most - (k + 1)) n rest after e f))
    ∙ ap (λ m. numbers_at m rest >>= behind items) (sym s) ∙ inv

-- nothing is left for the tag
pub tag_short : (tag : List ℕ) (i : ℕ) (rest : List ℕ) → i < length tag → length rest < 1 → tag_at (drop i tag) rest ≡ None
tag_short [] i rest lt none = absurd (omega arith)
tag_short (t ∷ tag) zero [] lt none = refl
tag_short (t ∷ tag) zero (b ∷ rest) lt none = absurd (omega arith)
tag_short (t ∷ tag) (suc i) rest lt none = tag_short tag i rest (omega arith) none
