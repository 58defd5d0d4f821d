-- The digits of numbers, and what follows them.
use Rattle.std.proofs.Common.{◌≡◌, ℕ, ◌+◌, ◌-◌, ◌*◌, ◌/◌, ◌%◌, ◌^◌, ◌<◌, ◌≤◌, Bool, true, false, nat_le, if◌then◌else◌, List, [], ◌∷◌, ◌++◌, get_or, refl, sym, ap, ◌∙◌, ⊎_elim, arith, append_assoc}
use Rattle.std.specs.Char.{is_ascii_digit}
use Rattle.std.specs.Fmt.{decimal}
use Rattle.std.proofs.lemmas.Fmt.{decimal_digit, decimal_step, decimal_by_steps, first_decimal}
use Rattle.std.proofs.lemmas.Bool.{cases_lt, le-leb, leb-true, and_from, and_parts}

-- a byte from 48 to 57 is a digit
pub digit_from : (b : ℕ) → 48 ≤ b → b ≤ 57 → is_ascii_digit b ≡ true
digit_from b low high = and_from (nat_le 48 b) (nat_le b 57) (le-leb 48 b low) (le-leb b 57 high)

pub digit_parts : (b : ℕ) → is_ascii_digit b ≡ true → (48 ≤ b) × (b ≤ 57)
digit_parts b is = (let parts = and_parts (nat_le 48 b) (nat_le b 57) is in (leb-true 48 b parts.0, leb-true b 57 parts.1))

-- a number goes on by the digits of a text: the number then, and what follows
abbrev pub read_on : ℕ → List ℕ → ℕ × List ℕ
read_on k [] = (k, [])
read_on k (b ∷ bytes) = if is_ascii_digit b then read_on (k * 10 + (b - 48)) bytes else (k, b ∷ bytes)

-- a digit
pub read_digit : (k b : ℕ) (bytes : List ℕ) → is_ascii_digit b ≡ true → read_on k (b ∷ bytes) ≡ read_on (k * 10 + (b - 48)) bytes
read_digit k b bytes is = rw is refl

read_value : (k d : ℕ) (bytes : List ℕ) → d ≤ 9 → read_on k ((48 + d) ∷ bytes) ≡ read_on (k * 10 + d) bytes
read_value k d bytes low =
    let v : k * 10 + (48 + d - 48) ≡ k * 10 + d = omega arith in
    read_digit k (48 + d) bytes (digit_from (48 + d) (omega arith) (omega arith)) ∙ ap (λ m. read_on m bytes) v

-- no digit
pub read_stop : (k b : ℕ) (bytes : List ℕ) → is_ascii_digit b ≡ false → read_on k (b ∷ bytes) ≡ (k, b ∷ bytes)
read_stop k b bytes is = rw is refl

-- a whole number
pub read_decimal : (n : ℕ) (bytes : List ℕ) → n < 2 ^ 64 → read_on 0 (decimal n ++ bytes) ≡ read_on n bytes
read_decimal n bytes small = decimal_by_steps P one more n small bytes
  where
    P : ℕ → List ℕ → Type 0
    P m ds = (bytes : List ℕ) → read_on 0 (ds ++ bytes) ≡ read_on m bytes

    one : (m : ℕ) → m < 10 → P m ((48 + m) ∷ [])
    one m lt bytes =
        let e : 0 * 10 + m ≡ m = omega arith in
        read_value 0 m bytes (omega arith) ∙ ap (λ k. read_on k bytes) e

    more : (m : ℕ) (ds : List ℕ) → 10 ≤ m → P (m / 10) ds → P m (ds ++ (48 + m % 10) ∷ [])
    more m ds ten h bytes =
        let e : m / 10 * 10 + m % 10 ≡ m = omega arith in
        ap (read_on 0) (append_assoc ds ((48 + m % 10) ∷ []) bytes) ∙ h ((48 + m % 10) ∷ bytes) ∙ read_value (m / 10) (m % 10) bytes (omega arith) ∙ ap (λ k. read_on k bytes) e

-- a number does not get less
pub read_more : (k : ℕ) (bytes : List ℕ) → k ≤ (read_on k bytes).0
read_more k [] = omega arith
read_more k (b ∷ bytes) = by_test (read_on (k * 10 + (b - 48)) bytes) (read_more (k * 10 + (b - 48)) bytes) (is_ascii_digit b)
  where
    by_test : (on : ℕ × List ℕ) → k * 10 + (b - 48) ≤ on.0 → (t : Bool) → k ≤ (if t then on else (k, b ∷ bytes)).0
    by_test on le true = omega arith
    by_test on le false = omega arith

-- the first digit of a number, and what follows it
pub record FirstDigit (n : ℕ) (digits : List ℕ) : Type 0 where
  pub digit : ℕ
  pub others : List ℕ
  pub low : digit ≤ 9
  pub is : digits ≡ (48 + digit) ∷ others

pub first_digit : (n : ℕ) → n < 2 ^ 64 → FirstDigit n (decimal n)
first_digit n small = decimal_by_steps FirstDigit one more n small
  where
    one : (m : ℕ) → m < 10 → FirstDigit m ((48 + m) ∷ [])
    one m lt = record { digit = m; others = []; low = omega arith; is = refl }

    more : (m : ℕ) (ds : List ℕ) → 10 ≤ m → FirstDigit (m / 10) ds → FirstDigit m (ds ++ (48 + m % 10) ∷ [])
    more m ds ten h = record { digit = h.digit; others = h.others ++ (48 + m % 10) ∷ []; low = h.low; is = ap (λ l. l ++ (48 + m % 10) ∷ []) h.is }

-- a digit is the text of its value
pub one_digit : (byte : ℕ) → is_ascii_digit byte ≡ true → decimal (byte - 48) ≡ byte ∷ []
one_digit byte is =
    let within = digit_parts byte is in
    let low = within.0 in let high = within.1 in
    let e : 48 + (byte - 48) ≡ byte = omega arith in
    decimal_digit (byte - 48) (omega arith) ∙ ap (λ b. b ∷ []) e

-- no number begins with a byte that is no digit
pub no_number : (byte n : ℕ) (rest behind : List ℕ) → is_ascii_digit byte ≡ false → n ≤ 255 → byte ∷ rest ≡ decimal n ++ behind → ⊥
no_number byte n rest behind other low e =
    let f = first_digit n (omega arith) in
    let few = f.low in
    let same : byte ∷ rest ≡ (48 + f.digit) ∷ (f.others ++ behind) = e ∙ ap (λ l. l ++ behind) f.is in
    let head : byte ≡ 48 + f.digit = cc in
    let yes : is_ascii_digit byte ≡ true = digit_from byte (omega arith) (omega arith) in
    cc

-- one more digit behind a number
pub one_more : (k byte : ℕ) → 1 ≤ k → k ≤ 255 → is_ascii_digit byte ≡ true → decimal (k * 10 + (byte - 48)) ≡ decimal k ++ byte ∷ []
one_more k byte some small is =
    let within = digit_parts byte is in
    let low = within.0 in let high = within.1 in
    let n : ℕ = k * 10 + (byte - 48) in
    let q : n / 10 ≡ k = omega arith in
    let r : 48 + n % 10 ≡ byte = omega arith in
    decimal_step n (omega arith) (omega arith) ∙ ap (λ m. decimal m ++ (48 + n % 10) ∷ []) q ∙ ap (λ b. decimal k ++ b ∷ []) r

-- digits that are read, and others up to the colon
pub colon_read : (k n : ℕ) (rest behind : List ℕ) → k ≤ 255 → n ≤ 255 → decimal k ++ rest ≡ decimal n ++ 58 ∷ behind → read_on k rest ≡ (n, 58 ∷ behind)
colon_read k n rest behind small low e = sym (read_decimal k rest (omega arith)) ∙ ap (read_on 0) e ∙ read_decimal n (58 ∷ behind) (omega arith)

-- the number is whole, and the byte is the colon
abbrev pub IsColon : ℕ → ℕ → ℕ → List ℕ → List ℕ → Type 0
IsColon k n byte rest behind = (n ≡ k) × (byte ≡ 58) × (rest ≡ behind)

-- behind 0
zero_alone : (n byte : ℕ) (rest behind : List ℕ) → n ≤ 255 → decimal 0 ++ byte ∷ rest ≡ decimal n ++ 58 ∷ behind → IsColon 0 n byte rest behind
zero_alone n byte rest behind low e =
    let z : decimal 0 ≡ 48 ∷ [] = decimal_digit 0 (omega arith) in
    let whole : 48 ∷ byte ∷ rest ≡ decimal n ++ 58 ∷ behind = ap (λ l. l ++ byte ∷ rest) (sym z) ∙ e in
    ⊎_elim
    (λ none.
    let zero' : n ≡ 0 = omega arith in
    let same : 48 ∷ byte ∷ rest ≡ 48 ∷ 58 ∷ behind = whole ∙ ap (λ m. decimal m ++ 58 ∷ behind) zero' ∙ ap (λ l. l ++ 58 ∷ behind) z in
    (zero', cc, cc))
    (λ some.
    let f = first_digit n (omega arith) in
    let first : 48 < get_or (decimal n) 0 0 = first_decimal n some (omega arith) in
    let head : get_or (decimal n) 0 0 ≡ 48 + f.digit = ap (λ l. get_or l 0 0) f.is in
    let same : 48 ∷ byte ∷ rest ≡ (48 + f.digit) ∷ (f.others ++ 58 ∷ behind) = whole ∙ ap (λ l. l ++ 58 ∷ behind) f.is in
    let also : 48 ≡ 48 + f.digit = cc in
    absurd (omega arith))
    (cases_lt n 1)

pub behind_zero : (k n byte : ℕ) (rest behind : List ℕ) → k ≡ 0 → n ≤ 255 → decimal k ++ byte ∷ rest ≡ decimal n ++ 58 ∷ behind → IsColon k n byte rest behind
behind_zero k n byte rest behind is low e =
    let alone = zero_alone n byte rest behind low (ap (λ m. decimal m ++ byte ∷ rest) (sym is) ∙ e) in
    (alone.0 ∙ sym is, alone.1, alone.2)

-- behind a number, where no digit stands
pub behind_number : (k n byte : ℕ) (rest behind : List ℕ) → is_ascii_digit byte ≡ false → k ≤ 255 → n ≤ 255 → decimal k ++ byte ∷ rest ≡ decimal n ++ 58 ∷ behind → IsColon k n byte rest behind
behind_number k n byte rest behind other small low e =
    let same : ◌≡◌ {A = ℕ × List ℕ} (k, byte ∷ rest) (n, 58 ∷ behind) = sym (read_stop k byte rest other) ∙ colon_read k n (byte ∷ rest) behind small low e in
    let number : k ≡ n = ap (λ p. p.0) same in
    let bytes : byte ∷ rest ≡ 58 ∷ behind = ap (λ p. p.1) same in
    (sym number, cc, cc)

-- behind a number that gets too high by a digit
pub too_high : (k n byte : ℕ) (rest behind : List ℕ) → is_ascii_digit byte ≡ true → 255 < k * 10 + (byte - 48) → k ≤ 255 → n ≤ 255 → decimal k ++ byte ∷ rest ≡ decimal n ++ 58 ∷ behind → ⊥
too_high k n byte rest behind is high small low e =
    let more : ℕ = k * 10 + (byte - 48) in
    let same : read_on more rest ≡ (n, 58 ∷ behind) = sym (read_digit k byte rest is) ∙ colon_read k n (byte ∷ rest) behind small low e in
    let number : (read_on more rest).0 ≡ n = ap (λ p. p.0) same in
    let le : more ≤ (read_on more rest).0 = read_more more rest in
    omega arith

-- numbers up to a colon are read in one way
pub one_number : (n m : ℕ) (rest behind : List ℕ) → n ≤ 255 → m ≤ 255 → decimal n ++ 58 ∷ rest ≡ decimal m ++ 58 ∷ behind → (n ≡ m) × (rest ≡ behind)
one_number n m rest behind low also e = (let is = behind_number n m 58 rest behind refl low also e in (sym is.0, is.2))
