-- Bytes up to a mark, and the digits of numbers.
use Rattle.std.proofs.Common.{◌≡◌, ◌≢◌, ℕ, zero, suc, ◌/◌, ◌%◌, ◌<◌, ◌≤◌, ◌==◌, Bool, true, false, not, cond, List, [], ◌∷◌, ◌++◌, refl, sym, ap, ◌∙◌, subst, arith, nat_lt}
use Rattle.std.specs.List.{AllByRecursion, list_all}
use Rattle.std.specs.Fmt.{decimal, digits, digits_onto, digit_glyph}
use Rattle.std.proofs.lemmas.Bool.{and_parts, lt-ltb}
use Rattle.std.proofs.Math.Nat.{mod-lt}
use Rattle.crp_cert.proofs.Joined.{all_both}

-- what holds of each holds of each that is meant less strictly
pub all_weaker : {A : Type 0} (P Q : A → Type 0) (xs : List A) → ((x : A) → P x → Q x) → AllByRecursion P xs → AllByRecursion Q xs
all_weaker P Q [] h a = tt
all_weaker P Q (x ∷ xs) h a = (h x a.0, all_weaker P Q xs h a.1)

-- ---- the first byte, and those behind it

pub first_same : (a b : ℕ) (xs ys : List ℕ) → a ∷ xs ≡ b ∷ ys → a ≡ b
first_same a b xs ys e = cc

pub rest_same : (a b : ℕ) (xs ys : List ℕ) → a ∷ xs ≡ b ∷ ys → xs ≡ ys
rest_same a b xs ys e = cc

-- bytes of a kind up to the first that is not of it: they are the same, and so is what follows
pub cut_once : (P : ℕ → Type 0) (c d : ℕ) (xs ys x y : List ℕ) → (P c → ⊥) → (P d → ⊥) → AllByRecursion P xs → AllByRecursion P ys → xs ++ c ∷ x ≡ ys ++ d ∷ y
    → (xs ≡ ys) × (c ∷ x ≡ d ∷ y)
cut_once P c d [] [] x y c-not d-not a b e = (refl, e)
cut_once P c d [] (h ∷ ys) x y c-not d-not a b e = absurd (c-not (subst P (sym (first_same c h x (ys ++ d ∷ y) e)) b.0))
cut_once P c d (h ∷ xs) [] x y c-not d-not a b e = absurd (d-not (subst P (first_same h d (xs ++ c ∷ x) y e) a.0))
cut_once P c d (h ∷ xs) (k ∷ ys) x y c-not d-not a b e =
    let first : h ≡ k = first_same h k (xs ++ c ∷ x) (ys ++ d ∷ y) e in
    let more = cut_once P c d xs ys x y c-not d-not a.1 b.1 (rest_same h k (xs ++ c ∷ x) (ys ++ d ∷ y) e) in
    (ap (λ t. t ∷ xs) first ∙ ap (λ l. k ∷ l) more.0, more.1)

-- ---- bytes without LF

abbrev pub IsPlain : List ℕ → Type 0
IsPlain bytes = AllByRecursion (λ b. b ≢ 10) bytes

pub plain_both : (xs ys : List ℕ) → IsPlain xs → IsPlain ys → IsPlain (xs ++ ys)
plain_both xs ys a b = all_both (λ b. b ≢ 10) xs ys a b

-- lines are the same, and so is what follows their LF
pub line_once : (l k x y : List ℕ) → IsPlain l → IsPlain k → l ++ 10 ∷ x ≡ k ++ 10 ∷ y → (l ≡ k) × (x ≡ y)
line_once l k x y p q e =
    let cut = cut_once (λ c. c ≢ 10) 10 10 l k x y (λ no. no refl) (λ no. no refl) p q e in (cut.0, rest_same 10 10 x y cut.1)

-- no line ends in bytes without LF
pub no_end : (line rest : List ℕ) → IsPlain (line ++ 10 ∷ rest) → ⊥
no_end [] rest plain = plain.0 refl
no_end (b ∷ line) rest plain = no_end line rest plain.1

-- words pass a test
pub plain_words : (bytes : List ℕ) → list_all (λ b. not (b == 10)) bytes ≡ true → IsPlain bytes
plain_words [] e = tt
plain_words (b ∷ bytes) e =
    let parts = and_parts (not (b == 10)) (list_all (λ b. not (b == 10)) bytes) e in
    (λ ten. let t : not (10 == 10) ≡ true = subst (λ x. not (x == 10) ≡ true) ten parts.0 in cc, plain_words bytes parts.1)

-- ---- the digits of a number

abbrev pub IsDigit : ℕ → Type 0
IsDigit b = (48 ≤ b) × (b ≤ 57)

-- one of two
either : {A : Type 0} (P : A → Type 0) (t : Bool) (x y : A) → P x → P y → P (cond t x y)
either P true x y p q = p
either P false x y p q = q

glyph : (n : ℕ) → IsDigit (digit_glyph false (n % 10))
glyph n =
    let low : n % 10 < 10 = mod-lt n (omega arith) in
    let below : nat_lt (n % 10) 10 ≡ true = lt-ltb (n % 10) 10 low in
    rw below (omega arith, omega (arith, low))

digits_behind : (k n : ℕ) (acc : List ℕ) → AllByRecursion IsDigit acc → AllByRecursion IsDigit (digits_onto k 10 false n acc)
digits_behind zero n acc h = h
digits_behind (suc k) n acc h =
    let more : AllByRecursion IsDigit (digit_glyph false (n % 10) ∷ acc) = (glyph n, h) in
    either (AllByRecursion IsDigit) (n / 10 == 0) (digit_glyph false (n % 10) ∷ acc) (digits_onto k 10 false (n / 10) (digit_glyph false (n % 10) ∷ acc)) more
    (digits_behind k (n / 10) (digit_glyph false (n % 10) ∷ acc) more)

pub are_digits : (n : ℕ) → AllByRecursion IsDigit (decimal n)
unfolding digits
are_digits n = digits_behind 64 n [] tt

pub plain_number : (n : ℕ) → IsPlain (decimal n)
plain_number n = all_weaker IsDigit (λ b. b ≢ 10) (decimal n) (λ b is e. let low = is.0 in omega (arith, e, low)) (are_digits n)
