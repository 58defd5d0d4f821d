-- The code of a fault is ASCII, and so UTF-8.
use Rattle.std.proofs.Common.{nat_le, ◌≡◌, ℕ, zero, suc, ◌<◌, ◌≤◌, true, List, [], ◌∷◌, take, arith}
use Rattle.std.specs.Prelude.{slice_index}
use Rattle.std.specs.Char.{is_ascii_digit, is_ascii_uppercase}
use Rattle.std.specs.Str.{IsUtf8}
use Rattle.std.proofs.lemmas.Str.{IsUtf8-from_ascii}
use Rattle.std.proofs.lemmas.Bool.{and_parts, leb-true}
use Rattle.crp_json.specs.Errors.{is_short_code, is_long_code}

upper_low : (b : ℕ) → is_ascii_uppercase b ≡ true → b < 128
upper_low b e = let h : b ≤ 90 = leb-true b 90 (and_parts (nat_le 65 b) (nat_le b 90) e).1 in omega (arith, h)

digit_low : (b : ℕ) → is_ascii_digit b ≡ true → b < 128
digit_low b e = let h : b ≤ 57 = leb-true b 57 (and_parts (nat_le 48 b) (nat_le b 57) e).1 in omega (arith, h)

low_two : (a b : ℕ) → a < 128 → b < 128 → (i : ℕ) → slice_index (a ∷ b ∷ []) i < 128
low_two a b ha hb zero = ha
low_two a b ha hb (suc zero) = hb
low_two a b ha hb (suc (suc i)) = omega arith

low_three : (a b c : ℕ) → a < 128 → b < 128 → c < 128 → (i : ℕ) → slice_index (a ∷ b ∷ c ∷ []) i < 128
low_three a b c ha hb hc zero = ha
low_three a b c ha hb hc (suc i) = low_two b c hb hc i

pub short_text : (text : List ℕ) → is_short_code text ≡ true → IsUtf8 (take 2 text)
short_text [] e = cc
short_text (a ∷ []) e = cc
short_text (a ∷ b ∷ rest) e =
    let p = and_parts _ _ e in
    let q = and_parts _ _ p.1 in
    IsUtf8-from_ascii (a ∷ b ∷ []) (low_two a b (upper_low a p.0) (digit_low b q.0))

pub long_text : (text : List ℕ) → is_long_code text ≡ true → IsUtf8 (take 3 text)
long_text [] e = cc
long_text (a ∷ []) e = cc
long_text (a ∷ b ∷ []) e = cc
long_text (a ∷ b ∷ c ∷ rest) e =
    let p = and_parts _ _ e in
    let q = and_parts _ _ p.1 in
    let r = and_parts _ _ q.1 in
    IsUtf8-from_ascii (a ∷ b ∷ c ∷ []) (low_three a b c (upper_low a p.0) (digit_low b q.0) (digit_low c r.0))
