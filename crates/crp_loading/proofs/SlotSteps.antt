-- The digits of slots.
use Rattle.std.proofs.Common.{◌≡◌, ◌∙◌, ℕ, ◌+◌, ◌*◌, ◌/◌, ◌%◌, ◌-◌, ◌≤◌, ◌==◌, arith, Bool, true, false, List, [], ◌∷◌, length, refl, sym}
use Rattle.std.specs.Prelude.{◌&&◌, ◌||◌}
use Rattle.std.specs.List.{list_all}
use Rattle.std.specs.Char.{is_ascii_digit}
use Rattle.std.proofs.lemmas.Bool.{false≢true}
use Rattle.std.proofs.lemmas.Bool.Decides.{nat_tests}
use Rattle.crp_movins.specs.Digits.{is_slot, slot_of, seven_digits, number_of}
use Rattle.crp_order.specs.SlotDigits.{slot_text}

-- a byte is a digit
abbrev IsDigit : ℕ → Type 0
IsDigit b = (48 ≤ b) × (b ≤ 57)

digit_of : (b : ℕ) → is_ascii_digit b ≡ true → IsDigit b
digit_of b e = (grind (arith, nat_tests), grind (arith, nat_tests))

both_of : (a b : Bool) → (a && b) ≡ true → (a ≡ true) × (b ≡ true)
both_of true b e = (refl, e)
both_of false b e = absurd (false≢true e)

digits_of : (x : ℕ) (xs : List ℕ) → list_all is_ascii_digit (x ∷ xs) ≡ true → IsDigit x × (list_all is_ascii_digit xs ≡ true)
digits_of x xs e = let p = both_of (is_ascii_digit x) (list_all is_ascii_digit xs) e in (digit_of x p.0, p.1)

three : (a b c : ℕ) → IsDigit a → IsDigit b → IsDigit c → (n : ℕ) → n ≡ ((0 * 10 + (a - 48)) * 10 + (b - 48)) * 10 + (c - 48) → (48 + n / 100 % 10 ≡ a) × (48 + n / 10 % 10 ≡ b) × (48 + n % 10 ≡ c)
three a b c p q r n e = (omega arith, omega arith, omega arith)

two : (a b : ℕ) → IsDigit a → IsDigit b → (n : ℕ) → n ≡ (0 * 10 + (a - 48)) * 10 + (b - 48) → (48 + n / 10 % 10 ≡ a) × (48 + n % 10 ≡ b)
two a b p q n e = (omega arith, omega arith)

seven : (a b c d e f g : ℕ) → list_all is_ascii_digit (a ∷ b ∷ c ∷ d ∷ e ∷ f ∷ g ∷ []) ≡ true
    → slot_text (record { bay = number_of (a ∷ b ∷ c ∷ []); row = number_of (d ∷ e ∷ []); tier = number_of (f ∷ g ∷ []) }) ≡ a ∷ b ∷ c ∷ d ∷ e ∷ f ∷ g ∷ []
seven a b c d e f g all =
    let pa = digits_of a (b ∷ c ∷ d ∷ e ∷ f ∷ g ∷ []) all in
    let pb = digits_of b (c ∷ d ∷ e ∷ f ∷ g ∷ []) pa.1 in
    let pc = digits_of c (d ∷ e ∷ f ∷ g ∷ []) pb.1 in
    let pd = digits_of d (e ∷ f ∷ g ∷ []) pc.1 in
    let pe = digits_of e (f ∷ g ∷ []) pd.1 in
    let pf = digits_of f (g ∷ []) pe.1 in
    let pg = digits_of g [] pf.1 in
    let bay = three a b c pa.0 pb.0 pc.0 (number_of (a ∷ b ∷ c ∷ [])) refl in
    let row = two d e pd.0 pe.0 (number_of (d ∷ e ∷ [])) refl in
    let tier = two f g pf.0 pg.0 (number_of (f ∷ g ∷ [])) refl in
    rw (bay.0, bay.1, bay.2, row.0, row.1, tier.0, tier.1) refl

too_long : (n : ℕ) → 8 ≤ n → ((n == 6) || (n == 7)) ≡ false
too_long n le = grind (arith, nat_tests)

pub slots : (text : List ℕ) → is_slot text ≡ true → slot_text (slot_of text) ≡ seven_digits text
unfolding slot_of
slots [] h = absurd (false≢true h)
slots (a ∷ []) h = absurd (false≢true h)
slots (a ∷ b ∷ []) h = absurd (false≢true h)
slots (a ∷ b ∷ c ∷ []) h = absurd (false≢true h)
slots (a ∷ b ∷ c ∷ d ∷ []) h = absurd (false≢true h)
slots (a ∷ b ∷ c ∷ d ∷ e ∷ []) h = absurd (false≢true h)
slots (a ∷ b ∷ c ∷ d ∷ e ∷ f ∷ []) h = seven 48 a b c d e f h
slots (a ∷ b ∷ c ∷ d ∷ e ∷ f ∷ g ∷ []) h = seven a b c d e f g h
slots (a ∷ b ∷ c ∷ d ∷ e ∷ f ∷ g ∷ i ∷ text) h = absurd (false≢true (sym (too_long (length (a ∷ b ∷ c ∷ d ∷ e ∷ f ∷ g ∷ i ∷ text)) (omega arith)) ∙ (both_of _ _ h).0))
