-- Numbers of a report.
use Rattle.std.proofs.Common.{◌≡◌, ℕ, ◌+◌, ◌-◌, ◌*◌, ◌≤◌, ◌==◌, ⊎_elim, false, true, cond, nat_lt, List, [], ◌∷◌, ◌++◌, length, Some, None, arith, refl, ap, ◌∙◌, subst}
use Rattle.std.specs.Char.{is_ascii_digit}
use Rattle.std.specs.Fmt.{decimal}
use Rattle.std.proofs.lemmas.Bool.{eqb-true}
use Rattle.std.proofs.lemmas.Option.{some_pair_parts, same_Some}
use Rattle.std.proofs.lemmas.List.{append-nil}
use Rattle.crp_cert.specs.Reading.{digits_at, number_at}
use Rattle.crp_cert.proofs.Numbers.{bind_some, if_some, if_none, chosen, number_takes, number_again}
use Rattle.crp_said.specs.Spelled.{most}
use Rattle.crp_said.specs.Fields.{number_alone_at}

-- a number that was read is what the bytes begin with
pub number_found : (bytes : List ℕ) (n : ℕ) (rest : List ℕ) → number_at most bytes ≡ Some (n, rest) → (bytes ≡ decimal n ++ rest) × (n ≤ most)
number_found bytes n rest e = number_takes most bytes n rest (omega arith) (omega arith) e

-- a number is read again where no digit follows
pub number_reread : (n stop : ℕ) (rest : List ℕ) → n ≤ most → is_ascii_digit stop ≡ false → number_at most (decimal n ++ stop ∷ rest) ≡ Some (n, stop ∷ rest)
number_reread n stop rest low not = number_again most n stop rest (omega arith) (omega arith) low not

-- ---- a number that ends the bytes: as it is read before an LF, it is read before nothing

nothing_before : (bs : List ℕ) → bs ++ 10 ∷ [] ≡ 10 ∷ [] → bs ≡ []
nothing_before [] e = refl
nothing_before (b ∷ []) e = cc
nothing_before (b ∷ c ∷ bs) e = cc

digits_end : (limit v : ℕ) (bs : List ℕ) (n : ℕ) → digits_at limit v (bs ++ 10 ∷ []) ≡ Some (n, 10 ∷ []) → digits_at limit v bs ≡ Some (n, [])
digits_end limit v [] n e = ap (λ x. Some (x, [])) (some_pair_parts v n (10 ∷ []) (10 ∷ []) e).0
digits_end limit v (b ∷ bs) n e =
    let more : ℕ = 10 * v + (b - 48) in
    let all : List ℕ = bs ++ 10 ∷ [] in
    ⊎_elim
    (λ yes. let c = if_none (nat_lt limit more) (digits_at limit more all) (n, 10 ∷ []) yes.1 in rw (yes.0, c.0) (digits_end limit more bs n c.1))
    (λ no. let none : b ∷ bs ≡ [] = nothing_before (b ∷ bs) (some_pair_parts v n (b ∷ all) (10 ∷ []) no.1).1 in cc)
    (chosen (is_ascii_digit b) (cond (nat_lt limit more) None (digits_at limit more all)) (Some (v, b ∷ all)) (Some (n, 10 ∷ [])) e)

number_end : (limit : ℕ) (bs : List ℕ) (n : ℕ) → number_at limit (bs ++ 10 ∷ []) ≡ Some (n, 10 ∷ []) → number_at limit bs ≡ Some (n, [])
number_end limit [] n e = cc
number_end limit (b ∷ bs) n e =
    let all : List ℕ = bs ++ 10 ∷ [] in
    ⊎_elim
    (λ yes. let p = some_pair_parts 0 n all (10 ∷ []) yes.1 in rw yes.0 (ap (λ x. Some (x, bs)) p.0 ∙ ap (λ l. Some (n, l)) (nothing_before bs p.1)))
    (λ no. let c = if_some (is_ascii_digit b) (digits_at limit (b - 48) all) (n, 10 ∷ []) no.1 in rw (no.0, c.0) (digits_end limit (b - 48) bs n c.1))
    (chosen (b == 48) (Some (0, all)) (cond (is_ascii_digit b) (digits_at limit (b - 48) all) None) (Some (n, 10 ∷ [])) e)

pub number_whole : (n : ℕ) → n ≤ most → number_at most (decimal n) ≡ Some (n, [])
number_whole n low = number_end most (decimal n) n (number_reread n 10 [] low refl)

none_left : (xs : List ℕ) → (length xs == 0) ≡ true → xs ≡ []
none_left [] e = refl
none_left (x ∷ xs) e = let none : length (x ∷ xs) ≡ 0 = eqb-true (length (x ∷ xs)) 0 e in absurd (omega (arith, none))

-- bytes that are read as a number are its digits
pub alone_found : (bytes : List ℕ) (n : ℕ) → number_alone_at bytes ≡ Some n → (bytes ≡ decimal n) × (n ≤ most)
unfolding number_alone_at
alone_found bytes n e =
    let x = bind_some (number_at most bytes) _ n e in
    let c = if_some (length x.0.1 == 0) (Some x.0.0) n x.2 in
    let same = same_Some x.0.0 n c.1 in
    let f = number_found bytes x.0.0 x.0.1 x.1 in
    (f.0 ∙ ap (λ l. decimal x.0.0 ++ l) (none_left x.0.1 c.0) ∙ append-nil (decimal x.0.0) ∙ ap decimal same, subst (λ v. v ≤ most) same f.1)

-- and the digits are read again
pub alone_again : (n : ℕ) → n ≤ most → number_alone_at (decimal n) ≡ Some n
unfolding number_alone_at
alone_again n low = rw (number_whole n low) refl
