-- The lines of a file of certificates, one after the other.
use Rattle.std.proofs.Common.{◌≡◌, ◌≢◌, ◌<◌, ◌≤◌, ◌∙◌, ◌+◌, ◌-◌, ℕ, zero, suc, Bool, true, false, cond, eqb, List, [], ◌∷◌, ◌++◌, Option, Some, None, length, refl, sym, ap, arith, tests}
use Rattle.std.specs.Prelude.{codes, nat_lt, slice_get, option_map}
use Rattle.std.proofs.lemmas.Bool.{ne_eqb}
use Rattle.crp_follow.specs.Lines.{pieces_of}
use Rattle.crp_jobs.specs.Found.{begins}
use Rattle.crp_jobs.specs.CertificateLines.{begins_text, behind_ends, certificate_text, line_before}
use Rattle.crp_jobs.proofs.LineSteps.{IsPlain, ended_pieces, plain_pieces}

-- one line less, behind which so many ends are left
pub ends_step : (left next : ℕ) (text line rest : List ℕ) → 0 < left → text ≡ line ++ 10 ∷ rest → IsPlain line → next ≡ (cond (begins (codes "end ") line) (left - 1) left)
    → behind_ends left (pieces_of text) ≡ behind_ends next (pieces_of rest)
ends_step left next text line rest some is plain count =
    let counts : left ≢ 0 = λ e. absurd (omega (arith, some, e)) in
    ap (λ (t : List ℕ). behind_ends left (pieces_of t)) is ∙ ap (behind_ends left) (ended_pieces line rest plain)
    ∙ rw (ne_eqb left 0 counts) (ap (λ (n : ℕ). behind_ends n (pieces_of rest)) (sym count))

pub line_less : (text line rest : List ℕ) → text ≡ line ++ 10 ∷ rest → IsPlain line → length (pieces_of text) ≡ suc (length (pieces_of rest))
line_less text line rest is plain = ap (λ (t : List ℕ). length (pieces_of t)) is ∙ ap (λ (p : List (List ℕ)). length p) (ended_pieces line rest plain)

-- there is none
ends_of_one : (left : ℕ) (line : List ℕ) → 0 < left → behind_ends left (line ∷ []) ≡ []
ends_of_one left line some = rw (ne_eqb left 0 (λ e. absurd (omega (arith, some, e)))) refl

pub ends_none : (left : ℕ) (text : List ℕ) → 0 < left → IsPlain text → behind_ends left (pieces_of text) ≡ []
ends_none left [] some plain = refl
ends_none left (b ∷ text) some plain = ap (behind_ends left) (plain_pieces (b ∷ text) plain (λ e. cc)) ∙ ends_of_one left (b ∷ text) some

-- behind no end everything is left
pub no_ends : (lines : List (List ℕ)) → behind_ends 0 lines ≡ lines
no_ends [] = refl
no_ends (line ∷ lines) = refl

-- what is said of a certificate behind others, where these lines are left from its first one on
not_first : (n : ℕ) → 2 ≤ n → nat_lt n 2 ≡ false
not_first n h = grind (arith, tests)

pub said_none : (n : ℕ) (text rest : List ℕ) → 2 ≤ n → behind_ends (n - 1) (pieces_of text) ≡ behind_ends 0 (pieces_of rest) → slice_get (pieces_of rest) 1 ≡ None
    → certificate_text n text ≡ None
said_none n text rest some there none =
    let left : behind_ends (n - 1) (pieces_of text) ≡ pieces_of rest = there ∙ no_ends (pieces_of rest) in
    rw (not_first n some) (ap (λ (l : List (List ℕ)). option_map (begins_text n (line_before (pieces_of text) l)) (slice_get l 1)) left
    ∙ ap (option_map (begins_text n (line_before (pieces_of text) (pieces_of rest)))) none)

pub said_some : (n passed : ℕ) (text rest line : List ℕ) → 2 ≤ n → behind_ends (n - 1) (pieces_of text) ≡ behind_ends 0 (pieces_of rest)
    → passed + length (pieces_of rest) ≡ length (pieces_of text) → slice_get (pieces_of rest) 1 ≡ Some line → certificate_text n text ≡ Some (begins_text n (passed + 1) line)
said_some n passed text rest line some there before at =
    let left : behind_ends (n - 1) (pieces_of text) ≡ pieces_of rest = there ∙ no_ends (pieces_of rest) in
    let number : length (pieces_of text) - length (pieces_of rest) + 1 ≡ passed + 1 = omega (arith, before) in
    rw (not_first n some) (ap (λ (l : List (List ℕ)). option_map (begins_text n (line_before (pieces_of text) l)) (slice_get l 1)) left
    ∙ ap (option_map (begins_text n (line_before (pieces_of text) (pieces_of rest)))) at ∙ ap (λ (k : ℕ). Some (begins_text n k line)) number)
