-- Lines that a text begins with.
use Rattle.std.proofs.Common.{◌≡◌, ℕ, true, false, not, ◌==◌, List, [], ◌∷◌, ◌++◌, refl, sym, ap, ◌∙◌, subst, append_assoc}
use Rattle.std.proofs.lemmas.Bool.{ne_eqb}
use Rattle.crp_said.specs.Said.{words_of_bay}
use Rattle.crp_said.specs.Fields.{is_move}
use Rattle.crp_said.specs.Spelled.{ended, IsMoveBody, IsOrdersLine, IsBayLine, IsLastLine, BeginsWithLine}
use Rattle.crp_said.proofs.Bytes.{IsPlain, line_once, no_end}
use Rattle.crp_said.proofs.FirstLine.{counts_are, last_are}
use Rattle.crp_said.proofs.Words.{plain, counts_words, counts_printed, bay_printed, last_words, last_printed}

-- the line is a text with its LF, which the bytes begin with
pub stands : (bytes line rest text : List ℕ) → bytes ≡ line ++ 10 ∷ rest → ended line ≡ text → bytes ≡ text ++ rest
stands bytes line rest text e is = e ∙ sym (append_assoc line (10 ∷ []) rest) ∙ ap (λ l. l ++ rest) is

-- bytes without LF begin with no line
pub none_begun : (P : List ℕ → Type 0) (bytes : List ℕ) → IsPlain bytes → ¬ BeginsWithLine P bytes
none_begun P bytes one (line, rest, is, e) = no_end line rest (subst IsPlain e one)

-- the first line is of another kind
pub other_begun : (P : List ℕ → Type 0) (bytes line rest : List ℕ) → ((l : List ℕ) → P l → IsPlain l) → bytes ≡ line ++ 10 ∷ rest → IsPlain line → ¬ P line → ¬ BeginsWithLine P bytes
other_begun P bytes line rest each e one other (l, more, is, k) = other (subst P (line_once l line more rest (each l is) one (sym k ∙ e)).0 is)

-- ---- no LF stands in a line

pub orders_plain : (line : List ℕ) → IsOrdersLine line → IsPlain line
orders_plain line (n, small, e) = subst IsPlain (sym (counts_are line n e)) (plain (counts_words n) (counts_printed n))

pub bay_plain : (line : List ℕ) → IsBayLine line → IsPlain line
bay_plain line (bay, said, named, small, e) = subst IsPlain (sym e) (plain (words_of_bay bay said) (bay_printed bay said named))

pub last_plain : (line : List ℕ) → IsLastLine line → IsPlain line
last_plain line (count, settled, few, fewer, e) = subst IsPlain (sym (last_are line count settled e)) (plain (last_words count settled) (last_printed count settled))

pub move_plain : (line : List ℕ) → IsMoveBody line → IsPlain line
move_plain line is = is.one_line

-- ---- a line of moves by its first byte

pub is_body : (line : List ℕ) → is_move line ≡ true → IsPlain line → IsMoveBody line
is_body [] e one = absurd cc
is_body (b ∷ line) e one = record { first = b; rest = line; is = refl; other = λ k. (let t : not (98 == 98) ≡ true = subst (λ x. not (x == 98) ≡ true) k e in cc); one_line = one }

pub no_body : (line : List ℕ) → is_move line ≡ false → ¬ IsMoveBody line
no_body line e is = let yes : is_move line ≡ true = ap is_move is.is ∙ rw (ne_eqb is.first 98 is.other) refl in cc
