-- The pieces of a text, and its lines that are not empty.
use Rattle.std.proofs.Common.{◌≡◌, ◌≢◌, ◌∙◌, ℕ, zero, suc, ◌+◌, ◌-◌, ◌==◌, cond, arith, List, [], ◌∷◌, ◌++◌, length, take, refl, sym, ap, Bool, true, false}
use Rattle.std.specs.Prelude.{slice_index}
use Rattle.std.proofs.lemmas.Bool.{ne_eqb}
use Rattle.crp_said.proofs.Bytes.{IsPlain}
use Rattle.crp_follow.specs.Lines.{Line, begun_with, pieces_of, without_cr, line_unless_empty, numbered}

-- a byte that is no LF stands in the first piece
begun : (b : ℕ) (bytes : List ℕ) → b ≢ 10 → pieces_of (b ∷ bytes) ≡ begun_with b (pieces_of bytes)
begun b bytes not = rw (ne_eqb b 10 not) refl

pub cut_ended : (piece rest : List ℕ) → IsPlain piece → pieces_of (piece ++ 10 ∷ rest) ≡ piece ∷ pieces_of rest
cut_ended [] rest plain = refl
cut_ended (b ∷ piece) rest plain = begun b (piece ++ 10 ∷ rest) plain.0 ∙ ap (begun_with b) (cut_ended piece rest plain.1)

pub cut_plain : (piece : List ℕ) → IsPlain piece → piece ≢ [] → pieces_of piece ≡ piece ∷ pieces_of []
cut_plain [] plain some = absurd (some refl)
cut_plain (b ∷ []) plain some = begun b [] plain.0
cut_plain (b ∷ c ∷ piece) plain some = begun b (c ∷ piece) plain.0 ∙ ap (begun_with b) (cut_plain (c ∷ piece) plain.1 (λ e. cc))

plain_take : (n : ℕ) (xs : List ℕ) → IsPlain xs → IsPlain (take n xs)
plain_take zero xs plain = tt
plain_take (suc n) [] plain = tt
plain_take (suc n) (x ∷ xs) plain = (plain.0, plain_take n xs plain.1)

either_plain : (t : Bool) (xs ys : List ℕ) → IsPlain xs → IsPlain ys → IsPlain (cond t xs ys)
either_plain true xs ys a b = a
either_plain false xs ys a b = b

-- a piece without its CR has no LF
pub plain_without : (piece : List ℕ) → IsPlain piece → IsPlain (without_cr piece)
plain_without piece plain = either_plain (slice_index piece (length piece - 1) == 13) (take (length piece - 1) piece) piece (plain_take (length piece - 1) piece plain) plain

-- the next piece, as a line or as none
pub line_there : (number : ℕ) (body : List ℕ) (more : List Line) → body ≢ [] → line_unless_empty number body ++ more ≡ record { number = number; body = body } ∷ more
line_there number [] more some = absurd (some refl)
line_there number (b ∷ body) more some = refl

pub next_numbered : (number : ℕ) (bytes piece behind : List ℕ) → pieces_of bytes ≡ piece ∷ pieces_of behind
    → numbered number (pieces_of bytes) ≡ line_unless_empty number (without_cr piece) ++ numbered (number + 1) (pieces_of behind)
next_numbered number bytes piece behind e =
    let next : suc number ≡ number + 1 = omega arith in
    ap (numbered number) e ∙ ap (λ n. line_unless_empty number (without_cr piece) ++ numbered n (pieces_of behind)) next

pub empty_piece : (number : ℕ) (bytes piece body behind : List ℕ) → pieces_of bytes ≡ piece ∷ pieces_of behind → body ≡ without_cr piece → body ≡ []
    → numbered number (pieces_of bytes) ≡ numbered (number + 1) (pieces_of behind)
empty_piece number bytes piece body behind e is none =
    next_numbered number bytes piece behind e ∙ ap (λ l. line_unless_empty number l ++ numbered (number + 1) (pieces_of behind)) (sym is ∙ none)

pub line_piece : (number : ℕ) (bytes piece body behind : List ℕ) → pieces_of bytes ≡ piece ∷ pieces_of behind → body ≡ without_cr piece → body ≢ []
    → numbered number (pieces_of bytes) ≡ record { number = number; body = body } ∷ numbered (number + 1) (pieces_of behind)
line_piece number bytes piece body behind e is some =
    next_numbered number bytes piece behind e ∙ ap (λ l. line_unless_empty number l ++ numbered (number + 1) (pieces_of behind)) (sym is)
    ∙ line_there number body (numbered (number + 1) (pieces_of behind)) some
