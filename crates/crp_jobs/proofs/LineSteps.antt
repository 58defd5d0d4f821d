-- The lines of a report, one after the other.
use Rattle.std.proofs.Common.{◌≡◌, ◌≢◌, ◌∙◌, ℕ, suc, ◌+◌, ◌-◌, List, [], ◌∷◌, ◌++◌, Option, Some, None, length, refl, ap, arith}
use Rattle.std.specs.Prelude.{slice_get}
use Rattle.std.specs.List.{AllByRecursion}
use Rattle.std.proofs.lemmas.Bool.{ne_eqb}
use Rattle.crp_follow.specs.Lines.{begun_with, pieces_of}
use Rattle.crp_jobs.specs.ReportLines.{line_numbered}

-- no LF
abbrev pub IsPlain : List ℕ → Type 0
IsPlain bytes = AllByRecursion (λ b. b ≢ 10) bytes

-- a byte that is no LF stands in the first piece
begun : (b : ℕ) (bytes : List ℕ) → b ≢ 10 → pieces_of (b ∷ bytes) ≡ begun_with b (pieces_of bytes)
begun b bytes other = rw (ne_eqb b 10 other) refl

-- a line with its end, and one without
pub ended_pieces : (line rest : List ℕ) → IsPlain line → pieces_of (line ++ 10 ∷ rest) ≡ line ∷ pieces_of rest
ended_pieces [] rest plain = refl
ended_pieces (b ∷ line) rest plain = begun b (line ++ 10 ∷ rest) plain.0 ∙ ap (begun_with b) (ended_pieces line rest plain.1)

pub plain_pieces : (line : List ℕ) → IsPlain line → line ≢ [] → pieces_of line ≡ line ∷ []
plain_pieces [] plain some = absurd (some refl)
plain_pieces (b ∷ []) plain some = begun b [] plain.0
plain_pieces (b ∷ c ∷ line) plain some = begun b (c ∷ line) plain.0 ∙ ap (begun_with b) (plain_pieces (c ∷ line) plain.1 (λ e. cc))

-- the first line
pub first_ended : (text line rest : List ℕ) → text ≡ line ++ 10 ∷ rest → IsPlain line → slice_get (pieces_of text) 0 ≡ Some line
first_ended text line rest is plain = ap (λ t. slice_get (pieces_of t) 0) is ∙ ap (λ p. slice_get p 0) (ended_pieces line rest plain)

pub first_plain : (text : List ℕ) → IsPlain text → text ≢ [] → slice_get (pieces_of text) 0 ≡ Some text
first_plain text plain some = ap (λ p. slice_get p 0) (plain_pieces text plain some)

-- the lines behind it
pub next_ended : (k : ℕ) (text line rest : List ℕ) → text ≡ line ++ 10 ∷ rest → IsPlain line → slice_get (pieces_of text) (k + 1) ≡ slice_get (pieces_of rest) k
next_ended k text line rest is plain =
    let next : k + 1 ≡ suc k = omega arith in
    ap (λ t. slice_get (pieces_of t) (k + 1)) is ∙ ap (λ p. slice_get p (k + 1)) (ended_pieces line rest plain) ∙ ap (slice_get (line ∷ pieces_of rest)) next

pub next_plain : (k : ℕ) (text : List ℕ) → IsPlain text → slice_get (pieces_of text) (k + 1) ≡ None
next_plain k [] plain = refl
next_plain k (b ∷ text) plain =
    let next : k + 1 ≡ suc k = omega arith in
    ap (λ p. slice_get p (k + 1)) (plain_pieces (b ∷ text) plain (λ e. cc)) ∙ ap (slice_get ((b ∷ text) ∷ [])) next

-- so many lines are passed: the line at this place is the same behind them
pub passed_more : (text rest after : List ℕ) (i : ℕ) → ((k : ℕ) → slice_get (pieces_of text) (i + k) ≡ slice_get (pieces_of rest) k)
    → ((k : ℕ) → slice_get (pieces_of rest) (k + 1) ≡ slice_get (pieces_of after) k) → (k : ℕ) → slice_get (pieces_of text) (i + 1 + k) ≡ slice_get (pieces_of after) k
passed_more text rest after i so next k =
    let e : i + 1 + k ≡ i + (k + 1) = omega arith in
    ap (slice_get (pieces_of text)) e ∙ so (k + 1) ∙ next k

-- behind the last line there is none
pub no_pieces : (rest : List ℕ) → length rest ≡ 0 → slice_get (pieces_of rest) 0 ≡ None
no_pieces [] e = refl
no_pieces (b ∷ rest) e = absurd cc

-- the line with this number is the one at this place, if there is one
pub line-at : (text : List ℕ) (n : ℕ) (line : Option (List ℕ)) → n ≢ 0 → slice_get (pieces_of text) (n - 1) ≡ line → line_numbered text n ≡ line
line-at text n line counts is = rw (ne_eqb n 0 counts) is

pub no_line : (text : List ℕ) (n : ℕ) → n ≢ 0 → slice_get (pieces_of text) (n - 1) ≡ None → line_numbered text n ≡ None
no_line text n counts none = line-at text n None counts none
