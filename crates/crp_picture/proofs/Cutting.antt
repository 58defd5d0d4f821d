-- Names, piece by piece.
use Rattle.std.proofs.Common.{◌≡◌, ◌∙◌, inl, inr, ℕ, zero, suc, ◌-◌, ◌<◌, ◌≤◌, ◌==◌, Bool, true, false, List, [], ◌∷◌, ◌++◌, Option, length, take, drop, refl, sym, ap, arith, append_assoc, append-nil}
use Rattle.std.specs.Prelude.{flat_map}
use Rattle.std.proofs.lemmas.Bool.{true≢false}
use Rattle.std.proofs.lemmas.Bool.Decides.{eqb_tells}
use Rattle.std.proofs.lemmas.List.{length-drop}
use Rattle.bstr.specs.Utf8.{Decoded, decoded, pieces}
use Rattle.bstr.proofs.lemmas.PieceLemmas.{pieces-nil, pieces-step, piece-bounds}
use Rattle.crp_picture.specs.Names.{behind, last_four, escaped_piece, escaped_pieces, escaped, label_piece}

-- ---- the first piece

-- it takes some bytes, and no more than there are
pub first_some : (name : List ℕ) → 0 < length name → (1 ≤ (decoded name).size) × ((decoded name).size ≤ length name)
first_some name some = let bounds = piece-bounds name some in (bounds.0, bounds.2)

pub counted_first : (name : List ℕ) → 0 < length name → length (pieces name) ≡ suc (length (pieces (drop (decoded name).size name)))
counted_first name some = ap length (pieces-step name some)

escaped_first : (name : List ℕ) → 0 < length name → escaped name ≡ escaped_piece (decoded name).char (take (decoded name).size name) ++ escaped (drop (decoded name).size name)
escaped_first name some = ap (λ ps. escaped_pieces ps name) (pieces-step name some)

each_first : (f : Decoded → List ℕ) (name : List ℕ) → 0 < length name → flat_map f (pieces name) ≡ f (decoded name) ++ flat_map f (pieces (drop (decoded name).size name))
each_first f name some = ap (flat_map f) (pieces-step name some)

-- ---- nothing is left

-- what a test of bytes says
pub some_left : (name : List ℕ) (t : Bool) → t ≡ (length name == 0) → t ≡ false → 0 < length name
some_left [] t is none = absurd (true≢false (sym is ∙ none))
some_left (b ∷ name) t is none = omega arith

pub none_left : (name : List ℕ) (t : Bool) → t ≡ (length name == 0) → t ≡ true → length name ≡ 0
none_left name t is none =
    elim (eqb_tells (length name) 0) [
      | inl h ↦ h.1
      | inr h ↦ absurd (true≢false (sym none ∙ is ∙ h.0))
    ]

no_bytes : (name : List ℕ) → length name ≡ 0 → name ≡ []
no_bytes [] e = refl
no_bytes (b ∷ name) e = absurd (omega (arith, e))

pub counted_none : (name : List ℕ) → length name ≡ 0 → length (pieces name) ≡ 0
counted_none name none = ap (λ n. length (pieces n)) (no_bytes name none) ∙ ap length pieces-nil

pub escaped_none : (name : List ℕ) → length name ≡ 0 → escaped name ≡ []
escaped_none name none = ap escaped (no_bytes name none) ∙ ap (λ ps. escaped_pieces ps []) pieces-nil

pub each_none : (f : Decoded → List ℕ) (name : List ℕ) → length name ≡ 0 → flat_map f (pieces name) ≡ []
each_none f name none = ap (λ n. flat_map f (pieces n)) (no_bytes name none) ∙ ap (flat_map f) pieces-nil

-- ---- texts that grow by a piece, of what is all and what is left

one_more : (init text new all piece before after : List ℕ) → text ++ before ≡ init ++ all → before ≡ piece ++ after → new ≡ text ++ piece → new ++ after ≡ init ++ all
one_more init text new all piece before after was first added =
    ap (λ l. l ++ after) added ∙ append_assoc text piece after ∙ ap (λ l. text ++ l) (sym first) ∙ was

pub all_added : (init text all left : List ℕ) → text ++ left ≡ init ++ all → left ≡ [] → text ≡ init ++ all
all_added init text all left was none = sym (append-nil text) ∙ ap (λ l. text ++ l) (sym none) ∙ was

pub escaped_more : (init text new name rest piece left : List ℕ) (c : Option ℕ) → 0 < length rest → c ≡ (decoded rest).char → piece ≡ take (decoded rest).size rest
    → left ≡ drop (decoded rest).size rest → text ++ escaped rest ≡ init ++ escaped name → new ≡ text ++ escaped_piece c piece → new ++ escaped left ≡ init ++ escaped name
escaped_more init text new name rest piece left c some c_is piece_is left_is was added =
    let size = (decoded rest).size in
    let same : escaped_piece (decoded rest).char (take size rest) ≡ escaped_piece c piece = ap (λ o. escaped_piece o (take size rest)) (sym c_is) ∙ ap (escaped_piece c) (sym piece_is) in
    let first : escaped rest ≡ escaped_piece c piece ++ escaped left =
    escaped_first rest some ∙ ap (λ l. l ++ escaped (drop size rest)) same ∙ ap (λ l. escaped_piece c piece ++ escaped l) (sym left_is) in
    one_more init text new (escaped name) (escaped_piece c piece) (escaped rest) (escaped left) was first added

-- the pieces of a label
abbrev pub labelled : List ℕ → List ℕ
labelled name = flat_map (λ p. label_piece p.char) (pieces name)

pub labelled_more : (init text new name rest left : List ℕ) (c : Option ℕ) → 0 < length rest → c ≡ (decoded rest).char
    → left ≡ drop (decoded rest).size rest → text ++ labelled rest ≡ init ++ labelled name → new ≡ text ++ label_piece c → new ++ labelled left ≡ init ++ labelled name
labelled_more init text new name rest left c some c_is left_is was added =
    let size = (decoded rest).size in
    let first : labelled rest ≡ label_piece c ++ labelled left =
    each_first (λ p. label_piece p.char) rest some ∙ ap (λ o. label_piece o ++ labelled (drop size rest)) (sym c_is) ∙ ap (λ l. label_piece c ++ labelled l) (sym left_is) in
    one_more init text new (labelled name) (label_piece c) (labelled rest) (labelled left) was first added

-- ---- without the pieces at the front

-- without one piece more
pub behind_more : (count : ℕ) (name : List ℕ) → behind (suc count) name ≡ drop (decoded (behind count name)).size (behind count name)
behind_more zero name = refl
behind_more (suc count) name = behind_more count (drop (decoded name).size name)

-- what is left is no longer
pub behind_short : (count : ℕ) (name : List ℕ) → length (behind count name) ≤ length name
behind_short zero name = omega arith
behind_short (suc count) name =
    let size = (decoded name).size in
    let rest = behind_short count (drop size name) in
    omega (arith, rest, length-drop size name)

-- its pieces are the other ones
left_over : (name : List ℕ) → length (pieces (drop (decoded name).size name)) ≡ length (pieces name) - 1
left_over [] = omega (arith, ap length pieces-nil)
left_over (b ∷ name) = let first = counted_first (b ∷ name) (omega arith) in omega (arith, first)

pub counted_behind : (count : ℕ) (name : List ℕ) → length (pieces (behind count name)) ≡ length (pieces name) - count
counted_behind zero name = omega arith
counted_behind (suc count) name =
    let rest = counted_behind count (drop (decoded name).size name) in
    omega (arith, rest, left_over name)

pub at_most_four : (name : List ℕ) → length (pieces (last_four name)) ≤ 4
at_most_four name = omega (arith, counted_behind (length (pieces name) - 4) name)
