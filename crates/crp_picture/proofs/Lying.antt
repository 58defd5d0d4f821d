-- Boxes of different places do not overlap, and the label of a place stands in it.
use Rattle.std.proofs.Common.{◌≡◌, ◌≢◌, ◌∙◌, inl, inr, ℕ, zero, suc, ◌+◌, ◌-◌, ◌*◌, ◌<◌, ◌≤◌, ◌==◌, Bool, true, false, cond, List, [], ◌∷◌, ◌++◌, length, Option, None, Some, refl, sym, ap, subst, arith, append_assoc, append-nil}
use Rattle.std.specs.Prelude.{◌/◌, ◌%◌, ◌&&◌, nat_le, nat_lt, codes, flat_map}
use Rattle.std.specs.Char.{encode_utf8}
use Rattle.std.specs.Fmt.{digits}
use Rattle.std.proofs.lemmas.Bool.{cases_lt, true≢false}
use Rattle.std.proofs.lemmas.Bool.Decides.{leb_tells, eqb_tells}
use Rattle.bstr.specs.Utf8.{Decoded, pieces, continues}
use Rattle.crp_said.specs.declared.moves.Place.{Place}
use Rattle.crp_picture.specs.declared.wording.Wording.TheVariants as wording
use Rattle.crp_picture.specs.Grid.{x_of, y_of, line}
use Rattle.crp_picture.specs.Names.{spaces, last_four, is_in, is_narrow, label_char, label_piece, label}
use Rattle.crp_picture.specs.Cells.{Cell}
use Rattle.crp_picture.specs.Pictures.{cell_at, has_piece, piece_of, last_row, pieces_to}
use Rattle.crp_picture.proofs.Cutting.{at_most_four}
use Rattle.crp_picture.specs.Rectangles.{rectangle_of, IsPlaceUnder, AreApart, IsBoxIn, characters, IsLabelIn}

-- ---- places

abbrev made : ℕ → ℕ → Place
made row tier = record { row = row; tier = tier }

pub are_apart : (tiers : ℕ) (a b : Place) → IsPlaceUnder tiers a → IsPlaceUnder tiers b → a ≢ b → AreApart (rectangle_of tiers a) (rectangle_of tiers b)
are_apart tiers a b (a-row, a-low, a-high) (b-row, b-low, b-high) other =
    elim (cases_lt a.row b.row) [
      | inl before ↦ inl (omega (arith, a-row, before))
      | inr behind ↦
          elim (cases_lt b.row a.row) [
            | inl after ↦ inr (inl (omega (arith, b-row, after)))
            | inr same ↦
                elim (cases_lt a.tier b.tier) [
                  | inl below ↦ inr (inr (inr (omega (arith, below, b-high))))
                  | inr over ↦
                      elim (cases_lt b.tier a.tier) [
                        | inl above ↦ inr (inr (inl (omega (arith, above, a-high))))
                        | inr level ↦
                            let row : a.row ≡ b.row = omega (arith, behind, same) in
                            let tier : a.tier ≡ b.tier = omega (arith, over, level) in
                            absurd (other (ap (λ r. made r a.tier) row ∙ ap (made b.row) tier))
                      ]
                ]
          ]
    ]

pub box_in : (tiers : ℕ) (p : Place) → IsBoxIn tiers p
unfolding digits
box_in tiers p = record {
  x = x_of p.row + 2;
  y = y_of tiers p.tier + 16;
  long = 36;
  drawn = refl;
  within = record { left = omega arith; right = omega arith; upper = omega arith; lower = omega arith };
}

-- ---- characters

-- a number above a range is not in it
above : (least most c : ℕ) → most < c → is_in least most c ≡ false
above least most c lt =
    elim (leb_tells c most) [
      | inl h ↦ absurd (omega (arith, h.1, lt))
      | inr h ↦ rw h.0 (and_false (nat_le least c))
    ]
  where
    and_false : (t : Bool) → (t && false) ≡ false
    and_false true = refl
    and_false false = refl

-- a narrow character takes two bytes at most
narrow_short : (c : ℕ) → is_narrow c ≡ true → c < 2048
narrow_short c narrow =
    elim (cases_lt 1327 c) [
      | inl far ↦ absurd (true≢false (sym narrow ∙ none far))
      | inr near ↦ omega (arith, near)
    ]
  where
    none : 1327 < c → is_narrow c ≡ false
    none far = rw (above 32 126 c (omega (arith, far)), above 161 172 c (omega (arith, far)), above 174 767 c (omega (arith, far)), above 880 1154 c (omega (arith, far)), above 1162 1327 c far) refl

-- a byte that begins a character, and one that goes on with it
begins : (b : ℕ) (ys : List ℕ) → (b == 38) ≡ false → continues b ≡ false → characters (b ∷ ys) ≡ suc (characters ys)
begins b ys plain first = rw (plain, first) refl

goes_on : (b : ℕ) (ys : List ℕ) → (b == 38) ≡ false → continues b ≡ true → characters (b ∷ ys) ≡ characters ys
goes_on b ys plain first = rw (plain, first) refl

other_byte : (b : ℕ) → b ≢ 38 → (b == 38) ≡ false
other_byte b other =
    elim (eqb_tells b 38) [
      | inl h ↦ absurd (other h.1)
      | inr h ↦ h.0
    ]

ascii_begins : (b : ℕ) → b < 128 → continues b ≡ false
ascii_begins b small =
    elim (leb_tells 128 b) [
      | inl h ↦ absurd (omega (arith, h.1, small))
      | inr h ↦ rw h.0 refl
    ]

lead_begins : (b : ℕ) → 192 ≤ b → continues b ≡ false
lead_begins b large =
    elim (leb_tells (suc b) 192) [
      | inl h ↦ absurd (omega (arith, h.1, large))
      | inr h ↦ rw h.0 (and_false (nat_lt 127 b))
    ]
  where
    and_false : (t : Bool) → (t && false) ≡ false
    and_false true = refl
    and_false false = refl

continues_on : (b : ℕ) → 128 ≤ b → b < 192 → continues b ≡ true
continues_on b low high =
    elim (leb_tells 128 b) [
      | inl h ↦
          elim (leb_tells (suc b) 192) [
            | inl k ↦ rw (h.0, k.0) refl
            | inr k ↦ absurd (omega (arith, k.1, high))
          ]
      | inr h ↦ absurd (omega (arith, h.1, low))
    ]

-- the bytes of a character that has one or two
one_byte : (c : ℕ) → c < 128 → encode_utf8 c ≡ c ∷ []
unfolding encode_utf8
one_byte c small =
    elim (leb_tells (suc c) 128) [
      | inl h ↦ rw h.0 refl
      | inr h ↦ absurd (omega (arith, h.1, small))
    ]

two_bytes : (c : ℕ) → 128 ≤ c → c < 2048 → encode_utf8 c ≡ (192 + c / 64) ∷ (128 + c % 64) ∷ []
unfolding encode_utf8
two_bytes c low high =
    elim (leb_tells (suc c) 128) [
      | inl h ↦ absurd (omega (arith, h.1, low))
      | inr h ↦
          elim (leb_tells (suc c) 2048) [
            | inl k ↦ rw (h.0, k.0) refl
            | inr k ↦ absurd (omega (arith, k.1, high))
          ]
    ]

narrow_one : (c : ℕ) (ys : List ℕ) → (c == 38) ≡ false → c < 2048 → characters (encode_utf8 c ++ ys) ≡ suc (characters ys)
narrow_one c ys plain short =
    elim (cases_lt c 128) [
      | inl small ↦ ap (λ l. characters (l ++ ys)) (one_byte c small) ∙ begins c ys plain (ascii_begins c small)
      | inr large ↦
          let lead : 192 ≤ 192 + c / 64 = omega arith in
          let low : 128 ≤ 128 + c % 64 = omega arith in
          let high : 128 + c % 64 < 192 = omega arith in
          ap (λ l. characters (l ++ ys)) (two_bytes c large short) ∙ begins (192 + c / 64) ((128 + c % 64) ∷ ys) (other_byte (192 + c / 64) (λ e. omega (arith, lead, e))) (lead_begins (192 + c / 64) lead)
          ∙ ap suc (goes_on (128 + c % 64) ys (other_byte (128 + c % 64) (λ e. omega (arith, low, e))) (continues_on (128 + c % 64) low high))
    ]

char_one : (c : ℕ) (ys : List ℕ) → characters (label_char c ++ ys) ≡ suc (characters ys)
char_one c ys =
    elim (eqb_tells c 38) [
      | inl h ↦ rw h.0 refl
      | inr a ↦
          elim (eqb_tells c 60) [
            | inl h ↦ rw (a.0, h.0) refl
            | inr b ↦
                elim (eqb_tells c 62) [
                  | inl h ↦ rw (a.0, b.0, h.0) refl
                  | inr d ↦
                      elim (eqb_tells c 34) [
                        | inl h ↦ rw (a.0, b.0, d.0, h.0) refl
                        | inr e ↦
                            elim (eqb_tells c 39) [
                              | inl h ↦ rw (a.0, b.0, d.0, e.0, h.0) refl
                              | inr f ↦ rw (a.0, b.0, d.0, e.0, f.0) (plain_one (is_narrow c) (λ narrow. narrow_one c ys a.0 (narrow_short c narrow)))
                            ]
                      ]
                ]
          ]
    ]
  where
    plain_one : (t : Bool) → (t ≡ true → characters (encode_utf8 c ++ ys) ≡ suc (characters ys)) → characters (cond t (encode_utf8 c) (codes "&#183;") ++ ys) ≡ suc (characters ys)
    plain_one true narrow = narrow refl
    plain_one false narrow = refl

piece_one : (o : Option ℕ) (ys : List ℕ) → characters (label_piece o ++ ys) ≡ suc (characters ys)
piece_one None ys = refl
piece_one (Some c) ys = char_one c ys

shown : List Decoded → List ℕ
shown ps = flat_map (λ p. label_piece p.char) ps

pieces_each : (ps : List Decoded) (ys : List ℕ) → characters (shown ps ++ ys) ≡ length ps + characters ys
unfolding shown
pieces_each [] ys = omega arith
pieces_each (p ∷ ps) ys =
    let first = ap characters (append_assoc (label_piece p.char) (shown ps) ys) ∙ piece_one p.char (shown ps ++ ys) in
    let more = pieces_each ps ys in omega (arith, first, more)

-- ---- a label: a space, and four characters

record IsFive (piece : List ℕ) : Type 0 where
  letters : List ℕ
  piece_is : piece ≡ 32 ∷ letters
  long : (ys : List ℕ) → characters (letters ++ ys) ≡ 4 + characters ys

spaced_five : (n k : ℕ) (shown : List ℕ) → n + k ≡ 4 → ((ys : List ℕ) → characters (shown ++ ys) ≡ k + characters ys) → IsFive (spaces (suc n) ++ shown)
spaced_five n k shown e long = by n e
  where
    by : (n : ℕ) → n + k ≡ 4 → IsFive (spaces (suc n) ++ shown)
    by zero e = record { letters = shown; piece_is = refl; long = λ ys. let m = long ys in omega (arith, m, e) }
    by (suc zero) e = record { letters = 32 ∷ shown; piece_is = refl; long = λ ys. let m = long ys in omega (arith, m, e) }
    by (suc (suc zero)) e = record { letters = 32 ∷ 32 ∷ shown; piece_is = refl; long = λ ys. let m = long ys in omega (arith, m, e) }
    by (suc (suc (suc zero))) e = record { letters = 32 ∷ 32 ∷ 32 ∷ shown; piece_is = refl; long = λ ys. let m = long ys in omega (arith, m, e) }
    by (suc (suc (suc (suc zero)))) e = record { letters = 32 ∷ 32 ∷ 32 ∷ 32 ∷ shown; piece_is = refl; long = λ ys. let m = long ys in omega (arith, m, e) }
    by (suc (suc (suc (suc (suc n))))) e = absurd (omega (arith, e))

label_five : (name : List ℕ) → IsFive (label name)
unfolding shown
label_five name =
    let ps = pieces (last_four name) in
    let k = length ps in
    let few : k ≤ 4 = at_most_four name in
    let n : 5 - k ≡ suc (4 - k) = omega (arith, few) in
    subst (λ w. IsFive (spaces w ++ shown ps)) (sym n) (spaced_five (4 - k) k (shown ps) (omega (arith, few)) (pieces_each ps))

piece_five : (o : Option Cell) → IsFive (piece_of wording.Labels o)
piece_five None = spaced_five 4 0 [] refl (λ ys. omega arith)
piece_five (Some c) = label_five c.name

-- ---- the pieces of a line

line_long : (cells : List Cell) (tier last : ℕ) (ys : List ℕ) → characters (pieces_to wording.Labels cells tier last ++ ys) ≡ 5 * last + characters ys
line_long cells tier zero ys = omega arith
line_long cells tier (suc last) ys =
    let piece = piece_of wording.Labels (cell_at cells (suc last) tier) in
    let five = piece_five (cell_at cells (suc last) tier) in
    let front = pieces_to wording.Labels cells tier last in
    let all : characters ((front ++ piece) ++ ys) ≡ characters (front ++ (32 ∷ (five.letters ++ ys))) =
    ap characters (append_assoc front piece ys ∙ ap (λ l. front ++ (l ++ ys)) five.piece_is) in
    let more = line_long cells tier last (32 ∷ (five.letters ++ ys)) in
    let long = five.long ys in
    omega (arith, all, more, long)

-- the piece of a row in the line
record IsCutAt (cells : List Cell) (tier row last : ℕ) : Type 0 where
  rest : List ℕ
  is : pieces_to wording.Labels cells tier last ≡ pieces_to wording.Labels cells tier row ++ (piece_of wording.Labels (cell_at cells (suc row) tier) ++ rest)

cut_at : (cells : List Cell) (tier row last : ℕ) → row < last → IsCutAt cells tier row last
cut_at cells tier row zero lt = absurd (omega (arith, lt))
cut_at cells tier row (suc last) lt =
    let own = piece_of wording.Labels (cell_at cells (suc last) tier) in
    let piece = piece_of wording.Labels (cell_at cells (suc row) tier) in
    let front = pieces_to wording.Labels cells tier row in
    elim (cases_lt row last) [
      | inl before ↦
          let cut = cut_at cells tier row last before in
          record { rest = cut.rest ++ own; is = ap (λ l. l ++ own) cut.is ∙ append_assoc front (piece ++ cut.rest) own ∙ ap (λ l. front ++ l) (append_assoc piece cut.rest own) }
      | inr there ↦
          let same : last ≡ row = omega (arith, there, lt) in
          record { rest = []; is = ap (λ k. pieces_to wording.Labels cells tier (suc k)) same ∙ ap (λ l. front ++ l) (sym (append-nil piece)) }
    ]

-- the line goes as far as a row where a container stands
reached : (cells : List Cell) (tier row rows : ℕ) (c : Cell) → cell_at cells (suc row) tier ≡ Some c → row < rows → row < last_row wording.Labels cells tier rows
reached cells tier row zero c e lt = absurd (omega (arith, lt))
reached cells tier row (suc rows) c e lt =
    elim (cases_lt row rows) [
      | inl before ↦ either_way (has_piece wording.Labels (cell_at cells (suc rows) tier)) (suc rows) (last_row wording.Labels cells tier rows) lt (reached cells tier row rows c e before)
      | inr there ↦
          let same : rows ≡ row = omega (arith, there, lt) in
          let yes : has_piece wording.Labels (cell_at cells (suc rows) tier) ≡ true = ap (λ k. has_piece wording.Labels (cell_at cells (suc k) tier)) same ∙ ap (has_piece wording.Labels) e in
          rw yes lt
    ]
  where
    either_way : (t : Bool) (a b : ℕ) → row < a → row < b → row < cond t a b
    either_way true a b p q = p
    either_way false a b p q = q

by_row : (tiers rows : ℕ) (cells : List Cell) (p : Place) (c : Cell) (row : ℕ) → p.row ≡ suc row → row < rows → cell_at cells (suc row) p.tier ≡ Some c → IsLabelIn tiers rows cells p c.name
by_row tiers rows cells p c row e lt there =
    let last = last_row wording.Labels cells p.tier rows in
    let cut = cut_at cells p.tier row last (reached cells p.tier row rows c there lt) in
    let five = label_five c.name in
    let front = pieces_to wording.Labels cells p.tier row in
    let piece : piece_of wording.Labels (cell_at cells (suc row) p.tier) ≡ 32 ∷ five.letters = ap (piece_of wording.Labels) there ∙ five.piece_is in
    let line_is : pieces_to wording.Labels cells p.tier last ≡ front ++ ((32 ∷ five.letters) ++ cut.rest) = cut.is ∙ ap (λ l. front ++ (l ++ cut.rest)) piece in
    let before : characters front ≡ 5 * row = (let n = line_long cells p.tier row [] in let same = ap characters (append-nil front) in omega (arith, n, same)) in
    let four : characters five.letters ≡ 4 = (let n = five.long [] in let same = ap characters (append-nil five.letters) in omega (arith, n, same)) in
    let long : characters (pieces_to wording.Labels cells p.tier last) ≡ 5 * last =
    (let n = line_long cells p.tier last [] in let same = ap characters (append-nil (pieces_to wording.Labels cells p.tier last)) in omega (arith, n, same)) in
    record {
      x = 14;
      y = y_of tiers p.tier + 26;
      last = last;
      front = front;
      letters = five.letters;
      rest = cut.rest;
      label_is = five.piece_is;
      line_is = ap (line 108 14 (y_of tiers p.tier + 26) last) line_is;
      line_long = ap characters (sym line_is) ∙ long;
      left = omega (arith, e, before);
      right = omega (arith, e, before, four);
    }

pub label_in : (tiers rows : ℕ) (cells : List Cell) (p : Place) (c : Cell) → 1 ≤ p.row → p.row ≤ rows → cell_at cells p.row p.tier ≡ Some c → IsLabelIn tiers rows cells p c.name
label_in tiers rows cells p c some within there =
    let e : p.row ≡ suc (p.row - 1) = omega (arith, some) in
    by_row tiers rows cells p c (p.row - 1) e (omega (arith, some, within)) (ap (λ k. cell_at cells k p.tier) (sym e) ∙ there)
