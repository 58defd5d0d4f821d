-- Where things stand in a picture, in px: a place is 40 wide and 32 high, row 1 begins at 18, and the highest tier at 26 below the top.
use Rattle.std.specs.Prelude.{ℕ, ◌+◌, ◌-◌, ◌*◌, ◌==◌, List, [], ◌∷◌, ◌++◌, length, codes, decimal, if◌then◌else◌}

-- the left side of a row
abbrev pub x_of : ℕ → ℕ
x_of row = 18 + 40 * (row - 1)

-- the upper side of a tier, where the highest row has so many tiers
abbrev pub y_of : ℕ → ℕ → ℕ
y_of tiers tier = 26 + 32 * (tiers - tier)

-- a stroke of the pen that begins so far right of and below the upper left corner of a place
abbrev pub stroke_at : ℕ → ℕ → List ℕ → ℕ → ℕ → ℕ → List ℕ
stroke_at right down stroke tiers row tier = 77 ∷ (decimal (x_of row + right) ++ 32 ∷ (decimal (y_of tiers tier + down) ++ stroke))

-- the box of a place: a line as thick as the box is high
abbrev pub bar_at : ℕ → ℕ → ℕ → List ℕ
bar_at tiers row tier = stroke_at 2 16 (codes "h36") tiers row tier

-- the outline of the box
abbrev pub outline_at : ℕ → ℕ → ℕ → List ℕ
outline_at tiers row tier = stroke_at 2 2 (codes "h36v28h-36z") tiers row tier

-- strokes of a class; nothing where there are none
abbrev pub path : List ℕ → List ℕ → List ℕ
path class strokes = if length strokes == 0 then [] else codes "<path class=\"" ++ (class ++ (codes "\" d=\"" ++ (strokes ++ codes "\"/>")))

-- the beginning of a text at (x, y)
abbrev pub text_at : ℕ → ℕ → ℕ → List ℕ
text_at class x y = codes "<text class=\"" ++ (class ∷ (codes "\" x=\"" ++ (decimal x ++ (codes "\" y=\"" ++ decimal y))))

-- how wide a text is that goes as far as this row
abbrev pub width_of : ℕ → List ℕ
width_of last = codes "\" textLength=\"" ++ (decimal (40 * last) ++ codes "\" lengthAdjust=\"spacingAndGlyphs\">")

-- pieces that go as far as this row
abbrev pub pieces_as_far : ℕ → List ℕ → List ℕ
pieces_as_far last pieces = width_of last ++ (pieces ++ codes "</text>")

-- a line of text from row 1 to this row, the last that has a piece, at (x, y); nothing where no row has one
abbrev pub line : ℕ → ℕ → ℕ → ℕ → List ℕ → List ℕ
line class x y last pieces = if last == 0 then [] else text_at class x y ++ pieces_as_far last pieces
