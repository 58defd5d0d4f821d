-- How the name of a container stands on a page, which is UTF-8: each character that can be seen as it is, and all other bytes by their numbers.
use Rattle.std.specs.Prelude.{ℕ, zero, suc, ◌+◌, ◌-◌, ◌/◌, ◌%◌, ◌==◌, nat_le, nat_lt, Bool, ◌&&◌, ◌||◌, List, [], ◌∷◌, ◌++◌, length, take, drop, flat_map, Option, Some, None, unwrap_or, codes, encode_utf8, if◌then◌else◌}
use Rattle.bstr.specs.Utf8.{Decoded, decoded, pieces}

-- so many spaces, at most 7
abbrev pub spaces : ℕ → List ℕ
spaces count = take count (codes "       ")

-- a text of so many characters with spaces before it
abbrev pub right_in : ℕ → List ℕ → List ℕ
right_in width text = spaces (width - length text) ++ text

-- ---- the pieces of a name: its characters, and the bytes between them that are none (The Unicode Standard, table 3-7)

-- a name without so many pieces at its front
abbrev pub behind : ℕ → List ℕ → List ℕ
behind zero name = name
behind (suc count) name = behind count (drop (decoded name).size name)

-- the last four pieces of a name, and what stands before them
abbrev pub last_four : List ℕ → List ℕ
last_four name = behind (length (pieces name) - 4) name

abbrev pub front_of : List ℕ → List ℕ
front_of name = take (length name - length (last_four name)) name

-- ---- characters

-- what stands for a character that has a meaning of its own in XML: & < > " '
abbrev pub entity : ℕ → Option (List ℕ)
entity c =
    if c == 38 then Some (codes "&amp;")
    else (if c == 60 then Some (codes "&lt;")
    else (if c == 62 then Some (codes "&gt;")
    else (if c == 34 then Some (codes "&quot;")
    else (if c == 39 then Some (codes "&#39;") else None))))

-- from the first of two numbers up to the second
abbrev pub is_in : ℕ → ℕ → ℕ → Bool
is_in least most c = nat_le least c && nat_le c most

-- a control character, C0 or C1, or a space that is not the common one
abbrev pub is_control : ℕ → Bool
is_control c = nat_lt c 32 || is_in 127 160 c || is_in 8192 8202 c || is_in 8232 8233 c || c == 8239 || c == 8287 || c == 12288

-- a mark that says how its neighbours stand or join, and has no width: marks of direction (Unicode Standard Annex 9), soft hyphens, joiners,
-- variation selectors, byte order marks and tags; and the last numbers of the first plane, which XML has not
abbrev pub is_mark : ℕ → Bool
is_mark c = c == 173 || c == 1564 || is_in 8203 8207 c || is_in 8234 8238 c || is_in 8288 8303 c || is_in 65024 65039 c || c == 65279 || is_in 65520 65535 c || is_in 917504 921599 c

-- ---- a name in the text of a page

-- a digit of base 16
abbrev pub hex_digit : ℕ → ℕ
hex_digit n = if nat_lt n 10 then 48 + n else 55 + n

-- a byte as \x and two digits of base 16
abbrev pub hex_byte : ℕ → List ℕ
hex_byte byte = codes "\\x" ++ hex_digit (byte / 16) ∷ hex_digit (byte % 16) ∷ []

-- a character and its bytes: these by their numbers where it is a backslash or cannot be seen
abbrev pub escaped_char : ℕ → List ℕ → List ℕ
escaped_char c bytes = unwrap_or (entity c) (if c == 92 || is_control c || is_mark c then flat_map hex_byte bytes else bytes)

-- a piece and its bytes
abbrev pub escaped_piece : Option ℕ → List ℕ → List ℕ
escaped_piece None bytes = flat_map hex_byte bytes
escaped_piece (Some c) bytes = escaped_char c bytes

-- pieces and their bytes
abbrev pub escaped_pieces : List Decoded → List ℕ → List ℕ
escaped_pieces [] bytes = []
escaped_pieces (p ∷ ps) bytes = escaped_piece p.char (take p.size bytes) ++ escaped_pieces ps (drop p.size bytes)

-- a name
abbrev pub escaped : List ℕ → List ℕ
escaped name = escaped_pieces (pieces name) name

-- ---- a label in a picture

-- a character that is as wide as each other in a font of one width, and stands alone: printable ASCII, Latin, Greek and Cyrillic letters
abbrev pub is_narrow : ℕ → Bool
is_narrow c = is_in 32 126 c || is_in 161 172 c || is_in 174 767 c || is_in 880 1154 c || is_in 1162 1327 c

-- a character of a label: one that is not narrow as a dot in the middle of the line
abbrev pub label_char : ℕ → List ℕ
label_char c = unwrap_or (entity c) (if is_narrow c then encode_utf8 c else codes "&#183;")

-- a piece of a label
abbrev pub label_piece : Option ℕ → List ℕ
label_piece None = codes "&#183;"
label_piece (Some c) = label_char c

-- a label, 5 characters: a space and the last four pieces, and more spaces before fewer
abbrev pub label : List ℕ → List ℕ
label name = spaces (5 - length (pieces (last_four name))) ++ flat_map (λ p. label_piece p.char) (pieces (last_four name))
