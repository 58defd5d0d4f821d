-- What stands in the head of each sheet where the page is printed, as a rule behind its style sheet (CSS Paged Media, page-margin boxes).
use Rattle.std.specs.Prelude.{ℕ, ◌==◌, nat_le, Bool, not, ◌&&◌, ◌||◌, List, [], ◌∷◌, ◌++◌, length, flat_map, Option, Some, None, unwrap_or, codes, if◌then◌else◌}
use Rattle.crp_movins.specs.Headings.{Heading}
use Rattle.crp_loading.specs.Turns.{ShipOrder}
use Rattle.crp_picture.specs.Names.{hex_byte}

-- printed ASCII, but none of " & < \: these have a meaning of their own in a text of a style sheet, or in XML
abbrev pub is_plain : ℕ → Bool
is_plain byte = (nat_le 32 byte && nat_le byte 126) && not ((byte == 34 || byte == 38) || (byte == 60 || byte == 92))

-- what stands there for one of " & <: its number, as a style sheet escapes a character
abbrev pub styled_mark : ℕ → Option (List ℕ)
styled_mark byte = if byte == 34 then Some (codes "\\000022") else (if byte == 38 then Some (codes "\\000026") else (if byte == 60 then Some (codes "\\00003C") else None))

-- a byte in such a text: as it is, or so, or as a backslash that shows, x and its number
abbrev pub styled_byte : ℕ → List ℕ
styled_byte byte = if is_plain byte then byte ∷ [] else unwrap_or (styled_mark byte) (92 ∷ hex_byte byte)

-- what is said behind its word, if it is said
abbrev pub said : List ℕ → List ℕ → List ℕ
said word bytes = if length bytes == 0 then [] else 34 ∷ (word ++ (flat_map styled_byte bytes ++ codes ". \""))

-- the ship, its voyage and the date of the message
abbrev pub heading_text : Heading → List ℕ
heading_text heading = said (codes "Ship ") heading.ship ++ (said (codes "Voyage ") heading.voyage ++ said (codes "Message of ") heading.date)

-- none of them is said
abbrev pub is_silent : Heading → Bool
is_silent heading = length heading.ship == 0 && (length heading.voyage == 0 && length heading.date == 0)

-- in the middle of the head, in the letters of the rest of it
abbrev pub heading_rule : Heading → List ℕ
heading_rule heading = if is_silent heading then [] else codes "@page{@top-center{content:" ++ (heading_text heading ++ codes ";font:9pt sans-serif}}\n")

-- where there is a ship
abbrev pub ship_rule : Option ShipOrder → List ℕ
ship_rule None = []
ship_rule (Some ship) = heading_rule ship.heading
