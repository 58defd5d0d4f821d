-- The records of a list and their fields, as a yard list and a list of sizes have them.
use Rattle.std.specs.Prelude.{ℕ, ◌+◌, ◌-◌, ◌*◌, Bool, ◌&&◌, nat_le, List, [], length, fold, slice_index_or, Option, IfSome, ◌≡◌}
use Rattle.std.specs.List.{list_all}
use Rattle.std.specs.Char.{is_ascii_digit, is_ascii_graphic}
use Rattle.csv.specs.Reading.{default_config, records, strip_bom}
use Rattle.crp_plan.specs.BayNames.{YardBay}

-- so many bytes are read
abbrev pub max_bytes : ℕ
max_bytes = 8388608

-- these bytes are those that a source had, where it stated them
abbrev pub IsTextOf : Option (List ℕ) → List ℕ → Type 0
IsTextOf given text = IfSome given (λ bytes. text ≡ bytes)

-- the records of a text, as csv reads them by its defaults, where a byte order mark at the start of the text is no part of it; each is
-- the list of its fields
abbrev pub records_of : List ℕ → List (List (List ℕ))
records_of text = records default_config (strip_bom text)

-- the field with this number, from 0; no bytes where there is none
abbrev pub field_of : List (List ℕ) → ℕ → List ℕ
field_of fields i = slice_index_or fields i []

-- 1 to 17 bytes from 0x21 to 0x7E
abbrev pub is_block : List ℕ → Bool
is_block bytes = (nat_le 1 (length bytes) && nat_le (length bytes) 17) && list_all is_ascii_graphic bytes

-- 1 to 4 digits, leading zeros among them
abbrev pub is_number : List ℕ → Bool
is_number bytes = (nat_le 1 (length bytes) && nat_le (length bytes) 4) && list_all is_ascii_digit bytes

-- the number that the digits write
abbrev pub number_of : List ℕ → ℕ
number_of digits = fold (λ n b. n * 10 + (b - 48)) 0 digits

-- the second field is a number, and not 0
abbrev pub has_number : List (List ℕ) → Bool
has_number fields = is_number (field_of fields 1) && nat_le 1 (number_of (field_of fields 1))

-- the bay that the first two fields name
abbrev pub bay_named : List (List ℕ) → YardBay
bay_named fields = record { block = field_of fields 0; bay = number_of (field_of fields 1) }
