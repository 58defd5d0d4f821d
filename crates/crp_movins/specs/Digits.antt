-- Numbers and slots, as the segments write them.
use Rattle.std.specs.Prelude.{ℕ, ◌+◌, ◌-◌, ◌*◌, Bool, ◌&&◌, ◌||◌, List, ◌∷◌, length, take, drop, fold, ◌==◌, nat_lt, nat_le, if◌then◌else◌}
use Rattle.std.specs.List.{list_all}
use Rattle.std.specs.Char.{is_ascii_digit}
use Rattle.crp_movins.specs.declared.slot.Slot.{Slot}

-- the number that the digits write
abbrev pub number_of : List ℕ → ℕ
number_of digits = fold (λ n b. n * 10 + (b - 48)) 0 digits

-- a count is 1 to 10 digits, leading zeros among them
abbrev pub is_count : List ℕ → Bool
is_count bytes = (nat_lt 0 (length bytes) && nat_le (length bytes) 10) && list_all is_ascii_digit bytes

-- the bytes are a count, and count this number
abbrev pub counts : List ℕ → ℕ → Bool
counts bytes n = is_count bytes && number_of bytes == n

-- a slot is six or seven digits
abbrev pub is_slot : List ℕ → Bool
is_slot bytes = (length bytes == 6 || length bytes == 7) && list_all is_ascii_digit bytes

-- six digits get a zero in front
abbrev pub seven_digits : List ℕ → List ℕ
seven_digits bytes = if length bytes == 6 then 48 ∷ bytes else bytes

-- three digits of the bay, two of the row, two of the tier
unfoldable pub slot_of : List ℕ → Slot
slot_of bytes = record {
  bay = number_of (take 3 (seven_digits bytes));
  row = number_of (take 2 (drop 3 (seven_digits bytes)));
  tier = number_of (drop 5 (seven_digits bytes));
}
