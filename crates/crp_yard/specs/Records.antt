-- What the records of a yard list say.
use Rattle.std.specs.Prelude.{ℕ, ◌-◌, Bool, ◌&&◌, ◌==◌, nat_le, List, length, map, drop, slice_index_or, codes}
use Rattle.std.specs.List.{list_all}
use Rattle.std.specs.Str.{bytes_eq}
pub use Rattle.crp_sizes.specs.Fields.{records_of, field_of, is_block, is_number, number_of, bay_named}
use Rattle.crp_yard.specs.Places.{YardPlace}

-- the fields are `block,bay,row,tier,container`
abbrev pub is_header : List (List ℕ) → Bool
is_header fields =
    (length fields == 5)
    && ((bytes_eq (field_of fields 0) (codes "block") && bytes_eq (field_of fields 1) (codes "bay"))
    && (bytes_eq (field_of fields 2) (codes "row") && (bytes_eq (field_of fields 3) (codes "tier") && bytes_eq (field_of fields 4) (codes "container"))))

-- 1 to 35 bytes from 0x20 to 0xFF
abbrev pub is_container : List ℕ → Bool
is_container bytes = (nat_le 1 (length bytes) && nat_le (length bytes) 35) && list_all (λ b. nat_le 32 b) bytes

-- five fields, of which the first is a block and the last a container
abbrev pub is_well_formed : List (List ℕ) → Bool
is_well_formed fields = (length fields == 5) && (is_block (field_of fields 0) && is_container (field_of fields 4))

-- bay, row and tier are numbers, and the bay is not 0
abbrev pub has_numbers : List (List ℕ) → Bool
has_numbers fields =
    (is_number (field_of fields 1) && (is_number (field_of fields 2) && is_number (field_of fields 3))) && nat_le 1 (number_of (field_of fields 1))

-- the place that a record names
abbrev pub place_named : List (List ℕ) → YardPlace
place_named fields = record {
  bay = bay_named fields;
  row = number_of (field_of fields 2);
  tier = number_of (field_of fields 3);
}

-- how many tiers a row has, from 1, of rows with these heights
abbrev pub height_of : List ℕ → ℕ → ℕ
height_of heights row = slice_index_or heights (row - 1) 0

-- the row is among those that the bays have, and the tier among those of the row
abbrev pub is_within : List ℕ → YardPlace → Bool
is_within heights place =
    (nat_le 1 place.row && nat_le place.row (length heights)) && (nat_le 1 place.tier && nat_le place.tier (height_of heights place.row))

-- a place, and the container that stands there
abbrev pub Entry : Type 0
Entry = YardPlace × List ℕ

-- what a record says: its container stands at its place
unfoldable pub entry_of : List (List ℕ) → Entry
entry_of fields = (place_named fields, field_of fields 4)

-- what the records behind the header say, in their order
abbrev pub entries_of : List (List (List ℕ)) → List Entry
entries_of records = map entry_of (drop 1 records)
