-- The first of two records that name one place or one container, and the size of the bay that a record names.
use Rattle.std.specs.Prelude.{◌≡◌, ℕ, ◌+◌, ◌-◌, Bool, ◌&&◌, ◌==◌, List, ◌++◌, length, take, drop, position, slice_get, slice_index_or, Option, Some, None, option_map, option_and_then, if◌then◌else◌, codes}
use Rattle.std.specs.Fmt.{decimal}
use Rattle.std.specs.List.{list_all}
use Rattle.std.specs.Str.{bytes_eq}
use Rattle.crp_plan.specs.BayNames.{YardBay}
use Rattle.crp_sizes.specs.Fields.{records_of, field_of, is_block, is_number, has_number, bay_named}
use Rattle.crp_sizes.specs.Heights.{heights_text}
use Rattle.crp_sizes.specs.Sizes.{YardSizes, heights_at}
use Rattle.crp_separated.specs.Inputs.{comma_list}
use Rattle.crp_yard.specs.Places.{same_place}
use Rattle.crp_yard.specs.Records.{place_named}
use Rattle.crp_places.specs.Lines.{line_of}
use Rattle.crp_places.specs.Records.{record_start}
use Rattle.crp_jobs.specs.declared.firsts.Alike.{Alike}
use Rattle.crp_jobs.specs.declared.firsts.Alike.TheVariants as alike
use Rattle.crp_jobs.specs.Placed.{shown, line_front, place_text, end_text}

-- ---- records

-- the record names a bay, and a place
abbrev pub names_bay : List (List ℕ) → Bool
names_bay fields = is_block (field_of fields 0) && has_number fields

abbrev pub names_place : List (List ℕ) → Bool
names_place fields = names_bay fields && (is_number (field_of fields 2) && is_number (field_of fields 3))

-- two records name one place
abbrev pub name_one_place : List (List ℕ) → List (List ℕ) → Bool
name_one_place a b = (names_place a && names_place b) && same_place (place_named a) (place_named b)

-- two records name one container
abbrev pub name_one_container : List (List ℕ) → List (List ℕ) → Bool
name_one_container a b = bytes_eq (field_of a 4) (field_of b 4)

-- two records are alike in this
abbrev pub are_alike : Alike → List (List ℕ) → List (List ℕ) → Bool
are_alike alike.Place a b = name_one_place a b
are_alike alike.Container a b = name_one_container a b

-- the record with this number, from 1, if there is one
abbrev pub record_with : List (List (List ℕ)) → ℕ → Option (List (List ℕ))
record_with records n = if n == 0 then None else slice_get records (n - 1)

-- the number of the first record behind the header, and before the one with this number, that is like that one
abbrev pub first_like : Alike → List (List (List ℕ)) → ℕ → Option ℕ
first_like how records n =
    option_and_then (λ fields. option_map (λ i. i + 2) (position (are_alike how fields) (take (n - 2) (drop 1 records)))) (record_with records n)

-- ---- words

-- on the first of two things of a kind, which stands in this line
abbrev pub first_words : List ℕ → ℕ → ℕ → List ℕ
first_words what first line = codes ", the first is " ++ (what ++ (decimal first ++ (codes " at line " ++ decimal line)))

-- on the first record of a list with this byte between its fields that is like the one with this number, if there is one
abbrev pub words_on_first : Alike → ℕ → List ℕ → ℕ → Option (List ℕ)
words_on_first how separator text n =
    option_and_then (λ first. option_map (λ offset. first_words (codes "record ") first (line_of text offset)) (record_start separator text first))
    (first_like how (records_of (comma_list separator text)) n)

-- a number of things: one of them, or several
abbrev pub counted : ℕ → List ℕ → List ℕ → List ℕ
counted n one several = decimal n ++ (if n == 1 then one else several)

-- all rows have the height of the first
abbrev pub is_even : List ℕ → Bool
is_even heights = list_all (λ h. h == slice_index_or heights 0 0) heights

-- on so many rows of one height
abbrev pub even_words : ℕ → ℕ → List ℕ
even_words rows tiers = counted rows (codes " row of ") (codes " rows of ") ++ counted tiers (codes " tier") (codes " tiers")

-- on heights of rows
abbrev pub heights_words : List ℕ → List ℕ
heights_words heights =
    if is_even heights then even_words (length heights) (slice_index_or heights 0 0) else codes "heights " ++ heights_text heights

-- on the size of a bay
abbrev pub bay_words : YardBay → List ℕ → List ℕ
bay_words bay heights = codes ", bay " ++ (bay.block ++ (codes " " ++ (decimal bay.bay ++ (codes " has " ++ heights_words heights))))

-- on the size of the bay that a record names, if it names one
abbrev pub words_on_fields : YardSizes → List (List ℕ) → Option (List ℕ)
words_on_fields sizes fields = if names_bay fields then Some (bay_words (bay_named fields) (heights_at sizes (bay_named fields))) else None

-- on the size of the bay that the record with this number names, where there is such a record
abbrev pub words_on_bay : YardSizes → List ℕ → ℕ → Option (List ℕ)
words_on_bay sizes text n = option_and_then (words_on_fields sizes) (record_with (records_of text) n)

-- ---- lines

-- what is said of a thing with this number in this line: these words, and which bytes stand there
abbrev pub detailed_text : List ℕ → ℕ → ℕ → List ℕ → List ℕ → List ℕ
detailed_text what n line words bytes = what ++ (decimal n ++ (codes " is at line " ++ (decimal line ++ (words ++ (codes ": " ++ bytes)))))

-- what is said of a record that begins at this offset, with these words if there are any
abbrev pub said_with : ℕ → List ℕ → Option ℕ → Option (List ℕ) → List ℕ
said_with n text None words = end_text text
said_with n text (Some offset) None = place_text (codes "record ") n (line_of text offset) (line_front (drop offset text))
said_with n text (Some offset) (Some words) = detailed_text (codes "record ") n (line_of text offset) words (line_front (drop offset text))

-- the line on the record with this number, of a list with this byte between its fields, with these words if there are any
abbrev pub IsDetailedLine : ℕ → ℕ → List ℕ → Option (List ℕ) → List ℕ → Type 0
IsDetailedLine separator n text words line = line ≡ shown (said_with n text (record_start separator text n) words)
