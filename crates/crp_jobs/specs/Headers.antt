-- What is said of a list without its header.
use Rattle.std.specs.Prelude.{ℕ, Bool, ◌&&◌, ◌==◌, nat_le, List, [], ◌++◌, length, take, drop, zip, unwrap_or, slice_index_or, if◌then◌else◌, codes}
use Rattle.std.specs.List.{list_all, list_any}
use Rattle.std.specs.Char.{is_ascii_uppercase}
use Rattle.std.specs.Str.{str_eq_ignore_ascii_case}
use Rattle.edi_text.specs.Reading.{after_line_ends}
use Rattle.crp_jobs.specs.declared.headers.ListKind.{ListKind}
use Rattle.crp_jobs.specs.declared.headers.ListKind.TheVariants as list
use Rattle.crp_jobs.specs.Instead.{words_for_list, words_on}
use Rattle.crp_jobs.specs.Placed.{line_front}

-- the first line that is not empty; nothing where there is none
abbrev pub first_line : List ℕ → List ℕ
first_line text = line_front (after_line_ends text)

-- the byte stands there
abbrev pub has : ℕ → List ℕ → Bool
has byte text = list_any (λ b. b == byte) text

-- without a quotation mark before it
abbrev pub unquoted : List ℕ → List ℕ
unquoted line = if slice_index_or line 0 0 == 34 then drop 1 line else line

-- the first word of a header comes first, in letters of any case
abbrev pub begins_as_header : List ℕ → Bool
begins_as_header line = str_eq_ignore_ascii_case (take 5 (unquoted line)) (codes "block")

-- how the header of a list goes on where it has further columns
abbrev pub header_and_more : ListKind → List ℕ
header_and_more list.Yard = codes "block,bay,row,tier,container,"
header_and_more list.Sizes = codes "block,bay,heights,"

-- a byte of a header with commas is this one, with this byte in place of the commas
abbrev pub stands_for : ℕ → ℕ × ℕ → Bool
stands_for separator pair = if pair.0 == 44 then pair.1 == separator else pair.1 == pair.0

-- the line begins so, with this byte in place of the commas
abbrev pub begins_parted : ℕ → List ℕ → List ℕ → Bool
begins_parted separator header line = nat_le (length header) (length line) && list_all (stands_for separator) (zip header line)

-- of a first line that is no header, of a list with commas, and of another
abbrev pub no_comma_header : ListKind → List ℕ
no_comma_header list.Yard = codes ": a header must come first: block,bay,row,tier,container"
no_comma_header list.Sizes = codes ": a header must come first: block,bay,heights"

abbrev pub no_other_header : ListKind → List ℕ
no_other_header list.Yard = codes ": a header must come first, with the words block, bay, row, tier and container"
no_other_header list.Sizes = codes ": a header must come first, with the words block, bay and heights"

abbrev pub no_header : ListKind → ℕ → List ℕ
no_header kind separator = if separator == 44 then no_comma_header kind else no_other_header kind

-- of a header with further columns
abbrev pub too_many_columns : ListKind → List ℕ
too_many_columns list.Yard = codes ": it has further columns, and may have only the first five"
too_many_columns list.Sizes = codes ": it has further columns, and may have only the first three"

-- what is wrong with a line that begins as a header does, where that is plain to see
abbrev pub wrong_header : ListKind → ℕ → List ℕ → List ℕ
wrong_header kind separator line =
    if begins_parted separator (header_and_more kind) line then too_many_columns kind else
    if list_any is_ascii_uppercase line then codes ": its words must be in small letters" else []

-- what is wrong with the words of a line in the place of a header, where that is plain to see
abbrev pub wrong_words : ListKind → ℕ → List ℕ → List ℕ
wrong_words kind separator line = if begins_as_header line then wrong_header kind separator line else no_header kind separator

-- what is wrong with a line in the place of the header of a list with this byte between its fields: where it has none of these, which other byte it has
abbrev pub wrong_with : ListKind → ℕ → List ℕ → List ℕ
wrong_with kind separator line =
    if length line == 0 then codes "empty lines" else
    if has separator line then wrong_words kind separator line else
    if has 59 line then codes ": semicolons stand between its fields: give --separator ';'" else
    if has 9 line then codes ": tabs stand between its fields: give --separator and a tab between quotes" else
    if has 44 line then codes ": commas stand between its fields: leave --separator out" else wrong_words kind separator line

-- what is said of the first line of a list
abbrev pub header_text : ListKind → ℕ → List ℕ → List ℕ
header_text kind separator front = codes "the file begins with " ++ (first_line front ++ wrong_with kind separator (first_line front))

-- what is said of a list without its header: by the kind of the file, or by its first line
abbrev pub list_text : ListKind → ℕ → List ℕ → List ℕ
list_text kind separator front = unwrap_or (words_on words_for_list front) (header_text kind separator front)
