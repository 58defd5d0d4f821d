-- What the file looks like that was refused in the place of another.
use Rattle.std.specs.Prelude.{ℕ, Bool, IsTrue, ◌||◌, ◌==◌, List, [], ◌∷◌, length, take, if◌then◌else◌, Option, Some, None, codes}
use Rattle.std.specs.List.{list_all}
use Rattle.std.specs.Str.{bytes_eq}
use Rattle.crp_jobs.specs.declared.kinds.Found.{Found}
use Rattle.crp_jobs.specs.declared.kinds.Found.TheVariants as found
use Rattle.crp_jobs.specs.Advice.{is_printable}

-- printable ASCII characters, of which there may be none
abbrev pub IsPlainText : List ℕ → Type 0
IsPlainText text = IsTrue (list_all is_printable text)

-- a byte as a line of plain text shows it: itself where it is printable, and else a question mark
abbrev pub plain : ℕ → ℕ
plain b = if is_printable b then b else 63

-- the bytes begin with the sign
abbrev pub begins : List ℕ → List ℕ → Bool
begins sign bytes = bytes_eq sign (take (length sign) bytes)

-- how a file begins that gzip made (RFC 1952)
abbrev pub gzip_sign : List ℕ
gzip_sign = 31 ∷ 139 ∷ []

-- the byte order marks of UTF-16, little endian and big endian
abbrev pub little_mark : List ℕ
little_mark = 255 ∷ 254 ∷ []

abbrev pub big_mark : List ℕ
big_mark = 254 ∷ 255 ∷ []

-- the first word of a yard list, as a spreadsheet may write it
abbrev pub begins_as_yard_list : List ℕ → Bool
begins_as_yard_list front = begins (codes "block") front || (begins (codes "Block") front || begins (codes "BLOCK") front)

-- what a text looks like by its first bytes, of those that the program reads: an interchange begins with UNA or UNB, a report with the first word of its
-- orders line, and certificates with the title of the first one
abbrev pub text_in : List ℕ → Option Found
text_in front =
    if begins (codes "UNA") front then Some found.Interchange else
    if begins (codes "UNB") front then Some found.Interchange else
    if begins_as_yard_list front then Some found.YardList else
    if begins (codes "orders ") front then Some found.Report else
    if begins (codes "CRP-CERT ") front then Some found.Certificates else None

-- what a file looks like by its first bytes: the first of these kinds whose sign they begin with; a spreadsheet's own file is an archive
abbrev pub found_in : List ℕ → Option Found
found_in front =
    if length front == 0 then Some found.Nothing else
    if begins (codes "PK") front then Some found.Archive else
    if begins (codes "%PDF") front then Some found.Pdf else
    if begins gzip_sign front then Some found.Gzip else
    if begins little_mark front then Some found.Utf16 else
    if begins big_mark front then Some found.Utf16 else text_in front
