-- What is said of a file of one kind that stands in the place of another.
use Rattle.std.specs.Prelude.{◌≡◌, ℕ, List, Option, Some, None, option_map, option_and_then, codes}
use Rattle.crp_jobs.specs.declared.kinds.Found.{Found}
use Rattle.crp_jobs.specs.declared.kinds.Found.TheVariants as found
use Rattle.crp_jobs.specs.Found.{found_in}
use Rattle.crp_jobs.specs.Placed.{shown}

-- whatever was to stand in its place
abbrev pub empty_words : List ℕ
empty_words = codes "the file is empty"

abbrev pub pdf_words : List ℕ
pdf_words = codes "the file begins with %PDF: it is a PDF document"

abbrev pub gzip_words : List ℕ
gzip_words = codes "the file begins as gzip does: unpack it first"

abbrev pub utf16_words : List ℕ
utf16_words = codes "the file is UTF-16: save it as UTF-8"

abbrev pub interchange_words : List ℕ
interchange_words = codes "the file begins as an interchange does (UNA, UNB): are the two files swapped?"

abbrev pub yard_words : List ℕ
yard_words = codes "the file begins as a yard list does: are the two files swapped?"

abbrev pub report_words : List ℕ
report_words = codes "the file begins as a report does: are the files swapped?"

abbrev pub certificates_words : List ℕ
certificates_words = codes "the file begins as certificates do: are the files swapped?"

-- of a file of this kind in the place of a yard list or a list of sizes; of one that begins as a yard list, more is said by its header
abbrev pub words_for_list : Found → Option (List ℕ)
words_for_list found.Nothing = Some empty_words
words_for_list found.Archive = Some (codes "the file begins with PK, as a spreadsheet's own file (xlsx, ods) does: save the sheet as CSV")
words_for_list found.Pdf = Some pdf_words
words_for_list found.Gzip = Some gzip_words
words_for_list found.Utf16 = Some utf16_words
words_for_list found.Interchange = Some interchange_words
words_for_list found.YardList = None
words_for_list found.Report = Some report_words
words_for_list found.Certificates = Some certificates_words

-- of one in the place of a message; of an empty one, and of an interchange, the fault says more
abbrev pub words_for_message : Found → Option (List ℕ)
words_for_message found.Nothing = None
words_for_message found.Archive = Some (codes "the file begins with PK, as a spreadsheet's own file or another archive does: take the message itself")
words_for_message found.Pdf = Some pdf_words
words_for_message found.Gzip = Some gzip_words
words_for_message found.Utf16 = Some utf16_words
words_for_message found.Interchange = None
words_for_message found.YardList = Some yard_words
words_for_message found.Report = Some report_words
words_for_message found.Certificates = Some certificates_words

-- of one in the place of a report
abbrev pub words_for_report : Found → Option (List ℕ)
words_for_report found.Nothing = Some empty_words
words_for_report found.Archive = Some (codes "the file begins with PK, as a spreadsheet's own file or another archive does: take the report itself")
words_for_report found.Pdf = Some pdf_words
words_for_report found.Gzip = Some gzip_words
words_for_report found.Utf16 = Some utf16_words
words_for_report found.Interchange = Some interchange_words
words_for_report found.YardList = Some yard_words
words_for_report found.Report = None
words_for_report found.Certificates = Some certificates_words

-- the words on what the bytes begin with, if there are any
abbrev pub words_on : (Found → Option (List ℕ)) → List ℕ → Option (List ℕ)
words_on words_for front = option_and_then words_for (found_in front)

-- the line has the words on what a file begins with
abbrev pub IsKindLine : (Found → Option (List ℕ)) → List ℕ → List ℕ → Type 0
IsKindLine words_for front line = option_map shown (words_on words_for front) ≡ Some line
