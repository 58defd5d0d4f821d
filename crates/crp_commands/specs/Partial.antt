-- What is noted of a report that ends early.
use Rattle.std.specs.Prelude.{ℕ, ◌==◌, List, ◌++◌, codes, decimal, if◌then◌else◌}
use Rattle.std.specs.Str.{bytes_eq}
pub use Rattle.crp_jobs.specs.Partial.{IsReportIn, part_of}

-- behind the number of bays that stand there
abbrev pub standing_words : ℕ → List ℕ
standing_words bays = if bays == 1 then codes " bay stands there\n" else codes " bays stand there\n"

-- that the last line is lacking of a report that is called so, and how many bays stand there
abbrev pub last_note : List ℕ → ℕ → List ℕ
last_note words bays = codes "crp: note: " ++ (words ++ (codes " has no last line: " ++ (decimal bays ++ standing_words bays)))

-- that nothing is lacking of it but the line end of its last line
abbrev pub unended_note : List ℕ → List ℕ
unended_note words = codes "crp: note: the last line of " ++ (words ++ codes " lacks its line end\n")

-- the first of these notes, or the second where the report with a line end behind it is the one with its last line
abbrev pub end_note : List ℕ → List ℕ → List ℕ → ℕ → List ℕ
end_note words ended report bays = if bytes_eq ended report then unended_note words else last_note words bays

-- behind the number of bays that do not
abbrev pub behind_words : ℕ → List ℕ
behind_words bays = if bays == 1 then codes " bay from which containers leave does not stand there\n" else codes " bays from which containers leave do not stand there\n"

-- how many bays from which containers leave do not stand there
abbrev pub behind_note : ℕ → List ℕ
behind_note bays = if bays == 0 then codes "crp: note: each bay from which containers leave stands there\n"
    else codes "crp: note: " ++ (decimal bays ++ behind_words bays)
