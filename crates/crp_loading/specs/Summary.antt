-- The table of the bays beside the message: that of a report that is followed, and a column more.
use Rattle.std.specs.Prelude.{ℕ, Bool, List, [], ◌∷◌, ◌++◌, map, sum_by, count_by, is_some, codes, decimal}
use Rattle.crp_yard.specs.Text.{text_of_records}
use Rattle.crp_follow.specs.Crane.{Stack}
use Rattle.crp_follow.specs.Followed.{BayFollowed}
use Rattle.crp_follow.specs.Summary.{summary_header, summary_fields}
use Rattle.crp_loading.specs.Turns.{turn_of}

-- the ship gets the container
abbrev pub is_called : List (List ℕ) → List ℕ → Bool
is_called sequence container = is_some (turn_of sequence container)

-- how many of the containers in the rows it gets
abbrev pub called_in : List (List ℕ) → List Stack → ℕ
called_in sequence rows = sum_by (λ row. count_by (is_called sequence) row) rows

-- the header
abbrev pub header : List (List ℕ)
header = summary_header ++ codes "not_taken" ∷ []

-- the record of a bay, and how many of the containers that its moves leave in it the ship was to get
abbrev pub fields : List (List ℕ) → BayFollowed → List (List ℕ)
fields sequence b = summary_fields b ++ decimal (called_in sequence b.after) ∷ []

-- the text of the table, as csv writes records by its defaults
abbrev pub load_summary : List (List ℕ) → List BayFollowed → List ℕ
load_summary sequence bays = text_of_records (header ∷ map (fields sequence) bays)
