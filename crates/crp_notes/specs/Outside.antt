-- The note on a bay of a report whose moves are outside the restricted rule.
use Rattle.std.specs.Prelude.{ℕ, List, [], ◌∷◌, codes, decimal}
use Rattle.crp_plan.specs.BayNames.{YardBay}
use Rattle.crp_notes.specs.Wording.{note_of, bay_words}

-- the line of its first move that is not of the rule
abbrev pub outside_note : YardBay → ℕ → List ℕ
outside_note bay line = note_of (bay_words bay ∷ codes ": line " ∷ decimal line ∷ codes " is outside the rule: the next take is not from its row" ∷ [])
