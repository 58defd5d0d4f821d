-- A report that ends early, as a run leaves it that is killed, and what completes it: a line that is cut is left out, and a last line counts the bays that
-- stand there. An editor may have ended its lines with CR LF, and left lines empty.
use Rattle.std.specs.Prelude.{◌≡◌, ◌≢◌, ◌⊎◌, ℕ, ◌-◌, ◌==◌, List, [], ◌∷◌, ◌++◌, length, take, slice_index, flat_map, count_by, Option, Some, None, if◌then◌else◌}
use Rattle.std.specs.List.{AllByRecursion}
use Rattle.crp_plan.specs.BayNames.{YardBay, IsYardBay}
use Rattle.crp_said.specs.declared.said.Said.{Said}
use Rattle.crp_said.specs.Said.{words_of_bay, bays_line, is_settled}
use Rattle.crp_said.specs.Spelled.{IsSmall, IsBayLine, IsLastLine, ended}

-- no LF stands in it
abbrev pub IsOneLine : List ℕ → Type 0
IsOneLine line = AllByRecursion (λ b. b ≢ 10) line

-- the whole lines of a text, each without its LF, and what stands behind the last LF
pub record AreLinesOf (text : List ℕ) (lines : List (List ℕ)) (rest : List ℕ) : Type 0 where
  pub each : AllByRecursion IsOneLine lines
  pub cut : IsOneLine rest
  pub is : text ≡ flat_map ended lines ++ rest

-- a line without a CR at its end
abbrev pub words_in : List ℕ → List ℕ
words_in line = if slice_index line (length line - 1) == 13 then take (length line - 1) line else line

-- the lines end with a last line: behind it all are empty
abbrev pub EndWithLast : List (List ℕ) → Type 0
EndWithLast [] = ⊥
EndWithLast (line ∷ lines) = EndWithLast lines ⊎ (IsLastLine (words_in line) × AllByRecursion (λ other. words_in other ≡ []) lines)

-- the line is that of a bay, of which it says this
abbrev pub SaysOfBay : List ℕ → Said → Type 0
SaysOfBay line said = (bay : YardBay) × IsYardBay bay × IsSmall said × (words_in line ≡ words_of_bay bay said)

-- the lines of bays among these lines say this, in their order
abbrev pub SayOfBays : List (List ℕ) → List Said → Type 0
SayOfBays [] said = said ≡ []
SayOfBays (line ∷ lines) [] = ¬ IsBayLine (words_in line) × SayOfBays lines []
SayOfBays (line ∷ lines) (first ∷ said) =
    (¬ IsBayLine (words_in line) × SayOfBays lines (first ∷ said)) ⊎ (SaysOfBay line first × SayOfBays lines said)

-- a report that has its last line stays as it is; of any other the whole lines are left, with a last line that counts the bays that stand there, of which
-- there are so many, and those of them that are settled
abbrev pub IsCompleted : List ℕ → List ℕ → Option ℕ → Type 0
IsCompleted text report None = (lines : List (List ℕ)) × (rest : List ℕ) × AreLinesOf text lines rest × EndWithLast lines × (report ≡ text)
IsCompleted text report (Some bays) = (lines : List (List ℕ)) × (rest : List ℕ) × (said : List Said) × AreLinesOf text lines rest × ¬ EndWithLast lines
    × SayOfBays lines said × (bays ≡ length said) × (report ≡ flat_map ended lines ++ bays_line bays (count_by is_settled said))
