-- The containers that the `take` lines of a text name.
use Rattle.std.specs.Prelude.{ℕ, List, [], ◌∷◌, ◌==◌, take, drop, Option, Some, None, codes, if◌then◌else◌}
use Rattle.std.specs.List.{slice_split, filter_map}
use Rattle.std.specs.Str.{bytes_eq}

-- the lines of a text without their LF, and what stands behind the last LF
abbrev pub lines_in : List ℕ → List (List ℕ)
lines_in text = slice_split (λ b. b == 10) text

-- what stands behind the first space
abbrev pub behind_space : List ℕ → List ℕ
behind_space [] = []
behind_space (b ∷ bytes) = if b == 32 then bytes else behind_space bytes

-- the container that a line `take PLACE CONTAINER` names; of another line none
abbrev pub container_taken : List ℕ → Option (List ℕ)
container_taken line = if bytes_eq (take 5 line) (codes "take ") then Some (behind_space (drop 5 line)) else None

-- the containers that the take lines of a text name, in order
abbrev pub taken_in : List ℕ → List (List ℕ)
taken_in text = filter_map container_taken (lines_in text)
