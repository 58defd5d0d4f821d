-- Names of containers that are written in different ways.
use Rattle.std.specs.Prelude.{ℕ, Bool, not, ◌||◌, ◌==◌, List, map, filter, Option, slice_get}
use Rattle.std.specs.Char.{to_ascii_uppercase}
use Rattle.std.specs.Str.{bytes_eq}
use Rattle.crp_yard.specs.Inventory.{StackedBay, containers_of}

-- a blank or a dash
abbrev pub is_mark : ℕ → Bool
is_mark byte = (byte == 32) || (byte == 45)

-- a name without blanks and dashes, in capital letters
abbrev pub plain : List ℕ → List ℕ
plain name = map to_ascii_uppercase (filter (λ byte. not (is_mark byte)) name)

-- two names differ by blanks, dashes or small letters alone, if at all
abbrev pub are_alike : List ℕ → List ℕ → Bool
are_alike a b = bytes_eq (plain a) (plain b)

-- the first container of the bays, bay by bay, row by row, from bottom to top, whose name is alike, if there is one
abbrev pub like_in : List StackedBay → List ℕ → Option (List ℕ)
like_in bays name = slice_get (filter (are_alike name) (containers_of bays)) 0
