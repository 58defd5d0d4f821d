-- The lines of a text.
use Prim.Native.Nat.{zero}
use Rattle.std.specs.Prelude.{ℕ, suc, ◌+◌, Bool, false, not, ◌==◌, ◌&&◌, ◌||◌, List, [], ◌∷◌, if◌then◌else◌}

-- the bytes begin with a LF
abbrev pub begins_with_feed : List ℕ → Bool
begins_with_feed [] = false
begins_with_feed (b ∷ bytes) = b == 10

-- the byte ends a line, where these bytes stand behind it: it is a LF, or a CR without a LF behind it. So CR LF is one line end, at its LF
abbrev pub ends_line : ℕ → List ℕ → Bool
ends_line b behind = b == 10 || ((b == 13) && not (begins_with_feed behind))

-- how many of the bytes before the offset end a line
abbrev pub line_ends_before : List ℕ → ℕ → ℕ
line_ends_before text zero = 0
line_ends_before [] (suc offset) = 0
line_ends_before (b ∷ behind) (suc offset) = (if ends_line b behind then 1 else 0) + line_ends_before behind offset

-- the line of an offset, from 1: one more than the line ends before it
abbrev pub line_of : List ℕ → ℕ → ℕ
line_of text offset = line_ends_before text offset + 1
