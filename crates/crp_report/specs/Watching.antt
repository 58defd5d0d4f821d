-- What a run shows beside its texts.
use Rattle.std.specs.Prelude.{ℕ, List, Option}
use Rattle.std.specs.Io.KnownBytes.{Appends}

-- a sink may have got something more
abbrev pub ShowsMore : Option (List ℕ) → Option (List ℕ) → Type 0
ShowsMore held holds = (text : List ℕ) × Appends held holds text
