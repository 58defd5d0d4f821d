-- What is read of an interchange.
use Rattle.std.specs.Prelude.{ℕ, Bool, ◌||◌, List, length, ◌==◌}
use Rattle.std.specs.List.{list_any}
use Rattle.std.specs.Str.{bytes_eq}

-- the orders under this handling code, of the messages with these references; of all messages where none is named
pub record Loading : Type 0 where
  pub code : List ℕ
  pub messages : List (List ℕ)

-- a message with this reference is one of those, or all are read
abbrev pub reads : List (List ℕ) → List ℕ → Bool
reads messages reference = length messages == 0 || list_any (λ named. bytes_eq named reference) messages
