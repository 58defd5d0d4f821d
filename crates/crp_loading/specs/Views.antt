-- What the types of the program stand for.
use Rattle.std.specs.Prelude.{◌≡◌, ◌≤◌, ℕ, nat_le, List, ◌∷◌, map, IfSome}
use Rattle.std.specs.List.{list_any, AllByRecursion}
use Rattle.std.specs.Map.{lookup}
use Rattle.std.specs.Str.{bytes_eq}
use denote.Ref.{Bor}
use Rattle.crp_yard.specs.Text.{text_of_records}
use Rattle.crp_follow.specs.Views.{columns_as}
use Rattle.crp_loading.specs.declared.recording.TurnColumns.{TurnColumns}
use Rattle.crp_loading.specs.Turns.{number_from}
use Rattle.crp_loading.specs.Faults.{TakeStated, is_at_or_behind}
use Rattle.crp_loading.specs.Loading.{TurnRecord, turn_fields, header}

-- the entries give each of the names its number, from 0, and nothing else
abbrev pub Numbers : List (List ℕ) → List (Bor (List ℕ) × ℕ) → Type 0
Numbers names entries = (container : Bor (List ℕ)) → lookup (λ key. bytes_eq container.now key.now) entries ≡ number_from 0 names container.now

-- a move with its turn and its slot
abbrev pub recorded : TurnColumns → TurnRecord
recorded c = record { turn = c.turn; of_move = columns_as c.of_move; slot = c.slot }

-- no take of these has a turn behind this one, and one has it, unless it is 0
abbrev pub EndWith : List TakeStated → ℕ → Type 0
EndWith before last = (turn : ℕ) → 1 ≤ turn → list_any (is_at_or_behind turn) before ≡ nat_le turn last

-- each turn is one of so many, from 1
abbrev pub AreTurns : ℕ → List TurnRecord → Type 0
AreTurns turns records = AllByRecursion (λ r. IfSome r.turn (λ turn. (1 ≤ turn) × (turn ≤ turns))) records

-- the text of the header and of records
abbrev pub text_of : List TurnRecord → List ℕ
text_of records = text_of_records (header ∷ map turn_fields records)
