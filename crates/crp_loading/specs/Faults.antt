-- Why the moves of a report do not load the ship in its order: a container that is not ordered is taken, or one that the ship gets before another
-- that was taken from its bay.
use Rattle.std.specs.Prelude.{◌≡◌, ℕ, nat_le, Bool, false, List, [], ◌∷◌, ◌++◌, flat_map, Option, Some, None, if◌then◌else◌}
use Rattle.std.specs.Option.{option_map_or}
use Rattle.std.specs.List.{list_any}
use Rattle.crp_said.specs.declared.moves.SaidMove.{SaidMove}
use Rattle.crp_said.specs.declared.moves.SaidMove.TheVariants.{Shift, Take}
use Rattle.crp_follow.specs.declared.stated.StatedMove.{StatedMove}
use Rattle.crp_follow.specs.Followed.{BayFollowed}
use Rattle.crp_loading.specs.declared.fault.LoadingFault.{LoadingFault}
use Rattle.crp_loading.specs.declared.fault.LoadingFault.TheVariants as fault
use Rattle.crp_loading.specs.Turns.{turn_of}

-- a take: the number of its line, and the turn of its container, if it has one
pub record TakeStated : Type 0 where
  pub line : ℕ
  pub turn : Option ℕ

-- the take that a line states, if it states one
abbrev pub take_stated : List (List ℕ) → ℕ → SaidMove → List TakeStated
take_stated sequence line (Shift from to container) = []
take_stated sequence line (Take from container) = record { line = line; turn = turn_of sequence container } ∷ []

-- the takes among these moves
abbrev pub takes_stated : List (List ℕ) → List StatedMove → List TakeStated
takes_stated sequence moves = flat_map (λ m. take_stated sequence m.line m.said) moves

-- it has this turn, or a later one
abbrev pub is_at_or_behind : ℕ → TakeStated → Bool
is_at_or_behind turn t = option_map_or (nat_le turn) t.turn false

-- what is wrong with a take of this line and turn behind others of its bay: its container is not ordered; else one of those has its turn or a later one
abbrev pub faults_behind : List TakeStated → ℕ → Option ℕ → List LoadingFault
faults_behind before line None = fault.NotOrdered line ∷ []
faults_behind before line (Some turn) = if list_any (is_at_or_behind turn) before then fault.OutOfOrder line ∷ [] else []

-- the faults of takes, one after the other, behind others of their bay
abbrev pub faults_from : List TakeStated → List TakeStated → List LoadingFault
faults_from before [] = []
faults_from before (t ∷ later) = faults_behind before t.line t.turn ++ faults_from (before ++ t ∷ []) later

-- the faults of a bay
abbrev pub faults_in : List (List ℕ) → List StatedMove → List LoadingFault
faults_in sequence moves = faults_from [] (takes_stated sequence moves)

-- the faults of a report, bay by bay in its order
abbrev pub faults_of : List (List ℕ) → List BayFollowed → List LoadingFault
faults_of sequence bays = flat_map (λ b. faults_in sequence b.stated.moves) bays

-- it is the first of these faults
abbrev pub IsFirst : List LoadingFault → LoadingFault → Type 0
IsFirst faults f = (later : List LoadingFault) × (faults ≡ f ∷ later)
