-- Reading a line of a report, without its LF, and its parts from the front of the bytes. No public clause cites this module.
use Rattle.std.specs.Prelude.{ℕ, List, [], ◌∷◌, Bool, false, not, Option, Some, None, codes, if◌then◌else◌, ◌==◌, length}
use Rattle.std.specs.Str.{bytes_eq}
use Rattle.crp_yard.specs.Records.{is_container}
use Rattle.std.specs.Option.{option_or}
use Rattle.crp_cert.specs.Reading.{◌>>=◌, tag_at, number_at, word_at}
use Rattle.crp_said.specs.declared.numbers.Numbers.{Numbers}
use Rattle.crp_said.specs.declared.said.SaidCause.{SaidCause}
use Rattle.crp_said.specs.declared.said.SaidCause.TheVariants.{Budget, Memory, Time, Edited}
use Rattle.crp_said.specs.declared.said.Said.{Said}
use Rattle.crp_said.specs.declared.said.Said.TheVariants.{Optimal, First, NoPlan, Between, Outside}
use Rattle.crp_said.specs.declared.moves.Place.{Place}
use Rattle.crp_said.specs.declared.moves.SaidMove.{SaidMove}
use Rattle.crp_said.specs.declared.moves.SaidMove.TheVariants.{Shift, Take}
use Rattle.crp_said.specs.Spelled.{most}

-- the number that all of the bytes are
unfoldable pub number_alone_at : List ℕ → Option ℕ
number_alone_at bytes = do
  x ← number_at most bytes
  if length x.1 == 0 then Some x.0 else None

-- the three numbers of a first line
unfoldable pub counts_at : List ℕ → Option Numbers
counts_at line = do
  a ← tag_at (codes "orders ") line
  orders ← number_at most a
  b ← tag_at (codes " open ") orders.1
  vacant ← number_at most b
  c ← tag_at (codes " absent ") vacant.1
  absent ← number_alone_at c
  Some (record { orders = orders.0; vacant = vacant.0; absent = absent })

-- the two numbers of a last line
unfoldable pub last_at : List ℕ → Option (ℕ × ℕ)
last_at line = do
  a ← tag_at (codes "bays ") line
  count ← number_at most a
  b ← tag_at (codes " decided ") count.1
  settled ← number_alone_at b
  Some (count.0, settled)

-- what stands behind the relocations of an optimal plan
abbrev pub optimal_at : ℕ → List ℕ → Option Said
optimal_at count bytes = if bytes_eq bytes [] then Some (Optimal count) else (if bytes_eq bytes (codes " first") then Some (First count) else None)

-- what stands behind the relocations of moves outside the rule
abbrev pub outside_at : ℕ → List ℕ → Option Said
outside_at count bytes = if bytes_eq bytes (codes ", edited") then Some (Outside count) else None

-- the relocations of a plan, or that there is none
abbrev pub upper_at : List ℕ → Option (Option ℕ × List ℕ)
upper_at bytes = option_or (tag_at (codes "none") bytes >>= λ rest. Some (None, rest)) (number_at most bytes >>= λ x. Some (Some x.0, x.1))

-- why a bay is left open
abbrev pub cause_at : List ℕ → Option SaidCause
cause_at bytes =
    if bytes_eq bytes (codes "budget") then Some Budget
    else (if bytes_eq bytes (codes "memory") then Some Memory
    else (if bytes_eq bytes (codes "time") then Some Time
    else (if bytes_eq bytes (codes "edited") then Some Edited else None)))

-- what is said of the fewest relocations, by its first word
unfoldable pub said_optimal_at : List ℕ → Option Said
said_optimal_at bytes = do
  a ← tag_at (codes "optimal ") bytes
  count ← number_at most a
  optimal_at count.0 count.1

abbrev pub said_none_at : List ℕ → Option Said
said_none_at bytes = if bytes_eq bytes (codes "no plan") then Some NoPlan else None

unfoldable pub said_between_at : List ℕ → Option Said
said_between_at bytes = do
  a ← tag_at (codes "between ") bytes
  lower ← number_at most a
  b ← tag_at (codes " and ") lower.1
  upper ← upper_at b
  c ← tag_at (codes ", ") upper.1
  why ← cause_at c
  Some (Between lower.0 upper.0 why)

unfoldable pub said_outside_at : List ℕ → Option Said
said_outside_at bytes = do
  a ← tag_at (codes "outside the rule ") bytes
  count ← number_at most a
  outside_at count.0 count.1

abbrev pub said_at : List ℕ → Option Said
said_at bytes = option_or (said_optimal_at bytes) (option_or (said_none_at bytes) (option_or (said_between_at bytes) (said_outside_at bytes)))

-- the line of a bay: the block and the number, whatever they are, and what is said
unfoldable pub bay_at : List ℕ → Option ((List ℕ × ℕ) × Said)
bay_at line = do
  a ← tag_at (codes "bay ") line
  block ← word_at a
  b ← tag_at (codes " ") block.1
  bay ← number_at most b
  c ← tag_at (codes ": ") bay.1
  said ← said_at c
  Some ((block.0, bay.0), said)

-- a line of moves may begin so
abbrev pub is_move : List ℕ → Bool
is_move [] = false
is_move (b ∷ body) = not (b == 98)

-- a space and a place
unfoldable pub place_at : List ℕ → Option (Place × List ℕ)
place_at bytes = do
  a ← tag_at (codes " ") bytes
  row ← number_at most a
  b ← tag_at (codes ".") row.1
  tier ← number_at most b
  Some (record { row = row.0; tier = tier.0 }, tier.1)

-- a space and the name of a container, to the end of the bytes
unfoldable pub container_at : List ℕ → Option (List ℕ)
container_at bytes = do
  name ← tag_at (codes " ") bytes
  if is_container name then Some name else None

-- a relocation, and a retrieval
unfoldable pub shift_at : List ℕ → Option SaidMove
shift_at bytes = do
  a ← tag_at (codes "shift") bytes
  from ← place_at a
  to ← place_at from.1
  container ← container_at to.1
  Some (Shift from.0 to.0 container)

unfoldable pub take_at : List ℕ → Option SaidMove
take_at bytes = do
  a ← tag_at (codes "take") bytes
  from ← place_at a
  container ← container_at from.1
  Some (Take from.0 container)

-- the move that a line states
abbrev pub stated_at : List ℕ → Option SaidMove
stated_at bytes = option_or (shift_at bytes) (take_at bytes)
