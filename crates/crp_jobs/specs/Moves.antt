-- What is said of a move of a report that a crane cannot make: what it says, and what stands in its bay before it.
use Rattle.std.specs.Prelude.{◌≡◌, ℕ, Bool, ◌+◌, ◌-◌, ◌==◌, nat_le, List, [], ◌∷◌, ◌++◌, length, slice_get, slice_index_or, Option, Some, None, IfSome, option_and_then, if◌then◌else◌, codes}
use Rattle.std.specs.Fmt.{decimal}
use Rattle.crp_sizes.specs.Sizes.{YardSizes}
use Rattle.crp_separated.specs.Inputs.{comma_list}
use Rattle.crp_yard.specs.Inventory.{Inventory}
use Rattle.crp_yard.specs.Reading.{IsYardListOf}
use Rattle.crp_yard.specs.Records.{height_of}
use Rattle.crp_said.specs.declared.moves.Place.{Place}
use Rattle.crp_said.specs.declared.moves.SaidMove.{SaidMove}
use Rattle.crp_said.specs.declared.moves.SaidMove.TheVariants.{Shift, Take}
use Rattle.crp_follow.specs.Crane.{Stack, stack_of, from_of, container_of}
use Rattle.crp_follow.specs.Stopping.{StandsBefore}
use Rattle.crp_files.specs.Known.{KnownFiles}
use Rattle.crp_jobs.specs.declared.job.Job.{Job}
use Rattle.crp_jobs.specs.declared.move_words.Wrong.{Wrong}
use Rattle.crp_jobs.specs.declared.move_words.Wrong.TheVariants as wrong
use Rattle.crp_jobs.specs.Firsts.{counted}
use Rattle.crp_jobs.specs.ListLines.{HasSizes}
use Rattle.crp_jobs.specs.Partial.{is_partial, IsOfReport}
use Rattle.crp_jobs.specs.Placed.{shown, sizes_named, sizes_of, yard_named, IsOfFront}
use Rattle.crp_jobs.specs.Sized.{separator_of}

-- ---- words on a row

-- a place, as reports spell it
abbrev pub place_words : ℕ → ℕ → List ℕ
place_words row tier = decimal row ++ (codes "." ++ decimal tier)

-- where there is no such row: how many there are
abbrev pub rows_words : ℕ → List ℕ
rows_words rows = codes "; the bay has " ++ counted rows (codes " row") (codes " rows")

-- something of a row
abbrev pub row_words : ℕ → List ℕ → List ℕ
row_words row what = codes "; row " ++ (decimal row ++ what)

-- the highest container of a stack
abbrev pub highest : Stack → List ℕ
highest stack = slice_index_or stack (length stack - 1) []

-- on the highest container of a row
abbrev pub highest_words : ℕ → Stack → List ℕ
highest_words row stack =
    codes "; the highest container of row " ++ (decimal row ++ (codes " is " ++ (place_words row (length stack) ++ (codes " " ++ highest stack))))

-- on what could be lifted of a row in which this stands, or of one that is none of so many
abbrev pub lift_words : ℕ → ℕ → Option Stack → List ℕ
lift_words rows row None = rows_words rows
lift_words rows row (Some []) = row_words row (codes " is empty")
lift_words rows row (Some (c ∷ stack)) = highest_words row (c ∷ stack)

-- a row of this height is full where this stands in it
abbrev pub is_full : ℕ → Stack → Bool
is_full height stack = nat_le height (length stack)

-- on the row that a container is lifted from, and on the lowest free place of another
abbrev pub own_words : ℕ → List ℕ
own_words row = codes "; it is lifted from row " ++ decimal row

abbrev pub lowest_words : ℕ → Stack → List ℕ
lowest_words row stack = codes "; the lowest free place of row " ++ (decimal row ++ (codes " is " ++ place_words row (length stack + 1)))

-- on where a container that is lifted from one row could be set down in another, of this height, in which this stands, or which is none of so many
abbrev pub free_words : ℕ → ℕ → ℕ → Stack → List ℕ
free_words from row height stack =
    if row == from then own_words row else if is_full height stack then row_words row (codes " is full") else lowest_words row stack

abbrev pub set_down_words : ℕ → ℕ → ℕ → ℕ → Option Stack → List ℕ
set_down_words rows from row height None = rows_words rows
set_down_words rows from row height (Some stack) = free_words from row height stack

-- on what stands at a tier of a stack
abbrev pub there_words : List ℕ → List ℕ
there_words container = codes "; " ++ (container ++ codes " stands there")

abbrev pub stands_words : Option (List ℕ) → List ℕ
stands_words None = codes "; nothing stands there"
stands_words (Some container) = there_words container

-- what stands at a place
abbrev pub container_on : List Stack → Place → Option (List ℕ)
container_on rows place =
    option_and_then (λ stack. if place.tier == 0 then None else slice_get stack (place.tier - 1)) (stack_of rows place.row)

-- ---- words on a move, where these stand in the rows

-- on its place to lift from
abbrev pub lift_text : List Stack → Place → List ℕ
lift_text rows from = codes " lifts from " ++ (place_words from.row from.tier ++ lift_words (length rows) from.row (stack_of rows from.row))

-- on the container that it names
abbrev pub container_text : List Stack → Place → List ℕ → List ℕ
container_text rows from container =
    codes " lifts " ++ (container ++ (codes " from " ++ (place_words from.row from.tier ++ stands_words (container_on rows from))))

-- on its place to set down on, where rows have these heights
abbrev pub set_down_text : List ℕ → List Stack → Place → Place → List ℕ
set_down_text heights rows from to =
    codes " sets down on " ++ (place_words to.row to.tier ++ set_down_words (length rows) from.row to.row (height_of heights to.row) (stack_of rows to.row))

-- on what is wrong about it; what leaves the bay is set down nowhere
abbrev pub wrong_text : Wrong → List ℕ → List Stack → SaidMove → List ℕ
wrong_text wrong.Lift heights rows m = lift_text rows (from_of m)
wrong_text wrong.Container heights rows m = container_text rows (from_of m) (container_of m)
wrong_text wrong.SetDown heights rows (Shift from to container) = set_down_text heights rows from to
wrong_text wrong.SetDown heights rows (Take from container) = lift_text rows from

-- what is said of it, where it stands at this line
abbrev pub move_text : ℕ → Wrong → List ℕ → List Stack → SaidMove → List ℕ
move_text n what heights rows m = codes "line " ++ (decimal n ++ wrong_text what heights rows m)

-- ---- lines

-- the yard is that of the list of a job which has these sizes of bays, unless it names a list of sizes
abbrev pub HasYard : KnownFiles → Job → YardSizes → List ℕ → Inventory → Type 0
HasYard known j chosen name yard =
    (sizes : YardSizes) × HasSizes known (separator_of j) (sizes_named j) chosen sizes
    × IsOfFront (known.given name) (λ text. IsYardListOf sizes (comma_list (separator_of j) text) yard)

-- the line on the move at this line of a report, of which this is wrong: by what stands in the bay before the move
pub record IsMoveLineIn (report : List ℕ) (yard : Inventory) (what : Wrong) (n : ℕ) (line : List ℕ) : Type 0 where
  pub said : SaidMove
  pub heights : List ℕ
  pub rows : List Stack
  pub before : StandsBefore yard report n said heights rows
  pub line_is : line ≡ shown (move_text n what heights rows said)

-- the same over the yard of a job, as it is read again
abbrev pub IsMoveLineOf : KnownFiles → Job → List ℕ → Wrong → ℕ → List ℕ → Type 0
IsMoveLineOf known j report what n line =
    IfSome (sizes_of j) (λ chosen. IfSome (yard_named j) (λ name. (yard : Inventory) × HasYard known j chosen name yard × IsMoveLineIn report yard what n line))

-- the same of a report of the job, as it is read again
abbrev pub IsMoveLine : KnownFiles → Job → Option (List ℕ) → Wrong → ℕ → List ℕ → Type 0
IsMoveLine known j given what n line = IsOfReport (is_partial j) given (λ report bays. IsMoveLineOf known j report what n line)
