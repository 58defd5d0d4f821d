-- Where the records of a CSV text begin, as csv reads it with this byte between fields, and else by its defaults.
use Prim.Native.Nat.{zero}
use Rattle.std.specs.Prelude.{◌≡◌, ◌⊎◌, ℕ, suc, ◌-◌, ◌==◌, true, false, List, [], length, Option, Some, None, option_map, if◌then◌else◌}
use Rattle.csv.specs.Machine.{next_record, step, is_end}
use Rattle.csv.specs.Reading.{strip_bom}
use Rattle.csv.specs.declared.parser.State.{State}
use Rattle.csv.specs.declared.parser.State.TheVariants as st
use Rattle.edi_text.specs.Reading.{after_line_ends}
use Rattle.crp_separated.specs.Separators.{parted_by}
use Rattle.crp_places.specs.declared.records.Place.{Place}
use Rattle.crp_places.specs.declared.records.Place.TheVariants.{FieldStart, Field, Quoted, QuoteEnd}

-- csv's machine behind a record: its state, and the bytes that it has left
abbrev pub Behind : Type 0
Behind = State × List ℕ

-- the machine behind one record more, if there is one
abbrev pub behind_next : ℕ → Option Behind → Option Behind
behind_next separator None = None
behind_next separator (Some at) = option_map (λ read. (read.1, read.2)) (next_record (parted_by separator) at.0 [] [] at.1)

-- the machine behind so many records of a text, of which a byte order mark is no part; nothing where the text has fewer records
abbrev pub behind_records : ℕ → List ℕ → ℕ → Option Behind
behind_records separator text zero = Some (st.StartRecord, strip_bom text)
behind_records separator text (suc count) = behind_next separator (behind_records separator text count)

-- the offset at which the last bytes of a text begin, if there are any
abbrev pub offset_of_last : List ℕ → List ℕ → Option ℕ
offset_of_last text bytes = if length bytes == 0 then None else Some (length text - length bytes)

-- the offset at which the next record begins: behind the line ends that the machine passes over
abbrev pub next_start : List ℕ → Option Behind → Option ℕ
next_start text None = None
next_start text (Some at) = offset_of_last text (after_line_ends at.1)

-- the offset at which the record with this number begins, from 1: where csv comes to it behind the records before it; none where the text has fewer
abbrev pub record_start : ℕ → List ℕ → ℕ → Option ℕ
record_start separator text number = if number == 0 then None else next_start text (behind_records separator text (number - 1))

-- ---- what only private clauses speak of

-- the machine's state at a place in a record
abbrev pub state_at : Place → State
state_at FieldStart = st.StartField
state_at Field = st.InField
state_at Quoted = st.InQuoted
state_at QuoteEnd = st.AfterQuote

-- the machine stands between two records, where it passes over line ends
abbrev pub IsBetween : State → Type 0
IsBetween s = (s ≡ st.StartRecord) ⊎ (s ≡ st.AfterCr)

-- the byte ends the record
abbrev pub Ends : ℕ → Place → ℕ → Type 0
Ends separator place b =
    (is_end (step (parted_by separator) (state_at place) b).1 ≡ true) × IsBetween (step (parted_by separator) (state_at place) b).0

-- the byte takes the machine to this place
abbrev pub GoesOn : ℕ → Place → ℕ → Place → Type 0
GoesOn separator place b behind =
    (is_end (step (parted_by separator) (state_at place) b).1 ≡ false) × ((step (parted_by separator) (state_at place) b).0 ≡ state_at behind)

-- behind the record that begins these bytes, the machine has the rest left
abbrev pub LeavesRecord : ℕ → List ℕ → List ℕ → Type 0
LeavesRecord separator bytes rest =
    (fields : List (List ℕ)) × (s : State) × IsBetween s × (next_record (parted_by separator) st.StartField [] [] bytes ≡ Some (fields, s, rest))
