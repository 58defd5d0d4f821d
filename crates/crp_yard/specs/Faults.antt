-- Which fault of a yard list is the first: the first faulty record decides, and within it the order of the table below; a container
-- that floats is stated only where no record has another fault.
use Prim.Native.Nat.{zero}
use Rattle.std.specs.Prelude.{ℕ, suc, ◌+◌, ◌-◌, max, Bool, false, not, ◌&&◌, ◌==◌, nat_le, List, [], ◌∷◌, length, take, Option, Some, None, is_some, slice_get, slice_index_or, if◌then◌else◌}
use Rattle.std.specs.List.{list_any}
use Rattle.std.specs.Str.{bytes_eq}
use Rattle.std.specs.Option.{option_or}
pub use Rattle.crp_sizes.specs.Fields.{max_bytes}
use Rattle.crp_sizes.specs.Sizes.{YardSizes, heights_at}
use Rattle.crp_yard.specs.declared.fault.YardFault.{YardFault}
use Rattle.crp_yard.specs.declared.fault.YardFault.TheVariants.{Header, Fields, Digits, Outside, PlaceTaken, Floating, StandsAlready, TooMany, TooLarge}
use Rattle.crp_yard.specs.Places.{YardPlace}
use Rattle.crp_yard.specs.Records.{Entry, records_of, is_header, is_well_formed, has_numbers, bay_named, place_named, is_within, field_of, entries_of}
use Rattle.crp_yard.specs.Inventory.{container_at}

-- so many containers are read
abbrev pub max_containers : ℕ
max_containers = 20000

-- the place has its container already
abbrev pub is_taken : List Entry → YardPlace → Bool
is_taken entries place = is_some (container_at entries place)

-- the container stands somewhere
abbrev pub is_named : List Entry → List ℕ → Bool
is_named entries container = list_any (λ entry. bytes_eq container entry.1) entries

-- the faults that a record with this number may have behind these entries, in the order in which they are stated, each with whether it
-- is there
abbrev pub faults_of : YardSizes → List Entry → ℕ → List (List ℕ) → List (Bool × YardFault)
faults_of sizes entries n fields =
    (not (is_well_formed fields), Fields n)
    ∷ (not (has_numbers fields), Digits n)
    ∷ (not (is_within (heights_at sizes (bay_named fields)) (place_named fields)), Outside n)
    ∷ (is_taken entries (place_named fields), PlaceTaken n)
    ∷ (is_named entries (field_of fields 4), StandsAlready n)
    ∷ (nat_le max_containers (length entries), TooMany n)
    ∷ []

-- the first that is there
abbrev pub first_of : List (Bool × YardFault) → Option YardFault
first_of [] = None
first_of (fault ∷ faults) = if fault.0 then Some fault.1 else first_of faults

-- the fault of a record with this number behind these entries
unfoldable pub fault_of : YardSizes → List Entry → ℕ → List (List ℕ) → Option YardFault
fault_of sizes entries n fields = first_of (faults_of sizes entries n fields)

-- the fault of a record with this number behind these entries, where the first record is the header
unfoldable pub fault_behind : YardSizes → List Entry → ℕ → List (List ℕ) → Option YardFault
fault_behind sizes entries n fields =
    if n == 1 then (if is_header fields then None else Some (Header 1)) else fault_of sizes entries n fields

-- the record with this number, from 1; one without fields where there is none
abbrev pub record_numbered : List (List (List ℕ)) → ℕ → List (List ℕ)
record_numbered records n = slice_index_or records (n - 1) []

-- the fault of the record with this number, by what the records before it say
unfoldable pub fault_at : YardSizes → List (List (List ℕ)) → ℕ → Option YardFault
fault_at sizes records n = fault_behind sizes (entries_of (take (n - 1) records)) n (record_numbered records n)

-- the fault of the first faulty record up to this number
abbrev pub first_fault_up_to : YardSizes → List (List (List ℕ)) → ℕ → Option YardFault
first_fault_up_to sizes records zero = None
first_fault_up_to sizes records (suc n) = option_or (first_fault_up_to sizes records n) (fault_at sizes records (suc n))

-- the place one tier lower
abbrev pub one_tier_lower : YardPlace → YardPlace
one_tier_lower place = record place { tier = place.tier - 1 }

-- above the lowest tier, with nothing in the tier below
abbrev pub is_floating : List Entry → YardPlace → Bool
is_floating entries place = nat_le 2 place.tier && not (is_taken entries (one_tier_lower place))

-- the entry with this number, from 0, floats
abbrev pub floats : List Entry → Option Entry → Bool
floats entries None = false
floats entries (Some entry) = is_floating entries entry.0

-- of the entries before this number the first that floats; the entry with the number 0 is that of record 2
abbrev pub floating_before : List Entry → ℕ → Option YardFault
floating_before entries zero = None
floating_before entries (suc k) =
    option_or (floating_before entries k) (if floats entries (slice_get entries k) then Some (Floating (k + 2)) else None)

-- of all faults of the records this one is stated; none where no record is faulty and nothing floats. A list without records lacks the
-- header
unfoldable pub first_fault : YardSizes → List (List (List ℕ)) → Option YardFault
first_fault sizes records =
    option_or (first_fault_up_to sizes records (max 1 (length records))) (floating_before (entries_of records) (length (entries_of records)))

-- the same of a text: that it is too long comes before all
abbrev pub fault_of_text : YardSizes → List ℕ → Option YardFault
fault_of_text sizes text = if nat_le (length text) max_bytes then first_fault sizes (records_of text) else Some TooLarge
