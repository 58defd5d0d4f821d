-- What stands in a yard, and what floats, said as relations of places.
use Rattle.std.specs.Prelude.{◌≡◌, ◌≢◌, ◌<◌, ◌≤◌, ◌+◌, ◌-◌, ◌⊎◌, ℕ, max, List, length, Some, None, slice_get}
use Rattle.crp_plan.specs.BayNames.{YardBay}
use Rattle.crp_sizes.specs.Sizes.{YardSizes}
use Rattle.crp_yard.specs.Places.{YardPlace}
use Rattle.crp_yard.specs.Records.{Entry, entries_of}
use Rattle.crp_yard.specs.Inventory.{Inventory, StackedBay}
use Rattle.crp_yard.specs.Faults.{fault_at}

-- the container stands in the yard at the place: in the bay of this name, in the stack of the row, at the tier
pub record StandsAt (yard : Inventory) (place : YardPlace) (container : List ℕ) : Type 0 where
  pub number : ℕ
  pub rows : List (List (List ℕ))
  pub bay_there : slice_get yard.bays number ≡ Some (place.bay, rows)
  pub row_counts : 1 ≤ place.row
  pub tiers : List (List ℕ)
  pub row_there : slice_get rows (place.row - 1) ≡ Some tiers
  pub tier_counts : 1 ≤ place.tier
  pub container_there : slice_get tiers (place.tier - 1) ≡ Some container

-- the entry with this number, from 0, is the first that names the bay
pub record NamesFirst (entries : List Entry) (bay : YardBay) (i : ℕ) : Type 0 where
  pub entry : Entry
  pub there : slice_get entries i ≡ Some entry
  pub names : entry.0.bay ≡ bay
  pub none_before : (k : ℕ) (other : Entry) → k < i → slice_get entries k ≡ Some other → other.0.bay ≢ bay

-- What an entry says stands in the yard, and what stands in the yard some entry says. Each bay of the yard is named by an entry, and of
-- two bays the one that is named first stands first.
pub record HasEntries (entries : List Entry) (yard : Inventory) : Type 0 where
  pub stands : (i : ℕ) (entry : Entry) → slice_get entries i ≡ Some entry → StandsAt yard entry.0 entry.1
  pub stated : (place : YardPlace) (container : List ℕ) → StandsAt yard place container → (i : ℕ) × (slice_get entries i ≡ Some (place, container))
  pub named : (number : ℕ) (bay : StackedBay) → slice_get yard.bays number ≡ Some bay → (i : ℕ) × NamesFirst entries bay.0 i
  pub first_seen : (a b i j : ℕ) (first second : StackedBay) → a < b → slice_get yard.bays a ≡ Some first → slice_get yard.bays b ≡ Some second
      → NamesFirst entries first.0 i → NamesFirst entries second.0 j → i < j

-- one place is right below another: in the same row of the same bay, one tier lower
pub record IsRightBelow (lower upper : YardPlace) : Type 0 where
  pub same_bay : lower.bay ≡ upper.bay
  pub same_row : lower.row ≡ upper.row
  pub next_tier : lower.tier + 1 ≡ upper.tier

-- what stands at the place stands on something: on the ground, or on the container of some entry
abbrev pub IsBorne : List Entry → YardPlace → Type 0
IsBorne entries place = (place.tier ≤ 1) ⊎ ((k : ℕ) × (below : Entry) × (slice_get entries k ≡ Some below) × IsRightBelow below.0 place)

-- no record has a fault by what it says and what those before it say; a list without records lacks the header
abbrev pub AreFaultless : YardSizes → List (List (List ℕ)) → Type 0
AreFaultless sizes records = (k : ℕ) → 1 ≤ k → k ≤ max 1 (length records) → fault_at sizes records k ≡ None

-- no record has such a fault, and the container of the record with this number floats: it stands on nothing, and those of all records
-- before it stand on something
pub record FloatsFirst (sizes : YardSizes) (records : List (List (List ℕ))) (n : ℕ) : Type 0 where
  pub faultless : AreFaultless sizes records
  pub behind_header : 2 ≤ n
  pub entry : Entry
  pub there : slice_get (entries_of records) (n - 2) ≡ Some entry
  pub floats : IsBorne (entries_of records) entry.0 → ⊥
  pub borne_before : (k : ℕ) (other : Entry) → k < n - 2 → slice_get (entries_of records) k ≡ Some other → IsBorne (entries_of records) other.0

-- no record has such a fault, and each container stands on something
pub record NoneFloats (sizes : YardSizes) (records : List (List (List ℕ))) : Type 0 where
  pub faultless : AreFaultless sizes records
  pub borne : (k : ℕ) (entry : Entry) → slice_get (entries_of records) k ≡ Some entry → IsBorne (entries_of records) entry.0
