-- What the reader keeps of the records before a record. Only private clauses speak of it.
use Rattle.std.specs.Prelude.{◌≡◌, ◌≤◌, ◌==◌, ℕ, List, [], ◌∷◌, ◌++◌, Vec, None, map, max, length, if◌then◌else◌, Bool, ◌||◌}
use Rattle.std.specs.List.{list_any}
use Rattle.std.specs.Str.{bytes_eq}
use Rattle.std.specs.declared.alloc.Global.{Global}
use Rattle.crp_sizes.specs.Sizes.{YardSizes}
use Rattle.crp_yard.specs.Places.{YardPlace}
use Rattle.crp_yard.specs.Records.{Entry, entry_of, entries_of}
use Rattle.crp_yard.specs.Inventory.{Inventory, StackedBay, times, stands, is_among, IsYard}
use Rattle.crp_yard.specs.Faults.{max_containers, first_fault_up_to}

-- the containers of the entries
abbrev pub entry_names : List Entry → List (List ℕ)
entry_names entries = map (λ entry. entry.1) entries

-- the entries of places and of containers that are listed side by side
abbrev pub entries_listed : List YardPlace → List (Vec ℕ Global) → List Entry
entries_listed [] names = []
entries_listed (place ∷ places) [] = []
entries_listed (place ∷ places) (name ∷ names) = (place, name.items) ∷ entries_listed places names

-- there is a container for each place, none of them is there twice, and there are no more than are read
pub record IsListing (places : List YardPlace) (names : List (Vec ℕ Global)) : Type 0 where
  pub one_for_each : length places ≡ length names
  pub once : (container : List ℕ) → times container (map (λ name. name.items) names) ≤ 1
  pub few : length names ≤ max_containers

-- records that have no fault but by floating say these entries
pub record AreEntriesOf (sizes : YardSizes) (records : List (List (List ℕ))) (entries : List Entry) : Type 0 where
  pub faultless : first_fault_up_to sizes records (max 1 (length records)) ≡ None
  pub said : entries ≡ entries_of records

-- the entries behind a record with this number: the first is the header, which gives none
abbrev pub entries_behind : List Entry → ℕ → List (List ℕ) → List Entry
entries_behind entries n fields = if n == 1 then entries else entries ++ entry_of fields ∷ []

-- so many records were read, none of which has a fault, and these entries are what they say
pub record IsRead (sizes : YardSizes) (records : List (List (List ℕ))) (entries : List Entry) (n : ℕ) : Type 0 where
  pub faultless : first_fault_up_to sizes records (length records) ≡ None
  pub said : entries ≡ entries_of records
  pub counted : n ≡ length records

-- the set has the container
abbrev pub has : List (Vec ℕ Global) → List ℕ → Bool
has names container = list_any (λ name. bytes_eq container name.items) names

-- the new set has the containers of the old one and those that were added, and no other
abbrev pub Adds : List (Vec ℕ Global) → List (Vec ℕ Global) → List (List ℕ) → Type 0
Adds old new added = (container : List ℕ) → has new container ≡ (has old container || is_among added container)

-- the set has the containers of the bays, and no other
abbrev pub HasNames : List StackedBay → List (Vec ℕ Global) → Type 0
HasNames bays names = (container : List ℕ) → has names container ≡ stands bays container

-- a yard, and the set of its containers
pub record IsKept (yard : Inventory) (names : List (Vec ℕ Global)) : Type 0 where
  pub sound : IsYard yard
  pub named : HasNames yard.bays names
