-- What stands in a yard.
use Prim.Native.Nat.{zero}
use Rattle.std.specs.Prelude.{ℕ, suc, Bool, List, [], ◌∷◌, ◌++◌, map, fold, Option, option_to_list, if◌then◌else◌, ◌+◌, ◌≤◌, ◌-◌, All, length, flat_map, slice_get, option_map, option_and_then, ⊤}
use Rattle.std.specs.List.{list_any, IsDistinct}
use Rattle.std.specs.Str.{bytes_eq}
use Rattle.std.specs.Map.{lookup}
use Rattle.crp_plan.specs.BayNames.{YardBay, same_bay}
use Rattle.crp_sizes.specs.Sizes.{YardSizes, CanBeSizes, heights_at}
use Rattle.crp_yard.specs.Places.{YardPlace, same_place}
use Rattle.crp_yard.specs.Records.{Entry, height_of}

-- a bay with its stacks: for each row from the first the containers from bottom to top
abbrev pub StackedBay : Type 0
StackedBay = YardBay × List (List (List ℕ))

-- the size of each bay, and the bays with their stacks
pub record Inventory : Type 0 where
  pub sizes : YardSizes
  pub bays : List StackedBay

-- the map from places to containers that the entries give
abbrev pub container_at : List Entry → YardPlace → Option (List ℕ)
container_at entries place = lookup (same_place place) entries

-- the bays, and this one at the end if it is not among them
abbrev pub with_bay : List YardBay → YardBay → List YardBay
with_bay seen bay = if list_any (same_bay bay) seen then seen else seen ++ bay ∷ []

-- each bay once, in the order in which they come first
abbrev pub first_seen : List YardBay → List YardBay
first_seen bays = fold with_bay [] bays

-- the bays of the entries, in first-seen order
abbrev pub bays_of : List Entry → List YardBay
bays_of entries = first_seen (map (λ entry. entry.0.bay) entries)

-- the containers of a row at the tiers up to this one, from bottom to top
abbrev pub stack_up_to : List Entry → YardBay → ℕ → ℕ → List (List ℕ)
stack_up_to entries bay row zero = []
stack_up_to entries bay row (suc tier) =
    stack_up_to entries bay row tier ++ option_to_list (container_at entries (record { bay = bay; row = row; tier = suc tier }))

-- the stacks of the rows of a bay up to this one, each of at most as many tiers as its row has
abbrev pub stacks_up_to : List Entry → YardBay → List ℕ → ℕ → List (List (List ℕ))
stacks_up_to entries bay heights zero = []
stacks_up_to entries bay heights (suc row) = stacks_up_to entries bay heights row ++ stack_up_to entries bay (suc row) (height_of heights (suc row)) ∷ []

-- a bay with the stacks that the entries give it
abbrev pub stacked : YardSizes → List Entry → YardBay → StackedBay
stacked sizes entries bay = (bay, stacks_up_to entries bay (heights_at sizes bay) (length (heights_at sizes bay)))

-- the inventory of a yard whose bays have these sizes, by its entries
abbrev pub inventory_of : YardSizes → List Entry → Inventory
inventory_of sizes entries = record { sizes = sizes; bays = map (stacked sizes entries) (bays_of entries) }

-- all containers of the bays: bay by bay, row by row, from bottom to top
abbrev pub containers_of : List StackedBay → List (List ℕ)
containers_of bays = flat_map (λ bay. flat_map (λ stack. stack) bay.1) bays

-- the container is in the list
abbrev pub is_among : List (List ℕ) → List ℕ → Bool
is_among containers container = list_any (λ other. bytes_eq container other) containers

-- in how many places of the list the container is
abbrev pub times : List ℕ → List (List ℕ) → ℕ
times container [] = 0
times container (other ∷ containers) = (if bytes_eq container other then 1 else 0) + times container containers

-- the container stands in one of the bays
abbrev pub stands : List StackedBay → List ℕ → Bool
stands bays container = is_among (containers_of bays) container

-- the bay with this number, from 0 in first-seen order
abbrev pub name_at : Inventory → ℕ → Option YardBay
name_at yard i = option_map (λ bay. bay.0) (slice_get yard.bays i)

-- how many tiers each row of the bay with this number has
abbrev pub heights_in_bay : Inventory → ℕ → Option (List ℕ)
heights_in_bay yard i = option_map (heights_at yard.sizes) (name_at yard i)

-- the stack of a row, from 1, of the bay with this number
abbrev pub stack_in_bay : Inventory → ℕ → ℕ → Option (List (List ℕ))
stack_in_bay yard i row = option_and_then (λ bay. slice_get bay.1 (row - 1)) (slice_get yard.bays i)

-- a stack for each row, none with more containers than its row has tiers
abbrev pub FitBay : List ℕ → List (List (List ℕ)) → Type 0
FitBay [] [] = ⊤
FitBay [] (stack ∷ stacks) = ⊥
FitBay (height ∷ heights) [] = ⊥
FitBay (height ∷ heights) (stack ∷ stacks) = (length stack ≤ height) × FitBay heights stacks

-- what holds of each yard: each bay has 1 to 12 rows of 1 to 8 tiers, and its containers fit; each bay once; and each container in one place
pub record IsYard (yard : Inventory) : Type 0 where
  pub sizes_fit : CanBeSizes yard.sizes
  pub bays_fit : All (λ bay. FitBay (heights_at yard.sizes bay.0) bay.1) yard.bays
  pub bays_once : IsDistinct same_bay (map (λ bay. bay.0) yard.bays)
  pub containers_once : (container : List ℕ) → times container (containers_of yard.bays) ≤ 1
