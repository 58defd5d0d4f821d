-- Bays of the yard that the list of sizes leaves out, and that hold more containers than each bay of their block that it has, or fewer than each.
use Rattle.std.specs.Prelude.{ℕ, nat_lt, Bool, not, ◌&&◌, ◌||◌, List, [], ◌∷◌, length, map, filter, flat_map, sum_by, Option, Some, None, is_some}
use Rattle.std.specs.List.{list_any, list_all}
use Rattle.std.specs.Str.{bytes_eq}
use Rattle.crp_plan.specs.BayNames.{YardBay}
use Rattle.crp_sizes.specs.Sizes.{heights_of}
use Rattle.crp_yard.specs.Inventory.{Inventory, StackedBay}
use Rattle.crp_notes.specs.Wording.{unlisted_note}

-- how many containers a bay with rows of these heights holds
abbrev pub room_of : List ℕ → ℕ
room_of heights = sum_by (λ height. height) heights

-- the block of a bay that is listed with these heights, and how many containers it holds
abbrev pub room_if_listed : List ℕ → Option (List ℕ) → List (List ℕ × ℕ)
room_if_listed block None = []
room_if_listed block (Some heights) = (block, room_of heights) ∷ []

-- those of these bays that the list of sizes has
abbrev pub listed_rooms : Inventory → List StackedBay → List (List ℕ × ℕ)
listed_rooms yard bays = flat_map (λ bay. room_if_listed bay.0.block (heights_of yard.sizes.listed bay.0)) bays

-- bays of this block are among them, and so many containers are more than each of these holds, or fewer than each
abbrev pub is_outside : List (List ℕ × ℕ) → List ℕ → ℕ → Bool
is_outside rooms block room =
    list_any (λ r. bytes_eq r.0 block) rooms
    && (list_all (λ r. not (bytes_eq r.0 block) || nat_lt r.1 room) rooms || list_all (λ r. not (bytes_eq r.0 block) || nat_lt room r.1) rooms)

-- the list of sizes has not this bay, and it is outside of those of its block that the list has
abbrev pub is_left_out : Inventory → List (List ℕ × ℕ) → StackedBay → Bool
is_left_out yard rooms bay = not (is_some (heights_of yard.sizes.listed bay.0)) && is_outside rooms bay.0.block (room_of yard.sizes.common)

-- those of these bays that are left out so
abbrev pub left_out : Inventory → List (List ℕ × ℕ) → List StackedBay → List YardBay
left_out yard rooms bays = map (λ bay. bay.0) (filter (is_left_out yard rooms) bays)

-- the note on them, if there are some
abbrev pub note_if_left_out : List ℕ → List YardBay → Option (List ℕ)
note_if_left_out heights [] = None
note_if_left_out heights (bay ∷ bays) = Some (unlisted_note heights bay (length (bay ∷ bays)))

-- the note on those of the yard
abbrev pub unlisted_note_on : Inventory → Option (List ℕ)
unlisted_note_on yard = note_if_left_out yard.sizes.common (left_out yard (listed_rooms yard yard.bays) yard.bays)
