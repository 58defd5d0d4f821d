-- The bays that are listed, and those that are left out, with one bay more.
use Rattle.std.proofs.Common.{◌≡◌, ◌∙◌, ℕ, ◌+◌, Bool, true, false, cond, ◌&&◌, ◌||◌, List, [], ◌∷◌, ◌++◌, append-nil, length, map, take, filter, Option, Some, None, slice_get, refl, sym, ap, arith, Bor}
use Rattle.std.specs.Prelude.{not, nat_lt, is_some, flat_map}
use Rattle.std.specs.Option.{option_map}
use Rattle.std.specs.List.{list_any, list_all}
use Rattle.std.specs.Str.{bytes_eq}
use Rattle.std.proofs.lemmas.List.{map_push, length-map}
use Rattle.std.proofs.lemmas.Grind.{flat_map-append}
use Rattle.std.proofs.lemmas.List.Folds.{list_all-map}
use Rattle.std.proofs.lemmas.List.Elements.{filter-append}
use Rattle.std.proofs.lemmas.Option.{none-some, same_Some}
use Rattle.crp_plan.specs.BayNames.{YardBay}
use Rattle.crp_sizes.specs.Sizes.{heights_of}
use Rattle.crp_yard.specs.Inventory.{Inventory, StackedBay, name_at}
use Rattle.crp_notes.specs.declared.unlisted.Room.{Room}
use Rattle.crp_notes.specs.Wording.{unlisted_note}
use Rattle.crp_notes.specs.Unlisted.{room_of, room_if_listed, listed_rooms, is_outside, is_left_out, left_out, note_if_left_out}
use Rattle.crp_notes.specs.Rooms.{block_and_room}
use Rattle.crp_notes.proofs.Placed.{next, any-map}

-- the bay of this name
bay_named : (yard : Inventory) (bay : ℕ) (name : YardBay) → name_at yard bay ≡ Some name → (b : StackedBay) × (slice_get yard.bays bay ≡ Some b) × (b.0 ≡ name)
bay_named yard bay name e = by (slice_get yard.bays bay) refl
  where
    by : (o : Option StackedBay) → slice_get yard.bays bay ≡ o → (b : StackedBay) × (slice_get yard.bays bay ≡ Some b) × (b.0 ≡ name)
    by None at = absurd (none-some name (sym (ap (option_map (λ (x : StackedBay). x.0)) at) ∙ e))
    by (Some b) at = (b, at, same_Some b.0 name (sym (ap (option_map (λ (x : StackedBay). x.0)) at) ∙ e))

pub rooms_more : (yard : Inventory) (bay : ℕ) (name : YardBay) → name_at yard bay ≡ Some name
    → listed_rooms yard (take (bay + 1) yard.bays) ≡ listed_rooms yard (take bay yard.bays) ++ room_if_listed name.block (heights_of yard.sizes.listed name)
rooms_more yard bay name e =
    let (b, at, same) = bay_named yard bay name e in
    let own = λ (x : StackedBay). room_if_listed x.0.block (heights_of yard.sizes.listed x.0) in
    ap (listed_rooms yard) (next yard.bays bay b at) ∙ flat_map-append own (take bay yard.bays) (b ∷ [])
    ∙ ap (λ rooms. listed_rooms yard (take bay yard.bays) ++ rooms) (append-nil (own b) ∙ ap (λ (n : YardBay). room_if_listed n.block (heights_of yard.sizes.listed n)) same)

pub left_more : (yard : Inventory) (rooms : List (List ℕ × ℕ)) (bay : ℕ) (name : YardBay) → name_at yard bay ≡ Some name → (t : Bool)
    → (not (is_some (heights_of yard.sizes.listed name)) && is_outside rooms name.block (room_of yard.sizes.common)) ≡ t
    → left_out yard rooms (take (bay + 1) yard.bays) ≡ cond t (left_out yard rooms (take bay yard.bays) ++ name ∷ []) (left_out yard rooms (take bay yard.bays))
left_more yard rooms bay name e t test =
    let (b, at, same) = bay_named yard bay name e in
    let before = take bay yard.bays in
    let is : is_left_out yard rooms b ≡ t = ap (λ (n : YardBay). not (is_some (heights_of yard.sizes.listed n)) && is_outside rooms n.block (room_of yard.sizes.common)) same ∙ test in
    ap (left_out yard rooms) (next yard.bays bay b at)
    ∙ ap (map (λ (x : StackedBay). x.0)) (filter-append (is_left_out yard rooms) before (b ∷ []) ∙ ap (λ u. filter (is_left_out yard rooms) before ++ cond u (b ∷ []) []) is)
    ∙ by b (filter (is_left_out yard rooms) before) same t
  where
    by : (b : StackedBay) (kept : List StackedBay) → b.0 ≡ name → (u : Bool) → map (λ (x : StackedBay). x.0) (kept ++ cond u (b ∷ []) []) ≡ cond u (map (λ (x : StackedBay). x.0) kept ++ name ∷ []) (map (λ (x : StackedBay). x.0) kept)
    by b kept same true = map_push (λ (x : StackedBay). x.0) kept b ∙ ap (λ n. map (λ (x : StackedBay). x.0) kept ++ n ∷ []) same
    by b kept same false = ap (map (λ (x : StackedBay). x.0)) (append-nil kept)

-- what the rooms hold, against that of the bays
pub outside_by : (rooms : List Room) (block : List ℕ) (room : ℕ) → is_outside (map block_and_room rooms) block room
    ≡ (list_any (λ r. bytes_eq r.block.now block) rooms && (list_all (λ r. not (bytes_eq r.block.now block) || nat_lt r.room room) rooms || list_all (λ r. not (bytes_eq r.block.now block) || nat_lt room r.room) rooms))
outside_by rooms block room =
    let any = any-map (λ (r : List ℕ × ℕ). bytes_eq r.0 block) block_and_room rooms in
    let fewer = list_all-map (λ (r : List ℕ × ℕ). not (bytes_eq r.0 block) || nat_lt r.1 room) block_and_room rooms in
    let more = list_all-map (λ (r : List ℕ × ℕ). not (bytes_eq r.0 block) || nat_lt room r.1) block_and_room rooms in
    λ i. any i && (fewer i || more i)

-- the first of the bays that are left out
pub some-left-out : (heights : List ℕ) (names : List (Bor YardBay)) (first : Bor YardBay) → Some first ≡ slice_get names 0
    → Some (unlisted_note heights first.now (length names)) ≡ note_if_left_out heights (map (λ (n : Bor YardBay). n.now) names)
some-left-out heights [] first e = absurd (none-some first (sym e))
some-left-out heights (name ∷ names) first e =
    let same : first ≡ name = same_Some first name e in
    let long = sym (length-map (name ∷ names) (λ (n : Bor YardBay). n.now)) in
    λ i. Some (unlisted_note heights (same i).now (long i))
