-- Slots of the ship that several orders name.
use Prim.Native.Nat.{zero}
use Rattle.std.specs.Prelude.{ℕ, suc, ◌+◌, Bool, ◌||◌, List, [], ◌∷◌, ◌++◌, length, take, map, filter, Option, Some, None, nat_lt, if◌then◌else◌, option_to_list}
use Rattle.std.specs.Option.{option_map}
use Rattle.std.specs.Str.{bytes_eq}
use Rattle.edi_text.specs.Parts.{SegmentParts}
use Rattle.crp_movins.specs.Kinds.{ends_group, is_equipment}
use Rattle.crp_movins.specs.Loading.{Loading}
use Rattle.crp_movins.specs.Places.{kind_at, text_at, last_before, holds_at, opens_loading_group, ordered_group}
use Rattle.crp_movins.specs.Digits.{seven_digits}
use Rattle.crp_notes.specs.Repeated.{times, each_once}
use Rattle.crp_notes.specs.Wording.{slot_words, slots_note}

-- a container stands in the slot group already: the last of UNH, HAN, LOC 147 and EQD CN before this segment is an EQD CN
abbrev pub has_container : List SegmentParts → ℕ → Bool
has_container segments i = holds_at (λ j. is_equipment (kind_at segments j)) (last_before (λ kind. ends_group kind || is_equipment kind) segments i)

-- the number of the LOC 147 whose slot an order names here. A LOC 147 under the loading code is an order, with a container or without; each
-- further container of its group is one more
abbrev pub named_group : List SegmentParts → Loading → ℕ → Option ℕ
named_group segments loading i =
    if opens_loading_group segments loading i then Some i
    else (if has_container segments i then ordered_group segments loading i else None)

-- the slot in seven digits
abbrev pub naming_at : List SegmentParts → Loading → ℕ → Option (List ℕ)
naming_at segments loading i = option_map (λ j. seven_digits (text_at segments j 2 1)) (named_group segments loading i)

-- the slots that orders name before this segment
abbrev pub named_before : List SegmentParts → Loading → ℕ → List (List ℕ)
named_before segments loading zero = []
named_before segments loading (suc i) = named_before segments loading i ++ option_to_list (naming_at segments loading i)

-- the slots that the orders of all segments name
abbrev pub named_slots : List SegmentParts → Loading → List (List ℕ)
named_slots segments loading = named_before segments loading (length segments + 1)

-- of the orders those whose slot another order names too
abbrev pub shared : List (List ℕ) → List (List ℕ)
shared slots = filter (λ slot. nat_lt 1 (times bytes_eq slot slots)) slots

-- the slot to which a segment orders a container, in seven digits, and the container
abbrev pub placed_at : List SegmentParts → Loading → ℕ → Option (List ℕ × List ℕ)
placed_at segments loading i = option_map (λ j. (seven_digits (text_at segments j 2 1), text_at segments i 2 1)) (ordered_group segments loading i)

-- the containers that are ordered before this segment
abbrev pub placed_before : List SegmentParts → Loading → ℕ → List (List ℕ × List ℕ)
placed_before segments loading zero = []
placed_before segments loading (suc i) = placed_before segments loading i ++ option_to_list (placed_at segments loading i)

-- those of all segments
abbrev pub placed : List SegmentParts → Loading → List (List ℕ × List ℕ)
placed segments loading = placed_before segments loading (length segments + 1)

-- the containers that are ordered to this slot
abbrev pub containers_for : List (List ℕ × List ℕ) → List ℕ → List (List ℕ)
containers_for placed slot = map (λ order. order.1) (filter (λ order. bytes_eq slot order.0) placed)

-- a slot, and the containers that are ordered to it
abbrev pub slot_with : List (List ℕ × List ℕ) → List ℕ → List ℕ
slot_with placed slot = slot_words slot (containers_for placed slot)

-- the note on such orders, so many, and their slots, if there are some
abbrev pub note_if_shared : List (List ℕ × List ℕ) → ℕ → List (List ℕ) → Option (List ℕ)
note_if_shared placed count [] = None
note_if_shared placed count (slot ∷ slots) = Some (slots_note count (map (slot_with placed) (take 10 (slot ∷ slots))) (nat_lt 10 (length (slot ∷ slots))))

-- the note on the slots of a message that several orders name, if there are such
abbrev pub shared_note : List SegmentParts → Loading → Option (List ℕ)
shared_note segments loading =
    let orders = shared (named_slots segments loading) in
    note_if_shared (placed segments loading) (length orders) (each_once bytes_eq orders)
