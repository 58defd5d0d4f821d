-- What the reader keeps of the segments before a number. Only the clauses of private functions speak of it.
use Rattle.std.specs.Prelude.{ℕ, Bool, false, List, Option, is_some}
use Rattle.std.specs.Option.{option_map, option_map_or}
use Rattle.edi_text.specs.Parts.{SegmentParts}
use Rattle.crp_movins.specs.Loading.{Loading}
use Rattle.crp_movins.specs.declared.slot.Slot.{Slot}
use Rattle.crp_movins.specs.declared.standing.Standing.{Standing}
use Rattle.crp_movins.specs.declared.headed.Headed.{Headed}
use Rattle.crp_movins.specs.Digits.{slot_of}
use Rattle.crp_movins.specs.Headings.{first_before, names_ship, names_date}
use Rattle.crp_movins.specs.Kinds.{is_message_header, is_interchange_trailer}
use Rattle.crp_movins.specs.Places.{text_at, last_before, count_before, open_message, is_read, is_loading, loading_group}
use Rattle.crp_movins.specs.LoadOrders.{is_filled, vacant_before}

-- the slot of the open loading group
abbrev pub open_slot : List SegmentParts → Loading → ℕ → Option Slot
open_slot segments loading i = option_map (λ j. slot_of (text_at segments j 2 1)) (loading_group segments loading i)

-- there is such a group, and a segment before this one orders a container to its slot
unfoldable pub is_group_filled : List SegmentParts → Loading → ℕ → Option ℕ → Bool
is_group_filled segments loading i group = option_map_or (is_filled segments loading i) group false

-- what is kept of the segments before this one
abbrev pub standing_before : List SegmentParts → Loading → ℕ → Standing
standing_before segments loading i = record {
  is_closed = is_some (last_before is_interchange_trailer segments i);
  message = open_message segments i;
  messages = count_before is_message_header segments i;
  is_read = is_read segments loading i;
  is_loading = is_loading segments loading i;
  group = open_slot segments loading i;
  is_filled = is_group_filled segments loading i (loading_group segments loading i);
  vacant = vacant_before segments loading i;
}

-- the segments before this one that say the ship and the date
abbrev pub headed_before : List SegmentParts → Loading → ℕ → Headed
headed_before segments loading i = record {
  ship = first_before (names_ship segments loading) i;
  date = first_before (names_date segments loading) i;
}
