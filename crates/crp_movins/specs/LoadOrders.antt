-- The load orders of a list of segments, by places (UN/EDIFACT D.95B MOVINS, in this project's profile).
use Prim.Native.Nat.{zero}
use Rattle.std.specs.Prelude.{ℕ, suc, ◌+◌, Bool, false, not, ◌&&◌, ◌||◌, List, [], ◌++◌, length, Option, Some, None, ◌==◌, if◌then◌else◌, option_to_list}
use Rattle.std.specs.Option.{option_map}
use Rattle.edi_text.specs.Parts.{SegmentParts}
use Rattle.crp_movins.specs.Loading.{Loading}
use Rattle.crp_movins.specs.declared.order.Order.{Order}
use Rattle.crp_movins.specs.Digits.{slot_of}
use Rattle.crp_movins.specs.Headings.{Heading, heading_of}
use Rattle.crp_movins.specs.Places.{text_at, opens_loading_group, ordered_group}

-- the order that the segment gives: its container, and the slot of the group in which it stands
abbrev pub order_at : List SegmentParts → Loading → ℕ → Option Order
order_at segments loading i = option_map (λ j. record { container = text_at segments i 2 1; slot = slot_of (text_at segments j 2 1) }) (ordered_group segments loading i)

-- the orders that the segments before this one give, by place
abbrev pub orders_before : List SegmentParts → Loading → ℕ → List Order
orders_before segments loading zero = []
orders_before segments loading (suc i) = orders_before segments loading i ++ option_to_list (order_at segments loading i)

-- the number is that of the LOC 147
abbrev pub is_place_number : Option ℕ → ℕ → Bool
is_place_number None j = false
is_place_number (Some k) j = k == j

-- a segment before this one orders a container to the slot of the LOC 147 with the number j
abbrev pub is_filled : List SegmentParts → Loading → ℕ → ℕ → Bool
is_filled segments loading zero j = false
is_filled segments loading (suc i) j = is_place_number (ordered_group segments loading i) j || is_filled segments loading i j

-- a loading slot group to whose slot no segment before this one orders a container
abbrev pub is_vacant : List SegmentParts → Loading → ℕ → ℕ → Bool
is_vacant segments loading i j = opens_loading_group segments loading j && not (is_filled segments loading i j)

-- how many numbers below this one pass the test
abbrev pub count_below : (ℕ → Bool) → ℕ → ℕ
count_below test zero = 0
count_below test (suc j) = if test j then count_below test j + 1 else count_below test j

-- how many loading slot groups before this segment have no container from the segments before it
unfoldable pub vacant_before : List SegmentParts → Loading → ℕ → ℕ
vacant_before segments loading i = count_below (is_vacant segments loading i) i

-- what an interchange orders to be loaded
pub record LoadOrders : Type 0 where
  pub list : List Order
  pub vacant : ℕ
  pub heading : Heading

-- the orders of all segments by place, the loading slot groups without a container, and what is said of ship and date
abbrev pub load_orders_of : List SegmentParts → Loading → LoadOrders
load_orders_of segments loading = record {
  list = orders_before segments loading (length segments + 1);
  vacant = vacant_before segments loading (length segments + 1);
  heading = heading_of segments loading;
}
