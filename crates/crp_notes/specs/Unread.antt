-- Orders that are not read, since they stand under another handling code than the asked one.
use Prim.Native.Nat.{zero}
use Rattle.std.specs.Prelude.{ℕ, suc, ◌+◌, nat_lt, Bool, not, ◌&&◌, ◌==◌, List, [], ◌++◌, length, map, filter, Option, option_to_list}
use Rattle.std.specs.Option.{option_map, option_map_or}
use Rattle.std.specs.Str.{bytes_eq}
use Rattle.edi_text.specs.Parts.{SegmentParts}
use Rattle.crp_movins.specs.Kinds.{is_message_header, is_handling}
use Rattle.crp_movins.specs.Loading.{Loading}
use Rattle.crp_movins.specs.Places.{text_at, last_before, count_before, ordered_group}
use Rattle.crp_notes.specs.Repeated.{times, each_once}
use Rattle.crp_notes.specs.Wording.{unread_note}

-- the code of the last HAN before this segment; empty where there is none
abbrev pub code_before : List SegmentParts → ℕ → List ℕ
code_before segments i = option_map_or (λ j. text_at segments j 1 1) (last_before is_handling segments i) []

-- the same messages, read under that code
abbrev pub under_code_before : List SegmentParts → Loading → ℕ → Loading
under_code_before segments loading i = record { code = code_before segments i; messages = loading.messages }

-- the segment is an order where the messages are read under that code: the number of its message, from 1, and the code
abbrev pub order_at : List SegmentParts → Loading → ℕ → Option (ℕ × List ℕ)
order_at segments loading i = option_map (λ j. (count_before is_message_header segments i, code_before segments i)) (ordered_group segments (under_code_before segments loading i) i)

-- such orders before this segment
abbrev pub orders_before : List SegmentParts → Loading → ℕ → List (ℕ × List ℕ)
orders_before segments loading zero = []
orders_before segments loading (suc i) = orders_before segments loading i ++ option_to_list (order_at segments loading i)

-- it stands under another code than the asked one
abbrev pub is_unread : Loading → ℕ × List ℕ → Bool
is_unread loading order = not (bytes_eq order.1 loading.code)

-- those of all segments that are not read
abbrev pub unread : List SegmentParts → Loading → List (ℕ × List ℕ)
unread segments loading = filter (is_unread loading) (orders_before segments loading (length segments + 1))

-- two orders of one message stand under one code
abbrev pub is_same : ℕ × List ℕ → ℕ × List ℕ → Bool
is_same a b = (a.0 == b.0) && bytes_eq a.1 b.1

-- of each message and each code, in the order in which they come first, how many there are
abbrev pub counted : List (ℕ × List ℕ) → List (ℕ × List ℕ × ℕ)
counted orders = map (λ order. (order.0, order.1, times is_same order orders)) (each_once is_same orders)

-- the interchange has several messages
abbrev pub are_several : List SegmentParts → Bool
are_several segments = nat_lt 1 (count_before is_message_header segments (length segments + 1))

-- the note on the orders of one message under one code
abbrev pub note_on : Bool → ℕ × List ℕ × ℕ → List ℕ
note_on several o = unread_note several o.0 o.1 o.2

-- the notes on all of them
abbrev pub unread_notes : List SegmentParts → Loading → List (List ℕ)
unread_notes segments loading = map (note_on (are_several segments)) (counted (unread segments loading))
