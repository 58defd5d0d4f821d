-- Which fault of a list of segments is the first: the first faulty segment decides, and within it the
-- order of the table below.
use Prim.Native.Nat.{zero}
use Rattle.std.specs.Prelude.{ℕ, suc, ◌+◌, ◌-◌, Bool, not, ◌&&◌, ◌||◌, List, [], ◌∷◌, length, Option, Some, None, is_some, unwrap_or, ◌==◌, nat_lt, nat_le, if◌then◌else◌, codes}
use Rattle.std.specs.Str.{bytes_eq}
use Rattle.std.specs.Option.{option_or}
use Rattle.edi_text.specs.Parts.{SegmentParts}
use Rattle.crp_movins.specs.Loading.{Loading}
use Rattle.crp_movins.specs.declared.fault.MovinsFault.{MovinsFault}
use Rattle.crp_movins.specs.declared.fault.MovinsFault.TheVariants.{NoInterchangeHeader, InterchangeHeader as HeaderFault, FunctionalGroup as GroupFault, OutOfPlace, MessageCount, MessageReference, InterchangeCount, InterchangeReference, AfterTrailer, MessageType, SlotNumber, OrderedTwice, TooManyOrders}
use Rattle.crp_movins.specs.declared.kind.Kind.{Kind}
use Rattle.crp_movins.specs.declared.kind.Kind.TheVariants.{InterchangeHeader, MessageHeader, MessageTrailer, InterchangeTrailer, FunctionalGroup, Handling, SlotGroup, Equipment, Other}
use Rattle.crp_movins.specs.Accepted.{max_orders, is_ordered}
use Rattle.crp_movins.specs.Digits.{counts, is_slot}
use Rattle.crp_movins.specs.Kinds.{is_empty, is_interchange_header, is_message_header, is_interchange_trailer, is_functional_group, belongs_outside, may_follow}
use Rattle.crp_movins.specs.Places.{kind_at, text_at, elements_at, last_before, count_before, open_message, is_loading, loading_group, ordered_group}
use Rattle.crp_movins.specs.LoadOrders.{orders_before}

-- UNB has fewer than 5 elements or an empty reference
abbrev pub lacks_control_reference : List SegmentParts → ℕ → Bool
lacks_control_reference segments i = nat_lt (elements_at segments i) 5 || is_empty (text_at segments i 5 1)

-- a UNH with an empty reference; inside a message a UNB, UNH or UNZ; outside of one, after the first
-- segment, another segment than UNH and UNZ
unfoldable pub is_out_of_place : List SegmentParts → ℕ → Bool
is_out_of_place segments i =
    (is_message_header (kind_at segments i) && is_empty (text_at segments i 1 1)) || (if is_some (open_message segments i) then belongs_outside (kind_at segments i)
    else (nat_lt 1 i && not (may_follow (kind_at segments i))))

-- the UNH is of the message type MOVINS, version D, release 95B, of the agency UN
abbrev pub is_movins : List SegmentParts → ℕ → Bool
is_movins segments i =
    (bytes_eq (text_at segments i 2 1) (codes "MOVINS") && bytes_eq (text_at segments i 2 2) (codes "D"))
    && (bytes_eq (text_at segments i 2 3) (codes "95B") && bytes_eq (text_at segments i 2 4) (codes "UN"))

-- the number of the UNH of the open message; 0 where none is open
abbrev pub header_of : List SegmentParts → ℕ → ℕ
header_of segments i = unwrap_or (open_message segments i) 0

-- the segment would order a container
abbrev pub is_in_group : List SegmentParts → Loading → ℕ → Bool
is_in_group segments loading i = is_some (loading_group segments loading i)

-- the segment orders this container
abbrev pub orders_this : List SegmentParts → Loading → List ℕ → ℕ → Bool
orders_this segments loading container i = is_some (ordered_group segments loading i) && bytes_eq (text_at segments i 2 1) container

-- the number of the last segment before this one that orders the container; 0 where none does
abbrev pub ordering_before : List SegmentParts → Loading → List ℕ → ℕ → ℕ
ordering_before segments loading container zero = 0
ordering_before segments loading container (suc i) = if orders_this segments loading container i then i else ordering_before segments loading container i

-- the faults that only a segment of this kind may have
abbrev pub own_faults : Kind → List SegmentParts → Loading → ℕ → List (Bool × MovinsFault)
own_faults InterchangeHeader segments loading i = (lacks_control_reference segments i, HeaderFault i) ∷ []
own_faults MessageHeader segments loading i = (not (is_movins segments i), MessageType i) ∷ []
own_faults MessageTrailer segments loading i =
    (not (counts (text_at segments i 1 1) (i - header_of segments i + 1)), MessageCount i)
    ∷ (not (bytes_eq (text_at segments i 2 1) (text_at segments (header_of segments i) 1 1)), MessageReference i) ∷ []
own_faults InterchangeTrailer segments loading i =
    (not (counts (text_at segments i 1 1) (count_before is_message_header segments i)), InterchangeCount i)
    ∷ (not (bytes_eq (text_at segments i 2 1) (text_at segments 1 5 1)), InterchangeReference i) ∷ []
own_faults SlotGroup segments loading i = (is_loading segments loading i && not (is_slot (text_at segments i 2 1)), SlotNumber i) ∷ []
own_faults Equipment segments loading i =
    (is_in_group segments loading i && is_ordered (orders_before segments loading i) (text_at segments i 2 1), OrderedTwice i (ordering_before segments loading (text_at segments i 2 1) i))
    ∷ (is_in_group segments loading i && nat_le max_orders (length (orders_before segments loading i)), TooManyOrders i) ∷ []
own_faults FunctionalGroup segments loading i = []
own_faults Handling segments loading i = []
own_faults Other segments loading i = []

-- the faults that a segment may have, in the order in which they are stated, each with whether it is there
abbrev pub faults_at : List SegmentParts → Loading → ℕ → List (Bool × MovinsFault)
faults_at segments loading i =
    (is_some (last_before is_interchange_trailer segments i), AfterTrailer i)
    ∷ (is_functional_group (kind_at segments i), GroupFault i)
    ∷ (is_out_of_place segments i, OutOfPlace i)
    ∷ (i == 1 && not (is_interchange_header (kind_at segments i)), NoInterchangeHeader i)
    ∷ own_faults (kind_at segments i) segments loading i

-- the first that is there
abbrev pub first_of : List (Bool × MovinsFault) → Option MovinsFault
first_of [] = None
first_of (fault ∷ faults) = if fault.0 then Some fault.1 else first_of faults

-- the fault that is stated of the segment with this number
unfoldable pub fault_at : List SegmentParts → Loading → ℕ → Option MovinsFault
fault_at segments loading i = first_of (faults_at segments loading i)

-- the fault of the first faulty segment before this one
abbrev pub first_fault_before : List SegmentParts → Loading → ℕ → Option MovinsFault
first_fault_before segments loading zero = None
first_fault_before segments loading (suc i) = option_or (first_fault_before segments loading i) (fault_at segments loading i)

-- a list that ends without UNZ is faulty at the number after its last segment
abbrev pub end_fault : List SegmentParts → Option MovinsFault
end_fault segments = if is_some (last_before is_interchange_trailer segments (length segments + 1)) then None else Some (OutOfPlace (length segments + 1))

-- of all faults of the list this one is stated; none where no segment is faulty and there is a UNZ
abbrev pub first_fault : List SegmentParts → Loading → Option MovinsFault
first_fault segments loading = option_or (first_fault_before segments loading (length segments + 1)) (end_fault segments)
