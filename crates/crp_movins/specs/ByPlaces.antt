-- What an order is and which slot groups are vacant, said as relations of places (UN/EDIFACT D.95B MOVINS, in this project's profile).
use Rattle.std.specs.Prelude.{◌≡◌, ℕ, ◌<◌, Bool, true, false, List, Some, slice_get}
use Rattle.edi_text.specs.Parts.{SegmentParts}
use Rattle.crp_movins.specs.Loading.{Loading, reads}
use Rattle.crp_movins.specs.declared.kind.Kind.{Kind}
use Rattle.crp_movins.specs.declared.order.Order.{Order}
use Rattle.crp_movins.specs.Digits.{slot_of}
use Rattle.crp_movins.specs.Kinds.{is_message_header, is_handling, settles_code, is_slot_group, ends_group, is_equipment}
use Rattle.crp_movins.specs.Places.{kind_at, text_at}

-- the last segment of such a kind before the number i has the number j
pub record IsLast (test : Kind → Bool) (segments : List SegmentParts) (i j : ℕ) : Type 0 where
  pub below : j < i
  pub such : test (kind_at segments j) ≡ true
  pub none_between : (k : ℕ) → j < k → k < i → test (kind_at segments k) ≡ false

-- the message of the last UNH before the segment is read
pub record IsRead (segments : List SegmentParts) (loading : Loading) (i : ℕ) : Type 0 where
  pub header : ℕ
  pub last_header : IsLast is_message_header segments i header
  pub chosen : reads loading.messages (text_at segments header 1 1) ≡ true

-- a LOC 147, where the last of UNH and HAN before it is a HAN with the loading code, in a message that is read
pub record IsLoadingGroup (segments : List SegmentParts) (loading : Loading) (group : ℕ) : Type 0 where
  pub slot_group : is_slot_group (kind_at segments group) ≡ true
  pub setting : ℕ
  pub last_setting : IsLast settles_code segments group setting
  pub handling : is_handling (kind_at segments setting) ≡ true
  pub coded : text_at segments setting 1 1 ≡ loading.code
  pub read : IsRead segments loading setting

-- an EQD CN with a container, where the segment with the number of the group is the last of UNH, HAN and LOC 147 before it
pub record StandsInGroup (segments : List SegmentParts) (i group : ℕ) : Type 0 where
  pub equipment : is_equipment (kind_at segments i) ≡ true
  pub last_group : IsLast ends_group segments i group

-- an EQD CN with a container orders it to the slot of the loading slot group in which it stands
pub record IsOrdered (segments : List SegmentParts) (loading : Loading) (i : ℕ) (order : Order) : Type 0 where
  pub group : ℕ
  pub stands : StandsInGroup segments i group
  pub loading_group : IsLoadingGroup segments loading group
  pub container : order.container ≡ text_at segments i 2 1
  pub slot : order.slot ≡ slot_of (text_at segments group 2 1)

-- a loading slot group in which no EQD CN with a container stands
pub record IsVacant (segments : List SegmentParts) (loading : Loading) (group : ℕ) : Type 0 where
  pub loading_group : IsLoadingGroup segments loading group
  pub empty : (i : ℕ) → StandsInGroup segments i group → ⊥

-- the list has all of which it holds and nothing else, each once, by rising numbers
pub record HasAllRising (X : Type 0) (number : X → ℕ) (Holds : X → Type 0) (list : List X) : Type 0 where
  pub rising : (k l : ℕ) (first second : X) → k < l → slice_get list k ≡ Some first → slice_get list l ≡ Some second → number first < number second
  pub each : (k : ℕ) (x : X) → slice_get list k ≡ Some x → Holds x
  pub all : (x : X) → Holds x → (k : ℕ) × (slice_get list k ≡ Some x)

-- these are the numbers of the vacant groups
abbrev pub AreVacant : List SegmentParts → Loading → List ℕ → Type 0
AreVacant segments loading groups = HasAllRising ℕ (λ group. group) (IsVacant segments loading) groups

-- these are the numbers of the segments that order, each with its order
abbrev pub AreOrdered : List SegmentParts → Loading → List (ℕ × Order) → Type 0
AreOrdered segments loading placed = HasAllRising (ℕ × Order) (λ p. p.0) (λ p. IsOrdered segments loading p.0 p.1) placed
