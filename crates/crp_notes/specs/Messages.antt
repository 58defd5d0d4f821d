-- What a segment says to the notes. Only the clauses of private functions speak of it.
use Rattle.std.specs.Prelude.{◌≡◌, ℕ, Bool, true, false, ◌||◌, List, is_some}
use Rattle.std.specs.Option.{option_map}
use Rattle.edi_text.specs.Parts.{SegmentParts, component_of}
use Rattle.crp_movins.specs.Kinds.{kind_of, is_message_header, is_handling, settles_code, is_slot_group, ends_group, is_equipment}
use Rattle.crp_movins.specs.Loading.{Loading}
use Rattle.crp_movins.specs.Places.{text_at, count_before, is_read, is_loading, loading_group}
use Rattle.crp_notes.specs.declared.message.Says.{Says}
use Rattle.crp_notes.specs.declared.message.Says.TheVariants.{Begins, Function, Code, Slot, Container, Other}
use Rattle.crp_notes.specs.declared.standing.Standing.{Standing}
use Rattle.crp_notes.specs.Slots.{has_container}
use Rattle.crp_notes.specs.Unread.{code_before, under_code_before}

-- whether the segment is a UNH, a HAN, a LOC 147, an EQD CN with a container
pub record IsKind (segment : SegmentParts) (header handling slot_group equipment : Bool) : Type 0 where
  pub begins : is_message_header (kind_of segment) ≡ header
  pub handles : is_handling (kind_of segment) ≡ handling
  pub opens : is_slot_group (kind_of segment) ≡ slot_group
  pub contains : is_equipment (kind_of segment) ≡ equipment
  pub settles : settles_code (kind_of segment) ≡ (header || handling)
  pub ends : ends_group (kind_of segment) ≡ ((header || handling) || slot_group)

-- the segment says so
abbrev pub IsSaid : SegmentParts → Says → Type 0
IsSaid segment (Begins reference) = IsKind segment true false false false × (reference.now ≡ component_of segment 1 1)
IsSaid segment (Function function) = IsKind segment false false false false
IsSaid segment (Code code) = IsKind segment false true false false × (code.now ≡ component_of segment 1 1)
IsSaid segment (Slot slot) = IsKind segment false false true false × (slot.now ≡ component_of segment 2 1)
IsSaid segment (Container name) = IsKind segment false false false true × (name.now ≡ component_of segment 2 1)
IsSaid segment Other = IsKind segment false false false false

-- two texts
abbrev pub texts : List ℕ → List ℕ → List ℕ × List ℕ
texts a b = (a, b)

-- what the segments before this one leave in force
pub record IsStanding (segments : List SegmentParts) (loading : Loading) (i : ℕ) (standing : Standing) : Type 0 where
  pub messages : standing.messages ≡ count_before is_message_header segments i
  pub read : standing.is_read ≡ is_read segments loading i
  pub in_force : standing.is_loading ≡ is_loading segments loading i
  pub group : option_map (λ slot. slot.now) standing.group ≡ option_map (λ j. text_at segments j 2 1) (loading_group segments loading i)
  pub container : standing.has_container ≡ has_container segments i
  pub code : standing.code.now ≡ code_before segments i
  pub orders : standing.is_ordering ≡ is_loading segments (under_code_before segments loading i) i
  pub opened : standing.is_open ≡ is_some (loading_group segments (under_code_before segments loading i) i)
