-- What a segment is, by what it says.
use Rattle.std.proofs.Common.{◌≡◌, ℕ, Bool, true, false, List, [], refl, ap, ◌∙◌, inl, inr}
use Rattle.std.specs.Prelude.{codes}
use Rattle.std.specs.Str.{bytes_eq}
use Rattle.std.proofs.lemmas.Bool.{cases_Bool}
use Rattle.edi_text.specs.Parts.{SegmentParts, no_segment}
use Rattle.crp_movins.specs.Kinds.{kind_of, names_slot, names_container, is_message_header, is_handling, settles_code, is_slot_group, ends_group, is_equipment}
use Rattle.crp_notes.specs.Messages.{IsKind}

-- a segment of the same kind
like : (s t : SegmentParts) (header handling slot_group equipment : Bool) → kind_of s ≡ kind_of t → IsKind t header handling slot_group equipment → IsKind s header handling slot_group equipment
like s t header handling slot_group equipment e k = record {
  begins = ap is_message_header e ∙ k.begins;
  handles = ap is_handling e ∙ k.handles;
  opens = ap is_slot_group e ∙ k.opens;
  contains = ap is_equipment e ∙ k.contains;
  settles = ap settles_code e ∙ k.settles;
  ends = ap ends_group e ∙ k.ends;
}

-- a segment with this tag and no elements
abbrev bare : List ℕ → SegmentParts
bare tag = record { tag = tag; elements = [] }

pub nothing : IsKind no_segment false false false false
unfolding kind_of
nothing = record { begins = refl; handles = refl; opens = refl; contains = refl; settles = refl; ends = refl }

pub header : (s : SegmentParts) → s.tag ≡ codes "UNH" → IsKind s true false false false
unfolding kind_of
header s h = like s (bare (codes "UNH")) true false false false (rw h refl) (record { begins = refl; handles = refl; opens = refl; contains = refl; settles = refl; ends = refl })

pub beginning : (s : SegmentParts) → s.tag ≡ codes "BGM" → IsKind s false false false false
unfolding kind_of
beginning s h = like s no_segment false false false false (rw h refl) nothing

pub handling : (s : SegmentParts) → s.tag ≡ codes "HAN" → IsKind s false true false false
unfolding kind_of
handling s h = like s (bare (codes "HAN")) false true false false (rw h refl) (record { begins = refl; handles = refl; opens = refl; contains = refl; settles = refl; ends = refl })

pub location : (s : SegmentParts) (b : Bool) → s.tag ≡ codes "LOC" → names_slot s ≡ b → IsKind s false false b false
unfolding kind_of
location s true h e = record { begins = rw (h, e) refl; handles = rw (h, e) refl; opens = rw (h, e) refl; contains = rw (h, e) refl; settles = rw (h, e) refl; ends = rw (h, e) refl }
location s false h e = like s no_segment false false false false (rw (h, e) refl) nothing

pub equipment : (s : SegmentParts) (b : Bool) → s.tag ≡ codes "EQD" → names_container s ≡ b → IsKind s false false false b
unfolding kind_of
equipment s true h e = record { begins = rw (h, e) refl; handles = rw (h, e) refl; opens = rw (h, e) refl; contains = rw (h, e) refl; settles = rw (h, e) refl; ends = rw (h, e) refl }
equipment s false h e = like s no_segment false false false false (rw (h, e) refl) nothing

pub other : (s : SegmentParts) → bytes_eq s.tag (codes "EQD") ≡ false → bytes_eq s.tag (codes "LOC") ≡ false → bytes_eq s.tag (codes "HAN") ≡ false → bytes_eq s.tag (codes "UNH") ≡ false → IsKind s false false false false
unfolding kind_of
other s eqd loc han unh =
    elim (cases_Bool (bytes_eq s.tag (codes "UNB"))) [
      | inl unb ↦ like s (bare (codes "UNB")) false false false false (rw (eqd, loc, han, unb) refl) (record { begins = refl; handles = refl; opens = refl; contains = refl; settles = refl; ends = refl })
      | inr unb ↦ elim (cases_Bool (bytes_eq s.tag (codes "UNT"))) [
        | inl unt ↦ like s (bare (codes "UNT")) false false false false (rw (eqd, loc, han, unb, unh, unt) refl) (record { begins = refl; handles = refl; opens = refl; contains = refl; settles = refl; ends = refl })
        | inr unt ↦ elim (cases_Bool (bytes_eq s.tag (codes "UNZ"))) [
          | inl unz ↦ like s (bare (codes "UNZ")) false false false false (rw (eqd, loc, han, unb, unh, unt, unz) refl) (record { begins = refl; handles = refl; opens = refl; contains = refl; settles = refl; ends = refl })
          | inr unz ↦ elim (cases_Bool (bytes_eq s.tag (codes "UNG"))) [
            | inl ung ↦ like s (bare (codes "UNG")) false false false false (rw (eqd, loc, han, unb, unh, unt, unz, ung) refl) (record { begins = refl; handles = refl; opens = refl; contains = refl; settles = refl; ends = refl })
            | inr ung ↦ elim (cases_Bool (bytes_eq s.tag (codes "UNE"))) [
              | inl une ↦ like s (bare (codes "UNE")) false false false false (rw (eqd, loc, han, unb, unh, unt, unz, ung, une) refl) (record { begins = refl; handles = refl; opens = refl; contains = refl; settles = refl; ends = refl })
              | inr une ↦ like s no_segment false false false false (rw (eqd, loc, han, unb, unh, unt, unz, ung, une) refl) nothing
            ]
          ]
        ]
      ]
    ]
