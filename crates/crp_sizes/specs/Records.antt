-- What text is a list of sizes.
use Rattle.std.specs.Prelude.{◌≡◌, ◌≤◌, ℕ, Bool, ◌&&◌, ◌==◌, List, [], ◌∷◌, length, map, codes, IsTrue, ⊤}
use Rattle.std.specs.List.{IsDistinct}
use Rattle.std.specs.Str.{bytes_eq}
use Rattle.crp_plan.specs.BayNames.{same_bay}
use Rattle.crp_sizes.specs.Fields.{max_bytes, records_of, field_of, is_block, has_number, bay_named}
use Rattle.crp_sizes.specs.Sizes.{BaySize, YardSizes}
use Rattle.crp_sizes.specs.Heights.{IsHeightsText}

-- the fields of the first record: `block,bay,heights`
abbrev pub header : List (List ℕ)
header = codes "block" ∷ codes "bay" ∷ codes "heights" ∷ []

-- the fields are those. Only private clauses speak of it.
abbrev pub is_header : List (List ℕ) → Bool
is_header fields =
    (length fields == 3)
    && (bytes_eq (field_of fields 0) (codes "block") && (bytes_eq (field_of fields 1) (codes "bay") && bytes_eq (field_of fields 2) (codes "heights")))

-- three fields, of which the first is a block
abbrev pub is_well_formed : List (List ℕ) → Bool
is_well_formed fields = (length fields == 3) && is_block (field_of fields 0)

-- the record gives this bay these heights
pub record GivesSize (fields : List (List ℕ)) (size : BaySize) : Type 0 where
  pub formed : IsTrue (is_well_formed fields)
  pub numbered : IsTrue (has_number fields)
  pub bay : size.0 ≡ bay_named fields
  pub heights : IsHeightsText size.1 (field_of fields 2)

-- each record gives the size that stands beside it
abbrev pub GiveSizes : List (List (List ℕ)) → List BaySize → Type 0
GiveSizes [] [] = ⊤
GiveSizes [] (size ∷ sizes) = ⊥
GiveSizes (fields ∷ records) [] = ⊥
GiveSizes (fields ∷ records) (size ∷ sizes) = GivesSize fields size × GiveSizes records sizes

-- these are the sizes of the records, and no bay is there twice
pub record AreSizes (records : List (List (List ℕ))) (sizes : List BaySize) : Type 0 where
  pub given : GiveSizes records sizes
  pub once : IsDistinct same_bay (map (λ size. size.0) sizes)

-- the records are the header and those of these sizes
pub record AreListed (records : List (List (List ℕ))) (sizes : List BaySize) : Type 0 where
  pub rest : List (List (List ℕ))
  pub begun : records ≡ header ∷ rest
  pub sized : AreSizes rest sizes

-- the text is a list of these sizes
pub record IsSizesList (text : List ℕ) (sizes : List BaySize) : Type 0 where
  pub short : length text ≤ max_bytes
  pub listed : AreListed (records_of text) sizes

-- the text is a list of sizes, and bays that it has not have the common ones
pub record IsSizesListOf (common text : List ℕ) (sizes : YardSizes) : Type 0 where
  pub others : sizes.common ≡ common
  pub list : IsSizesList text sizes.listed
