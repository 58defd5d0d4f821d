-- Which fault of a list of sizes is the first: the first faulty record decides, and within it the order of the table below.
use Rattle.std.specs.Prelude.{◌≡◌, ◌<◌, ◌≤◌, ◌⊎◌, ◌+◌, ℕ, List, ◌∷◌, ◌++◌, length, IsTrue, IsSome}
use Rattle.crp_sizes.specs.Fields.{max_bytes}
use Rattle.crp_sizes.specs.Fields.{records_of, field_of}
use Rattle.crp_sizes.specs.declared.fault.SizesFault.{SizesFault}
use Rattle.crp_sizes.specs.declared.fault.SizesFault.TheVariants.{Header, Fields, Digits, Heights, Twice, TooLarge, Read, Memory}
use Rattle.crp_sizes.specs.Heights.{IsHeightsText}
use Rattle.crp_sizes.specs.Sizes.{BaySize, heights_of}
use Rattle.crp_sizes.specs.Fields.{has_number}
use Rattle.crp_sizes.specs.Records.{header, is_well_formed, GivesSize, AreSizes}

-- the fault of a record with this number behind those that give the sizes
abbrev pub IsFault : List BaySize → List (List ℕ) → ℕ → SizesFault → Type 0
IsFault sizes fields n (Fields k) = (k ≡ n) × ¬ IsTrue (is_well_formed fields)
IsFault sizes fields n (Digits k) = (k ≡ n) × IsTrue (is_well_formed fields) × ¬ IsTrue (has_number fields)
IsFault sizes fields n (Heights k) =
    (k ≡ n) × IsTrue (is_well_formed fields) × IsTrue (has_number fields) × ((heights : List ℕ) → IsHeightsText heights (field_of fields 2) → ⊥)
IsFault sizes fields n (Twice k) = (k ≡ n) × (size : BaySize) × GivesSize fields size × IsSome (heights_of sizes size.0)
IsFault sizes fields n (Header k) = ⊥
IsFault sizes fields n TooLarge = ⊥
IsFault sizes fields n Read = ⊥
IsFault sizes fields n Memory = ⊥

-- behind the header and records without a fault comes one that has this fault
pub record HasFault (records : List (List (List ℕ))) (fault : SizesFault) : Type 0 where
  pub before : List (List (List ℕ))
  pub sizes : List BaySize
  pub fields : List (List ℕ)
  pub after : List (List (List ℕ))
  pub parts : records ≡ header ∷ before ++ fields ∷ after
  pub sized : AreSizes before sizes
  pub faulty : IsFault sizes fields (length before + 2) fault

-- the first record is not the header, or there is none
abbrev pub LacksHeader : List (List (List ℕ)) → Type 0
LacksHeader records = (rest : List (List (List ℕ))) → records ≡ header ∷ rest → ⊥

-- the first fault of the records
abbrev pub IsFaultIn : List (List (List ℕ)) → SizesFault → Type 0
IsFaultIn records fault = ((fault ≡ Header 1) × LacksHeader records) ⊎ HasFault records fault

-- the first fault of a text: that it is too long comes before all
abbrev pub IsFirstFault : List ℕ → SizesFault → Type 0
IsFirstFault text fault = ((fault ≡ TooLarge) × (max_bytes < length text)) ⊎ ((length text ≤ max_bytes) × IsFaultIn (records_of text) fault)
