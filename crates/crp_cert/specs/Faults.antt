-- Which line is the first that is not as said: the lines before it are, and no line that may stand there does.
use Rattle.std.specs.Prelude.{◌≡◌, ◌≤◌, ◌<◌, ◌⊎◌, ℕ, ◌+◌, ◌-◌, ◌*◌, List, [], ◌∷◌, ◌++◌, length, IfSome, take, replicate, true}
use Rattle.std.specs.Coded.{×_prop, Unit-prop, le_prop}
use Rattle.std.specs.List.{flat_map}
use Rattle.crp_plan.specs.BayNames.{YardBay, IsYardBay}
use Rattle.crp_plan.specs.Rows.{occurrences, FitRows, tallest}
use Rattle.crp_plan.specs.Faults.{AreHeights}
use Rattle.crp_cert.specs.declared.claim.Claim.{Claim}
use Rattle.crp_cert.specs.declared.size.Size.{Size}
use Rattle.crp_cert.specs.declared.version.Version.{Version}
use Rattle.crp_cert.specs.declared.version.Version.TheVariants.{One, Two, Three}
use Rattle.crp_cert.specs.declared.fault.CertFault.{CertFault}
use Rattle.crp_cert.specs.declared.fault.CertFault.TheVariants as faults
use Rattle.crp_cert.specs.Text.{title_line, has_heights, bay_line, size_line, heights_line, stated_heights, row_line, bound, claim_line, plan_line, first_row, IsSize, AreRows, CanClaim}

-- the bytes begin with the line of something that may stand there
abbrev pub BeginsWith : {A : Type 0} → (A → Type 0) → (A → List ℕ) → List ℕ → Type 0
BeginsWith {A} fits line bytes = (x : A) × fits x × ((rest : List ℕ) × (bytes ≡ line x ++ rest))

-- what a heights line may say under a size: a height from 1 to 8 for each row, and the largest of them are the tiers
pub record AreHeightsOf (size : Size) (heights : List ℕ) : Type 0 where
  pub for_each_row : length heights ≡ size.rows
  pub are_heights : AreHeights heights
  pub largest : tallest heights ≡ size.tiers

-- the heights that a version may state under a size: in version 1 each row is as high as the tiers
abbrev pub MayState : Version → Size → List ℕ → Type 0
MayState One size heights = heights ≡ replicate size.rows size.tiers
MayState Two size heights = AreHeightsOf size heights
MayState Three size heights = AreHeightsOf size heights

-- the first stacks of a bay of this size and these heights: none is higher than its own row, the ranks are from 1 to the number of containers,
-- each in one place at most; and once there are all stacks no rank is missing
pub record AreFirstStacks (size : Size) (heights : List ℕ) (stacks : List (List ℕ)) : Type 0 where
  pub few : length stacks ≤ size.rows
  pub low : FitRows (take (length stacks) heights) stacks
  pub in_range : (x : ℕ) → 0 < occurrences x stacks → (1 ≤ x) × (x ≤ size.total)
  pub apart : (x : ℕ) → occurrences x stacks ≤ 1
  pub none_missing : length stacks ≡ size.rows → (x : ℕ) → 1 ≤ x → x ≤ size.total → 0 < occurrences x stacks

-- whether rows are no higher than heights is so in one way
pub FitRows-prop : (heights : List ℕ) (stacks : List (List ℕ)) → IsProp (FitRows heights stacks)
FitRows-prop [] [] = Unit-prop
FitRows-prop [] (stack ∷ stacks) = λ a b. absurd a
FitRows-prop (height ∷ heights) [] = λ a b. absurd a
FitRows-prop (height ∷ heights) (stack ∷ stacks) = ×_prop le_prop (FitRows-prop heights stacks)

-- the stack may follow these
abbrev pub IsNextStack : Size → List ℕ → List (List ℕ) → List ℕ → Type 0
IsNextStack size heights stacks stack = AreFirstStacks size heights (stacks ++ stack ∷ [])

-- more relocations than any plan of a bay of this size has
abbrev pub most_claimed : Size → ℕ
most_claimed size = size.ordered * (size.tiers - 1) + 1

-- what a claim line of a version may say, where so many relocations may be claimed
pub record MayClaim (version : Version) (most : ℕ) (claim : Claim) : Type 0 where
  pub can_claim : CanClaim version claim
  pub within : bound claim ≤ most

-- what the lines above the rows say beside the name of the bay
pub record Frame : Type 0 where
  pub version : Version
  pub size : Size
  pub heights : List ℕ

-- the bytes begin with the lines above the rows, which say this, and then this follows
pub record BeginsWithFrame (bytes : List ℕ) (frame : Frame) (rest : List ℕ) : Type 0 where
  pub name : YardBay
  pub named : IsYardBay name
  pub is_size : IsSize frame.size
  pub may_state : MayState frame.version frame.size frame.heights
  pub text : bytes ≡ title_line frame.version ++ (bay_line name ++ (size_line frame.size ++ (stated_heights frame.version frame.heights ++ rest)))

-- the same, and the lines of these first stacks
pub record BeginsWithStacks (bytes : List ℕ) (frame : Frame) (stacks : List (List ℕ)) (rest : List ℕ) : Type 0 where
  pub tells : BeginsWithFrame bytes frame (flat_map row_line stacks ++ rest)
  pub first : AreFirstStacks frame.size frame.heights stacks

-- the first line that is not as said, by what it should spell and its number from 1
abbrev pub IsFirstFault : List ℕ → CertFault → Type 0
IsFirstFault bytes (faults.Opening line) =
    ◌⊎◌
    ((line ≡ 1) × ((version : Version) (rest : List ℕ) → bytes ≡ title_line version ++ rest → ⊥))
    ((line ≡ 2) × ((version : Version) × (rest : List ℕ) × (bytes ≡ title_line version ++ rest) × ¬ BeginsWith IsYardBay bay_line rest))
IsFirstFault bytes (faults.Size line) =
    ◌⊎◌
    ((line ≡ 3) × ((version : Version) × (name : YardBay) × (rest : List ℕ) × IsYardBay name
    × (bytes ≡ title_line version ++ (bay_line name ++ rest)) × ¬ BeginsWith IsSize size_line rest))
    ((line ≡ 4) × ((version : Version) × (name : YardBay) × (size : Size) × (rest : List ℕ) × (has_heights version ≡ true) × IsYardBay name × IsSize size
    × (bytes ≡ title_line version ++ (bay_line name ++ (size_line size ++ rest))) × ¬ BeginsWith (AreHeightsOf size) heights_line rest))
IsFirstFault bytes (faults.Row line) =
    (frame : Frame) × (stacks : List (List ℕ)) × (rest : List ℕ) × BeginsWithStacks bytes frame stacks rest
    × (length stacks < frame.size.rows) × (line ≡ first_row frame.version + length stacks) × ¬ BeginsWith (IsNextStack frame.size frame.heights stacks) row_line rest
IsFirstFault bytes (faults.Claim line) =
    (frame : Frame) × (stacks : List (List ℕ)) × (rest : List ℕ) × BeginsWithStacks bytes frame stacks rest
    × (length stacks ≡ frame.size.rows) × (line ≡ first_row frame.version + frame.size.rows) × ¬ BeginsWith (MayClaim frame.version (most_claimed frame.size)) claim_line rest
IsFirstFault bytes (faults.Plan line) =
    (frame : Frame) × (stacks : List (List ℕ)) × (claim : Claim) × (rest : List ℕ) × BeginsWithStacks bytes frame stacks (claim_line claim ++ rest)
    × (length stacks ≡ frame.size.rows) × MayClaim frame.version (most_claimed frame.size) claim
    × (line ≡ first_row frame.version + frame.size.rows + 1) × ¬ BeginsWith (λ plan. IfSome plan AreRows) plan_line rest
IsFirstFault bytes _ = ⊥
