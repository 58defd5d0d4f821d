-- A head that comes in pieces: how far it came, and what its next bytes lead to.
use Rattle.std.specs.Prelude.{◌≡◌, ◌≢◌, ℕ, List, [], ◌∷◌, ◌++◌, Option, Some, None, IfSome, ⊤}
use Rattle.std.specs.List.{AllByRecursion}
use Rattle.crp_plan.specs.BayNames.{YardBay}
use Rattle.crp_cert.specs.declared.fault.CertFault.{CertFault}
use Rattle.crp_cert.specs.declared.open_head.OpenHead.{OpenHead}
use Rattle.crp_cert.specs.declared.open_head.HeadFed.{HeadFed}
use Rattle.crp_cert.specs.declared.open_head.HeadFed.TheVariants.{Open, Whole, Faulty}
use Rattle.crp_cert.specs.Text.{AreRows, IsHead, head_text}
use Rattle.crp_cert.specs.Faults.{IsFirstFault}
use Rattle.crp_cert.specs.Settled.{CanBeJudged, longest_line, BeginsWithBay}
use Rattle.crp_cert.specs.LinesOfHead.{HasLines}

-- LF comes at the end of the bytes, or nowhere in as many as no line of a head has more than
pub record IsLineEnd (line : List ℕ) : Type 0 where
  pub begun : List ℕ
  pub last : ℕ
  pub one_line : AllByRecursion (λ b. b ≢ 10) begun
  pub is : line ≡ begun ++ last ∷ []
  pub judged : CanBeJudged 10 longest_line line

-- the bytes are lines of a head, and this of the next one
pub record IsInHead (bytes : List ℕ) (front : OpenHead) : Type 0 where
  pub above : List ℕ
  pub has : HasLines above front.lines
  pub one_line : AllByRecursion (λ b. b ≢ 10) front.begun.items
  pub is : bytes ≡ above ++ front.begun.items

-- the bay that the bytes name, if they name one
abbrev pub IsBayIn : List ℕ → Option YardBay → Type 0
IsBayIn bytes (Some name) = BeginsWithBay bytes name
IsBayIn bytes None = (name : YardBay) → ¬ BeginsWithBay bytes name

-- the bytes have this fault and name this bay, or none, whatever follows
pub record IsFaultyHead (bytes : List ℕ) (bay : Option YardBay) (fault : CertFault) : Type 0 where
  pub fault_stays : (more : List ℕ) → IsFirstFault (bytes ++ more) fault
  pub bay_stays : (more : List ℕ) → IsBayIn (bytes ++ more) bay

-- the bytes lead to this
abbrev pub HasFed : List ℕ → HeadFed → Type 0
HasFed bytes (Open front) = IsInHead bytes front
HasFed bytes (Whole head) = IsHead head × (bytes ≡ head_text head)
HasFed bytes (Faulty bay fault) = IsFaultyHead bytes bay fault

-- the head goes on
abbrev pub GoesOn : HeadFed → Type 0
GoesOn (Open front) = ⊤
GoesOn (Whole head) = ⊥
GoesOn (Faulty bay fault) = ⊥

-- a plan of a whole head has rows as a plan line may state them
abbrev pub HasPlanRows : HeadFed → Type 0
HasPlanRows (Open front) = ⊤
HasPlanRows (Whole head) = IfSome head.plan AreRows
HasPlanRows (Faulty bay fault) = ⊤
