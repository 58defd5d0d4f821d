-- Reasons that are read byte by byte, behind their first bracket.
use Rattle.std.specs.Prelude.{◌≡◌, ◌↔◌, ℕ, ◌≤◌, Bool, IsTrue, List, [], ◌∷◌, ◌++◌, codes, ⊤}
use Rattle.std.specs.Fmt.{decimal}
use Rattle.crp_plan.specs.Bay.{Position}
use Rattle.crp_thinning.specs.Symbols.{Closes}
use Rattle.crp_thinning.specs.Owed.{Following, Takes}
use Rattle.crp_row.specs.Reasons.{AreReasons, reasons_text}
use Rattle.crp_reasons.specs.declared.step.Step.{Step}
use Rattle.crp_reasons.specs.declared.step.Step.TheVariants.{On, Ended, Wrong}

-- the bytes behind a first bracket are reasons with this number; with `closing` reasons that close the position
pub record AreBehind (closing : Bool) (place : Position) (number : ℕ) (bytes : List ℕ) : Type 0 where
  pub text : List ℕ
  pub are : AreReasons number text
  pub closes : IsTrue closing → Closes place number text
  pub is_text : codes "[" ++ bytes ≡ reasons_text number text

-- what is still to come: the number, with its first digit; the number, of which some digits are read; the text of reasons with this number, of which the
-- follower says what would close a position; nothing, since the reasons are whole, and do or do not close it; or nothing that would make reasons
pub data Left : Type 0 where
  Number : Position → Left
  Digits : Position → ℕ → Left
  Text : ℕ → Following → Left
  Whole : ℕ → Bool → Left
  Refused : Left

-- the rest ends reasons with this number; with `closing` reasons that close the position
abbrev pub Ends : Bool → Left → ℕ → List ℕ → Type 0
Ends closing (Number s) n rest = (text : List ℕ) × AreReasons n text × (IsTrue closing → Closes s n text) × (rest ≡ decimal n ++ (codes ":" ++ (text ++ codes "]")))
Ends closing (Digits s k) n rest = (text : List ℕ) × AreReasons n text × (IsTrue closing → Closes s n text) × (decimal k ++ rest ≡ decimal n ++ (codes ":" ++ (text ++ codes "]")))
Ends closing (Text k f) n rest = (text : List ℕ) × AreReasons n text × (IsTrue closing → Takes f text) × (n ≡ k) × (rest ≡ text ++ codes "]")
Ends closing (Whole k shown) n rest = (n ≡ k) × (IsTrue closing → IsTrue shown) × (rest ≡ [])
Ends closing Refused n rest = ⊥

-- the number that is read so far is a byte
abbrev pub IsLow : Left → Type 0
IsLow (Number s) = ⊤
IsLow (Digits s k) = k ≤ 255
IsLow (Text k f) = k ≤ 255
IsLow (Whole k shown) = ⊤
IsLow Refused = ⊤

-- `front` was read behind a first bracket: what may still come is what makes reasons of it, and also known is what makes reasons of it that close the position
pub record IsReading (place : Position) (front : List ℕ) (left : Left) : Type 0 where
  pub low : IsLow left
  pub ends : (closing : Bool) (n : ℕ) (rest : List ℕ) → AreBehind closing place n (front ++ rest) ↔ Ends closing left n rest

-- one byte more: what was to come behind it is what is still to come
pub record GoesOn (old : Left) (byte : ℕ) (new : Left) : Type 0 where
  pub low : IsLow old → IsLow new
  pub ends : (closing : Bool) (n : ℕ) (rest : List ℕ) → Ends closing new n rest ↔ Ends closing old n (byte ∷ rest)

-- the bytes behind a first bracket are no whole reasons, but the front of some
pub record HaveBegun (front : List ℕ) : Type 0 where
  pub number : ℕ
  pub text : List ℕ
  pub rest : List ℕ
  pub are : AreReasons number text
  pub is_text : codes "[" ++ (front ++ rest) ≡ reasons_text number text
  pub not_whole : (n : ℕ) (whole : List ℕ) → AreReasons n whole → codes "[" ++ front ≡ reasons_text n whole → ⊥

-- they are whole reasons with this number, and close the position exactly where `shown` is true
pub record AreWhole (place : Position) (front : List ℕ) (number : ℕ) (shown : Bool) : Type 0 where
  pub text : List ℕ
  pub are : AreReasons number text
  pub is_text : codes "[" ++ front ≡ reasons_text number text
  pub closes : IsTrue shown ↔ Closes place number text

-- what a step says of the bytes that are read
abbrev pub Means : Position → List ℕ → Step → Type 0
Means place front On = HaveBegun front
Means place front (Ended number shown) = AreWhole place front number shown
Means place front Wrong = (n : ℕ) (text rest : List ℕ) → AreReasons n text → codes "[" ++ (front ++ rest) ≡ reasons_text n text → ⊥

-- what a step says of what is still to come
abbrev pub step_of : Left → Step
step_of (Number s) = On
step_of (Digits s k) = On
step_of (Text k f) = On
step_of (Whole n shown) = Ended n shown
step_of Refused = Wrong
