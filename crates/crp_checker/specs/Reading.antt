-- A file of certificates that is read from a source in pieces, one certificate after the other.
use Rattle.std.specs.Prelude.{◌≡◌, ◌⊎◌, ℕ, ◌+◌, ◌<◌, ◌≤◌, List, [], ◌∷◌, ◌++◌, length, drop, Bool, true, false, Option, IfSome}
use Rattle.crp_plan.specs.Bay.{Problem}
use Rattle.crp_checker.specs.declared.checker.Checker.{Checker}
use Rattle.crp_checker.specs.declared.unread.Unread.{Unread}
use Rattle.crp_checker.specs.declared.watch.Watch.{Watch}
use Rattle.crp_checker.specs.Files.{IsEnded, BeginsWithTexts}
use Rattle.crp_checker.specs.Fed.{HasRead}
use Rattle.crp_checker.specs.Watches.{IsUnended}

-- some bytes were read and not taken, and may be taken
abbrev pub HasMore : Unread → Type 0
HasMore u = (u.taken < length u.piece.items) × (0 < u.room)

-- all that was read was taken, and the source has said that no more comes
abbrev pub IsSpent : Unread → Type 0
IsSpent u = (length u.piece.items ≤ u.taken) × (u.ended ≡ true)

-- these may be all bytes of the file that were not taken: those that were read, and then what the source has left, where it states that
pub record IsLeft (known : Option (List ℕ)) (u : Unread) (left : List ℕ) : Type 0 where
  pub rest : List ℕ
  pub is : left ≡ drop u.taken u.piece.items ++ rest
  pub given : IfSome known (λ xs. rest ≡ xs)
  pub none_behind : u.ended ≡ true → rest ≡ []

-- these bytes were taken: whatever may be left now, they stood before it
pub record AreTaken (known : Option (List ℕ)) (u : Unread) (text : List ℕ) (new : Option (List ℕ)) (next : Unread) : Type 0 where
  pub before : (left : List ℕ) → IsLeft new next left → IsLeft known u (text ++ left)
  pub some : (left : List ℕ) × IsLeft new next left
  pub room : length text + next.room ≡ u.room

-- they are the next certificate of the file: whatever may be left now, it is the first of what was left before
pub record IsTaken (known : Option (List ℕ)) (u : Unread) (text : List ℕ) (new : Option (List ℕ)) (next : Unread) : Type 0 where
  pub taken : AreTaken known u text new next
  pub first : (left : List ℕ) → IsLeft new next left → BeginsWithTexts (text ++ left) (text ∷ []) left

-- the file may have more bytes than may be taken of it
abbrev pub IsTooLong : Option (List ℕ) → Unread → Type 0
IsTooLong known u = (left : List ℕ) × IsLeft known u left × (u.room < length left)

-- these bytes of a certificate were fed to a checker: the certificate has not ended then, or it has, with its last line, or with the file
pub record AreFed (u : Unread) (text : List ℕ) (next : Unread) (before after : Checker) (stood stands : Watch) (more : Bool) : Type 0 where
  pub read : (wanted : Option Problem) (bytes : List ℕ) → HasRead wanted bytes before → HasRead wanted (bytes ++ text) after
  pub on : more ≡ true → (1 ≤ length text) × ((bytes : List ℕ) → IsUnended bytes stood → IsUnended (bytes ++ text) stands)
  pub ended : more ≡ false → ((bytes : List ℕ) → IsUnended bytes stood → IsEnded (bytes ++ text))
      ⊎ ((text ≡ []) × (stands ≡ stood) × (HasMore u → ⊥) × IsSpent next)
