-- What was read of a source that is to begin with a head.
use Rattle.std.specs.Prelude.{◌≡◌, ℕ, ◌+◌, ◌≤◌, List, length, Option, IfSome}
use Rattle.std.specs.Io.KnownBytes.{Consumes}
use Rattle.crp_cert.specs.declared.fault.CertFault.{CertFault}
use Rattle.crp_cert.specs.declared.head.Head.{Head}
use Rattle.crp_cert.specs.Text.{IsHeadOf, head_text}
use Rattle.crp_cert.specs.Faults.{IsFirstFault}

-- the bytes that a source had, where it stated them, begin with this head; no more of them were read than the head, and a piece behind it
pub record BeginsWithHead (given left : Option (List ℕ)) (head : Head) : Type 0 where
  pub text : List ℕ
  pub text_is : IfSome given (λ bytes. text ≡ bytes)
  pub head_is : IsHeadOf text head
  pub bytes : List ℕ
  pub read : Consumes given left bytes
  pub near : length bytes ≤ length (head_text head) + 4096

-- they are no more than the limit, and begin with no head: this is their first fault
pub record BeginsWithNone (limit : ℕ) (given : Option (List ℕ)) (fault : CertFault) : Type 0 where
  pub text : List ℕ
  pub text_is : IfSome given (λ bytes. text ≡ bytes)
  pub within : length text ≤ limit
  pub first : IsFirstFault text fault
