-- What files and streams are to a job, and which of them must be no one file.
use Rattle.std.specs.Prelude.{◌≡◌, ◌≢◌, ◌&&◌, ℕ, Bool, true, false, not, IsTrue, List, Option, Some}
use Rattle.crp_files.specs.declared.roles.Role.{Role}
use Rattle.crp_files.specs.declared.roles.Role.TheVariants as role
use Rattle.crp_files.specs.Known.{KnownFiles}

-- a file of this role is written under its name, and emptied first
abbrev pub is_written : Role → Bool
is_written role.Certificates = true
is_written role.YardAfter = true
is_written role.Page = true
is_written r = false

-- the first is written, and must be another file than the second: one that is read, what stands behind a stream, or the other one that is written
abbrev pub must_differ : Role → Role → Bool
must_differ role.YardAfter role.Certificates = true
must_differ role.YardAfter role.Page = true
must_differ written other = is_written written && not (is_written other)

-- both names are given, and are known to lead to one file
pub record AreOne (known : KnownFiles) (name other : Option (List ℕ)) : Type 0 where
  pub first : List ℕ
  pub second : List ℕ
  pub is : name ≡ Some first
  pub is_other : other ≡ Some second
  pub one : known.are_one first second ≡ Some true

-- both names are given, and are not known to lead to two files
pub record MayBeOne (known : KnownFiles) (name other : Option (List ℕ)) : Type 0 where
  pub first : List ℕ
  pub second : List ℕ
  pub is : name ≡ Some first
  pub is_other : other ≡ Some second
  pub not_two : known.are_one first second ≢ Some false

-- this holds of the names of two roles whose files must be two
abbrev pub Share : (Option (List ℕ) → Option (List ℕ) → Type 0) → (Role → Option (List ℕ)) → Role → Role → Type 0
Share Of named written other = IsTrue (must_differ written other) × Of (named written) (named other)

-- a file that is written is known to be another one too
abbrev pub IsShared : KnownFiles → (Role → Option (List ℕ)) → Type 0
IsShared known named = (written : Role) × (other : Role) × Share (AreOne known) named written other
