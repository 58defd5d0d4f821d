-- Files by their names: what is known of them, and what of that a call changes.
use Rattle.std.specs.Prelude.{◌≡◌, ℕ, Bool, true, false, ◌++◌, List, Option, Some, None, IfSome, ⊤}

-- what is known of files: whether the bytes that are written to them are stated; by its name the bytes of each, where they are known, and whether it may be
-- refused to who would read or write it; and of two names whether they lead to one file, where that is known
pub record KnownFiles : Type 0 where
  pub states : Bool
  pub given : List ℕ → Option (List ℕ)
  pub may_not_open : List ℕ → Bool
  pub may_not_create : List ℕ → Bool
  pub are_one : List ℕ → List ℕ → Option Bool

-- nothing is known: no bytes, each file may be refused, and any two names may lead to one
abbrev pub nothing_known : KnownFiles
nothing_known = record {
  states = false;
  given = λ name. None;
  may_not_open = λ name. true;
  may_not_create = λ name. true;
  are_one = λ name other. None;
}

-- of the bytes of files only those of the file of this name may have changed: what is known to be another file has its own as before; and which names lead to
-- one file, and who may write, is known as before
pub record IsChangedAt (name : List ℕ) (old new : KnownFiles) : Type 0 where
  pub states : new.states ≡ old.states
  pub may_not_create : new.may_not_create ≡ old.may_not_create
  pub are_one : new.are_one ≡ old.are_one
  pub others : (other : List ℕ) → old.are_one name other ≡ Some false → new.given other ≡ old.given other

-- the same of a file that is named where one is asked for; where none is, nothing has changed
abbrev pub IsChangedIn : Option (List ℕ) → KnownFiles → KnownFiles → Type 0
IsChangedIn None old new = new ≡ old
IsChangedIn (Some name) old new = IsChangedAt name old new

-- what was known of the bytes of any file is so still
abbrev pub KeepsBytes : KnownFiles → KnownFiles → Type 0
KeepsBytes old new = (name : List ℕ) → IfSome (old.given name) (λ bytes. new.given name ≡ Some bytes)

-- a file of this name was made if none was there
pub record IsPreparedAt (name : List ℕ) (old new : KnownFiles) : Type 0 where
  pub changed : IsChangedAt name old new
  pub kept : KeepsBytes old new

-- the same of a file that is named where one is asked for; where none is, nothing has changed
abbrev pub IsPreparedIn : Option (List ℕ) → KnownFiles → KnownFiles → Type 0
IsPreparedIn None old new = new ≡ old
IsPreparedIn (Some name) old new = IsPreparedAt name old new

-- what is known of a file begins with these bytes
abbrev pub IsFront : Option (List ℕ) → List ℕ → Type 0
IsFront None front = ⊤
IsFront (Some bytes) front = (rest : List ℕ) × (bytes ≡ front ++ rest)
