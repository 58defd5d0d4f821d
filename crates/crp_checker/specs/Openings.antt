-- What the first bytes of a line after a head are.
use Rattle.std.specs.Prelude.{◌≡◌, ℕ, List, [], ◌∷◌, ◌++◌, length, codes}
use Rattle.crp_plan.specs.Bay.{Problem, IsProblem}
use Rattle.crp_tree.specs.Claims.{Part}
use Rattle.crp_cert.specs.Faults.{BeginsWith}
use Rattle.crp_cert.specs.Script.{end_line}
use Rattle.crp_cert.specs.ScriptFaults.{IsLineFault}
use Rattle.crp_cert.specs.Settled.{CanBeJudged, IsName, spelled_name, longest_name}
use Rattle.crp_cert.specs.declared.version.Version.{Version}
use Rattle.crp_cert.specs.declared.fault.CertFault.TheVariants as faults
use Rattle.crp_checker.specs.declared.opening.Opening.{Opening}
use Rattle.crp_checker.specs.declared.opening.Opening.TheVariants.{Open, Name, Ended, Refused}

-- the bytes begin with these
abbrev pub IsBegunWith : List ℕ → List ℕ → Type 0
IsBegunWith bytes front = (rest : List ℕ) × (bytes ≡ front ++ rest)

-- the word of a part line
abbrev pub part_word : List ℕ
part_word = codes "part "

-- a part line down to the space behind its name
abbrev pub named_line : List ℕ → List ℕ
named_line name = part_word ++ spelled_name name

-- the bytes begin with no part line down to the space behind its name
abbrev pub HasNoName : Problem → List ℕ → Type 0
HasNoName p bytes = ¬ BeginsWith (IsName p) named_line bytes

-- what stands behind the word of a part line
abbrev pub IsPartOpening : Problem → ℕ → List ℕ → Opening → Type 0
IsPartOpening p line behind Open = (before : List ℕ) → behind ≡ before ++ 32 ∷ [] → ⊥
IsPartOpening p line behind (Name name) = IsName p name × (behind ≡ spelled_name name)
IsPartOpening p line behind Ended = ⊥
IsPartOpening p line behind (Refused fault) =
    (fault ≡ faults.Part line) × CanBeJudged 32 longest_name behind × ((name : List ℕ) → IsName p name → behind ≡ spelled_name name → ⊥)

-- what a line is that begins with another word, after so many parts
abbrev pub IsLastOpening : ℕ → ℕ → List ℕ → Opening → Type 0
IsLastOpening count line begun Open = IsBegunWith begun (end_line count) → ⊥
IsLastOpening count line begun (Name name) = ⊥
IsLastOpening count line begun Ended = IsBegunWith begun (end_line count)
IsLastOpening count line begun (Refused fault) =
    (fault ≡ faults.End line) × ((more : List ℕ) → (IsBegunWith (begun ++ more) part_word → ⊥) × (IsBegunWith (begun ++ more) (end_line count) → ⊥))

-- what a line is, of which one byte more came: it is still open; it is a name of the problem, where none stood there before; it is the last line, where that did not stand there
-- before; or, where no name stood there before, it is at fault, whatever follows
abbrev pub IsOpening : Problem → ℕ → ℕ → List ℕ → List ℕ → Opening → Type 0
IsOpening p count line old new Open = (HasNoName p old → HasNoName p new) × (IsBegunWith new (end_line count) → ⊥)
IsOpening p count line old new (Name name) = IsName p name × (HasNoName p old → new ≡ named_line name)
IsOpening p count line old new Ended = (IsBegunWith old (end_line count) → ⊥) → new ≡ end_line count
IsOpening p count line old new (Refused fault) =
    IsProblem p → HasNoName p old → (version : Version) (parts : List Part) → length parts ≡ count → (more : List ℕ) → IsLineFault version p parts line (new ++ more) fault
