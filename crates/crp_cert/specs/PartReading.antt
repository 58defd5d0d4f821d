-- Reading the lines of parts from the front of the bytes: what was read, and what follows it. No public clause cites this module.
use Rattle.std.specs.Prelude.{◌≡◌, ℕ, zero, suc, ◌+◌, ◌++◌, length, Bool, true, false, ◌||◌, ◌==◌, List, [], ◌∷◌, Option, Some, None, if◌then◌else◌, codes, All, AllPairs}
use Rattle.std.specs.List.{flat_map}
use Rattle.crp_plan.specs.Bay.{Problem, Position, start}
use Rattle.crp_bay.specs.Positions.{can_shift, child, settled}
use Rattle.crp_tree.specs.Names.{Precedes}
use Rattle.crp_tree.specs.Claims.{Part, names}
use Rattle.crp_cert.specs.declared.fault.CertFault.{CertFault}
use Rattle.crp_cert.specs.declared.version.Version.{Version}
use Rattle.crp_cert.specs.Script.{part_line, IsPartLine}
use Rattle.crp_cert.specs.ScriptFaults.{IsLineFault}
use Rattle.crp_cert.specs.Reading.{◌>>=◌, tag_at, number_at, newline_at, reasons_at}
use Rattle.crp_cert.specs.declared.version.Version.TheVariants.{One, Two, Three}

-- the bytes before the end of the line, and the others
abbrev pub line_at : List ℕ → Option (List ℕ × List ℕ)
line_at [] = None
line_at (b ∷ bytes) = if b == 10 then Some ([], b ∷ bytes) else (line_at bytes >>= λ x. Some (b ∷ x.0, x.1))

-- what is made of the bytes after the tag, or else another thing
abbrev pub tagged : {A : Type 0} → Option (List ℕ) → A → (List ℕ → A) → A
tagged None other on = other
tagged (Some rest) other on = on rest

-- a row before others
abbrev pub in_front : ℕ → (List ℕ × Position) × List ℕ → Option ((List ℕ × Position) × List ℕ)
in_front row x = Some ((row ∷ x.0.0, x.0.1), x.1)

-- rows with points between them, one at least and no more than there is room for, each legal where those before it lead; and where all lead
abbrev pub rows_at : ℕ → Position → List ℕ → Option ((List ℕ × Position) × List ℕ)
rows_at zero s bytes = None
rows_at (suc room) s bytes =
    number_at 99 bytes >>= λ x. (if can_shift s x.0
    then tagged (tag_at (codes ".") x.1) (Some ((x.0 ∷ [], child s x.0), x.1)) (λ rest. rows_at room (child s x.0) rest >>= in_front x.0)
    else None)

-- a name of at most 8 rows that is a path, and where it leads
unfoldable pub name_at : Problem → List ℕ → Option ((List ℕ × Position) × List ℕ)
name_at p bytes = tagged (tag_at (codes "/") bytes) (rows_at 8 (settled (start p)) bytes) (λ rest. Some (([], settled (start p)), rest))

-- what was read passes the test
abbrev pub option_all : {A : Type 0} → (A → Bool) → Option A → Bool
option_all test None = false
option_all test (Some x) = test x

-- a test of a symbol of one byte
abbrev pub symbol_test : ℕ → Bool
symbol_test b = b == 66 || (b == 76 || (b == 88 || b == 71))

-- the version spells reasons
abbrev pub spells_reasons : Version → Bool
spells_reasons One = false
spells_reasons Two = false
spells_reasons Three = true

-- a test of whether bytes spell marks, no more than so many
abbrev pub marks_within : ℕ → Version → List ℕ → Bool
marks_within most version [] = true
marks_within zero version (b ∷ bytes) = false
marks_within (suc most) version (b ∷ bytes) =
    if symbol_test b then marks_within most version bytes
    else (if spells_reasons version then option_all (λ x. marks_within most version x.1) (reasons_at (b ∷ bytes)) else false)

-- of any number
abbrev pub marks_test : Version → List ℕ → Bool
marks_test version bytes = marks_within (length bytes) version bytes

-- the name and the symbols of a part line, from behind its first word
unfoldable pub part_at : Problem → List ℕ → Option ((List ℕ × List ℕ) × List ℕ)
part_at p bytes = do
  name ← name_at p bytes
  rest ← tag_at (codes ": ") name.1
  line ← line_at rest
  after ← newline_at line.1
  Some ((name.0.0, line.0), after)

-- the bytes begin with the lines of these parts, which may follow a head, and then this follows
pub record AreParts (version : Version) (p : Problem) (bytes : List ℕ) (parts : List Part) (rest : List ℕ) : Type 0 where
  pub each_part : All (IsPartLine version p) parts
  pub rising : AllPairs Precedes (names parts)
  pub text : bytes ≡ flat_map part_line parts ++ rest

-- the bytes begin with the lines of parts, of which the first has this number, and the line after them has this fault
pub record IsPartsFault (version : Version) (p : Problem) (first : ℕ) (bytes : List ℕ) (fault : CertFault) : Type 0 where
  pub parts : List Part
  pub rest : List ℕ
  pub are : AreParts version p bytes parts rest
  pub why : IsLineFault version p parts (first + length parts) rest fault
