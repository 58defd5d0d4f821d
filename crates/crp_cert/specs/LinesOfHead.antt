-- The lines of a head, one by one: what was read of it, and whether the next line may stand there.
use Rattle.std.specs.Prelude.{◌≡◌, ℕ, ◌+◌, ◌<◌, List, [], ◌++◌, length, Option, Some, None, IfSome, ⊤, nat_lt, if◌then◌else◌}
use Rattle.std.specs.List.{flat_map}
use Rattle.crp_plan.specs.BayNames.{YardBay, IsYardBay}
use Rattle.crp_plan.specs.Faults.{stacks_of}
use Rattle.crp_cert.specs.declared.bay_rows.BayRows.{BayRows}
use Rattle.crp_cert.specs.declared.head_lines.HeadLines.{HeadLines}
use Rattle.crp_cert.specs.declared.head_lines.HeadLines.TheVariants as lines
use Rattle.crp_cert.specs.declared.head_lines.HeadRead.{HeadRead}
use Rattle.crp_cert.specs.declared.head_lines.HeadRead.TheVariants as read
use Rattle.crp_cert.specs.declared.fault.CertFault.{CertFault}
use Rattle.crp_cert.specs.declared.fault.CertFault.TheVariants as faults
use Rattle.crp_cert.specs.Text.{title_line, bay_line, size_line, heights_line, stated_heights, row_line, claim_line, plan_line, first_row, head_text, IsSize, AreRows, IsHead}
use Rattle.crp_cert.specs.Faults.{BeginsWith, AreHeightsOf, MayState, IsNextStack, most_claimed, MayClaim}
use Rattle.crp_cert.specs.Settled.{StopsWithin, longest_line}

-- the lines down to the last row that was read
abbrev pub rows_text : BayRows → List ℕ
rows_text rows =
    title_line rows.version ++ (bay_line rows.bay ++ (size_line rows.size ++ (stated_heights rows.version rows.heights.items ++ flat_map row_line (stacks_of rows.stacks.items))))

-- the bay has a name, and the version may state its heights
abbrev pub AreStated : BayRows → Type 0
AreStated rows = IsYardBay rows.bay × MayState rows.version rows.size rows.heights.items

-- the bytes are the lines that were read
abbrev pub HasLines : List ℕ → HeadLines → Type 0
HasLines bytes lines.Start = bytes ≡ []
HasLines bytes (lines.Title version) = bytes ≡ title_line version
HasLines bytes (lines.Bay version bay) = IsYardBay bay × (bytes ≡ title_line version ++ bay_line bay)
HasLines bytes (lines.Size sized) = IsYardBay sized.bay × (bytes ≡ title_line sized.version ++ (bay_line sized.bay ++ size_line sized.size))
HasLines bytes (lines.Rows rows) = AreStated rows × (bytes ≡ rows_text rows)
HasLines bytes (lines.Claim claimed) =
    AreStated claimed.rows × MayClaim claimed.rows.version (most_claimed claimed.rows.size) claimed.claim × (bytes ≡ rows_text claimed.rows ++ claim_line claimed.claim)

-- the bytes are those lines, or the whole head
abbrev pub HasRead : List ℕ → HeadRead → Type 0
HasRead bytes (read.Lines lines) = HasLines bytes lines
HasRead bytes (read.Whole head) = IsHead head × (bytes ≡ head_text head)

-- a plan of the head has rows as a plan line may state them
abbrev pub HasRows : HeadRead → Type 0
HasRows (read.Lines lines) = ⊤
HasRows (read.Whole head) = IfSome head.plan AreRows

-- some row is missing, and the bytes begin with no line that states the next; or none is, and they begin with no claim
abbrev pub HasNoRow : BayRows → List ℕ → Type 0
HasNoRow rows bytes =
    (length (stacks_of rows.stacks.items) < rows.size.rows → ¬ BeginsWith (IsNextStack rows.size rows.heights.items (stacks_of rows.stacks.items)) row_line bytes)
    × (length (stacks_of rows.stacks.items) ≡ rows.size.rows → ¬ BeginsWith (MayClaim rows.version (most_claimed rows.size)) claim_line bytes)

-- behind the lines that were read the bytes begin with no line that may stand there
abbrev pub HasNoLine : HeadLines → List ℕ → Type 0
HasNoLine lines.Start bytes = ¬ BeginsWith (λ version. ⊤) title_line bytes
HasNoLine (lines.Title version) bytes = ¬ BeginsWith IsYardBay bay_line bytes
HasNoLine (lines.Bay version bay) bytes = ¬ BeginsWith IsSize size_line bytes
HasNoLine (lines.Size sized) bytes = ¬ BeginsWith (AreHeightsOf sized.size) heights_line bytes
HasNoLine (lines.Rows rows) bytes = HasNoRow rows bytes
HasNoLine (lines.Claim claimed) bytes = ¬ BeginsWith (λ plan. IfSome plan AreRows) plan_line bytes

-- the number of the line behind some rows
abbrev pub line_number : BayRows → ℕ
line_number rows = first_row rows.version + length (stacks_of rows.stacks.items)

-- the fault of a text whose next line may not stand there
abbrev pub fault_behind : HeadLines → CertFault
fault_behind lines.Start = faults.Opening 1
fault_behind (lines.Title version) = faults.Opening 2
fault_behind (lines.Bay version bay) = faults.Size 3
fault_behind (lines.Size sized) = faults.Size 4
fault_behind (lines.Rows rows) = if nat_lt (length (stacks_of rows.stacks.items)) rows.size.rows then faults.Row (line_number rows) else faults.Claim (line_number rows)
fault_behind (lines.Claim claimed) = faults.Plan (line_number claimed.rows + 1)

-- the bay that the lines name, if they do
abbrev pub bay_of : HeadLines → Option YardBay
bay_of lines.Start = None
bay_of (lines.Title version) = None
bay_of (lines.Bay version bay) = Some bay
bay_of (lines.Size sized) = Some sized.bay
bay_of (lines.Rows rows) = Some rows.bay
bay_of (lines.Claim claimed) = Some claimed.rows.bay

-- the bytes begin with one line more, behind which this follows
pub record IsLineRead (lines : HeadLines) (bytes : List ℕ) (next : HeadRead) (rest : List ℕ) : Type 0 where
  pub line : List ℕ
  pub ends : StopsWithin 10 longest_line line
  pub is : bytes ≡ line ++ rest
  pub rows : HasRows next
  pub leads : (before : List ℕ) → HasLines before lines → HasRead (before ++ line) next
