-- What is said of a report that is audited, of which a move is not legal or the three numbers are others: under which settings its moves fit, and which
-- numbers the input gives. The yard list, the message and the report are read again.
use Rattle.std.specs.Prelude.{◌≡◌, ◌↔◌, ℕ, Bool, IsTrue, List, [], ◌++◌, Option, replicate, if◌then◌else◌, codes}
use Rattle.crp_sizes.specs.Sizes.{YardSizes, one_size}
use Rattle.crp_separated.specs.Inputs.{comma_list}
use Rattle.crp_yard.specs.Inventory.{Inventory}
use Rattle.crp_yard.specs.Reading.{IsYardListOf}
use Rattle.crp_movins.specs.Loading.{Loading}
use Rattle.crp_movins.specs.LoadOrders.{LoadOrders}
use Rattle.crp_order.specs.declared.sequences.Mode.{Mode}
use Rattle.crp_order.specs.declared.sequences.Mode.TheVariants.{Listed, Stowage}
use Rattle.crp_order.specs.OfBays.{IsSequenceOf}
use Rattle.crp_said.specs.declared.numbers.Numbers.{Numbers}
use Rattle.crp_said.specs.Said.{counts_line}
use Rattle.crp_report.specs.Chosen.{InputChosen}
use Rattle.crp_report.specs.Runs.{AreOrders}
use Rattle.crp_audit.specs.Headline.{handed, numbers_in}
use Rattle.crp_audit.specs.Fitting.{MovesFit}
use Rattle.crp_files.specs.Known.{KnownFiles, IsFront}
use Rattle.crp_jobs.specs.declared.job.AuditFiles.{AuditFiles}
use Rattle.crp_jobs.specs.declared.job.Job.{Job}
use Rattle.crp_jobs.specs.declared.job.Job.TheVariants as job
use Rattle.crp_jobs.specs.Moves.{HasYard}
use Rattle.crp_jobs.specs.Partial.{IsReportIn, part_of}
use Rattle.crp_jobs.specs.Placed.{IsOfFront, line_front}
use Rattle.crp_jobs.specs.ReportLines.{IsEndedLine}

-- ---- what is tried

-- the other order of leaving
abbrev pub other_mode : Mode → Mode
other_mode Listed = Stowage
other_mode Stowage = Listed

-- the largest size that bays may have: 12 rows of 8 tiers
abbrev pub largest : YardSizes
largest = one_size (replicate 12 8)

-- the load orders that are read of the message of an audit, of what the file begins with
abbrev pub HasOrders : KnownFiles → AuditFiles → Loading → LoadOrders → Type 0
HasOrders known names loading orders = IsOfFront (known.given names.movins.now) (λ text. AreOrders loading text orders)

-- whether the moves of the report of an audit fit this yard, where the ordered containers leave in the order of this mode; of one that ends early these are
-- the moves of the bays that stand there
pub record AreFitting (known : KnownFiles) (names : AuditFiles) (chosen : InputChosen) (yard : Inventory) (mode : Mode) (fit : Bool) : Type 0 where
  pub orders : LoadOrders
  pub sequence : List (List ℕ)
  pub text : List ℕ
  pub report : List ℕ
  pub bays : Option ℕ
  pub ordered : HasOrders known names chosen.loading orders
  pub in_sequence : IsSequenceOf mode chosen.bays yard orders.list sequence
  pub front : IsFront (known.given names.report.now) text
  pub whole : IsReportIn names.partial text report bays
  pub fit_is : IsTrue fit ↔ MovesFit (handed yard orders (part_of bays yard sequence) report [])

-- whether they fit where the containers leave in the other order
abbrev pub FitOtherOrder : KnownFiles → Job → AuditFiles → InputChosen → Bool → Type 0
FitOtherOrder known j names chosen fit =
    (yard : Inventory) × HasYard known j chosen.sizes names.yard.now yard × AreFitting known names chosen yard (other_mode chosen.mode) fit

-- whether they fit where all bays are of the largest size
abbrev pub FitLargest : KnownFiles → AuditFiles → InputChosen → Bool → Type 0
FitLargest known names chosen fit =
    (yard : Inventory) × IsOfFront (known.given names.yard.now) (λ text. IsYardListOf largest (comma_list names.separator text) yard) × AreFitting known names chosen yard chosen.mode fit

-- ---- words

abbrev pub order_words : Mode → List ℕ
order_words Listed = codes "; the moves fit under --order listed"
order_words Stowage = codes "; the moves fit under --order stowage"

abbrev pub size_words : List ℕ
size_words = codes "; the moves fit with --rows 12 --tiers 8: look at --rows, --tiers, --heights and --sizes"

-- where the moves fit in the other order, that they do; else where they fit bays of the largest size, that they do; else nothing
abbrev pub setting_words : Mode → Bool → Bool → List ℕ
setting_words mode by_order by_size = if by_order then order_words (other_mode mode) else if by_size then size_words else []

-- the words on a report of this audit
abbrev pub AreSettingWords : KnownFiles → Job → AuditFiles → InputChosen → List ℕ → Type 0
AreSettingWords known j names chosen words =
    (by_order : Bool) × (by_size : Bool) × FitOtherOrder known j names chosen by_order × FitLargest known names chosen by_size
    × (words ≡ setting_words chosen.mode by_order by_size)

-- the three numbers that the input of an audit gives, as the audit looks at them
pub record AreInputNumbers (known : KnownFiles) (j : Job) (names : AuditFiles) (chosen : InputChosen) (n : Numbers) : Type 0 where
  pub yard : Inventory
  pub orders : LoadOrders
  pub sequence : List (List ℕ)
  pub listed : HasYard known j chosen.sizes names.yard.now yard
  pub ordered : HasOrders known names chosen.loading orders
  pub in_sequence : IsSequenceOf chosen.mode chosen.bays yard orders.list sequence
  pub numbers_are : (report certificates : List ℕ) → n ≡ numbers_in (handed yard orders sequence report certificates)

-- the first line that would be right
abbrev pub number_words : Numbers → List ℕ
number_words n = codes "; by the yard list and the message it is " ++ line_front (counts_line n)

-- ---- lines

-- the line on a move at this line that is not legal there: its bytes, and the words on the settings under which the moves of the report fit
abbrev pub IsMisfitLine : KnownFiles → Job → Option (List ℕ) → ℕ → List ℕ → Type 0
IsMisfitLine known (job.Audit names settings) given n line =
    (words : List ℕ) × AreSettingWords known (job.Audit names settings) names settings words × IsEndedLine given n words line
IsMisfitLine known j given n line = ⊥

-- the line on other numbers: its bytes, and those that would be right
abbrev pub IsNumbersLine : KnownFiles → Job → Option (List ℕ) → List ℕ → Type 0
IsNumbersLine known (job.Audit names settings) given line =
    (n : Numbers) × AreInputNumbers known (job.Audit names settings) names settings n × IsEndedLine given 1 (number_words n) line
IsNumbersLine known j given line = ⊥
