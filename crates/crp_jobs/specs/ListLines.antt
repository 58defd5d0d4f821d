-- What is said of a fault of a yard list, and of one of a list of sizes. A list is read as the command read it, by the byte between its fields; lines and
-- bytes are those of the file.
use Rattle.std.specs.Prelude.{◌≡◌, ◌⊎◌, ℕ, List, Option, Some, None, IfSome, IsSome}
use Rattle.csv.specs.Reading.{strip_bom}
use Rattle.crp_sizes.specs.declared.fault.SizesFault.{SizesFault}
use Rattle.crp_sizes.specs.declared.fault.SizesFault.TheVariants as sizes
use Rattle.crp_sizes.specs.Records.{IsSizesListOf}
use Rattle.crp_sizes.specs.Sizes.{YardSizes}
use Rattle.crp_separated.specs.Inputs.{comma_list}
use Rattle.crp_yard.specs.declared.fault.YardFault.{YardFault}
use Rattle.crp_yard.specs.declared.fault.YardFault.TheVariants as yard
use Rattle.crp_jobs.specs.declared.headers.ListKind.{ListKind}
use Rattle.crp_jobs.specs.declared.headers.ListKind.TheVariants as list
use Rattle.crp_files.specs.Known.{KnownFiles}
use Rattle.crp_jobs.specs.declared.firsts.Alike.{Alike}
use Rattle.crp_jobs.specs.declared.firsts.Alike.TheVariants as alike
use Rattle.crp_jobs.specs.declared.job.Job.{Job}
use Rattle.crp_jobs.specs.Firsts.{IsDetailedLine, words_on_bay, words_on_first}
use Rattle.crp_jobs.specs.Headers.{list_text}
use Rattle.crp_jobs.specs.Placed.{shown, sizes_named, sizes_of, IsRecordLine, IsOfFront}
use Rattle.crp_jobs.specs.Sized.{separator_of}

-- the line on a list without its header, of which these bytes are known
abbrev pub IsHeaderLine : ListKind → ℕ → Option (List ℕ) → List ℕ → Type 0
IsHeaderLine kind separator given line = IsOfFront given (λ front. line ≡ shown (list_text kind separator (strip_bom front)))

-- the line on the record with this number
abbrev pub IsRecordLineOf : ℕ → Option (List ℕ) → ℕ → List ℕ → Type 0
IsRecordLineOf separator given n line = IsOfFront given (λ text. IsRecordLine separator n text line)

-- the line on the record with this number, with which record is the first that is like it in this
abbrev pub IsAgainLine : Alike → ℕ → Option (List ℕ) → ℕ → List ℕ → Type 0
IsAgainLine how separator given n line = IsOfFront given (λ text. IsDetailedLine separator n text (words_on_first how separator text n) line)

-- the line on the record with this number, with the size of its bay, where bays have these sizes
abbrev pub IsSizedLine : YardSizes → ℕ → Option (List ℕ) → ℕ → List ℕ → Type 0
IsSizedLine sizes separator given n line =
    IsOfFront given (λ text. IsDetailedLine separator n text (words_on_bay sizes (comma_list separator text) n) line)

-- the sizes of the bays of a job with this input are these: where it names a list of sizes, those that this list gives, as far as its bytes are known
abbrev pub HasSizes : KnownFiles → ℕ → Option (List ℕ) → YardSizes → YardSizes → Type 0
HasSizes known separator None chosen sizes = sizes ≡ chosen
HasSizes known separator (Some name) chosen sizes =
    IsOfFront (known.given name) (λ text. IsSizesListOf chosen.common (comma_list separator text) sizes)

-- the line with the size of its bay, where a job with this input has the sizes
abbrev pub IsLineSizedBy : KnownFiles → ℕ → Option (List ℕ) → YardSizes → Option (List ℕ) → ℕ → List ℕ → Type 0
IsLineSizedBy known separator list chosen given n line =
    (sizes : YardSizes) × HasSizes known separator list chosen sizes × IsSizedLine sizes separator given n line

-- the line on a record that names a place which its bay has not: with the size of the bay, unless the list of sizes that the job names is none when it is
-- read again
abbrev pub IsOutsideLine : KnownFiles → Job → Option (List ℕ) → ℕ → List ℕ → Type 0
IsOutsideLine known j given n line =
    IfSome (sizes_of j) (λ chosen.
    IsLineSizedBy known (separator_of j) (sizes_named j) chosen given n line ⊎ (IsSome (sizes_named j) × IsRecordLineOf (separator_of j) given n line))

-- the line on a fault of the yard list of a job
abbrev pub IsYardLine : KnownFiles → Job → Option (List ℕ) → YardFault → List ℕ → Type 0
IsYardLine known j given (yard.Header n) line = IsHeaderLine list.Yard (separator_of j) given line
IsYardLine known j given (yard.Fields n) line = IsRecordLineOf (separator_of j) given n line
IsYardLine known j given (yard.Digits n) line = IsRecordLineOf (separator_of j) given n line
IsYardLine known j given (yard.Outside n) line = IsOutsideLine known j given n line
IsYardLine known j given (yard.PlaceTaken n) line = IsAgainLine alike.Place (separator_of j) given n line
IsYardLine known j given (yard.Floating n) line = IsRecordLineOf (separator_of j) given n line
IsYardLine known j given (yard.StandsAlready n) line = IsAgainLine alike.Container (separator_of j) given n line
IsYardLine known j given (yard.TooMany n) line = IsRecordLineOf (separator_of j) given n line
IsYardLine known j given yard.Read line = ⊥
IsYardLine known j given yard.TooLarge line = ⊥
IsYardLine known j given yard.Memory line = ⊥

-- and on one of a list of sizes, with this byte between its fields
abbrev pub IsSizesLine : ℕ → Option (List ℕ) → SizesFault → List ℕ → Type 0
IsSizesLine separator given (sizes.Header n) line = IsHeaderLine list.Sizes separator given line
IsSizesLine separator given (sizes.Fields n) line = IsRecordLineOf separator given n line
IsSizesLine separator given (sizes.Digits n) line = IsRecordLineOf separator given n line
IsSizesLine separator given (sizes.Heights n) line = IsRecordLineOf separator given n line
IsSizesLine separator given (sizes.Twice n) line = IsRecordLineOf separator given n line
IsSizesLine separator given sizes.TooLarge line = ⊥
IsSizesLine separator given sizes.Read line = ⊥
IsSizesLine separator given sizes.Memory line = ⊥
