-- What `check` writes: a line for each certificate of a file as it ends, and what its faults state.
use Rattle.std.specs.Prelude.{◌≡◌, ◌≢◌, ℕ, ◌<◌, ◌≤◌, ◌⊎◌, Bool, if◌then◌else◌, List, [], ◌∷◌, ◌++◌, length, Option, Some, None, IfSome, codes, decimal}
use Rattle.std.specs.List.{AllByRecursion, flat_map}
use Rattle.std.specs.Io.KnownBytes.{Appends}
use Rattle.crp_plan.specs.BayNames.{YardBay}
use Rattle.crp_plan.specs.Devices.{AppendsPart, HasFailed}
use Rattle.crp_yard.specs.Reading.{IsTextOf}
use Rattle.crp_checker.specs.declared.verdict.Verdict.{Verdict}
use Rattle.crp_checker.specs.declared.verdict.Verdict.TheVariants as verdict
use Rattle.crp_checker.specs.declared.refused.Refused.{Refused}
use Rattle.crp_checker.specs.declared.refused.Refused.TheVariants as refused
use Rattle.crp_checker.specs.Files.{IsWithoutEnd, IsOtherLine, joined_lines, FileShows, IsFileRefusal}
use Rattle.crp_checker.specs.FedFiles.{IsEndedFront}
use Rattle.crp_jobs.specs.declared.outcome.ToolFault.{ToolFault}
use Rattle.crp_jobs.specs.declared.outcome.ToolFault.TheVariants as fault
use Rattle.crp_said.specs.Said.{bay_words}
use Rattle.crp_commands.specs.declared.heads.TheConstants.{ANY_SIZE, MOST_BYTES}
use Rattle.crp_commands.specs.Calls.{CallSeen, IsTextWithin}

-- the relocations of the plan, if there is one
abbrev pub plan_words : Option ℕ → List ℕ
plan_words None = []
plan_words (Some count) = codes ", plan of " ++ decimal count

-- what a certificate shows, in words
abbrev pub verdict_words : Verdict → List ℕ
verdict_words (verdict.Optimal count) = codes "optimal " ++ decimal count
verdict_words (verdict.First count) = codes "optimal " ++ (decimal count ++ codes " first")
verdict_words verdict.NoPlan = codes "no plan"
verdict_words (verdict.Bounds lower upper) = codes "at least " ++ (decimal lower ++ plan_words upper)

-- the line of a certificate: its bay, and what it shows
abbrev pub verdict_line : (YardBay × Verdict) → List ℕ
verdict_line stated = bay_words stated.0 ++ (verdict_words stated.1 ++ 10 ∷ [])

-- a line for each, in order
abbrev pub verdict_lines : List (YardBay × Verdict) → List ℕ
verdict_lines stated = flat_map verdict_line stated

-- the most bytes of a file of certificates that is checked: where it may have any size, more than any file has
abbrev pub most_bytes : Bool → ℕ
most_bytes any_size = if any_size then ANY_SIZE else MOST_BYTES

-- the lines of a file whose certificates are all accepted
abbrev pub IsCheck : List ℕ → List ℕ → Type 0
IsCheck bytes report = (stated : List (YardBay × Verdict)) × FileShows bytes stated × (report ≡ verdict_lines stated)

-- the lines of the certificates before the one with this number, which is refused
abbrev pub IsCheckBefore : List ℕ → ℕ → Refused → List ℕ → Type 0
IsCheckBefore bytes number why report = (before : List (YardBay × Verdict)) × IsFileRefusal bytes before number why × (report ≡ verdict_lines before)

-- the known bytes begin with these
abbrev pub IsReadFrom : Option (List ℕ) → List ℕ → Type 0
IsReadFrom known read = IfSome known (λ xs. (rest : List ℕ) × (xs ≡ read ++ rest))

-- no certificate ends in these bytes: they are whole lines that do not begin with `end `, and then bytes without LF
pub record HasNotEnded (text : List ℕ) : Type 0 where
  pub lines : List (List ℕ)
  pub begun : List ℕ
  pub others : AllByRecursion IsOtherLine lines
  pub open_line : IsWithoutEnd begun
  pub is : text ≡ joined_lines lines ++ begun

-- the lines before the certificate with this number, which is refused, were written, and nothing else
abbrev pub WritesBefore : CallSeen → ℕ → Refused → Type 0
WritesBefore s number why =
    (text : List ℕ) × (report : List ℕ) × IsTextOf s.given text × IsCheckBefore text number why report × Appends s.held s.holds report

-- the source's bytes begin with those read, which are certificates that have ended and then the rest; the lines of these certificates were
-- written, and nothing else
abbrev pub WritesLines : CallSeen → List ℕ → List ℕ → Type 0
WritesLines s read rest =
    IsReadFrom s.given read × ((verdicts : List (YardBay × Verdict)) × IsEndedFront read verdicts rest × Appends s.held s.holds (verdict_lines verdicts))

-- the lines of some certificates at the front of the source's bytes, of no more than `limit`, were written, and nothing else
abbrev pub WritesSome : ℕ → CallSeen → Type 0
WritesSome limit s = (read : List ℕ) × (rest : List ℕ) × (length read ≤ limit) × WritesLines s read rest

-- a line was written for each certificate that has ended in these bytes, and nothing else
abbrev pub WritesEach : CallSeen → List ℕ → Type 0
WritesEach s read = (rest : List ℕ) × HasNotEnded rest × WritesLines s read rest

-- so it was for some bytes at the front of the source's, no more than `limit`
abbrev pub WritesEnded : ℕ → CallSeen → Type 0
WritesEnded limit s = (read : List ℕ) × (length read ≤ limit) × WritesEach s read

-- the source's bytes show this, or some bytes at their front, of no more than `limit`
abbrev pub AreShown : ℕ → Option (List ℕ) → List (YardBay × Verdict) → Type 0
AreShown limit given verdicts =
    ((read : List ℕ) × (rest : List ℕ) × (length read ≤ limit) × IsReadFrom given read × IsEndedFront read verdicts rest)
    ⊎ ((text : List ℕ) × IsTextWithin limit given text × FileShows text verdicts)

-- what a fault says of a check of at most `limit` bytes: a certificate that is refused, after the lines of those before it; a read that has
-- failed in this call, after the lines of the certificates that had ended; a write that has failed, after a front of their lines that is not all
-- of them; more bytes than the limit, after the lines of the certificates that end in the first `limit` bytes; or lack of memory, after the lines
-- of some
abbrev pub CheckFailsWith : ℕ → CallSeen → ToolFault → Type 0
CheckFailsWith limit s (fault.Checked number why) = (why ≢ refused.Memory) × WritesBefore s number why
CheckFailsWith limit s fault.Read = HasFailed s.source_before s.source_after × WritesEnded limit s
CheckFailsWith limit s fault.Write = HasFailed s.sink_before s.sink_after
    × ((verdicts : List (YardBay × Verdict)) × AreShown limit s.given verdicts × AppendsPart s.held s.holds (verdict_lines verdicts))
CheckFailsWith limit s fault.TooLarge = IfSome s.given (λ xs. limit < length xs)
    × ((read : List ℕ) × (length read ≡ limit) × WritesEach s read)
CheckFailsWith limit s fault.Memory = WritesSome limit s
CheckFailsWith limit s f = ⊥

-- how the refusal of a certificate is stated
abbrev pub fault_of_refusal : ℕ → Refused → ToolFault
fault_of_refusal number refused.Memory = fault.Memory
fault_of_refusal number why = fault.Checked number why
