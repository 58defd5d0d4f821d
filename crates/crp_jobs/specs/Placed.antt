-- Where what a fault names stands in its file, and what stands there, as a line says it.
use Rattle.std.specs.Prelude.{◌≡◌, ℕ, ◌<◌, nat_lt, List, [], ◌∷◌, ◌++◌, length, map, take, drop, position, unwrap_or, Option, Some, None, if◌then◌else◌, codes, option_map}
use Rattle.std.specs.Fmt.{decimal}
use Rattle.edi_text.specs.declared.fault.EdiFault.{EdiFault}
use Rattle.edi_text.specs.declared.fault.EdiFault.TheVariants as edi
use Rattle.edi_text.specs.Reading.{is_line_end}
use Rattle.crp_movins.specs.declared.fault.MovinsFault.{MovinsFault}
use Rattle.crp_movins.specs.declared.fault.MovinsFault.TheVariants as movins
use Rattle.crp_sizes.specs.Sizes.{YardSizes}
use Rattle.crp_places.specs.Lines.{line_of}
use Rattle.crp_places.specs.Records.{record_start}
use Rattle.crp_places.specs.Segments.{IsSegmentText, IsSpelledBy}
use Rattle.crp_jobs.specs.declared.job.Job.{Job}
use Rattle.crp_jobs.specs.declared.job.Job.TheVariants as job
use Rattle.crp_jobs.specs.declared.job.FileCommand.TheVariants as command
use Rattle.crp_jobs.specs.declared.plain.TheConstants.{MOST_FOUND}
use Rattle.crp_files.specs.Known.{IsFront}
use Rattle.crp_jobs.specs.Found.{plain}
use Rattle.crp_jobs.specs.Names.{report_name}

-- ---- what a fault names

-- the offset in a message that the fault names
abbrev pub offset_named : EdiFault → Option ℕ
offset_named (edi.NoSegment n) = Some n
offset_named (edi.Advice n) = Some n
offset_named (edi.Unfinished n) = Some n
offset_named (edi.Tag n) = Some n
offset_named (edi.Release n) = Some n
offset_named (edi.Control n) = Some n
offset_named (edi.TooLong n) = Some n
offset_named edi.Memory = None

-- the segment of a message that the fault names
abbrev pub segment_named : MovinsFault → Option ℕ
segment_named (movins.NoInterchangeHeader n) = Some n
segment_named (movins.InterchangeHeader n) = Some n
segment_named (movins.FunctionalGroup n) = Some n
segment_named (movins.OutOfPlace n) = Some n
segment_named (movins.MessageCount n) = Some n
segment_named (movins.MessageReference n) = Some n
segment_named (movins.InterchangeCount n) = Some n
segment_named (movins.InterchangeReference n) = Some n
segment_named (movins.AfterTrailer n) = Some n
segment_named (movins.MessageType n) = Some n
segment_named (movins.SlotNumber n) = Some n
segment_named (movins.OrderedTwice n first) = Some n
segment_named (movins.TooManyOrders n) = Some n
segment_named movins.Memory = None

-- the segment of one that orders a container again, with the one that orders it first
abbrev pub again_named : MovinsFault → Option (ℕ × ℕ)
again_named (movins.OrderedTwice n first) = Some (n, first)
again_named f = None

-- the yard list of a job, by its name
abbrev pub yard_named : Job → Option (List ℕ)
yard_named (job.OneFile file command stop) = None
yard_named (job.Absent names settings) = Some names.yard.now
yard_named (job.Audit names settings) = Some names.yard.now
yard_named (job.Follow names settings) = Some names.yard.now
yard_named (job.Compare names settings) = Some names.yard.now
yard_named (job.Solve names settings quiet progress) = Some names.yard.now

-- its list of sizes
abbrev pub sizes_named : Job → Option (List ℕ)
sizes_named (job.OneFile file command stop) = None
sizes_named (job.Absent names settings) = option_map (λ name. name.now) names.sizes
sizes_named (job.Audit names settings) = option_map (λ name. name.now) names.sizes
sizes_named (job.Follow names settings) = option_map (λ name. name.now) names.sizes
sizes_named (job.Compare names settings) = option_map (λ name. name.now) names.sizes
sizes_named (job.Solve names settings quiet progress) = option_map (λ name. name.now) names.sizes

-- the sizes of bays that it was given: those of all, where it names no list
abbrev pub sizes_of : Job → Option YardSizes
sizes_of (job.OneFile file command stop) = None
sizes_of (job.Absent names settings) = Some settings.sizes
sizes_of (job.Audit names settings) = Some settings.sizes
sizes_of (job.Follow names settings) = Some settings.sizes
sizes_of (job.Compare names settings) = Some settings.sizes
sizes_of (job.Solve names settings quiet progress) = Some settings.input.sizes

-- its message
abbrev pub message_named : Job → Option (List ℕ)
message_named (job.OneFile file command stop) = None
message_named (job.Absent names settings) = Some names.movins.now
message_named (job.Audit names settings) = Some names.movins.now
message_named (job.Follow names settings) = option_map (λ name. name.now) names.movins
message_named (job.Compare names settings) = None
message_named (job.Solve names settings quiet progress) = Some names.movins.now

-- its report; one that is followed and is read from the standard input has no name
abbrev pub report_named : Job → Option (List ℕ)
report_named (job.OneFile file command.Rewrite stop) = report_name file.now
report_named (job.OneFile file command.Replay stop) = None
report_named (job.OneFile file (command.Bound chains json) stop) = None
report_named (job.OneFile file (command.Check any_size workers json) stop) = None
report_named (job.OneFile file (command.Prove search) stop) = None
report_named (job.Absent names settings) = None
report_named (job.Audit names settings) = Some names.report.now
report_named (job.Follow names settings) = report_name names.report.now
report_named (job.Compare names settings) = report_name names.report.now
report_named (job.Solve names settings quiet progress) = None

-- its second report, where it compares two
abbrev pub second_named : Job → Option (List ℕ)
second_named (job.Compare names settings) = report_name names.second.now
second_named j = None

-- ---- what is said of it

-- a text as a line shows it: as much of it as there is room for, and a question mark for each byte that is not printable ASCII
abbrev pub shown : List ℕ → List ℕ
shown text = take MOST_FOUND (map plain text)

-- the bytes before the first line end
abbrev pub line_front : List ℕ → List ℕ
line_front text = take (unwrap_or (position is_line_end text) (length text)) text

-- what is said of a thing with this number in this line: which line that is, and which bytes stand there, if any do
abbrev pub place_text : List ℕ → ℕ → ℕ → List ℕ → List ℕ
place_text what n line [] = what ++ (decimal n ++ (codes " is at the end of line " ++ decimal line))
place_text what n line (b ∷ bytes) = what ++ (decimal n ++ (codes " is at line " ++ (decimal line ++ (codes ": " ++ b ∷ bytes))))

-- what is said where the text ends before it
abbrev pub end_text : List ℕ → List ℕ
end_text text = codes "the file ends at line " ++ decimal (line_of text (length text))

-- what is said of a thing that stands at this offset: its line, and the bytes from there to the end of the line
abbrev pub said_at : List ℕ → ℕ → List ℕ → Option ℕ → List ℕ
said_at what n text None = end_text text
said_at what n text (Some offset) = place_text what n (line_of text offset) (line_front (drop offset text))

-- the line on a record, by its number, of a list with this byte between its fields
abbrev pub IsRecordLine : ℕ → ℕ → List ℕ → List ℕ → Type 0
IsRecordLine separator n text line = line ≡ shown (said_at (codes "record ") n text (record_start separator text n))

-- the line on an offset
abbrev pub IsOffsetLine : ℕ → List ℕ → List ℕ → Type 0
IsOffsetLine n text line = line ≡ shown (said_at (codes "offset ") n text (if nat_lt n (length text) then Some n else None))

-- the line on a segment, by its number: what stands at its offset is the segment with its terminator; behind the last segment the text ends
pub record IsSegmentLine (n : ℕ) (text line : List ℕ) : Type 0 where
  pub there : (offset : ℕ) (own : List ℕ) → IsSegmentText text n offset own → line ≡ shown (place_text (codes "segment ") n (line_of text offset) (line_front own))
  pub none : (count : ℕ) → IsSpelledBy text count → count < n → line ≡ shown (end_text text)

-- ---- of the file of a fault

-- the line is made of what the file begins with, as far as its bytes are known
abbrev pub IsOfFront : Option (List ℕ) → (List ℕ → Type 0) → Type 0
IsOfFront known Holds = (front : List ℕ) × IsFront known front × Holds front
