-- How a check goes on from certificate to certificate and from piece to piece, and how it stops.
use Rattle.std.proofs.Common.{◌≡◌, ◌≢◌, ℕ, ◌+◌, ◌-◌, ◌^◌, ◌<◌, ◌≤◌, ◌⊎◌, ⊎_elim, inl, inr, List, [], ◌∷◌, ◌++◌, length, take, drop, Option, None, Some, IfSome, refl, sym, ap, ◌∙◌, subst, arith, append_assoc, length-append, take-append-drop}
use Rattle.std.proofs.lemmas.Bool.{cases_lt}
use Rattle.std.proofs.lemmas.List.{append-nil, length-take, take-take}
use Rattle.std.proofs.lemmas.Grind.{flat_map-append}
use Rattle.std.specs.Io.KnownBytes.{Appends, Consumes, IsAtEnd}
use Rattle.std.proofs.KnownBytes.{Appends-trans, Appends-kept, Consumes-trans, Consumes-whole}
use Rattle.crp_plan.specs.BayNames.{YardBay}
use Rattle.crp_plan.specs.Devices.{AppendsPart, HasFailed}
use Rattle.crp_plan.proofs.Fronts.{Appends-then_part}
use Rattle.crp_yard.specs.Reading.{IsTextOf}
use Rattle.crp_checker.specs.declared.verdict.Verdict.{Verdict}
use Rattle.crp_checker.specs.declared.refused.Refused.{Refused}
use Rattle.crp_checker.specs.declared.refused.Refused.TheVariants as refused
use Rattle.crp_checker.specs.declared.file_checker.FileChecker.{FileChecker}
use Rattle.crp_checker.specs.Files.{FileShows, IsFileRefusal}
use Rattle.crp_checker.specs.FedFiles.{HasReadFile}
use Rattle.crp_jobs.specs.declared.outcome.ToolFault.{ToolFault}
use Rattle.crp_jobs.specs.declared.outcome.ToolFault.TheVariants as fault
use Rattle.crp_commands.specs.Calls.{CallSeen, IsTextWithin}
use Rattle.crp_commands.specs.Check.{verdict_line, verdict_lines, fault_of_refusal, IsReadFrom, WritesEach, CheckFailsWith}
use Rattle.crp_commands.specs.Checks.{TextFailsWith, HasChecked, IsChecking, ChecksPiece, AreEndedIn, BytesFailWith, PieceFailsWith, CheckState, StandsAfter, CheckHasGoneOn, CheckStopsAt}

-- how the refusal of a certificate is stated
by_refusal' : (P : ToolFault → Type 0) (number : ℕ) (why : Refused) → P fault.Memory → (why ≢ refused.Memory → P (fault.Checked number why)) → P (fault_of_refusal number why)
by_refusal' P number refused.Memory memory some = memory
by_refusal' P number (refused.Cert fault) memory some = some (λ e. cc)
by_refusal' P number refused.OtherProblem memory some = some (λ e. cc)
by_refusal' P number (refused.Plan fault) memory some = some (λ e. cc)
by_refusal' P number refused.NoFirstPlan memory some = some (λ e. cc)
by_refusal' P number (refused.Low part symbol) memory some = some (λ e. cc)
by_refusal' P number (refused.Finished part symbol) memory some = some (λ e. cc)
by_refusal' P number (refused.Unshown part symbol) memory some = some (λ e. cc)
by_refusal' P number (refused.Missing name) memory some = some (λ e. cc)
by_refusal' P number (refused.Unneeded name) memory some = some (λ e. cc)

pub by_refusal : (P : ToolFault → Type 0) (number : ℕ) (why : Refused) (f : ToolFault) → f ≡ fault_of_refusal number why → P fault.Memory → (why ≢ refused.Memory → P (fault.Checked number why)) → P f
by_refusal P number why f e memory some = subst P (sym e) (by_refusal' P number why memory some)

-- ---- what a sink holds

-- one line more
pub lines_more : (verdicts : List (YardBay × Verdict)) (stated : YardBay × Verdict) → verdict_lines (verdicts ++ stated ∷ []) ≡ verdict_lines verdicts ++ verdict_line stated
lines_more verdicts stated = flat_map-append verdict_line verdicts (stated ∷ []) ∙ ap (λ l. verdict_lines verdicts ++ l) (append-nil (verdict_line stated))

pub appends_line : (held holds new : Option (List ℕ)) (verdicts : List (YardBay × Verdict)) (stated : YardBay × Verdict) → Appends held holds (verdict_lines verdicts) → Appends holds new (verdict_line stated) →
    Appends held new (verdict_lines (verdicts ++ stated ∷ []))
appends_line held holds new verdicts stated written more = subst (Appends held new) (sym (lines_more verdicts stated)) (Appends-trans held holds new (verdict_lines verdicts) (verdict_line stated) written more)

-- a part of one line more
pub appends_part : (held holds new : Option (List ℕ)) (verdicts : List (YardBay × Verdict)) (stated : YardBay × Verdict) → Appends held holds (verdict_lines verdicts) → AppendsPart holds new (verdict_line stated) →
    AppendsPart held new (verdict_lines (verdicts ++ stated ∷ []))
appends_part held holds new verdicts stated written part =
    let whole : verdict_lines verdicts ++ (verdict_line stated ++ []) ≡ verdict_lines (verdicts ++ stated ∷ []) =
    ap (λ l. verdict_lines verdicts ++ l) (append-nil (verdict_line stated)) ∙ sym (lines_more verdicts stated) in
    subst (AppendsPart held new) whole (Appends-then_part held holds new (verdict_lines verdicts) (verdict_line stated) [] written part)

-- a device that has failed since, has failed since any time before
pub failed_since : (first before after : ℕ) → first ≤ before → before ≤ after → HasFailed before after → HasFailed first after
failed_since first before after le grows failed = λ small. ⊎_elim (λ lt. let more = failed lt in omega arith) (λ ge. omega arith) (cases_lt before (2 ^ 64 - 1))

-- ---- certificates that have ended

-- in what was read
pub ended_before : (file piece : List ℕ) (verdicts : List (YardBay × Verdict)) (files : FileChecker) → HasReadFile file verdicts files → AreEndedIn (file ++ piece) verdicts
ended_before file piece verdicts files has = record { read = file; after = piece; rest = has.text; is = refl; front = has.front }

-- in what was read of a piece
pub ended_within : (file piece : List ℕ) (n : ℕ) (verdicts : List (YardBay × Verdict)) (files : FileChecker) → HasReadFile (file ++ take n piece) verdicts files → AreEndedIn (file ++ piece) verdicts
ended_within file piece n verdicts files has =
    record { read = file ++ take n piece; after = drop n piece; rest = has.text; is = ap (λ l. file ++ l) (sym (take-append-drop n piece)) ∙ sym (append_assoc file (take n piece) (drop n piece)); front = has.front }

-- ---- from certificate to certificate

pub none_more : (held holds : Option (List ℕ)) (file piece : List ℕ) (verdicts : List (YardBay × Verdict)) (files next : FileChecker) (number : ℕ) → HasChecked held holds file verdicts files number →
    HasReadFile (file ++ piece) verdicts next → HasChecked held holds (file ++ piece) verdicts next number
none_more held holds file piece verdicts files next number has read = record { read = read; next = has.next; written = has.written }

pub one_more : (held holds new : Option (List ℕ)) (file piece : List ℕ) (verdicts : List (YardBay × Verdict)) (stated : YardBay × Verdict) (files next : FileChecker) (number : ℕ) →
    HasChecked held holds file verdicts files number → HasReadFile (file ++ piece) (verdicts ++ stated ∷ []) next → Appends holds new (verdict_line stated) →
    HasChecked held new (file ++ piece) (verdicts ++ stated ∷ []) next (number + 1)
one_more held holds new file piece verdicts stated files next number has read more = record {
  read = read;
  next = omega (arith, has.next, length-append verdicts (stated ∷ []));
  written = appends_line held holds new verdicts stated has.written more;
}

-- a line that is not written
pub line_stops : (held holds new : Option (List ℕ)) (before after : ℕ) (file piece : List ℕ) (verdicts : List (YardBay × Verdict)) (stated : YardBay × Verdict) (files : FileChecker) (number : ℕ) (f : ToolFault) →
    HasChecked held holds file verdicts files number → AreEndedIn (file ++ piece) (verdicts ++ stated ∷ []) → TextFailsWith holds new before after (verdict_line stated) f → BytesFailWith held new before after (file ++ piece) f
line_stops held holds new before after file piece verdicts stated files number fault.Memory has ended why =
    (verdicts, ended_before file piece verdicts files has.read, Appends-kept held holds new (verdict_lines verdicts) has.written why)
line_stops held holds new before after file piece verdicts stated files number fault.Write has ended why =
    (why.0, (verdicts ++ stated ∷ [], ended, appends_part held holds new verdicts stated has.written why.1))
line_stops held holds new before after file piece verdicts stated files number fault.Read has ended why = absurd why
line_stops held holds new before after file piece verdicts stated files number fault.TooLarge has ended why = absurd why
line_stops held holds new before after file piece verdicts stated files number (fault.Checked n r) has ended why = absurd why
line_stops held holds new before after file piece verdicts stated files number (fault.Cert f) has ended why = absurd why
line_stops held holds new before after file piece verdicts stated files number (fault.Plan f) has ended why = absurd why
line_stops held holds new before after file piece verdicts stated files number (fault.Run f) has ended why = absurd why
line_stops held holds new before after file piece verdicts stated files number (fault.Audited f) has ended why = absurd why
line_stops held holds new before after file piece verdicts stated files number (fault.ReadOf which) has ended why = absurd why
line_stops held holds new before after file piece verdicts stated files number (fault.TooLargeOf which) has ended why = absurd why
line_stops held holds new before after file piece verdicts stated files number (fault.Followed f) has ended why = absurd why
line_stops held holds new before after file piece verdicts stated files number (fault.Loaded f) has ended why = absurd why
line_stops held holds new before after file piece verdicts stated files number (fault.Unstated f) has ended why = absurd why
line_stops held holds new before after file piece verdicts stated files number (fault.Second f) has ended why = absurd why
line_stops held holds new before after file piece verdicts stated files number (fault.Sizes f) has ended why = absurd why
line_stops held holds new before after file piece verdicts stated files number fault.ReadSizes has ended why = absurd why
line_stops held holds new before after file piece verdicts stated files number fault.ReadSecond has ended why = absurd why
line_stops held holds new before after file piece verdicts stated files number fault.WriteTable has ended why = absurd why
line_stops held holds new before after file piece verdicts stated files number fault.WritePage has ended why = absurd why
line_stops held holds new before after file piece verdicts stated files number (fault.OneFile both) has ended why = absurd why

-- a certificate that is refused
pub refusal_stops : (held holds : Option (List ℕ)) (before after : ℕ) (file piece : List ℕ) (verdicts : List (YardBay × Verdict)) (files : FileChecker) (number : ℕ) (why : Refused) (f : ToolFault) →
    HasChecked held holds file verdicts files number → f ≡ fault_of_refusal number why →
    (why ≡ refused.Memory) ⊎ ((read : List ℕ) (shown : List (YardBay × Verdict)) (more : List ℕ) → HasReadFile read shown files → IsFileRefusal (read ++ (piece ++ more)) shown (length shown + 1) why) →
    BytesFailWith held holds before after (file ++ piece) f
refusal_stops held holds before after file piece verdicts files number why f has e refused =
    by_refusal (BytesFailWith held holds before after (file ++ piece)) number why f e
    (verdicts, ended_before file piece verdicts files has.read, has.written)
    (λ some. (
      some,
      (
        verdict_lines verdicts,
        λ more. (
          verdicts,
          subst (λ (n : ℕ). IsFileRefusal ((file ++ piece) ++ more) verdicts n why) (sym has.next)
              (subst (λ (l : List ℕ). IsFileRefusal l verdicts (length verdicts + 1) why) (sym (append_assoc file piece more)) (⊎_elim (λ memory. absurd (some memory)) (λ is. is file verdicts more has.read) refused)),
          refl,
        ),
        has.written,
      ),
    ))

-- ---- from piece to piece

-- a piece, said otherwise
pub checks_same : (one two : List ℕ) (a b : Option (List ℕ)) (f g : FileChecker) (m n : ℕ) → one ≡ two → ChecksPiece one a f m b g n → ChecksPiece two a f m b g n
checks_same one two a b f g m n e checks = subst (λ (l : List ℕ). ChecksPiece l a f m b g n) e checks

-- two pieces, one after the other
pub checks_both : (one two all : List ℕ) (a b c : Option (List ℕ)) (f g h : FileChecker) (m n o : ℕ) → one ++ two ≡ all → ChecksPiece one a f m b g n → ChecksPiece two b g n c h o → ChecksPiece all a f m c h o
checks_both one two all a b c f g h m n o e first second held file verdicts has =
    let mid = first held file verdicts has in
    let end' = second held (file ++ one) mid.0 mid.1 in
    (end'.0, subst (λ (l : List ℕ). HasChecked held c l end'.0 h o) (append_assoc file one two ∙ ap (λ l. file ++ l) e) end'.1)

-- a fault counts from an earlier time on
earlier_bytes : (held holds : Option (List ℕ)) (first before after : ℕ) (bytes : List ℕ) (f : ToolFault) → first ≤ before → before ≤ after → BytesFailWith held holds before after bytes f → BytesFailWith held holds first after bytes f
earlier_bytes held holds first before after bytes (fault.Checked n r) le grows tells = tells
earlier_bytes held holds first before after bytes fault.Write le grows tells = (failed_since first before after le grows tells.0, tells.1)
earlier_bytes held holds first before after bytes fault.Memory le grows tells = tells
earlier_bytes held holds first before after bytes fault.Read le grows tells = absurd tells
earlier_bytes held holds first before after bytes fault.TooLarge le grows tells = absurd tells
earlier_bytes held holds first before after bytes (fault.Cert f) le grows tells = absurd tells
earlier_bytes held holds first before after bytes (fault.Plan f) le grows tells = absurd tells
earlier_bytes held holds first before after bytes (fault.Run f) le grows tells = absurd tells
earlier_bytes held holds first before after bytes (fault.Audited f) le grows tells = absurd tells
earlier_bytes held holds first before after bytes (fault.ReadOf which) le grows tells = absurd tells
earlier_bytes held holds first before after bytes (fault.TooLargeOf which) le grows tells = absurd tells
earlier_bytes held holds first before after bytes (fault.Followed f) le grows tells = absurd tells
earlier_bytes held holds first before after bytes (fault.Loaded f) le grows tells = absurd tells
earlier_bytes held holds first before after bytes (fault.Unstated f) le grows tells = absurd tells
earlier_bytes held holds first before after bytes (fault.Second f) le grows tells = absurd tells
earlier_bytes held holds first before after bytes (fault.Sizes f) le grows tells = absurd tells
earlier_bytes held holds first before after bytes fault.ReadSizes le grows tells = absurd tells
earlier_bytes held holds first before after bytes fault.ReadSecond le grows tells = absurd tells
earlier_bytes held holds first before after bytes fault.WriteTable le grows tells = absurd tells
earlier_bytes held holds first before after bytes fault.WritePage le grows tells = absurd tells
earlier_bytes held holds first before after bytes (fault.OneFile both) le grows tells = absurd tells

-- a fault after a piece that was checked
pub stops_after : (one two all : List ℕ) (a b c : Option (List ℕ)) (f g : FileChecker) (m n first before after : ℕ) (why : ToolFault) → one ++ two ≡ all → first ≤ before → before ≤ after →
    ChecksPiece one a f m b g n → PieceFailsWith two b g n c before after why → PieceFailsWith all a f m c first after why
stops_after one two all a b c f g m n first before after why e le grows checks tells held file verdicts has =
    let mid = checks held file verdicts has in
    subst (λ (l : List ℕ). BytesFailWith held c first after l why) (append_assoc file one two ∙ ap (λ l. file ++ l) e)
    (earlier_bytes held c first before after ((file ++ one) ++ two) why le grows (tells held (file ++ one) mid.0 mid.1))

-- a check that goes on is one
pub still_checking : (piece : List ℕ) (a b : Option (List ℕ)) (f g : FileChecker) (m n : ℕ) → IsChecking a f m → ChecksPiece piece a f m b g n → IsChecking b g n
still_checking piece a b f g m n (held, file, verdicts, has) checks = let new = checks held file verdicts has in (held, file ++ piece, new.0, new.1)

-- none of a piece
pub checks_none : (a : Option (List ℕ)) (f : FileChecker) (m : ℕ) → ChecksPiece [] a f m a f m
checks_none a f m held file verdicts has = (verdicts, subst (λ (l : List ℕ). HasChecked held a l verdicts f m) (sym (append-nil file)) has)

-- ---- what was read from the source

pub front_read : (given remaining : Option (List ℕ)) (read more : List ℕ) → Consumes given remaining (read ++ more) → IsReadFrom given read
front_read None remaining read more c = tt
front_read (Some xs) None read more c = absurd c
front_read (Some xs) (Some ys) read more c = (more ++ ys, c ∙ append_assoc read more ys)

pub all_read : (given remaining : Option (List ℕ)) (read : List ℕ) → Consumes given remaining read → IsReadFrom given read
all_read given remaining read c = front_read given remaining read [] (subst (Consumes given remaining) (sym (append-nil read)) c)

-- some text begins so, which is the source's
text_from : (given : Option (List ℕ)) (read : List ℕ) → IsReadFrom given read → (more : List ℕ) × IsTextOf given (read ++ more)
text_from None read is = ([], tt)
text_from (Some xs) read is = (is.0, sym is.1)

pub more_than : (given remaining : Option (List ℕ)) (read : List ℕ) (limit : ℕ) → Consumes given remaining read → limit < length read → IfSome given (λ xs. limit < length xs)
more_than None remaining read limit c lt = tt
more_than (Some xs) None read limit c lt = absurd c
more_than (Some xs) (Some ys) read limit c lt = omega (arith, lt, ap length c, length-append read ys)

-- bytes in front of which so many were read
read_within : (given : Option (List ℕ)) (bytes read after : List ℕ) → bytes ≡ read ++ after → IsReadFrom given bytes → IsReadFrom given read
read_within None bytes read after e is = tt
read_within (Some xs) bytes read after e is = (after ++ is.0, is.1 ∙ ap (λ l. l ++ is.0) e ∙ append_assoc read after is.0)

-- ---- how a check stops

-- at bytes that were read from the source
pub bytes_stop : (limit : ℕ) (s : CallSeen) (bytes : List ℕ) (f : ToolFault) → IsReadFrom s.given bytes → length bytes ≤ limit → BytesFailWith s.held s.holds s.sink_before s.sink_after bytes f → CheckFailsWith limit s f
bytes_stop limit s bytes (fault.Checked n why) is within tells =
    let text = text_from s.given bytes is in
    let stated = tells.1 in
    (tells.0, (bytes ++ text.0, stated.0, text.1, stated.1 text.0, stated.2))
bytes_stop limit s bytes fault.Write is within tells =
    let stated = tells.1 in
    let ended = stated.1 in
    let front : length ended.read ≤ limit = omega (arith, within, ap length ended.is, length-append ended.read ended.after) in
    (tells.0, (stated.0, inl (ended.read, ended.rest, front, read_within s.given bytes ended.read ended.after ended.is is, ended.front), stated.2))
bytes_stop limit s bytes fault.Memory is within tells =
    let ended = tells.1 in
    let front : length ended.read ≤ limit = omega (arith, within, ap length ended.is, length-append ended.read ended.after) in
    (ended.read, ended.rest, front, (read_within s.given bytes ended.read ended.after ended.is is, (tells.0, ended.front, tells.2)))
bytes_stop limit s bytes fault.Read is within tells = absurd tells
bytes_stop limit s bytes fault.TooLarge is within tells = absurd tells
bytes_stop limit s bytes (fault.Cert f) is within tells = absurd tells
bytes_stop limit s bytes (fault.Plan f) is within tells = absurd tells
bytes_stop limit s bytes (fault.Run f) is within tells = absurd tells
bytes_stop limit s bytes (fault.Audited f) is within tells = absurd tells
bytes_stop limit s bytes (fault.ReadOf which) is within tells = absurd tells
bytes_stop limit s bytes (fault.TooLargeOf which) is within tells = absurd tells
bytes_stop limit s bytes (fault.Followed f) is within tells = absurd tells
bytes_stop limit s bytes (fault.Loaded f) is within tells = absurd tells
bytes_stop limit s bytes (fault.Unstated f) is within tells = absurd tells
bytes_stop limit s bytes (fault.Second f) is within tells = absurd tells
bytes_stop limit s bytes (fault.Sizes f) is within tells = absurd tells
bytes_stop limit s bytes fault.ReadSizes is within tells = absurd tells
bytes_stop limit s bytes fault.ReadSecond is within tells = absurd tells
bytes_stop limit s bytes fault.WriteTable is within tells = absurd tells
bytes_stop limit s bytes fault.WritePage is within tells = absurd tells
bytes_stop limit s bytes (fault.OneFile both) is within tells = absurd tells

-- a line was written for each certificate that has ended in the file
pub wrote_each : (s : CallSeen) (file : List ℕ) (verdicts : List (YardBay × Verdict)) (files : FileChecker) (number : ℕ) → IsReadFrom s.given file → HasChecked s.held s.holds file verdicts files number → WritesEach s file
wrote_each s file verdicts files number is has =
    let read = has.read in
    let un = read.unended in
    (read.text, record { lines = un.lines; begun = un.begun; others = un.others; open_line = un.open_line; is = un.is }, (is, (verdicts, read.front, has.written)))

abbrev pub seen_by : (given held holds : Option (List ℕ)) (source_before source_after sink_before sink_after : ℕ) → CallSeen
seen_by given held holds source_before source_after sink_before sink_after =
    record { given = given; held = held; holds = holds; source_before = source_before; source_after = source_after; sink_before = sink_before; sink_after = sink_after }

-- a fault counts from an earlier time on
pub earlier_check : (limit : ℕ) (given held holds : Option (List ℕ)) (source before after sink first last : ℕ) (f : ToolFault) → source ≤ before → before ≤ after → sink ≤ first → first ≤ last →
    CheckFailsWith limit (seen_by given held holds before after first last) f → CheckFailsWith limit (seen_by given held holds source after sink last) f
earlier_check limit given held holds source before after sink first last (fault.Checked n why) a b c d tells = tells
earlier_check limit given held holds source before after sink first last fault.Read a b c d tells = (failed_since source before after a b tells.0, tells.1)
earlier_check limit given held holds source before after sink first last fault.Write a b c d tells = (failed_since sink first last c d tells.0, tells.1)
earlier_check limit given held holds source before after sink first last fault.TooLarge a b c d tells = tells
earlier_check limit given held holds source before after sink first last fault.Memory a b c d tells = tells
earlier_check limit given held holds source before after sink first last (fault.Cert f) a b c d tells = absurd tells
earlier_check limit given held holds source before after sink first last (fault.Plan f) a b c d tells = absurd tells
earlier_check limit given held holds source before after sink first last (fault.Run f) a b c d tells = absurd tells
earlier_check limit given held holds source before after sink first last (fault.Audited f) a b c d tells = absurd tells
earlier_check limit given held holds source before after sink first last (fault.ReadOf which) a b c d tells = absurd tells
earlier_check limit given held holds source before after sink first last (fault.TooLargeOf which) a b c d tells = absurd tells
earlier_check limit given held holds source before after sink first last (fault.Followed f) a b c d tells = absurd tells
earlier_check limit given held holds source before after sink first last (fault.Loaded f) a b c d tells = absurd tells
earlier_check limit given held holds source before after sink first last (fault.Unstated f) a b c d tells = absurd tells
earlier_check limit given held holds source before after sink first last (fault.Second f) a b c d tells = absurd tells
earlier_check limit given held holds source before after sink first last (fault.Sizes f) a b c d tells = absurd tells
earlier_check limit given held holds source before after sink first last fault.ReadSizes a b c d tells = absurd tells
earlier_check limit given held holds source before after sink first last fault.ReadSecond a b c d tells = absurd tells
earlier_check limit given held holds source before after sink first last fault.WriteTable a b c d tells = absurd tells
earlier_check limit given held holds source before after sink first last fault.WritePage a b c d tells = absurd tells
earlier_check limit given held holds source before after sink first last (fault.OneFile both) a b c d tells = absurd tells

-- at the last line
pub last_stops : (limit : ℕ) (s : CallSeen) (holds : Option (List ℕ)) (file : List ℕ) (verdicts : List (YardBay × Verdict)) (stated : YardBay × Verdict) (files : FileChecker) (number : ℕ) (f : ToolFault) →
    IsTextWithin limit s.given file → IsReadFrom s.given file → HasChecked s.held holds file verdicts files number → FileShows file (verdicts ++ stated ∷ []) →
    TextFailsWith holds s.holds s.sink_before s.sink_after (verdict_line stated) f → CheckFailsWith limit s f
last_stops limit s holds file verdicts stated files number fault.Memory text is has shows why =
    let read = has.read in (file, read.text, text.0, (is, (verdicts, read.front, Appends-kept s.held holds s.holds (verdict_lines verdicts) has.written why)))
last_stops limit s holds file verdicts stated files number fault.Write text is has shows why =
    (why.0, (verdicts ++ stated ∷ [], inr (file, text, shows), appends_part s.held holds s.holds verdicts stated has.written why.1))
last_stops limit s holds file verdicts stated files number fault.Read text is has shows why = absurd why
last_stops limit s holds file verdicts stated files number fault.TooLarge text is has shows why = absurd why
last_stops limit s holds file verdicts stated files number (fault.Checked n r) text is has shows why = absurd why
last_stops limit s holds file verdicts stated files number (fault.Cert f) text is has shows why = absurd why
last_stops limit s holds file verdicts stated files number (fault.Plan f) text is has shows why = absurd why
last_stops limit s holds file verdicts stated files number (fault.Run f) text is has shows why = absurd why
last_stops limit s holds file verdicts stated files number (fault.Audited f) text is has shows why = absurd why
last_stops limit s holds file verdicts stated files number (fault.ReadOf which) text is has shows why = absurd why
last_stops limit s holds file verdicts stated files number (fault.TooLargeOf which) text is has shows why = absurd why
last_stops limit s holds file verdicts stated files number (fault.Followed f) text is has shows why = absurd why
last_stops limit s holds file verdicts stated files number (fault.Loaded f) text is has shows why = absurd why
last_stops limit s holds file verdicts stated files number (fault.Unstated f) text is has shows why = absurd why
last_stops limit s holds file verdicts stated files number (fault.Second f) text is has shows why = absurd why
last_stops limit s holds file verdicts stated files number (fault.Sizes f) text is has shows why = absurd why
last_stops limit s holds file verdicts stated files number fault.ReadSizes text is has shows why = absurd why
last_stops limit s holds file verdicts stated files number fault.ReadSecond text is has shows why = absurd why
last_stops limit s holds file verdicts stated files number fault.WriteTable text is has shows why = absurd why
last_stops limit s holds file verdicts stated files number fault.WritePage text is has shows why = absurd why
last_stops limit s holds file verdicts stated files number (fault.OneFile both) text is has shows why = absurd why

-- at the last certificate
pub last_refused : (limit : ℕ) (s : CallSeen) (file : List ℕ) (verdicts : List (YardBay × Verdict)) (files : FileChecker) (number : ℕ) (why : Refused) (f : ToolFault) →
    IsTextWithin limit s.given file → IsReadFrom s.given file → HasChecked s.held s.holds file verdicts files number → f ≡ fault_of_refusal number why →
    (why ≡ refused.Memory) ⊎ ((read : List ℕ) (shown : List (YardBay × Verdict)) → HasReadFile read shown files → IsFileRefusal read shown (length shown + 1) why) → CheckFailsWith limit s f
last_refused limit s file verdicts files number why f text is has e refused =
    let read = has.read in
    by_refusal (CheckFailsWith limit s) number why f e
    (file, read.text, text.0, (is, (verdicts, read.front, has.written)))
    (λ some. (
      some,
      (
        file,
        verdict_lines verdicts,
        text.1,
        (verdicts, subst (λ (n : ℕ). IsFileRefusal file verdicts n why) (sym has.next) (⊎_elim (λ memory. absurd (some memory)) (λ r. r file verdicts has.read) refused), refl),
        has.written,
      ),
    ))

-- ---- from one read to the next

-- the file with a front of what was read, and the rest of that
front_fed : (given remaining new : Option (List ℕ)) (file piece : List ℕ) (k n : ℕ) → k ≤ n → Consumes given remaining file → Consumes remaining new (take n piece) → IsReadFrom given (file ++ take k piece)
front_fed given remaining new file piece k n le first second =
    let parts : file ++ take n piece ≡ (file ++ take k piece) ++ drop k (take n piece) =
    ap (λ l. file ++ l) (sym (take-append-drop k (take n piece)) ∙ ap (λ l. l ++ drop k (take n piece)) (take-take k n piece le)) ∙ sym (append_assoc file (take k piece) (drop k (take n piece))) in
    front_read given new (file ++ take k piece) (drop k (take n piece)) (subst (Consumes given new) parts (Consumes-trans given remaining new file (take n piece) first second))

-- a read that has failed
pub read_stops : (remaining holds : Option (List ℕ)) (files : FileChecker) (number left before after sink_before sink_after : ℕ) → HasFailed before after →
    CheckStopsAt (record { remaining = remaining; holds = holds; files = files; number = number; left = left }) holds before after sink_before sink_after fault.Read
read_stops remaining holds files number left before after sink_before sink_after failed given held limit (file, verdicts, way) =
    (failed, (file, omega (arith, way.within), wrote_each (seen_by given held holds before after sink_before sink_after) file verdicts files number (all_read given remaining file way.consumed) way.checked))

-- the end of the source
pub goes_nowhere : (remaining new holds : Option (List ℕ)) (files : FileChecker) (number left n : ℕ) (piece : List ℕ) → n ≡ 0 → Consumes remaining new (take n piece) →
    CheckHasGoneOn (record { remaining = remaining; holds = holds; files = files; number = number; left = left }) (record { remaining = new; holds = holds; files = files; number = number; left = left })
goes_nowhere remaining new holds files number left n piece none got given held limit (file, verdicts, way) =
    let nothing : Consumes remaining new [] = subst (λ k. Consumes remaining new (take k piece)) none got in
    let consumed : Consumes given new file = subst (Consumes given new) (append-nil file) (Consumes-trans given remaining new file [] way.consumed nothing) in
    (file, verdicts, record { checked = way.checked; consumed = consumed; within = way.within })

-- a piece in which a fault came
pub piece_stops : (remaining new holds new_holds : Option (List ℕ)) (files : FileChecker) (number left k n source_before source_after before after : ℕ) (piece : List ℕ) (f : ToolFault) → k ≤ n → k ≤ left →
    Consumes remaining new (take n piece) → PieceFailsWith (take k piece) holds files number new_holds before after f →
    CheckStopsAt (record { remaining = remaining; holds = holds; files = files; number = number; left = left }) new_holds source_before source_after before after f
piece_stops remaining new holds new_holds files number left k n source_before source_after before after piece f le within got tells given held limit (file, verdicts, way) =
    bytes_stop limit (seen_by given held new_holds source_before source_after before after) (file ++ take k piece) f (front_fed given remaining new file piece k n le way.consumed got)
    (omega (arith, within, way.within, length-append file (take k piece), length-take k piece)) (tells held file verdicts way.checked)

-- more bytes than the limit
pub limit_stops : (remaining new holds new_holds : Option (List ℕ)) (files next : FileChecker) (number new_number left k n source_before source_after before after : ℕ) (piece : List ℕ) → k < n → k ≡ left → n ≤ length piece →
    Consumes remaining new (take n piece) → ChecksPiece (take k piece) holds files number new_holds next new_number →
    CheckStopsAt (record { remaining = remaining; holds = holds; files = files; number = number; left = left }) new_holds source_before source_after before after fault.TooLarge
limit_stops remaining new holds new_holds files next number new_number left k n source_before source_after before after piece lt all few got checks given held limit (file, verdicts, way) =
    let le : k ≤ n = omega (arith, lt) in
    let checked = checks held file verdicts way.checked in
    let more : limit < length (file ++ take n piece) = omega (arith, lt, all, few, way.within, length-append file (take n piece), length-take n piece) in
    let whole : length (file ++ take k piece) ≡ limit = omega (arith, lt, all, few, way.within, length-append file (take k piece), length-take k piece) in (
      more_than given new (file ++ take n piece) limit (Consumes-trans given remaining new file (take n piece) way.consumed got) more,
      (
        file ++ take k piece,
        whole,
        wrote_each (seen_by given held new_holds source_before source_after before after) (file ++ take k piece) checked.0 next new_number (front_fed given remaining new file piece k n le way.consumed got) checked.1,
      ),
    )

-- a whole piece
pub goes_on : (remaining new holds new_holds : Option (List ℕ)) (files next : FileChecker) (number new_number left new_left k n : ℕ) (piece : List ℕ) → k ≡ n → left ≡ new_left + n → n ≤ length piece →
    Consumes remaining new (take n piece) → ChecksPiece (take k piece) holds files number new_holds next new_number →
    CheckHasGoneOn (record { remaining = remaining; holds = holds; files = files; number = number; left = left }) (record { remaining = new; holds = new_holds; files = next; number = new_number; left = new_left })
goes_on remaining new holds new_holds files next number new_number left new_left k n piece all fewer few got checks given held limit (file, verdicts, way) =
    let whole = checks_same (take k piece) (take n piece) holds new_holds files next number new_number (ap (λ m. take m piece) all) checks in
    let checked = whole held file verdicts way.checked in (
      file ++ take n piece,
      checked.0,
      record {
        checked = checked.1;
        consumed = Consumes-trans given remaining new file (take n piece) way.consumed got;
        within = omega (arith, fewer, few, way.within, length-append file (take n piece), length-take n piece);
      },
    )

-- ---- from the beginning to the end

-- all bytes of the source were checked
pub record HasCheckedAll (given held holds : Option (List ℕ)) (limit : ℕ) (files : FileChecker) (number : ℕ) : Type 0 where
  pub file : List ℕ
  pub verdicts : List (YardBay × Verdict)
  pub checked : HasChecked held holds file verdicts files number
  pub text : IsTextWithin limit given file
  pub read : IsReadFrom given file

pub all_checked : (given held : Option (List ℕ)) (limit : ℕ) (s : CheckState) → StandsAfter given held limit s → IsAtEnd s.remaining → HasCheckedAll given held s.holds limit s.files s.number
all_checked given held limit s (file, verdicts, way) end' = record {
  file = file;
  verdicts = verdicts;
  checked = way.checked;
  text = (omega (arith, way.within), Consumes-whole given s.remaining file (λ xs. file ≡ xs) way.consumed end' refl);
  read = all_read given s.remaining file way.consumed;
}
