-- How what workers found is taken over, one part behind the other.
use Rattle.std.proofs.Common.{◌≡◌, ℕ, ◌+◌, ◌-◌, ◌<◌, ◌≤◌, List, [], ◌++◌, length, take, drop, Option, Bool, false, sym, ap, ◌∙◌, subst, arith, take-append-drop, length-append, inl, inr, ◌⊎◌, append_assoc}
use Rattle.std.proofs.lemmas.List.{append-nil, drop-drop, take_all}
use Rattle.std.proofs.lemmas.Grind.{flat_map-append}
use Rattle.std.proofs.Math.Seq.{take-add}
use Rattle.std.specs.Io.KnownBytes.{Appends, Consumes}
use Rattle.std.proofs.KnownBytes.{Appends-trans}
use Rattle.crp_plan.specs.BayNames.{YardBay}
use Rattle.crp_plan.specs.Devices.{AppendsPart, HasFailed}
use Rattle.crp_plan.proofs.Fronts.{Appends-then_part}
use Rattle.crp_checker.specs.declared.verdict.Verdict.{Verdict}
use Rattle.crp_checker.specs.declared.file_checker.FileChecker.{FileChecker}
use Rattle.crp_checker.specs.FedFiles.{HasReadFile, IsBegunBehind, IsEndedFront}
use Rattle.crp_checker.proofs.FileFed.{read_behind}
use Rattle.crp_jobs.specs.declared.outcome.ToolFault.{ToolFault}
use Rattle.crp_jobs.specs.declared.outcome.ToolFault.TheVariants as fault
use Rattle.crp_commands.specs.declared.apart.Found.{Found}
use Rattle.crp_commands.specs.Apart.{IsFoundIn}
use Rattle.crp_commands.specs.Check.{verdict_line, verdict_lines, IsCheckBefore}
use Rattle.crp_commands.specs.Checks.{BytesFailWith, ChecksPiece, PieceFailsWith, CheckStopsAt, CheckHasGoneOn}
use Rattle.crp_commands.proofs.Checked.{all_read, checks_both, checks_none, checks_same, ended_within, goes_on, limit_stops, piece_stops, read_stops}

-- the lines of some certificates, and then of others
lines_both : (verdicts more : List (YardBay × Verdict)) → verdict_lines (verdicts ++ more) ≡ verdict_lines verdicts ++ verdict_lines more
lines_both verdicts more = flat_map-append verdict_line verdicts more

-- no certificate has begun that has not ended
abbrev pub HasNotBegun : FileChecker → Type 0
HasNotBegun files = (file : List ℕ) (verdicts : List (YardBay × Verdict)) → HasReadFile file verdicts files → IsEndedFront file verdicts []

pub not_begun : (files : FileChecker) (begun : Bool) → begun ≡ false → ((file : List ℕ) (verdicts : List (YardBay × Verdict)) → HasReadFile file verdicts files → IsBegunBehind file verdicts begun) → HasNotBegun files
not_begun files begun none says file verdicts has =
    let at = says file verdicts has in
    subst (IsEndedFront file verdicts) (at.2.0 none) at.1

-- what was found at a place
found_at : (block : List ℕ) (at : ℕ) (found : Found) → (k : IsFoundIn block found) → found.from ≡ at → HasReadFile (take (found.to - at) (drop at block)) k.verdicts found.files
found_at block at found k here = subst (λ (n : ℕ). HasReadFile (take (found.to - n) (drop n block)) k.verdicts found.files) here k.read

-- the part is checked
pub checks_found : (block : List ℕ) (at : ℕ) (found : Found) (files : FileChecker) (number next : ℕ) (holds new : Option (List ℕ)) → IsFoundIn block found → found.from ≡ at → HasNotBegun files →
    next + 1 ≡ number + found.number → Appends holds new found.lines.bytes.items → ChecksPiece (take (found.to - at) (drop at block)) holds files number new found.files next
checks_found block at found files number next holds new k here none counted appended held file verdicts has =
    let part : List ℕ = take (found.to - at) (drop at block) in
    let lines : Appends holds new (verdict_lines k.verdicts) = subst (Appends holds new) k.lines appended in (
      verdicts ++ k.verdicts,
      record {
        read = read_behind file part verdicts k.verdicts found.files (none file verdicts has.read) (found_at block at found k here);
        next = omega (arith, counted, has.next, k.next, length-append verdicts k.verdicts);
        written = subst (Appends held new) (sym (lines_both verdicts k.verdicts)) (Appends-trans held holds new (verdict_lines verdicts) (verdict_lines k.verdicts) has.written lines);
      },
    )

-- or its lines are not all written
pub found_stops : (block : List ℕ) (at : ℕ) (found : Found) (files : FileChecker) (number before after : ℕ) (holds new : Option (List ℕ)) → IsFoundIn block found → found.from ≡ at → HasNotBegun files →
    HasFailed before after → AppendsPart holds new found.lines.bytes.items → PieceFailsWith (drop at block) holds files number new before after fault.Write
found_stops block at found files number before after holds new k here none failed part held file verdicts has =
    let read = read_behind file (take (found.to - at) (drop at block)) verdicts k.verdicts found.files (none file verdicts has.read) (found_at block at found k here) in
    let lines : AppendsPart holds new (verdict_lines k.verdicts) = subst (AppendsPart holds new) k.lines part in
    let whole : verdict_lines verdicts ++ (verdict_lines k.verdicts ++ []) ≡ verdict_lines (verdicts ++ k.verdicts) =
    ap (λ l. verdict_lines verdicts ++ l) (append-nil (verdict_lines k.verdicts)) ∙ sym (lines_both verdicts k.verdicts) in (
      failed,
      (
        verdicts ++ k.verdicts,
        ended_within file (drop at block) (found.to - at) (verdicts ++ k.verdicts) found.files read,
        subst (AppendsPart held new) whole (Appends-then_part held holds new (verdict_lines verdicts) (verdict_lines k.verdicts) [] has.written lines),
      ),
    )

-- a check down to a place, and from there to another
pub checks_on : (block : List ℕ) (m n : ℕ) (a b c : Option (List ℕ)) (f g h : FileChecker) (i j k : ℕ) → m ≤ n → ChecksPiece (take m block) a f i b g j → ChecksPiece (take (n - m) (drop m block)) b g j c h k →
    ChecksPiece (take n block) a f i c h k
checks_on block m n a b c f g h i j k le first second =
    let down : m + (n - m) ≡ n = omega (arith, le) in
    checks_both (take m block) (take (n - m) (drop m block)) (take n block) a b c f g h i j k (sym (take-add m (n - m) block) ∙ ap (λ l. take l block) down) first second

-- none of a block, from a place on
pub checks_nothing : (block : List ℕ) (m : ℕ) (a : Option (List ℕ)) (f : FileChecker) (i : ℕ) → ChecksPiece (take (m - m) (drop m block)) a f i a f i
checks_nothing block m a f i =
    let none : m - m ≡ 0 = omega arith in
    checks_same [] (take (m - m) (drop m block)) a a f f i i (sym (ap (λ n. take n (drop m block)) none)) (checks_none a f i)

-- a check from a place of a block to another, and from there to a third
pub checks_from : (block : List ℕ) (l m n : ℕ) (a b c : Option (List ℕ)) (f g h : FileChecker) (i j k : ℕ) → l ≤ m → m ≤ n → ChecksPiece (take (m - l) (drop l block)) a f i b g j →
    ChecksPiece (take (n - m) (drop m block)) b g j c h k → ChecksPiece (take (n - l) (drop l block)) a f i c h k
checks_from block l m n a b c f g h i j k first second one two =
    let down : (n - l) - (m - l) ≡ n - m = omega (arith, first, second) in
    let place : l + (m - l) ≡ m = omega (arith, first) in
    let there : drop (m - l) (drop l block) ≡ drop m block = drop-drop (m - l) l block ∙ ap (λ d. drop d block) place in
    checks_on (drop l block) (m - l) (n - l) a b c f g h i j k (omega (arith, first, second)) one
    (checks_same (take (n - m) (drop m block)) (take ((n - l) - (m - l)) (drop (m - l) (drop l block))) b c g h j k (sym (ap (λ d. take d (drop (m - l) (drop l block))) down ∙ ap (λ d. take (n - m) d) there)) two)

-- what a fault says of the front of some bytes, it says of the bytes
front_fails : (held holds : Option (List ℕ)) (before after : ℕ) (front rest : List ℕ) (f : ToolFault) → BytesFailWith held holds before after front f → BytesFailWith held holds before after (front ++ rest) f
front_fails held holds before after front rest (fault.Checked n why) tells =
    let stated = tells.1 in
    (tells.0, (stated.0, λ more. subst (λ (l : List ℕ). IsCheckBefore l n why stated.0) (sym (append_assoc front rest more)) (stated.1 (rest ++ more)), stated.2))
front_fails held holds before after front rest fault.Write tells =
    let stated = tells.1 in
    let ended = stated.1 in
    (tells.0, (stated.0, record { read = ended.read; after = ended.after ++ rest; rest = ended.rest; is = ap (λ l. l ++ rest) ended.is ∙ append_assoc ended.read ended.after rest; front = ended.front }, stated.2))
front_fails held holds before after front rest fault.Memory tells =
    let ended = tells.1 in
    (tells.0, record { read = ended.read; after = ended.after ++ rest; rest = ended.rest; is = ap (λ l. l ++ rest) ended.is ∙ append_assoc ended.read ended.after rest; front = ended.front }, tells.2)
front_fails held holds before after front rest fault.Read tells = absurd tells
front_fails held holds before after front rest fault.TooLarge tells = absurd tells
front_fails held holds before after front rest (fault.Cert f) tells = absurd tells
front_fails held holds before after front rest (fault.Plan f) tells = absurd tells
front_fails held holds before after front rest (fault.Run f) tells = absurd tells
front_fails held holds before after front rest (fault.Audited f) tells = absurd tells
front_fails held holds before after front rest (fault.ReadOf which) tells = absurd tells
front_fails held holds before after front rest (fault.TooLargeOf which) tells = absurd tells
front_fails held holds before after front rest (fault.Followed f) tells = absurd tells
front_fails held holds before after front rest (fault.Loaded f) tells = absurd tells
front_fails held holds before after front rest (fault.Unstated f) tells = absurd tells
front_fails held holds before after front rest (fault.Second f) tells = absurd tells
front_fails held holds before after front rest (fault.Sizes f) tells = absurd tells
front_fails held holds before after front rest fault.ReadSizes tells = absurd tells
front_fails held holds before after front rest fault.ReadSecond tells = absurd tells
front_fails held holds before after front rest fault.WriteTable tells = absurd tells
front_fails held holds before after front rest fault.WritePage tells = absurd tells
front_fails held holds before after front rest (fault.OneFile both) tells = absurd tells

pub front_stops : (block : List ℕ) (n : ℕ) (holds new : Option (List ℕ)) (files : FileChecker) (number before after : ℕ) (f : ToolFault) → PieceFailsWith (take n block) holds files number new before after f →
    PieceFailsWith block holds files number new before after f
front_stops block n holds new files number before after f tells held file verdicts has =
    subst (λ (l : List ℕ). BytesFailWith held new before after l f) (append_assoc file (take n block) (drop n block) ∙ ap (λ l. file ++ l) (take-append-drop n block))
    (front_fails held new before after (file ++ take n block) (drop n block) f (tells held file verdicts has))

-- ---- blocks of a source

-- memory is wanted
pub memory_stops : (remaining holds : Option (List ℕ)) (files : FileChecker) (number left before after sink_before sink_after : ℕ) →
    CheckStopsAt (record { remaining = remaining; holds = holds; files = files; number = number; left = left }) holds before after sink_before sink_after fault.Memory
memory_stops remaining holds files number left before after sink_before sink_after given held limit (file, verdicts, way) =
    let has = way.checked in
    let read = has.read in
    (file, read.text, omega (arith, way.within), (all_read given remaining file way.consumed, (verdicts, read.front, has.written)))

-- a read that has failed is stated behind what came before it
pub late_read_stops : (remaining new holds new_holds : Option (List ℕ)) (files next : FileChecker) (number new_number left new_left before after sink_before sink_after : ℕ) → HasFailed before after →
    CheckHasGoneOn (record { remaining = remaining; holds = holds; files = files; number = number; left = left }) (record { remaining = new; holds = new_holds; files = next; number = new_number; left = new_left }) →
    CheckStopsAt (record { remaining = remaining; holds = holds; files = files; number = number; left = left }) new_holds before after sink_before sink_after fault.Read
late_read_stops remaining new holds new_holds files next number new_number left new_left before after sink_before sink_after failed on given held limit stands =
    read_stops new new_holds next new_number new_left before after sink_before sink_after failed given held limit (on given held limit stands)

-- why no block was read
pub fill_stops : (remaining holds : Option (List ℕ)) (files : FileChecker) (number left before after sink_before sink_after : ℕ) (f : ToolFault) → (f ≡ fault.Memory) ⊎ ((f ≡ fault.Read) × HasFailed before after) →
    CheckStopsAt (record { remaining = remaining; holds = holds; files = files; number = number; left = left }) holds before after sink_before sink_after f
fill_stops remaining holds files number left before after sink_before sink_after f (inl memory) =
    subst (CheckStopsAt (record { remaining = remaining; holds = holds; files = files; number = number; left = left }) holds before after sink_before sink_after) (sym memory)
    (memory_stops remaining holds files number left before after sink_before sink_after)
fill_stops remaining holds files number left before after sink_before sink_after f (inr (read, failed)) =
    subst (CheckStopsAt (record { remaining = remaining; holds = holds; files = files; number = number; left = left }) holds before after sink_before sink_after) (sym read)
    (read_stops remaining holds files number left before after sink_before sink_after failed)

-- a block that was read, as a front of so many bytes
all_of : (remaining new : Option (List ℕ)) (block : List ℕ) → Consumes remaining new block → Consumes remaining new (take (length block) block)
all_of remaining new block got = subst (Consumes remaining new) (sym (take_all (length block) block (omega arith))) got

-- a block in which a fault came
pub block_stops : (remaining new holds new_holds : Option (List ℕ)) (files : FileChecker) (number left k source_before source_after before after : ℕ) (piece block : List ℕ) (f : ToolFault) → piece ≡ block → k ≤ length block → k ≤ left →
    Consumes remaining new block → PieceFailsWith (take k piece) holds files number new_holds before after f →
    CheckStopsAt (record { remaining = remaining; holds = holds; files = files; number = number; left = left }) new_holds source_before source_after before after f
block_stops remaining new holds new_holds files number left k source_before source_after before after piece block f is le within got tells =
    piece_stops remaining new holds new_holds files number left k (length block) source_before source_after before after block f le within (all_of remaining new block got)
    (subst (λ (l : List ℕ). PieceFailsWith (take k l) holds files number new_holds before after f) is tells)

-- more bytes than the limit
pub block_too_long : (remaining new holds new_holds : Option (List ℕ)) (files next : FileChecker) (number new_number left k source_before source_after before after : ℕ) (piece block : List ℕ) → piece ≡ block → k < length block → k ≡ left →
    Consumes remaining new block → ChecksPiece (take k piece) holds files number new_holds next new_number →
    CheckStopsAt (record { remaining = remaining; holds = holds; files = files; number = number; left = left }) new_holds source_before source_after before after fault.TooLarge
block_too_long remaining new holds new_holds files next number new_number left k source_before source_after before after piece block is lt all got checks =
    limit_stops remaining new holds new_holds files next number new_number left k (length block) source_before source_after before after block lt all (omega arith) (all_of remaining new block got)
    (checks_same (take k piece) (take k block) holds new_holds files next number new_number (ap (λ l. take k l) is) checks)

-- a whole block
pub block_goes_on : (remaining new holds new_holds : Option (List ℕ)) (files next : FileChecker) (number new_number left new_left k : ℕ) (piece block : List ℕ) → piece ≡ block → k ≡ length block → left ≡ new_left + length block →
    Consumes remaining new block → ChecksPiece (take k piece) holds files number new_holds next new_number →
    CheckHasGoneOn (record { remaining = remaining; holds = holds; files = files; number = number; left = left }) (record { remaining = new; holds = new_holds; files = next; number = new_number; left = new_left })
block_goes_on remaining new holds new_holds files next number new_number left new_left k piece block is all fewer got checks =
    goes_on remaining new holds new_holds files next number new_number left new_left k (length block) block all fewer (omega arith) (all_of remaining new block got)
    (checks_same (take k piece) (take k block) holds new_holds files next number new_number (ap (λ l. take k l) is) checks)
