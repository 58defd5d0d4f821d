-- What was shown, and nothing more.
use Rattle.std.proofs.Common.{◌≡◌, ◌&&◌, ◌<◌, ◌≤◌, ◌+◌, ◌∙◌, ℕ, List, [], ◌∷◌, ◌++◌, length, Option, Some, None, Bool, true, false, Result, Ok, Err, MatchResult, inl, inr, refl, sym, ap, arith}
use Rattle.std.specs.Prelude.{is_some, not}
use Rattle.std.specs.Io.KnownBytes.{Appends, Keeps}
use Rattle.std.proofs.lemmas.Option.{none-some}
use Rattle.std.proofs.KnownBytes.{Keeps-refl, Keeps-trans}
use Rattle.crp_plan.specs.BayNames.{YardBay}
use Rattle.crp_checker.specs.declared.verdict.Verdict.{Verdict}
use Rattle.crp_report.specs.declared.status.Status.{Status}
use Rattle.crp_report.specs.Runs.{SinkSeen, GetsPart}
use Rattle.crp_report.proofs.Shown.{shows_nothing, shows_then}
use Rattle.crp_jobs.specs.declared.job.FileCommand.{FileCommand}
use Rattle.crp_jobs.specs.declared.job.FileCommand.TheVariants as command
use Rattle.crp_jobs.specs.declared.job.Job.{Job}
use Rattle.crp_jobs.specs.declared.job.Job.TheVariants as job
use Rattle.crp_jobs.specs.declared.outcome.ToolFault.{ToolFault}
use Rattle.crp_jobs.specs.Opened.{IsLeftAlone}
use Rattle.crp_report.specs.Watching.{ShowsMore}
use Rattle.crp_commands.specs.Partial.{IsReportIn}
use Rattle.crp_commands.specs.Noted.{GetsLines, empty_note, TellsOfNone, TellsWhetherEmpty, IsNotedBy, IsNotedIn, IsNoted}

-- nothing was shown
pub unnoted : (quiet : Bool) (held : Option (List ℕ)) (failures : ℕ) → IsNotedBy quiet (record { held = held; holds = held; before = failures; after = failures })
unnoted true held failures = (Keeps-refl held, refl)
unnoted false held failures = shows_nothing held

pub shown_none : (held : Option (List ℕ)) → ShowsMore held held
shown_none held = shows_nothing held

pub unnoted_in : (c : FileCommand) (held : Option (List ℕ)) (failures : ℕ) → IsNotedIn c (record { held = held; holds = held; before = failures; after = failures })
unnoted_in command.Replay held failures = (Keeps-refl held, refl)
unnoted_in (command.Bound chains json) held failures = (Keeps-refl held, refl)
unnoted_in (command.Check any_size workers json) held failures = inl (Keeps-refl held, refl)
unnoted_in (command.Prove search) held failures = (Keeps-refl held, refl)
unnoted_in command.Rewrite held failures = shows_nothing held

-- ---- files that hold no certificate

-- some certificate came, or none did, where this is the number of the one that would come next
pub tells_some : (number : ℕ) (stated : List (YardBay × Verdict)) (s : SinkSeen) → 1 < number → number ≡ length stated + 1 → IsLeftAlone s → TellsOfNone stated s
tells_some number [] s more next alone = absurd (omega arith)
tells_some number (first ∷ rest) s more next alone = alone

pub tells_none : (number : ℕ) (stated : List (YardBay × Verdict)) (s : SinkSeen) → number ≤ 1 → number ≡ length stated + 1 → GetsLines s empty_note → TellsOfNone stated s
tells_none number [] s few next note = note
tells_none number (first ∷ rest) s few next note = absurd (omega arith)

pub tells_more : (stated : List (YardBay × Verdict)) (last : YardBay × Verdict) (s : SinkSeen) → IsLeftAlone s → TellsOfNone (stated ++ last ∷ []) s
tells_more [] last s alone = alone
tells_more (first ∷ rest) last s alone = alone

noted_of : (any_size : Bool) (workers : ℕ) (json : Bool) (stated : List (YardBay × Verdict)) (s : SinkSeen) → TellsOfNone stated s → IsNotedIn (command.Check any_size workers json) s
noted_of any_size workers json [] s note = inr note
noted_of any_size workers json (first ∷ rest) s alone = inl alone

-- what a check shows, however it ended
pub noted_check : (any_size : Bool) (workers : ℕ) (json : Bool) (lines s : SinkSeen) (answer : Result Status ToolFault) → MatchResult answer (λ _. TellsWhetherEmpty lines s) (λ _. IsLeftAlone s) → IsNotedIn (command.Check any_size workers json) s
noted_check any_size workers json lines s (Ok status) (stated, written, tells) = noted_of any_size workers json stated s tells
noted_check any_size workers json lines s (Err fault) alone = inl alone

-- what a sink saw first, and then
abbrev pub seen_from : Option (List ℕ) → Option (List ℕ) → ℕ → ℕ → SinkSeen
seen_from held holds before after = record { held = held; holds = holds; before = before; after = after }

alone_then : (a b c : Option (List ℕ)) (m n o : ℕ) → IsLeftAlone (seen_from a b m n) → IsLeftAlone (seen_from b c n o) → IsLeftAlone (seen_from a c m o)
alone_then a b c m n o (first, is) (next, more) = (Keeps-trans a b c first next, more ∙ is)

shows_kept : (a b c : Option (List ℕ)) (text : List ℕ) → Appends a b text → Keeps b c → Appends a c text
shows_kept None b c text first next = tt
shows_kept (Some x) None c text first next = absurd first
shows_kept (Some x) (Some y) None text first next = absurd next
shows_kept (Some x) (Some y) (Some z) text first next = next ∙ first

part_kept : (a b c : Option (List ℕ)) (m n o : ℕ) (text : List ℕ) → GetsPart (seen_from a b m n) text → Keeps b c → GetsPart (seen_from a c m o) text
part_kept a b c m n o text (k, short, first) next = (k, short, shows_kept a b c _ first next)

lines_then : (a b c : Option (List ℕ)) (m n o : ℕ) (text : List ℕ) → GetsLines (seen_from a b m n) text → IsLeftAlone (seen_from b c n o) → GetsLines (seen_from a c m o) text
lines_then a b c m n o text (inl all) (next, more) = inl (shows_kept a b c text all next)
lines_then a b c m n o text (inr (part, failed)) (next, more) = inr (part_kept a b c m n o text part next, rw more failed)

noted_in_alone : (d : FileCommand) (a b c : Option (List ℕ)) (m n o : ℕ) → IsNotedIn d (seen_from a b m n) → IsLeftAlone (seen_from b c n o) → IsNotedIn d (seen_from a c m o)
noted_in_alone command.Replay a b c m n o first next = alone_then a b c m n o first next
noted_in_alone (command.Bound chains json) a b c m n o first next = alone_then a b c m n o first next
noted_in_alone (command.Check any_size workers json) a b c m n o (inl first) next = inl (alone_then a b c m n o first next)
noted_in_alone (command.Check any_size workers json) a b c m n o (inr first) next = inr (lines_then a b c m n o empty_note first next)
noted_in_alone (command.Prove search) a b c m n o first next = alone_then a b c m n o first next
noted_in_alone command.Rewrite a b c m n o (text, first) (next, more) = (text, shows_kept a b c text first next)

noted_by_alone : (quiet : Bool) (a b c : Option (List ℕ)) (m n o : ℕ) → IsNotedBy quiet (seen_from a b m n) → IsLeftAlone (seen_from b c n o) → IsNotedBy quiet (seen_from a c m o)
noted_by_alone true a b c m n o first next = alone_then a b c m n o first next
noted_by_alone false a b c m n o (text, first) (next, more) = (text, shows_kept a b c text first next)

-- one note, and what another notes
kept_shows : (a b c : Option (List ℕ)) (text : List ℕ) → Keeps a b → Appends b c text → Appends a c text
kept_shows None b c text first next = tt
kept_shows (Some x) None c text first next = absurd first
kept_shows (Some x) (Some y) None text first next = absurd next
kept_shows (Some x) (Some y) (Some z) text first next = next ∙ ap (λ l. l ++ text) first

pub noted_both : (one two : Bool) (a b c : Option (List ℕ)) (m n o : ℕ) → IsNotedBy one (seen_from a b m n) → IsNotedBy two (seen_from b c n o) → IsNotedBy (one && two) (seen_from a c m o)
noted_both true true a b c m n o first next = alone_then a b c m n o first next
noted_both true false a b c m n o (first, is) (text, next) = (text, kept_shows a b c text first next)
noted_both false true a b c m n o first next = noted_by_alone false a b c m n o first next
noted_both false false a b c m n o first next = shows_then a b c first next

-- two notes that may come alike
pub noted_twice : (quiet : Bool) (a b c : Option (List ℕ)) (m n o : ℕ) → IsNotedBy quiet (seen_from a b m n) → IsNotedBy quiet (seen_from b c n o) → IsNotedBy quiet (seen_from a c m o)
noted_twice true a b c m n o first next = alone_then a b c m n o first next
noted_twice false a b c m n o first next = shows_then a b c first next

-- one note, and no other
pub noted_first : (one two : Bool) (a b : Option (List ℕ)) (m n : ℕ) → IsNotedBy one (seen_from a b m n) → IsNotedBy (one && two) (seen_from a b m n)
noted_first one two a b m n first = noted_both one two a b b m n n first (unnoted two b n)

-- a note of the report, and one of its bays
pub noted_part : (partial : Bool) (text report : List ℕ) (bays : ℕ) (a b c : Option (List ℕ)) (m n o : ℕ) → IsReportIn partial text report (Some bays) → IsNotedBy (not partial) (seen_from a b m n)
    → ShowsMore b c → IsNotedBy (not partial) (seen_from a c m o)
noted_part true text report bays a b c m n o is first next = shows_then a b c first next
noted_part false text report bays a b c m n o is first next = absurd (none-some bays (sym is.1))

-- the notes of a job, and nothing more
pub noted_alone : (j : Job) (a b c : Option (List ℕ)) (m n o : ℕ) → IsNoted j (seen_from a b m n) → IsLeftAlone (seen_from b c n o) → IsNoted j (seen_from a c m o)
noted_alone (job.OneFile file command stop) a b c m n o first next = noted_in_alone command a b c m n o first next
noted_alone (job.Absent names settings) a b c m n o first next = alone_then a b c m n o first next
noted_alone (job.Audit names settings) a b c m n o first next = noted_by_alone (not names.partial) a b c m n o first next
noted_alone (job.Follow names settings) a b c m n o first next = noted_by_alone (not names.partial && not (is_some names.movins)) a b c m n o first next
noted_alone (job.Compare names settings) a b c m n o first next = noted_by_alone (not names.partial) a b c m n o first next
noted_alone (job.Solve names settings quiet progress) a b c m n o first next = noted_by_alone quiet a b c m n o first next
