-- What worked words ask for, and how the program ends by them.
use Rattle.std.proofs.Common.{◌≡◌, ◌≤◌, ◌⊎◌, ◌∙◌, ℕ, List, [], ◌∷◌, Some, None, Option, Err, inl, inr, refl, sym, ap, subst, arith, lit≤, ◌==◌, false}
use Rattle.std.proofs.lemmas.Bool.Decides.{nat_tests}
use Rattle.std.specs.Prelude.{codes, replicate, true, IsSomeAnd, option_map}
use denote.Ref.{Bor}
use Rattle.std.specs.Str.Parse.{digits_value, without_leading_plus}
use Rattle.clap.specs.Words.{IsAmong, Row, Text, fault_of, first_of, one_of, subcommand_of}
use Rattle.clap.specs.Faults.{walk_fault, defaults_fault, flags_fault}
use Rattle.clap.specs.Walk.{walked, bundle_met}
use Rattle.clap.specs.declared.error.kind.ErrorKind.TheVariants as kind
use Rattle.clap.specs.declared.parser.matches.ValueSource.TheVariants.{CommandLine, DefaultValue}
use Rattle.crp_sizes.specs.Sizes.{YardSizes, one_size}
use Rattle.crp_report.specs.declared.fault.Fault.TheVariants as run
use Rattle.crp_report.specs.declared.status.Status.{Status}
use Rattle.crp_report.specs.Runs.{SourceSeen, SinkSeen}
use Rattle.crp_solve.specs.declared.settings.TheConstants.{MAX_BUDGET, MAX_BEAM, MAX_THIN}
use Rattle.crp_jobs.specs.declared.job.Job.{Job}
use Rattle.crp_jobs.specs.declared.job.Job.TheVariants.{Absent, OneFile, Audit, Follow, Compare, Solve}
use Rattle.crp_jobs.specs.declared.job.FileCommand.TheVariants as command
use Rattle.crp_jobs.specs.declared.outcome.ToolFault.{ToolFault}
use Rattle.crp_jobs.specs.declared.outcome.ToolFault.TheVariants as fault
use Rattle.crp_jobs.specs.declared.job.RunFiles.{RunFiles}
use Rattle.crp_jobs.specs.Names.{named_in_run}
use Rattle.crp_files.specs.declared.roles.Role.TheVariants as role
use Rattle.crp_files.specs.Known.{KnownFiles, KeepsBytes}
use Rattle.crp_files.specs.Roles.{IsShared}
use Rattle.crp_files.proofs.Prepared.{prepared_keeps}
use Rattle.crp_jobs.specs.Outcomes.{exit_code}
use Rattle.crp_commands.specs.Check.{IsCheck}
use Rattle.crp_commands.specs.Solving.{SolveFailsOverFiles}
use Rattle.crp_report.specs.Chosen.{InputChosen, RunChosen}
use Rattle.crp_commands.specs.Performing.{JobSeen, call_of}
use Rattle.crp_commands.specs.Sized.{IsDone, behind}
use Rattle.crp_words.specs.declared.usage.Mistake.TheVariants as mistake
use Rattle.crp_words.specs.declared.usage.SettingFault.{SettingFault}
use Rattle.crp_words.specs.declared.usage.SettingFault.TheVariants as setting
use Rattle.crp_words.specs.declared.usage.Usage.{Usage}
use Rattle.crp_words.specs.declared.usage.Usage.TheVariants as usage
use Rattle.crp_words.specs.Commands.{crp}
use Rattle.crp_words.specs.Endings.{JobEnds, ProgramEnds, UsageEnds}
use Rattle.crp_words.specs.Words.{given_texts, HasBeam, HasNumber, HasNumberBeyond, HasThin, IsGivenByWords, Refuses, WordsAsk, WordsHaveFault, IsSolveFault, IsTimeFault, FindsSizes, MayFindHeights, heights_or, value_source_of, words_or_default}
use Rattle.crp_callers.specs.AskedFor.{HasHeights, IsOfSetting, IsStrongSearch}
use Rattle.crp_callers.proofs.OverFiles.{Done, Failed, as_run}
use Rattle.crp_callers.proofs.Reporting.{command_reported}

-- ---- statuses

-- a fault never ends with status 0
never_zero : (f : ToolFault) → exit_code (Err f) ≡ 0 → ⊥
never_zero fault.TooLarge e = absurd (omega arith)
never_zero (fault.TooLargeOf which) e = absurd (omega arith)
never_zero (fault.Followed f) e = absurd (omega arith)
never_zero (fault.Loaded f) e = absurd (omega arith)
never_zero (fault.Unstated f) e = absurd (omega arith)
never_zero (fault.Second f) e = absurd (omega arith)
never_zero (fault.Sizes f) e = absurd (omega arith)
never_zero fault.ReadSizes e = absurd (omega arith)
never_zero fault.ReadSecond e = absurd (omega arith)
never_zero fault.Memory e = absurd (omega arith)
never_zero fault.Read e = absurd (omega arith)
never_zero (fault.ReadOf which) e = absurd (omega arith)
never_zero fault.Write e = absurd (omega arith)
never_zero fault.WriteTable e = absurd (omega arith)
never_zero fault.WritePage e = absurd (omega arith)
never_zero (fault.OneFile both) e = absurd (omega arith)
never_zero (fault.Run (run.Yard f)) e = absurd (omega arith)
never_zero (fault.Run (run.Interchange f)) e = absurd (omega arith)
never_zero (fault.Run (run.Message f)) e = absurd (omega arith)
never_zero (fault.Run (run.Read input)) e = absurd (omega arith)
never_zero (fault.Run (run.Write output)) e = absurd (omega arith)
never_zero (fault.Run run.Memory) e = absurd (omega arith)
never_zero (fault.Cert f) e = absurd (omega arith)
never_zero (fault.Plan f) e = absurd (omega arith)
never_zero (fault.Checked number why) e = absurd (omega arith)
never_zero (fault.Audited f) e = absurd (omega arith)

-- a refusal that is no help
abbrev IsNoHelp : Usage → Type 0
IsNoHelp (usage.Help text) = ⊥
IsNoHelp (usage.Wrong m) = Unit {0}
IsNoHelp usage.Memory = Unit {0}

-- ends with status 2 or 4
refused_with : (u : Usage) (out errors : SinkSeen) (status : ℕ) → IsNoHelp u → UsageEnds u out errors status → (status ≡ 2) ⊎ (status ≡ 4)
refused_with (usage.Help text) out errors status other ends = absurd other
refused_with (usage.Wrong (mistake.Words text)) out errors status other (alone, lines, is) = inl is
refused_with (usage.Wrong (mistake.Setting f)) out errors status other (alone, lines, is) = inl is
refused_with usage.Memory out errors status other (alone, lines, is) = inr is

-- words without a fault get no help
words_get_no_help : (words : List Text) → fault_of crp (words_or_default words) ≡ [] → (u : Usage) → Refuses words u → IsNoHelp u
words_get_no_help words free (usage.Help text) (inl among) = subst (IsAmong kind.DisplayHelp) free among
words_get_no_help words free (usage.Help text) (inr among) = subst (IsAmong kind.DisplayVersion) free among
words_get_no_help words free (usage.Wrong m) refuses = tt
words_get_no_help words free usage.Memory refuses = tt

-- ---- texts

-- two texts that are one do not begin with two letters
other_letter : (a b : ℕ) (s t : List ℕ) → (a == b) ≡ false → a ∷ s ≡ b ∷ t → ⊥
other_letter a b s t apart e =
    let same : a ≡ b = cc in grind (arith, nat_tests)

one_text : (s t : Text) → Some s ≡ Some t → s ≡ t
one_text s t e = cc

-- ---- numbers

-- a text that was found is this number alone
one_number : (id : Text) (found : List Row) (text : Text) (n : ℕ) → one_of id found ≡ Some text → HasNumber id found n → n ≡ digits_value 10 (without_leading_plus text)
one_number id found text n is (other, also, numeral, value, fits) =
    let same : other ≡ text = one_text other text (sym also ∙ is) in
    value ∙ ap (λ (t : Text). digits_value 10 (without_leading_plus t)) same

not_beyond : (id : Text) (least most : ℕ) (found : List Row) (text : Text) → one_of id found ≡ Some text
    → least ≤ digits_value 10 (without_leading_plus text) → digits_value 10 (without_leading_plus text) ≤ most → HasNumberBeyond id least most found → ⊥
not_beyond id least most found text is low high (n, has, inl below) = let e = one_number id found text n is has in absurd (omega arith)
not_beyond id least most found text is low high (n, has, inr above) = let e = one_number id found text n is has in absurd (omega arith)

-- ---- `check -`

abbrev pub check_words : List Text
check_words = codes "check" ∷ codes "-" ∷ []

check_is_free : fault_of crp (words_or_default check_words) ≡ []
unfolding walk_fault defaults_fault flags_fault walked bundle_met
check_is_free = refl

-- what the job did that they ask for: a check of the standard input, and nothing else
check_is_done : (j : Job) → WordsAsk check_words j → (seen : JobSeen) (ended : Status) (bytes lines : List ℕ) → seen.input.given ≡ Some bytes
    → seen.out.held ≡ Some [] → seen.out.holds ≡ Some lines → IsDone j seen ended → IsCheck bytes lines
unfolding walk_fault defaults_fault flags_fault walked bundle_met
check_is_done (OneFile file (command.Check any_size workers json) stop) (free, (name, is, named)) seen ended bytes lines given held holds ((source, inl (dash, from), (done, few)), kept) =
    command_reported (command.Check any_size workers json) ended bytes lines (call_of source seen.out)
    (record { given = ap (λ (s : SourceSeen). s.given) from.is ∙ given; held = held; holds = holds }) done
check_is_done (OneFile file (command.Check any_size workers json) stop) (free, (name, is, named)) seen ended bytes lines given held holds ((source, inr (other, from), (done, few)), kept) =
    absurd (other (sym (one_text _ _ is)))
check_is_done (OneFile file command.Replay stop) (free, (name, is, named)) seen ended bytes lines given held holds done = absurd (other_letter 99 114 _ _ refl name)
check_is_done (OneFile file command.Rewrite stop) (free, (name, is, named)) seen ended bytes lines given held holds done = absurd (other_letter 99 114 _ _ refl name)
check_is_done (OneFile file (command.Bound chains json) stop) (free, (name, is, named)) seen ended bytes lines given held holds done = absurd (other_letter 99 98 _ _ refl name.0)
check_is_done (OneFile file (command.Prove chosen) stop) (free, (name, is, named)) seen ended bytes lines given held holds done =
    absurd (other_letter 99 112 _ _ refl name.0)
check_is_done (Absent names settings) (free, (name, size, files, has)) seen ended bytes lines given held holds done = absurd (other_letter 99 97 _ _ refl name)
check_is_done (Audit names settings) (free, (name, size, files, has)) seen ended bytes lines given held holds done = absurd (other_letter 99 97 _ _ refl name)
check_is_done (Follow names settings) (free, (name, clear, one, files, has)) seen ended bytes lines given held holds done = absurd (other_letter 99 102 _ _ refl name)
check_is_done (Compare names settings) (free, (name, clear, files, has)) seen ended bytes lines given held holds done = absurd (other_letter 99 102 _ _ refl name)
check_is_done (Solve names settings quiet progress) (free, (name, size, twice, files, has, a, b)) seen ended bytes lines given held holds done =
    absurd (other_letter 99 115 _ _ refl name)

not_two_or_four : (status : ℕ) → status ≡ 0 → (status ≡ 2) ⊎ (status ≡ 4) → ⊥
not_two_or_four status e (inl two) = absurd (omega arith)
not_two_or_four status e (inr four) = absurd (omega arith)

-- with status 0 the certificates of the standard input are accepted, and their lines stand on the standard output
ends_check : (seen : JobSeen) (errors : SinkSeen) (status : ℕ) (bytes lines : List ℕ) → ProgramEnds check_words seen errors status → status ≡ 0
    → seen.input.given ≡ Some bytes → seen.out.held ≡ Some [] → seen.out.holds ≡ Some lines → IsCheck bytes lines
ends_check seen errors status bytes lines (inl (j, asks, inl (ended, done, noted, is))) e given held holds =
    check_is_done j asks seen ended bytes lines given held holds done
ends_check seen errors status bytes lines (inl (j, asks, inr (f, failed, behind, is))) e given held holds = absurd (never_zero f (sym is ∙ e))
ends_check seen errors status bytes lines (inr (u, refuses, ends)) e given held holds =
    absurd (not_two_or_four status e (refused_with u seen.out errors status (words_get_no_help check_words check_is_free u refuses) ends.2))

pub check_ends : (words : List Text) (seen : JobSeen) (errors : SinkSeen) (status : ℕ) (bytes lines : List ℕ) → words ≡ check_words → ProgramEnds words seen errors status
    → status ≡ 0 → seen.input.given ≡ Some bytes → seen.out.held ≡ Some [] → seen.out.holds ≡ Some lines → IsCheck bytes lines
check_ends words seen errors status bytes lines are ends =
    ends_check seen errors status bytes lines (subst (λ (ws : List Text). ProgramEnds ws seen errors status) are ends)

-- ---- `solve yard orders --cert proofs`

abbrev pub linked_words : List Text
linked_words = codes "solve" ∷ codes "yard" ∷ codes "orders" ∷ codes "--cert" ∷ codes "proofs" ∷ []

linked_is_free : fault_of crp (words_or_default linked_words) ≡ []
unfolding walk_fault defaults_fault flags_fault walked bundle_met
linked_is_free = refl

-- how a job ends whose file of certificates is the yard list: it fails, no file is emptied, and only an input that cannot be opened comes before
abbrev EndsUnemptied : JobSeen → ℕ → Type 0
EndsUnemptied seen status = ((status ≡ 2) ⊎ ((status ≡ 4) ⊎ (status ≡ 5))) × KeepsBytes seen.files.known seen.files.left

kept_all : (known left : KnownFiles) → left ≡ known → KeepsBytes known left
kept_all known left same = prepared_keeps None known left same

shared_fails : (names : RunFiles) (chosen : RunChosen) (seen : JobSeen) (status : ℕ) (f : ToolFault) → IsShared seen.files.known (named_in_run names)
    → SolveFailsOverFiles names chosen seen.files seen.out f → status ≡ exit_code (Err f) → EndsUnemptied seen status
shared_fails names chosen seen status (fault.OneFile both) shared is e = (inl e, is.unemptied.kept)
shared_fails names chosen seen status (fault.Run (run.Read source)) shared (inl refused) e = (inr (inr e), kept_all _ _ refused.stated.1)
shared_fails names chosen seen status (fault.Run (run.Write sink)) shared (inl refused) e = absurd (refused.stated.1 shared)
shared_fails names chosen seen status (fault.Run (run.Yard f)) shared (inl refused) e = absurd refused.stated
shared_fails names chosen seen status (fault.Run (run.Interchange f)) shared (inl refused) e = absurd refused.stated
shared_fails names chosen seen status (fault.Run (run.Message f)) shared (inl refused) e = absurd refused.stated
shared_fails names chosen seen status (fault.Run run.Memory) shared (inl refused) e = absurd refused.stated
shared_fails names chosen seen status (fault.Run f) shared (inr stops) e = absurd (stops.2.apart shared)
shared_fails names chosen seen status (fault.Cert f) shared is e = absurd is
shared_fails names chosen seen status (fault.Plan f) shared is e = absurd is
shared_fails names chosen seen status (fault.Checked number refused) shared is e = absurd is
shared_fails names chosen seen status (fault.Audited f) shared is e = absurd is
shared_fails names chosen seen status (fault.Followed f) shared is e = absurd is
shared_fails names chosen seen status (fault.Loaded f) shared is e = absurd is
shared_fails names chosen seen status (fault.Unstated f) shared is e = absurd is
shared_fails names chosen seen status (fault.Second f) shared is e = absurd is
shared_fails names chosen seen status (fault.Sizes f) shared is e = absurd is
shared_fails names chosen seen status fault.ReadSizes shared is e = absurd is
shared_fails names chosen seen status fault.ReadSecond shared is e = absurd is
shared_fails names chosen seen status (fault.ReadOf which) shared is e = absurd is
shared_fails names chosen seen status (fault.TooLargeOf which) shared is e = absurd is
shared_fails names chosen seen status fault.Read shared is e = absurd is
shared_fails names chosen seen status fault.Write shared is e = absurd is
shared_fails names chosen seen status fault.WriteTable shared is e = absurd is
shared_fails names chosen seen status fault.WritePage shared is e = absurd is
shared_fails names chosen seen status fault.TooLarge shared is e = absurd is
shared_fails names chosen seen status fault.Memory shared is e = absurd is

-- words without a list of sizes name none
no_list : (o : Option (Bor (List ℕ))) (input : InputChosen) (P : (List ℕ × InputChosen) → Type 0) → None ≡ option_map (λ text. text.now) o
    → IsSomeAnd (option_map (λ name. (name.now, input)) o) P → ⊥
no_list None input P none there = there
no_list (Some name) input P none there = let k : None ≡ Some name.now = none in cc

job_is_linked : (seen : JobSeen) (errors : SinkSeen) (status : ℕ) → seen.files.known.are_one (codes "proofs") (codes "yard") ≡ Some true → (j : Job)
    → WordsAsk linked_words j → JobEnds j seen errors status → EndsUnemptied seen status
unfolding walk_fault defaults_fault flags_fault walked bundle_met
job_is_linked seen errors status one (Solve names settings quiet progress) (free, (name, size, twice, files, has, a, b)) ends =
    let shared : IsShared seen.files.known (named_in_run names) =
    (role.Certificates, role.YardList, (refl, record { first = codes "proofs"; second = codes "yard"; is = sym files.2; is_other = sym files.0; one = one })) in
    elim ends [
      | inl (ended, done, noted, is) ↦ absurd ((as_run names settings quiet progress seen (Done ended) done).holds.0.1.1.apart shared)
      | inr (f, inl unsized, explained, is) ↦ absurd (no_list names.sizes settings.input _ files.4 unsized.list)
      | inr (f, inr failed, explained, is) ↦
          let run = as_run names settings quiet progress seen (Failed f) failed in
          shared_fails names _ (behind run.failures seen) status f shared run.holds.0.1 is
    ]
job_is_linked seen errors status one (OneFile file command.Replay stop) (free, (name, is, named)) ends = absurd (other_letter 115 114 _ _ refl name)
job_is_linked seen errors status one (OneFile file command.Rewrite stop) (free, (name, is, named)) ends = absurd (other_letter 115 114 _ _ refl name)
job_is_linked seen errors status one (OneFile file (command.Bound chains json) stop) (free, (name, is, named)) ends = absurd (other_letter 115 98 _ _ refl name.0)
job_is_linked seen errors status one (OneFile file (command.Check any_size workers json) stop) (free, (name, is, named)) ends = absurd (other_letter 115 99 _ _ refl name.0)
job_is_linked seen errors status one (OneFile file (command.Prove chosen) stop) (free, (name, is, named)) ends = absurd (other_letter 115 112 _ _ refl name.0)
job_is_linked seen errors status one (Absent names settings) (free, (name, size, files, has)) ends = absurd (other_letter 115 97 _ _ refl name)
job_is_linked seen errors status one (Audit names settings) (free, (name, size, files, has)) ends = absurd (other_letter 115 97 _ _ refl name)
job_is_linked seen errors status one (Follow names settings) (free, (name, clear, alone, files, has)) ends = absurd (other_letter 115 102 _ _ refl name)
job_is_linked seen errors status one (Compare names settings) (free, (name, clear, files, has)) ends = absurd (other_letter 115 102 _ _ refl name)

two_four_or_five : (status : ℕ) → (status ≡ 2) ⊎ (status ≡ 4) → (status ≡ 2) ⊎ ((status ≡ 4) ⊎ (status ≡ 5))
two_four_or_five status (inl two) = inl two
two_four_or_five status (inr four) = inr (inl four)

ends_linked : (seen : JobSeen) (errors : SinkSeen) (status : ℕ) → seen.files.known.are_one (codes "proofs") (codes "yard") ≡ Some true
    → ProgramEnds linked_words seen errors status → EndsUnemptied seen status
ends_linked seen errors status one (inl (j, asks, ends)) = job_is_linked seen errors status one j asks ends
ends_linked seen errors status one (inr (u, refuses, ends)) = (
  two_four_or_five status (refused_with u seen.out errors status (words_get_no_help linked_words linked_is_free u refuses) ends.2),
  kept_all seen.files.known seen.files.left ends.0.0,
)

pub linked_ends : (words : List Text) (seen : JobSeen) (errors : SinkSeen) (status : ℕ) → words ≡ linked_words
    → seen.files.known.are_one (codes "proofs") (codes "yard") ≡ Some true → ProgramEnds words seen errors status
    → ((status ≡ 2) ⊎ ((status ≡ 4) ⊎ (status ≡ 5))) × KeepsBytes seen.files.known seen.files.left
linked_ends words seen errors status are one ends = ends_linked seen errors status one (subst (λ (ws : List Text). ProgramEnds ws seen errors status) are ends)

-- ---- each number at its limit

abbrev pub limit_words : List Text
limit_words = codes "solve" ∷ codes "yard" ∷ codes "orders" ∷ codes "--rows" ∷ codes "12" ∷ codes "--tiers" ∷ codes "8" ∷ codes "--workers" ∷ codes "64" ∷ codes "--split"
    ∷ codes "8" ∷ codes "--beam" ∷ codes "10000" ∷ codes "--thin" ∷ codes "1000000" ∷ codes "--budget" ∷ codes "1099511627776" ∷ []

record AtLimits (found : List Row) : Type 0 where
  rows : one_of (codes "rows") found ≡ Some (codes "12")
  tiers : one_of (codes "tiers") found ≡ Some (codes "8")
  heights : first_of (codes "heights") found ≡ None
  workers : one_of (codes "workers") found ≡ Some (codes "64")
  split : one_of (codes "split") found ≡ Some (codes "8")
  beam : one_of (codes "beam") found ≡ Some (codes "10000")
  thin : one_of (codes "thin") found ≡ Some (codes "1000000")
  budget : one_of (codes "budget") found ≡ Some (codes "1099511627776")
  bays : given_texts (codes "bay") found ≡ []
  seconds : first_of (codes "seconds") found ≡ None
  total : first_of (codes "total-seconds") found ≡ None

sizes_at : (found : List Row) (sizes : YardSizes) → AtLimits found → FindsSizes found sizes → sizes ≡ one_size (replicate 12 8)
sizes_at found sizes at finds = by_own finds.own finds.finds_own finds.are
  where
    twelve : finds.rows ≡ 12
    twelve = one_number (codes "rows") found (codes "12") finds.rows at.rows finds.finds_rows.0

    eight : finds.tiers ≡ 8
    eight = one_number (codes "tiers") found (codes "8") finds.tiers at.tiers finds.finds_tiers.0

    by_own : (own : Option (List ℕ)) → MayFindHeights found own → sizes ≡ one_size (heights_or own finds.rows finds.tiers) → sizes ≡ one_size (replicate 12 8)
    by_own None none are = are ∙ ap (λ (n : ℕ). one_size (replicate n finds.tiers)) twelve ∙ ap (λ (n : ℕ). one_size (replicate 12 n)) eight
    by_own (Some list) (text, has, is) are = let k : None ≡ Some text = sym at.heights ∙ has in cc

-- they have no limit of time
no_time_at : (found : List Row) → AtLimits found → (f : SettingFault) → IsTimeFault found f → ⊥
no_time_at found at setting.Workers is = is
no_time_at found at setting.Budget is = is
no_time_at found at setting.Split is = is
no_time_at found at setting.Beam is = is
no_time_at found at setting.Thin is = is
no_time_at found at setting.Rows is = is
no_time_at found at setting.Tiers is = is
no_time_at found at setting.Heights is = is
no_time_at found at setting.Bay is = is
no_time_at found at setting.Seconds is =
    let text = is.0 in let has : first_of (codes "seconds") found ≡ Some text = is.1 in let k : None ≡ Some text = sym at.seconds ∙ has in absurd (cc)
no_time_at found at setting.TotalSeconds is =
    let text = is.1.0 in let has : first_of (codes "total-seconds") found ≡ Some text = is.1.1 in let k : None ≡ Some text = sym at.total ∙ has in absurd (cc)

no_fault_at : (found : List Row) → AtLimits found → (f : SettingFault) → IsSolveFault found f → ⊥
no_fault_at found at setting.Workers (inl is) = not_beyond (codes "workers") 1 64 found (codes "64") at.workers (lit≤ tt) (lit≤ tt) is
no_fault_at found at setting.Budget (inl is) = not_beyond (codes "budget") 0 MAX_BUDGET found (codes "1099511627776") at.budget (lit≤ tt) (lit≤ tt) is.1
no_fault_at found at setting.Split (inl is) = not_beyond (codes "split") 0 8 found (codes "8") at.split (lit≤ tt) (lit≤ tt) is.2
no_fault_at found at setting.Beam (inl is) = not_beyond (codes "beam") 0 MAX_BEAM found (codes "10000") at.beam (lit≤ tt) (lit≤ tt) is.3.1
no_fault_at found at setting.Thin (inl is) = not_beyond (codes "thin") 0 MAX_THIN found (codes "1000000") at.thin (lit≤ tt) (lit≤ tt) is.4.1
no_fault_at found at setting.Rows (inl is) = is
no_fault_at found at setting.Tiers (inl is) = is
no_fault_at found at setting.Heights (inl is) = is
no_fault_at found at setting.Bay (inl is) = is
no_fault_at found at setting.Seconds (inl is) = is
no_fault_at found at setting.TotalSeconds (inl is) = is
no_fault_at found at setting.Workers (inr (searched, inl is)) = is
no_fault_at found at setting.Budget (inr (searched, inl is)) = is
no_fault_at found at setting.Split (inr (searched, inl is)) = is
no_fault_at found at setting.Beam (inr (searched, inl is)) = is
no_fault_at found at setting.Thin (inr (searched, inl is)) = is
no_fault_at found at setting.Rows (inr (searched, inl is)) = not_beyond (codes "rows") 1 12 found (codes "12") at.rows (lit≤ tt) (lit≤ tt) is
no_fault_at found at setting.Tiers (inr (searched, inl is)) = not_beyond (codes "tiers") 1 8 found (codes "8") at.tiers (lit≤ tt) (lit≤ tt) is.1
no_fault_at found at setting.Heights (inr (searched, inl is)) =
    let text = is.2.0 in let has : first_of (codes "heights") found ≡ Some text = is.2.1 in let k : None ≡ Some text = sym at.heights ∙ has in absurd (cc)
no_fault_at found at setting.Bay (inr (searched, inl is)) = is.1 [] (tt, sym at.bays)
no_fault_at found at setting.Seconds (inr (searched, inl is)) = is
no_fault_at found at setting.TotalSeconds (inr (searched, inl is)) = is
no_fault_at found at f (inr (searched, inr (input, is))) = no_time_at found at f is

-- they ask for bays of 12 rows of 8 tiers
pub limits_ask : (j : Job) → WordsAsk limit_words j → HasHeights (replicate 12 8) j
unfolding walk_fault defaults_fault flags_fault walked bundle_met
limits_ask (Solve names settings quiet progress) (free, (name, size, twice, files, has, a, b)) =
    sizes_at _ settings.input.sizes (record { rows = refl; tiers = refl; heights = refl; workers = refl; split = refl; beam = refl; thin = refl; budget = refl; bays = refl; seconds = refl; total = refl }) has.1.0
limits_ask (OneFile file command.Replay stop) (free, (name, is, named)) = absurd (other_letter 115 114 _ _ refl name)
limits_ask (OneFile file command.Rewrite stop) (free, (name, is, named)) = absurd (other_letter 115 114 _ _ refl name)
limits_ask (OneFile file (command.Bound chains json) stop) (free, (name, is, named)) = absurd (other_letter 115 98 _ _ refl name.0)
limits_ask (OneFile file (command.Check any_size workers json) stop) (free, (name, is, named)) = absurd (other_letter 115 99 _ _ refl name.0)
limits_ask (OneFile file (command.Prove chosen) stop) (free, (name, is, named)) = absurd (other_letter 115 112 _ _ refl name.0)
limits_ask (Audit names settings) (free, (name, size, files, has)) = absurd (other_letter 115 97 _ _ refl name)
limits_ask (Follow names settings) (free, (name, clear, one, files, has)) = absurd (other_letter 115 102 _ _ refl name)
limits_ask (Compare names settings) (free, (name, clear, files, has)) = absurd (other_letter 115 102 _ _ refl name)
limits_ask (Absent names settings) (free, (name, size, files, has)) = absurd (other_letter 115 97 _ _ refl name)

-- the rows of a command, if there is one
abbrev rows_in : Option (Text × List Row) → List Row
rows_in None = []
rows_in (Some p) = p.1

limits_have_no_fault : (f : SettingFault) → WordsHaveFault limit_words f → ⊥
unfolding walk_fault defaults_fault flags_fault walked bundle_met
limits_have_no_fault f (free, inl is) = absurd (other_letter 115 112 _ _ refl is.0)
limits_have_no_fault f (free, inr (inl is)) =
    no_fault_at (rows_in (subcommand_of crp (words_or_default limit_words))) (record { rows = refl; tiers = refl; heights = refl; workers = refl; split = refl; beam = refl; thin = refl; budget = refl; bays = refl; seconds = refl; total = refl }) f is.1.2
limits_have_no_fault f (free, inr (inr (inl is))) = absurd (other_letter 115 97 _ _ refl is.0)
limits_have_no_fault f (free, inr (inr (inr (inl is)))) = absurd (other_letter 115 102 _ _ refl is.0)
limits_have_no_fault f (free, inr (inr (inr (inr (inl is))))) = absurd (other_letter 115 97 _ _ refl is.0)
limits_have_no_fault f (free, inr (inr (inr (inr (inr is))))) = absurd (other_letter 115 99 _ _ refl is.0)

-- they are not refused for a setting
pub limits_refused : (u : Usage) → Refuses limit_words u → ¬ IsOfSetting u
limits_refused (usage.Wrong (mistake.Setting f)) (none, shows, is) of = limits_have_no_fault f is
limits_refused (usage.Wrong (mistake.Words text)) refuses of = of
limits_refused (usage.Help text) refuses of = of
limits_refused usage.Memory refuses of = of

-- ---- `prove - --strong --beam 7`

abbrev pub strong_words : List Text
strong_words = codes "prove" ∷ codes "-" ∷ codes "--strong" ∷ codes "--beam" ∷ codes "7" ∷ []

record IsStrongWith (found : List Row) : Type 0 where
  strong : IsGivenByWords (codes "strong") found
  beam_given : IsGivenByWords (codes "beam") found
  beam : one_of (codes "beam") found ≡ Some (codes "7")
  thin : value_source_of (codes "thin") found ≡ Some DefaultValue

strong_beam : (found : List Row) → IsStrongWith found → (n : ℕ) → HasBeam found n → n ≡ 7
strong_beam found at n (inl (left, is)) = absurd (left.1 at.beam_given)
strong_beam found at n (inr (own, within)) = one_number (codes "beam") found (codes "7") n at.beam within.0

strong_thin : (found : List Row) → IsStrongWith found → (n : ℕ) → HasThin found n → n ≡ 10000
strong_thin found at n (inl (left, is)) = is
strong_thin found at n (inr (own, within)) =
    absurd (own (at.strong, λ given. let e : Some DefaultValue ≡ Some CommandLine = sym at.thin ∙ given in absurd (cc)))

-- the beam is the one that is given, and all else that of --strong
pub strong_asks : (j : Job) → WordsAsk strong_words j → IsStrongSearch 7 j
unfolding walk_fault defaults_fault flags_fault walked bundle_met
strong_asks (OneFile file (command.Prove settings) stop) (free, ((name, ((workers, budget, split, beam, thin, (first, deepen, chains)), time)), is, named)) =
    let at : IsStrongWith (rows_in (subcommand_of crp (words_or_default strong_words))) = record { strong = refl; beam_given = refl; beam = refl; thin = refl } in
    (strong_beam _ at settings.beam beam, strong_thin _ at settings.thin thin, deepen.1 (inr at.strong), chains.1 (inr at.strong))
strong_asks (OneFile file command.Replay stop) (free, (name, is, named)) = absurd (other_letter 112 114 _ _ refl name)
strong_asks (OneFile file command.Rewrite stop) (free, (name, is, named)) = absurd (other_letter 112 114 _ _ refl name)
strong_asks (OneFile file (command.Bound chains json) stop) (free, (name, is, named)) = absurd (other_letter 112 98 _ _ refl name.0)
strong_asks (OneFile file (command.Check any_size workers json) stop) (free, (name, is, named)) = absurd (other_letter 112 99 _ _ refl name.0)
strong_asks (Absent names settings) (free, (name, size, files, has)) = absurd (other_letter 112 97 _ _ refl name)
strong_asks (Audit names settings) (free, (name, size, files, has)) = absurd (other_letter 112 97 _ _ refl name)
strong_asks (Follow names settings) (free, (name, clear, one, files, has)) = absurd (other_letter 112 102 _ _ refl name)
strong_asks (Compare names settings) (free, (name, clear, files, has)) = absurd (other_letter 112 102 _ _ refl name)
strong_asks (Solve names settings quiet progress) (free, (name, size, twice, files, has, a, b)) = absurd (other_letter 112 115 _ _ refl name)
