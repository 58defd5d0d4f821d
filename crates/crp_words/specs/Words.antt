-- What the words of the command line ask for.
use Rattle.std.specs.Prelude.{◌≡◌, ℕ, ◌≢◌, ◌↔◌, Bool, IsTrue, ◌⊎◌, ◌&&◌, ◌||◌, ◌==◌, ◌<◌, ◌≤◌, ◌^◌, List, [], ◌∷◌, ◌++◌, length, map, take, drop, if◌then◌else◌, codes, Option, Some, None, option_map, option_and_then, find, is_some, not, replicate, unwrap_or, decimal, ⊤}
use Rattle.std.specs.List.{AllByRecursion}
use Rattle.std.specs.Char.{is_ascii_punctuation}
use Rattle.std.specs.Str.{bytes_eq}
use Rattle.std.specs.Str.Parse.{IsNumeral, digits_value, without_leading_plus}
use denote.Ref.{Bor}
use Rattle.clap.specs.Words.{IsAmong, Kinds, Row, Text, all_of, fault_of, first_of, one_of, subcommand_of}
use Rattle.clap.specs.declared.parser.matches.ValueSource.{ValueSource}
use Rattle.clap.specs.declared.parser.matches.ValueSource.TheVariants.{CommandLine}
use Rattle.clap.specs.declared.error.kind.ErrorKind.{ErrorKind}
use Rattle.clap.specs.declared.error.kind.ErrorKind.TheVariants as kind
use Rattle.crp_solve.specs.Chosen.{Chosen}
use Rattle.crp_solve.specs.declared.settings.TimeLimits.{TimeLimits}
use Rattle.crp_words.specs.Commands.{crp}
use Rattle.crp_words.specs.Seconds.{IsSecondsText}
use Rattle.crp_plan.specs.BayNames.{YardBay, IsYardBay}
use Rattle.crp_movins.specs.Loading.{Loading}
use Rattle.crp_sizes.specs.Heights.{IsHeightsText}
use Rattle.crp_sizes.specs.Sizes.{YardSizes, one_size}
use Rattle.crp_jobs.specs.declared.job.FileCommand.{FileCommand}
use Rattle.crp_jobs.specs.declared.job.FileCommand.TheVariants as command
use Rattle.crp_jobs.specs.declared.job.Job.{Job}
use Rattle.crp_jobs.specs.declared.job.Job.TheVariants as job
use Rattle.crp_jobs.specs.declared.job.AbsentFiles.{AbsentFiles}
use Rattle.crp_jobs.specs.declared.job.AfterFile.{AfterFile}
use Rattle.crp_jobs.specs.declared.job.AuditFiles.{AuditFiles}
use Rattle.crp_jobs.specs.declared.job.CompareFiles.{CompareFiles}
use Rattle.crp_jobs.specs.declared.job.FollowFiles.{FollowFiles}
use Rattle.crp_jobs.specs.declared.job.RunFiles.{RunFiles}
use Rattle.crp_words.specs.declared.usage.Mistake.{Mistake}
use Rattle.crp_words.specs.declared.usage.Mistake.TheVariants as mistake
use Rattle.crp_order.specs.declared.sequences.Mode.{Mode}
use Rattle.crp_order.specs.declared.sequences.Mode.TheVariants as mode
use Rattle.crp_words.specs.declared.usage.SettingFault.{SettingFault}
use Rattle.crp_words.specs.declared.usage.SettingFault.TheVariants as setting
use Rattle.crp_report.specs.Chosen.{InputChosen, RunChosen}
use Rattle.crp_words.specs.declared.usage.Usage.{Usage}
use Rattle.crp_words.specs.declared.usage.Usage.TheVariants as usage
use Rattle.crp_solve.specs.declared.settings.TheConstants.{MAX_BUDGET, MAX_BEAM, MAX_THIN}

-- no words ask for a replay of the standard input
abbrev pub words_or_default : List Text → List Text
words_or_default words = if length words == 0 then codes "replay" ∷ codes "-" ∷ [] else words

-- ---- files, texts and numbers of a command, in clap's rows for it

-- the rows have this text for the file or the option: as it was given, or else its default
abbrev pub HasText : Text → List Row → Text → Type 0
HasText id found text = first_of id found ≡ Some text

-- the text is this whole number, below 2^64
abbrev pub ReadsNumber : Option Text → ℕ → Type 0
ReadsNumber found n = (text : Text) × (found ≡ Some text) × IsNumeral 10 (without_leading_plus text)
    × (n ≡ digits_value 10 (without_leading_plus text)) × (n < 2 ^ 64)

-- where the text for the option comes from, if there is one
abbrev pub value_source_of : Text → List Row → Option ValueSource
value_source_of id found = option_and_then (λ row. row.source) (find (λ row. bytes_eq row.id id) found)

-- the words give the option, so that it has not its default
abbrev pub IsGivenByWords : Text → List Row → Type 0
IsGivenByWords id found = value_source_of id found ≡ Some CommandLine

-- the rows have this whole number for the option: as it was given, or else its default
abbrev pub HasNumber : Text → List Row → ℕ → Type 0
HasNumber id found n = ReadsNumber (one_of id found) n

-- the same, or that none is wanted
abbrev pub MayHaveNumber : Text → List Row → Option ℕ → Type 0
MayHaveNumber id found None = first_of id found ≡ None
MayHaveNumber id found (Some n) = HasNumber id found n

-- the rows have this whole number for the option, and it is within the limits
abbrev pub HasNumberWithin : Text → ℕ → ℕ → List Row → ℕ → Type 0
HasNumberWithin id least most found n = HasNumber id found n × (least ≤ n) × (n ≤ most)

-- the rows have a whole number for the option, and it is beyond the limits
abbrev pub HasNumberBeyond : Text → ℕ → ℕ → List Row → Type 0
HasNumberBeyond id least most found = (n : ℕ) × HasNumber id found n × ((n < least) ⊎ (most < n))

-- the words give the flag, or --strong, which stands for it too
abbrev pub IsGivenOrStrong : Text → List Row → Type 0
IsGivenOrStrong id found = IsGivenByWords id found ⊎ IsGivenByWords (codes "strong") found

-- the number of the option is left to --strong: the words give --strong, and not the option
abbrev pub IsLeftToStrong : Text → List Row → Type 0
IsLeftToStrong id found = IsGivenByWords (codes "strong") found × ¬ IsGivenByWords id found

-- the number of the option: that of --strong where it is left to it, and else the one that the rows have, within its limit
abbrev pub HasNumberOrStrong : Text → ℕ → ℕ → List Row → ℕ → Type 0
HasNumberOrStrong id most strong found n = (IsLeftToStrong id found × (n ≡ strong)) ⊎ (¬ IsLeftToStrong id found × HasNumberWithin id 0 most found n)

-- the number of the option is not left to --strong, and beyond its limit
abbrev pub HasOwnNumberBeyond : Text → ℕ → List Row → Type 0
HasOwnNumberBeyond id most found = ¬ IsLeftToStrong id found × HasNumberBeyond id 0 most found

-- the budget that was found, at most 2^40
abbrev pub HasBudget : List Row → ℕ → Type 0
HasBudget found n = HasNumberWithin (codes "budget") 0 MAX_BUDGET found n

-- the budget that was found is too large
abbrev pub IsBudgetBeyond : List Row → Type 0
IsBudgetBeyond found = HasNumberBeyond (codes "budget") 0 MAX_BUDGET found

-- the workers that were found, 1 to 64
abbrev pub HasWorkers : List Row → ℕ → Type 0
HasWorkers found n = HasNumberWithin (codes "workers") 1 64 found n

-- the workers that were found are none, or too many
abbrev pub AreWorkersBeyond : List Row → Type 0
AreWorkersBeyond found = HasNumberBeyond (codes "workers") 1 64 found

-- the split that was found, at most 8
abbrev pub HasSplit : List Row → ℕ → Type 0
HasSplit found n = HasNumberWithin (codes "split") 0 8 found n

-- the split that was found is too large
abbrev pub IsSplitBeyond : List Row → Type 0
IsSplitBeyond found = HasNumberBeyond (codes "split") 0 8 found

-- the first of all best plans is asked for exactly where the words give the flag
abbrev pub MayAskForFirst : List Row → Bool → Type 0
MayAskForFirst found first = IsTrue first ↔ IsGivenByWords (codes "first") found

-- the beam that was found, at most 10000, or the 100 of --strong
abbrev pub HasBeam : List Row → ℕ → Type 0
HasBeam found n = HasNumberOrStrong (codes "beam") MAX_BEAM 100 found n

-- the beam that was found is too wide
abbrev pub IsBeamBeyond : List Row → Type 0
IsBeamBeyond found = HasOwnNumberBeyond (codes "beam") MAX_BEAM found

-- the most thinned branches of a try that were found, at most 1000000, or the 10000 of --strong
abbrev pub HasThin : List Row → ℕ → Type 0
HasThin found n = HasNumberOrStrong (codes "thin") MAX_THIN 10000 found n

-- the most thinned branches of a try that were found are too many
abbrev pub IsThinBeyond : List Row → Type 0
IsThinBeyond found = HasOwnNumberBeyond (codes "thin") MAX_THIN found

-- the limit rises from search to search exactly where the words give the flag, or --strong
abbrev pub MayDeepen : List Row → Bool → Type 0
MayDeepen found deepen = IsTrue deepen ↔ IsGivenOrStrong (codes "deepen") found

-- chains may close a position exactly where the words give the flag, or --strong
abbrev pub MayUseChains : List Row → Bool → Type 0
MayUseChains found chains = IsTrue chains ↔ IsGivenOrStrong (codes "chains") found

-- the flags of a search that were found
abbrev pub HasFlags : List Row → Chosen → Type 0
HasFlags found s = MayAskForFirst found s.first × MayDeepen found s.deepen × MayUseChains found s.chains

-- the settings of a search that were found, within their limits, but for its limits of time
abbrev pub HasUntimed : List Row → Chosen → Type 0
HasUntimed found s =
    HasWorkers found s.workers × HasBudget found s.budget × HasSplit found s.split × HasBeam found s.beam × HasThin found s.thin × HasFlags found s

-- the limit of time that was found for the option, in milliseconds
abbrev pub HasSeconds : Text → List Row → ℕ → Type 0
HasSeconds id found millis = (text : Text) × HasText id found text × IsSecondsText text millis

-- the same, or that none is wanted
abbrev pub MayHaveSeconds : Text → List Row → Option ℕ → Type 0
MayHaveSeconds id found None = first_of id found ≡ None
MayHaveSeconds id found (Some millis) = HasSeconds id found millis

-- the text that was found for the option is no number of seconds from 0.001 to 86400
abbrev pub AreSecondsBeyond : Text → List Row → Type 0
AreSecondsBeyond id found = (text : Text) × HasText id found text × ((millis : ℕ) → IsSecondsText text millis → ⊥)

-- a search may be stopped exactly where a file is named that does
abbrev pub MayStop : List Row → Bool → Type 0
MayStop found stop = stop ≡ is_some (first_of (codes "stop") found)

-- the file that stops a search was found, if one was
abbrev pub MayNameStop : List Row → Option (Bor Text) → Type 0
MayNameStop found name = first_of (codes "stop") found ≡ option_map (λ text. text.now) name

-- the limits of time that were found: that of each bay, that of all bays together, and whether a file may stop them
abbrev pub HasTime : List Row → TimeLimits → Type 0
HasTime found time = MayHaveSeconds (codes "seconds") found time.bay × MayHaveSeconds (codes "total-seconds") found time.all × MayStop found time.stop

-- the settings of a search that were found, within their limits
abbrev pub HasSearch : List Row → Chosen → Type 0
HasSearch found s = HasUntimed found s × HasTime found s.time

-- the rows of a bay that were found, 1 to 12
abbrev pub FindsRows : List Row → ℕ → Type 0
FindsRows found n = HasNumberWithin (codes "rows") 1 12 found n

-- the rows of a bay that were found are none, or too many
abbrev pub AreRowsBeyond : List Row → Type 0
AreRowsBeyond found = HasNumberBeyond (codes "rows") 1 12 found

-- the tiers of a bay that were found, 1 to 8
abbrev pub FindsTiers : List Row → ℕ → Type 0
FindsTiers found n = HasNumberWithin (codes "tiers") 1 8 found n

-- the tiers of a bay that were found are none, or too many
abbrev pub AreTiersBeyond : List Row → Type 0
AreTiersBeyond found = HasNumberBeyond (codes "tiers") 1 8 found

-- the heights of the rows that were found
abbrev pub FindsHeights : List Row → List ℕ → Type 0
FindsHeights found heights = (text : Text) × HasText (codes "heights") found text × IsHeightsText heights text

-- the same, or that none are wanted
abbrev pub MayFindHeights : List Row → Option (List ℕ) → Type 0
MayFindHeights found None = first_of (codes "heights") found ≡ None
MayFindHeights found (Some heights) = FindsHeights found heights

-- the heights that were found are in the text of none
abbrev pub AreHeightsBeyond : List Row → Type 0
AreHeightsBeyond found = (text : Text) × HasText (codes "heights") found text × ((heights : List ℕ) → IsHeightsText heights text → ⊥)

-- the heights are given beside the rows or the tiers, in place of which they stand
abbrev pub IsSizedTwice : List Row → Type 0
IsSizedTwice found = IsGivenByWords (codes "heights") found × (IsGivenByWords (codes "rows") found ⊎ IsGivenByWords (codes "tiers") found)

-- the word for an order
abbrev pub order_word : Mode → Text
order_word mode.Listed = codes "listed"
order_word mode.Stowage = codes "stowage"

-- the order of leaving that was found
abbrev pub HasOrder : List Row → Mode → Type 0
HasOrder found o = HasText (codes "order") found (order_word o)

-- the heights of the rows: those that are wanted, or else as many rows, with as many tiers each
abbrev pub heights_or : Option (List ℕ) → ℕ → ℕ → List ℕ
heights_or (Some heights) rows tiers = heights
heights_or None rows tiers = replicate rows tiers

-- the sizes of the bays that were found, which have no list yet: all bays have rows of these heights, each for itself, where they are, or else as many rows as
-- were found, with as many tiers each
pub record FindsSizes (found : List Row) (sizes : YardSizes) : Type 0 where
  pub rows : ℕ
  pub tiers : ℕ
  pub own : Option (List ℕ)
  pub finds_rows : FindsRows found rows
  pub finds_tiers : FindsTiers found tiers
  pub finds_own : MayFindHeights found own
  pub are : sizes ≡ one_size (heights_or own rows tiers)

-- the texts of an option that may be given several times
abbrev pub given_texts : Text → List Row → List Text
given_texts id found = unwrap_or (all_of id found) []

-- a bay as reports name it: its block, a blank, and its number
abbrev pub bay_name : YardBay → Text
bay_name bay = bay.block ++ 32 ∷ decimal bay.bay

-- the bays that were found, each by its name
abbrev pub FindsBays : List Row → List YardBay → Type 0
FindsBays found bays = AllByRecursion IsYardBay bays × (map bay_name bays ≡ given_texts (codes "bay") found)

-- the texts that were found are not all names of bays
abbrev pub AreBaysBeyond : List Row → Type 0
AreBaysBeyond found = (bays : List YardBay) → FindsBays found bays → ⊥

-- what is read of the message, as it was found
abbrev pub HasLoading : List Row → Loading → Type 0
HasLoading found s = HasText (codes "code") found s.code × (s.messages ≡ given_texts (codes "message") found)

-- what the input means, as it was found, within its limits
abbrev pub HasInput : List Row → InputChosen → Type 0
HasInput found s = FindsSizes found s.sizes × FindsBays found s.bays × HasOrder found s.mode × HasLoading found s.loading

-- the settings of solve that were found, within their limits
abbrev pub HasSettings : List Row → RunChosen → Type 0
HasSettings found s = HasSearch found s.search × HasInput found s.input

-- the list of sizes that was found, if one was
abbrev pub MayNameSizes : List Row → Option (Bor Text) → Type 0
MayNameSizes found name = first_of (codes "sizes") found ≡ option_map (λ text. text.now) name

-- the byte may stand between the fields of a list: a tab, or a sign of ASCII that is no quote
abbrev pub may_separate : ℕ → Bool
may_separate b = (b == 9) || (is_ascii_punctuation b && not (b == 34))

-- the byte of a text of one byte that may
abbrev pub separator_in : Text → Option ℕ
separator_in [] = None
separator_in (b ∷ []) = if may_separate b then Some b else None
separator_in (b ∷ c ∷ text) = None

-- the byte between the fields of lists that was found
abbrev pub HasSeparator : List Row → ℕ → Type 0
HasSeparator found separator = (text : Text) × HasText (codes "separator") found text × (separator_in text ≡ Some separator)

-- what is written is printed as JSON Lines exactly where the words give the flag
abbrev pub MayBeJson : List Row → Bool → Type 0
MayBeJson found json = IsTrue json ↔ IsGivenByWords (codes "json") found

-- the files of solve that were found: the two inputs, the list of sizes, if there is one, the outputs that are wanted, and the file that stops it, if there is one;
-- whether its report is printed as JSON Lines; and the byte between the fields of its lists
abbrev pub HasFiles : List Row → RunFiles → Type 0
HasFiles found names = HasText (codes "yard") found names.yard.now × HasText (codes "movins") found names.movins.now
    × (first_of (codes "cert") found ≡ option_map (λ text. text.now) names.cert)
    × (first_of (codes "after") found ≡ option_map (λ text. text.now) names.after) × MayNameSizes found names.sizes × MayNameStop found names.stop
    × MayBeJson found names.json × HasSeparator found names.separator

-- the files of absent that were found, the list of sizes, if there is one, and the byte between the fields of lists
abbrev pub HasAbsentFiles : List Row → AbsentFiles → Type 0
HasAbsentFiles found names = HasText (codes "yard") found names.yard.now × HasText (codes "movins") found names.movins.now × MayNameSizes found names.sizes
    × HasSeparator found names.separator

-- the report may end early exactly where the words give the flag
abbrev pub MayEndEarly : List Row → Bool → Type 0
MayEndEarly found partial = IsTrue partial ↔ IsGivenByWords (codes "partial") found

-- the table is that of the bays exactly where the words give the flag
abbrev pub IsOfBays : List Row → Bool → Type 0
IsOfBays found summary = IsTrue summary ↔ IsGivenByWords (codes "summary") found

-- the files of audit that were found, and the list of sizes, if there is one; whether the report may end early; the byte between the fields of lists;
-- and whether what is found is printed as JSON Lines
abbrev pub HasAuditFiles : List Row → AuditFiles → Type 0
HasAuditFiles found names = HasText (codes "yard") found names.yard.now × HasText (codes "movins") found names.movins.now
    × HasText (codes "report") found names.report.now × HasText (codes "certificates") found names.certificates.now × MayNameSizes found names.sizes
    × MayEndEarly found names.partial × HasSeparator found names.separator × MayBeJson found names.json

-- the file of the yard after that was found, if one was, and how many containers the ship has by then, if that was found
abbrev pub MayNameAfter : List Row → Option AfterFile → Type 0
MayNameAfter found None = first_of (codes "after") found ≡ None
MayNameAfter found (Some file) = HasText (codes "after") found file.name.now × MayHaveNumber (codes "loaded") found file.loaded

-- the files of follow that were found: the yard list and the report, the message and the list of sizes, if there are any, and the page and the yard after,
-- if they are wanted; whether the report may end early; whether the table is that of the bays; and the byte between the fields of lists
abbrev pub HasFollowFiles : List Row → FollowFiles → Type 0
HasFollowFiles found names = HasText (codes "yard") found names.yard.now × HasText (codes "report") found names.report.now
    × (first_of (codes "movins") found ≡ option_map (λ text. text.now) names.movins)
    × (first_of (codes "page") found ≡ option_map (λ text. text.now) names.page) × MayNameSizes found names.sizes × MayNameAfter found names.after
    × MayEndEarly found names.partial × IsOfBays found names.summary × HasSeparator found names.separator × (names.part.blocks ≡ given_texts (codes "block") found)

-- the files of two reports that were found, and the list of sizes, if there is one; whether the reports may end early; and the byte between the fields of lists
abbrev pub HasCompareFiles : List Row → CompareFiles → Type 0
HasCompareFiles found names = HasText (codes "yard") found names.yard.now × HasText (codes "report") found names.report.now
    × HasText (codes "compare") found names.second.now × MayNameSizes found names.sizes × MayEndEarly found names.partial
    × HasSeparator found names.separator

-- there is no second report
abbrev pub IsOneReport : List Row → Type 0
IsOneReport found = first_of (codes "compare") found ≡ None

-- the name of a file without `./` in front
abbrev pub plain_name : Text → Text
plain_name name = if bytes_eq (take 2 name) (codes "./") then drop 2 name else name

-- the words name one file for both
pub record IsOneFile (id other_id : Text) (found : List Row) : Type 0 where
  pub name : Text
  pub other : Text
  pub has : HasText id found name
  pub has_other : HasText other_id found other
  pub same : plain_name name ≡ plain_name other

-- a file that solve writes, which is emptied before anything is read, is one that it reads, or the other one that it writes
abbrev pub IsNamedTwice : List Row → Type 0
IsNamedTwice found = IsOneFile (codes "cert") (codes "yard") found
    ⊎ (IsOneFile (codes "cert") (codes "movins") found ⊎ (IsOneFile (codes "after") (codes "yard") found
    ⊎ (IsOneFile (codes "after") (codes "movins") found ⊎ IsOneFile (codes "after") (codes "cert") found)))

-- a file that follow writes, which is emptied before anything is read, is one that it reads, or the other one that it writes
abbrev pub IsFollowNamedTwice : List Row → Type 0
IsFollowNamedTwice found = IsOneFile (codes "page") (codes "yard") found
    ⊎ (IsOneFile (codes "page") (codes "report") found ⊎ (IsOneFile (codes "page") (codes "movins") found
    ⊎ (IsOneFile (codes "after") (codes "yard") found ⊎ (IsOneFile (codes "after") (codes "report") found
    ⊎ (IsOneFile (codes "after") (codes "movins") found ⊎ IsOneFile (codes "after") (codes "page") found)))))

-- what is read of a message, or made of it, is given, and no message that it is about
abbrev pub IsOrderedAlone : List Row → Type 0
IsOrderedAlone found = (first_of (codes "movins") found ≡ None) × (IsGivenByWords (codes "order") found ⊎ (IsGivenByWords (codes "code") found
    ⊎ IsGivenByWords (codes "message") found))

-- the containers that the ship has are counted, and the yard after is not wanted, or no message says which they are
abbrev pub IsLoadedAlone : List Row → Type 0
IsLoadedAlone found = IsGivenByWords (codes "loaded") found × ((first_of (codes "after") found ≡ None) ⊎ (first_of (codes "movins") found ≡ None))

-- both reports are the standard input
abbrev pub AreBothInput : List Row → Type 0
AreBothInput found = HasText (codes "report") found (codes "-") × HasText (codes "compare") found (codes "-")

-- what is said of one report is given: a message, a part of it, or the summary
abbrev pub IsOfOneReport : List Row → Type 0
IsOfOneReport found = IsGivenByWords (codes "movins") found ⊎ (IsGivenByWords (codes "bay") found
    ⊎ (IsGivenByWords (codes "block") found ⊎ IsGivenByWords (codes "summary") found))

-- a second report is given beside what is made of one: its order, a part of it, the summary, the page or the yard after; or both are the standard input
abbrev pub IsComparedBeside : List Row → Type 0
IsComparedBeside found = IsGivenByWords (codes "compare") found × (IsOfOneReport found ⊎ (IsGivenByWords (codes "page") found
    ⊎ (IsGivenByWords (codes "after") found ⊎ AreBothInput found)))

-- notes are left out exactly where the words give the flag
abbrev pub MayBeQuiet : List Row → Bool → Type 0
MayBeQuiet found quiet = IsTrue quiet ↔ IsGivenByWords (codes "quiet") found

-- a line says that each bay begins exactly where the words give the flag
abbrev pub MayShowProgress : List Row → Bool → Type 0
MayShowProgress found progress = IsTrue progress ↔ IsGivenByWords (codes "progress") found

-- the line of chains is written exactly where the words give the flag
abbrev pub MayWriteChains : List Row → Bool → Type 0
MayWriteChains found chains = IsTrue chains ↔ IsGivenByWords (codes "chains") found

-- a file of certificates may have any size exactly where the words give the flag
abbrev pub MayBeAnySize : List Row → Bool → Type 0
MayBeAnySize found any_size = IsTrue any_size ↔ IsGivenByWords (codes "any-size") found

-- the size of follow stands there once, what a message is read by beside a message, a count beside a message and the yard after, each file that is written
-- apart, and a second report by itself
abbrev pub AreFollowWordsClear : List Row → Type 0
AreFollowWordsClear found = ¬ IsSizedTwice found × ¬ IsOrderedAlone found × ¬ IsLoadedAlone found × ¬ IsFollowNamedTwice found × ¬ IsComparedBeside found

-- ---- the job, or the first setting beyond its limits

-- the command over one file and its rows ask for this
abbrev pub AsksCommand : Text → List Row → FileCommand → Type 0
AsksCommand name found command.Replay = name ≡ codes "replay"
AsksCommand name found (command.Bound chains json) = (name ≡ codes "bound") × MayWriteChains found chains × MayBeJson found json
AsksCommand name found (command.Check any_size workers json) = (name ≡ codes "check") × MayBeAnySize found any_size × HasWorkers found workers × MayBeJson found json
AsksCommand name found (command.Prove search) = (name ≡ codes "prove") × HasSearch found search
AsksCommand name found command.Rewrite = name ≡ codes "rewrite"

-- the input that was found, for all bays; the bays that it was for are these
abbrev pub IsPartOfInput : List Row → List YardBay → InputChosen → Type 0
IsPartOfInput found bays s = HasInput found (record s { bays = bays }) × (s.bays ≡ [])

-- the command and its rows ask for this
abbrev pub Asks : Text → List Row → Job → Type 0
Asks name found (job.OneFile file c stop) = AsksCommand name found c × HasText (codes "file") found file.now × MayNameStop found stop
Asks name found (job.Absent names settings) =
    (name ≡ codes "absent") × ¬ IsSizedTwice found × HasAbsentFiles found names × HasInput found settings
Asks name found (job.Audit names settings) =
    (name ≡ codes "audit") × ¬ IsSizedTwice found × HasAuditFiles found names × HasInput found settings
Asks name found (job.Follow names settings) =
    (name ≡ codes "follow") × AreFollowWordsClear found × IsOneReport found × HasFollowFiles found names × IsPartOfInput found names.part.bays settings
Asks name found (job.Compare names settings) =
    (name ≡ codes "follow") × AreFollowWordsClear found × HasCompareFiles found names × ((bays : List YardBay) × IsPartOfInput found bays settings)
Asks name found (job.Solve names settings quiet progress) =
    (name ≡ codes "solve") × ¬ IsSizedTwice found × ¬ IsNamedTwice found × HasFiles found names × HasSettings found settings × MayBeQuiet found quiet × MayShowProgress found progress

-- the first number of a search beyond its limits: the workers, then the budget, then the split, then the beam, then the thinned branches
abbrev pub IsSearchFault : List Row → SettingFault → Type 0
IsSearchFault found setting.Workers = AreWorkersBeyond found
IsSearchFault found setting.Budget = ((n : ℕ) × HasWorkers found n) × IsBudgetBeyond found
IsSearchFault found setting.Split = ((n : ℕ) × HasWorkers found n) × ((n : ℕ) × HasBudget found n) × IsSplitBeyond found
IsSearchFault found setting.Beam = ((n : ℕ) × HasWorkers found n) × ((n : ℕ) × HasBudget found n) × ((n : ℕ) × HasSplit found n) × IsBeamBeyond found
IsSearchFault found setting.Thin = ((n : ℕ) × HasWorkers found n) × ((n : ℕ) × HasBudget found n) × ((n : ℕ) × HasSplit found n) × ((n : ℕ) × HasBeam found n)
    × IsThinBeyond found
IsSearchFault found setting.Rows = ⊥
IsSearchFault found setting.Tiers = ⊥
IsSearchFault found setting.Heights = ⊥
IsSearchFault found setting.Bay = ⊥
IsSearchFault found setting.Seconds = ⊥
IsSearchFault found setting.TotalSeconds = ⊥

-- the first setting of the input beyond its limits: the rows, then the tiers, then the heights, then the bays
abbrev pub IsInputFault : List Row → SettingFault → Type 0
IsInputFault found setting.Rows = AreRowsBeyond found
IsInputFault found setting.Tiers = ((n : ℕ) × FindsRows found n) × AreTiersBeyond found
IsInputFault found setting.Heights = ((n : ℕ) × FindsRows found n) × ((n : ℕ) × FindsTiers found n) × AreHeightsBeyond found
IsInputFault found setting.Bay = ((sizes : YardSizes) × FindsSizes found sizes) × AreBaysBeyond found
IsInputFault found f = ⊥

-- the first limit of time that is none: that of each bay, then that of all bays together
abbrev pub IsTimeFault : List Row → SettingFault → Type 0
IsTimeFault found setting.Seconds = AreSecondsBeyond (codes "seconds") found
IsTimeFault found setting.TotalSeconds = ((bay : Option ℕ) × MayHaveSeconds (codes "seconds") found bay) × AreSecondsBeyond (codes "total-seconds") found
IsTimeFault found f = ⊥

-- the first setting of prove beyond its limits: that of the search, then that of its time
abbrev pub IsProveFault : List Row → SettingFault → Type 0
IsProveFault found f = IsSearchFault found f ⊎ (((s : Chosen) × HasUntimed found s) × IsTimeFault found f)

-- the first setting of solve behind those of the search beyond its limits: that of the input, then that of its time
abbrev pub IsInputOrTimeFault : List Row → SettingFault → Type 0
IsInputOrTimeFault found f = IsInputFault found f ⊎ (((s : InputChosen) × HasInput found s) × IsTimeFault found f)

-- the first setting of solve beyond its limits: that of the search, then the others
abbrev pub IsSolveFault : List Row → SettingFault → Type 0
IsSolveFault found f = IsSearchFault found f ⊎ (((s : Chosen) × HasUntimed found s) × IsInputOrTimeFault found f)

-- the fault is this one, and it is there
abbrev pub IsJust : SettingFault → Type 0 → SettingFault → Type 0
IsJust given there f = (f ≡ given) × there

-- the first setting of the command beyond its limits
abbrev pub IsFault : Text → List Row → SettingFault → Type 0
IsFault name found f = ((name ≡ codes "prove") × IsProveFault found f) ⊎ (((name ≡ codes "solve") × (¬ IsSizedTwice found × ¬ IsNamedTwice found × IsSolveFault found f))
    ⊎ (((name ≡ codes "audit") × (¬ IsSizedTwice found × IsInputFault found f))
    ⊎ (((name ≡ codes "follow") × (AreFollowWordsClear found × IsInputFault found f))
    ⊎ (((name ≡ codes "absent") × (¬ IsSizedTwice found × IsInputFault found f))
    ⊎ ((name ≡ codes "check") × IsJust setting.Workers (AreWorkersBeyond found) f)))))

-- the command, if there is one, and its rows ask for this
abbrev pub AsksFor : Option (Text × List Row) → Job → Type 0
AsksFor None j = ⊥
AsksFor (Some p) j = Asks p.0 p.1 j

-- the first setting of the command, if there is one, beyond its limits
abbrev pub IsFaultFor : Option (Text × List Row) → SettingFault → Type 0
IsFaultFor None f = ⊥
IsFaultFor (Some p) f = IsFault p.0 p.1 f

-- what the words ask for, by clap's matches of them
abbrev pub WordsAsk : List Text → Job → Type 0
WordsAsk words j = (fault_of crp (words_or_default words) ≡ [])
    × AsksFor (subcommand_of crp (words_or_default words)) j

-- the first setting of the words beyond its limits, by clap's matches of them
abbrev pub WordsHaveFault : List Text → SettingFault → Type 0
WordsHaveFault words f = (fault_of crp (words_or_default words) ≡ [])
    × IsFaultFor (subcommand_of crp (words_or_default words)) f

-- ---- refusals

-- the words have no fault, or one that is neither a call for help nor for the version
abbrev pub ShowsNothing : Kinds → Type 0
ShowsNothing kinds = (kinds ≡ []) ⊎ ((k : ErrorKind) × IsAmong k kinds × (k ≢ kind.DisplayHelp) × (k ≢ kind.DisplayVersion))

-- the mistake states the first setting beyond its limits exactly where there is one
abbrev pub NamesFirstFault : (SettingFault → Type 0) → Mistake → Type 0
NamesFirstFault IsFirst (mistake.Words text) = (f : SettingFault) → IsFirst f → ⊥
NamesFirstFault IsFirst (mistake.Setting f) = IsFirst f

-- when each refusal comes: help and the version where clap shows them, and else only for words that ask for nothing, a setting beyond its limits among it
abbrev pub Refuses : List Text → Usage → Type 0
Refuses words usage.Memory = ⊤
Refuses words (usage.Help text) = IsAmong kind.DisplayHelp (fault_of crp (words_or_default words))
    ⊎ IsAmong kind.DisplayVersion (fault_of crp (words_or_default words))
Refuses words (usage.Wrong m) = ((j : Job) → WordsAsk words j → ⊥) × ShowsNothing (fault_of crp (words_or_default words))
    × NamesFirstFault (WordsHaveFault words) m

-- why nothing of a kind comes of the rows of a command: there is none, and its first setting beyond its limits is stated
abbrev pub Lacks : {X : Type 0} → (X → Type 0) → (SettingFault → Type 0) → Usage → Type 0
Lacks Has IsFirst usage.Memory = ⊤
Lacks Has IsFirst (usage.Help text) = ⊥
Lacks {X} Has IsFirst (usage.Wrong m) = ((x : X) → Has x → ⊥) × NamesFirstFault IsFirst m

-- no setting is beyond its limits
abbrev pub NoFault : SettingFault → Type 0
NoFault f = ⊥

-- the refusal is by words, or because memory ran out
abbrev pub IsWordsOrMemory : Usage → Type 0
IsWordsOrMemory usage.Memory = ⊤
IsWordsOrMemory (usage.Help text) = ⊥
IsWordsOrMemory (usage.Wrong (mistake.Words text)) = ⊤
IsWordsOrMemory (usage.Wrong (mistake.Setting f)) = ⊥

-- the refusal for an error of this kind
abbrev pub ShowsKind : ErrorKind → Usage → Type 0
ShowsKind k usage.Memory = ⊤
ShowsKind k (usage.Help text) = (k ≡ kind.DisplayHelp) ⊎ (k ≡ kind.DisplayVersion)
ShowsKind k (usage.Wrong (mistake.Words text)) = (k ≢ kind.OutOfMemory) × (k ≢ kind.DisplayHelp) × (k ≢ kind.DisplayVersion)
ShowsKind k (usage.Wrong (mistake.Setting f)) = ⊥
