-- The command line as clap reads it: the commands, with their files and options.
use Rattle.std.specs.Prelude.{◌≡◌, true, false, List, [], ◌∷◌, ◌++◌, codes, Some}
use Rattle.clap.specs.Words.{App, Rule, Shape, Text, app_of, new_rule, rule_of}
use Rattle.clap.specs.Simple.{new_shape}
use Rattle.clap.specs.declared.builder.action.ArgAction.TheVariants as action
use Rattle.clap.specs.declared.builder.arg.Arg.{Arg}
use Rattle.clap.specs.declared.builder.command.Command.{Command}
use Rattle.clap.specs.declared.builder.command.Command.TheViews.{out-Command as fields_of}
use Rattle.clap.specs.declared.builder.value_parser.ValueParser.TheVariants as vp

-- a file that has to be named
abbrev pub file_rule : Text → Rule
file_rule name = record (new_rule name) { required = true; value_names = 1 }

-- a file that may be named
abbrev pub more_rule : Text → Rule
more_rule name = record (new_rule name) { value_names = 1 }

-- an option that takes a text, and the text that it has where it is not given
abbrev pub text_rule : Text → Text → Rule
text_rule name default = record (new_rule name) {
  long = Some name;
  value_names = 1;
  defaults = default ∷ [];
}

-- an option that takes a whole number below 2^64, and the number that it has where it is not given
abbrev pub number_rule : Text → Text → Rule
number_rule name default = record (text_rule name default) { parser = Some (vp.Unsigned 0 18446744073709551615) }

-- an option that takes a text, and has none where it is not given
abbrev pub optional_rule : Text → Rule
optional_rule name = record (new_rule name) { long = Some name; value_names = 1 }

-- an option that takes a text, and may be given several times
abbrev pub repeated_rule : Text → Rule
repeated_rule name = record (optional_rule name) { action = Some action.Append }

-- an option that takes a whole number below 2^64, and has none where it is not given
abbrev pub optional_number_rule : Text → Rule
optional_number_rule name = record (optional_rule name) { parser = Some (vp.Unsigned 0 18446744073709551615) }

-- an option that takes no text, and is given or not
abbrev pub flag_rule : Text → Rule
flag_rule name = record (new_rule name) { long = Some name; action = Some action.SetTrue }

-- a command with these files and options
abbrev pub command : Text → List Rule → Shape
command name rules = record (new_shape name) { rules = rules }

-- a command without commands of its own
abbrev pub alone : Shape → App
alone shape = record { top = shape; subs = [] }

-- a command that takes a FILE, and no option
abbrev pub leaf : Text → Shape
leaf name = command name (file_rule (codes "file") ∷ [])

-- the budget: 1000000 expansions where it is not given
abbrev pub budget_rule : Rule
budget_rule = number_rule (codes "budget") (codes "1000000")

-- the workers: 1 where they are not given
abbrev pub workers_rule : Rule
workers_rule = number_rule (codes "workers") (codes "1")

-- the split: subtrees are given away at paths of less than 2 rows where it is not given
abbrev pub split_rule : Rule
split_rule = number_rule (codes "split") (codes "2")

-- whether the first of all best plans is asked for: it is not where the flag is not given
abbrev pub first_rule : Rule
first_rule = flag_rule (codes "first")

-- whether notes are left out: they are not where the flag is not given
abbrev pub quiet_rule : Rule
quiet_rule = flag_rule (codes "quiet")

-- whether a line says that each bay begins: none does where the flag is not given
abbrev pub progress_rule : Rule
progress_rule = flag_rule (codes "progress")

-- whether what is written is printed as JSON Lines: it is not where the flag is not given
abbrev pub json_rule : Rule
json_rule = flag_rule (codes "json")

-- whether a report may end early: it may not where the flag is not given
abbrev pub partial_rule : Rule
partial_rule = flag_rule (codes "partial")

-- whether the table is that of the bays: it is that of the moves where the flag is not given
abbrev pub summary_rule : Rule
summary_rule = flag_rule (codes "summary")

-- the beam: none where it is not given
abbrev pub beam_rule : Rule
beam_rule = number_rule (codes "beam") (codes "0")

-- whether the limit rises from search to search: it does not where the flag is not given
abbrev pub deepen_rule : Rule
deepen_rule = flag_rule (codes "deepen")

-- the most thinned branches of a try to close a position: none where it is not given
abbrev pub thin_rule : Rule
thin_rule = number_rule (codes "thin") (codes "0")

-- whether chains may close a position: they may not where the flag is not given
abbrev pub chains_rule : Rule
chains_rule = flag_rule (codes "chains")

-- whether what suits large bays is asked for: it is not where the flag is not given
abbrev pub strong_rule : Rule
strong_rule = flag_rule (codes "strong")

-- how long the search of each bay may take: no limit where it is not given
abbrev pub seconds_rule : Rule
seconds_rule = optional_rule (codes "seconds")

-- the file that stops a search: none where it is not given
abbrev pub stop_rule : Rule
stop_rule = optional_rule (codes "stop")

-- how long the searches of all bays together may take: no limit where it is not given
abbrev pub total_seconds_rule : Rule
total_seconds_rule = optional_rule (codes "total-seconds")

-- a command with one option more
abbrev pub with_option : Rule → Shape → Shape
with_option rule shape = record shape { rules = shape.rules ++ rule ∷ [] }

-- a command with [--workers N] [--budget N] [--split N]
abbrev pub with_limits : Shape → Shape
with_limits shape = with_option split_rule (with_option budget_rule (with_option workers_rule shape))

-- a command with these, [--first], [--beam N] and [--deepen]
abbrev pub with_ways : Shape → Shape
with_ways shape = with_option deepen_rule (with_option beam_rule (with_option first_rule (with_limits shape)))

-- a command with these, [--thin N], [--chains], [--strong], [--seconds S] and [--stop FILE]
abbrev pub with_search : Shape → Shape
with_search shape = with_option stop_rule (with_option seconds_rule (with_option strong_rule (with_option chains_rule (with_option thin_rule (with_ways shape)))))

-- a command with these, and [--total-seconds S]
abbrev pub with_searches : Shape → Shape
with_searches shape = with_option total_seconds_rule (with_search shape)

-- a command with [--rows N] [--tiers N]
abbrev pub with_rows : Shape → Shape
with_rows shape = with_option (number_rule (codes "tiers") (codes "5")) (with_option (number_rule (codes "rows") (codes "6")) shape)

-- the byte between the fields of lists: a comma where it is not given
abbrev pub separator_rule : Rule
separator_rule = text_rule (codes "separator") (codes ",")

-- a command with these, [--heights HEIGHTS] in place of them, [--sizes FILE], and [--separator C]
abbrev pub with_size : Shape → Shape
with_size shape = with_option separator_rule (with_option (optional_rule (codes "sizes")) (with_option (optional_rule (codes "heights")) (with_rows shape)))

-- a command with [--order listed|stowage] [--code TEXT] [--message REFERENCE]..
abbrev pub with_orders : Shape → Shape
with_orders shape = with_option (repeated_rule (codes "message"))
    (with_option (text_rule (codes "code") (codes "LOA")) (with_option (text_rule (codes "order") (codes "listed")) shape))

-- a command with these, and [--bay BAY]..
abbrev pub with_bays : Shape → Shape
with_bays shape = with_option (repeated_rule (codes "bay")) (with_orders shape)

-- a command with [--block B]..
abbrev pub with_blocks : Shape → Shape
with_blocks shape = with_option (repeated_rule (codes "block")) shape

-- a command with [--cert FILE] [--after FILE]
abbrev pub with_files : Shape → Shape
with_files shape = with_option (optional_rule (codes "after")) (with_option (optional_rule (codes "cert")) shape)

-- a command with these, [--quiet], [--progress] and [--json]
abbrev pub with_outputs : Shape → Shape
with_outputs shape = with_option json_rule (with_option progress_rule (with_option quiet_rule (with_files shape)))

-- a command with [--page FILE]
abbrev pub with_page : Shape → Shape
with_page shape = with_option (optional_rule (codes "page")) shape

-- a command with [--after FILE] and [--loaded N]
abbrev pub with_after : Shape → Shape
with_after shape = with_option (optional_number_rule (codes "loaded")) (with_option (optional_rule (codes "after")) shape)

-- a command with [--partial]
abbrev pub with_partial : Shape → Shape
with_partial shape = with_option partial_rule shape

-- a command with [--summary]
abbrev pub with_summary : Shape → Shape
with_summary shape = with_option summary_rule shape

-- a command with [--compare REPORT2]
abbrev pub with_compare : Shape → Shape
with_compare shape = with_option (optional_rule (codes "compare")) shape

-- a command with [--json]
abbrev pub with_json : Shape → Shape
with_json shape = with_option json_rule shape

-- bound FILE [--chains] [--json]
abbrev pub bound : Shape
bound = with_json (with_option chains_rule (leaf (codes "bound")))

-- check FILE [--any-size] [--workers N] [--json]
abbrev pub check : Shape
check = with_json (with_option workers_rule (with_option (flag_rule (codes "any-size")) (leaf (codes "check"))))

-- prove FILE, with the options of a search
abbrev pub prove : Shape
prove = with_search (leaf (codes "prove"))

-- solve YARD MOVINS, without its options
abbrev pub solve_files : Shape
solve_files = command (codes "solve") (file_rule (codes "yard") ∷ file_rule (codes "movins") ∷ [])

-- solve YARD MOVINS, with its options: the size of the bays, the order of leaving, the search, and what is written
abbrev pub solve : Shape
solve = with_outputs (with_searches (with_bays (with_size solve_files)))

-- audit YARD MOVINS REPORT CERTS, without its options
abbrev pub audit_files : Shape
audit_files = command (codes "audit")
    (file_rule (codes "yard") ∷ file_rule (codes "movins") ∷ file_rule (codes "report") ∷ file_rule (codes "certificates") ∷ [])

-- audit, with its options: the size of the bays, the order of leaving, whether the report may end early, and whether it prints JSON Lines
abbrev pub audit : Shape
audit = with_json (with_partial (with_bays (with_size audit_files)))

-- follow YARD REPORT [MOVINS], without its options
abbrev pub follow_files : Shape
follow_files = command (codes "follow") (file_rule (codes "yard") ∷ file_rule (codes "report") ∷ more_rule (codes "movins") ∷ [])

-- follow, with its options: the size of the bays, the order of leaving, the blocks, the page, the yard after, whether the report may end early, whether the table is that
-- of the bays, and a second report
abbrev pub follow : Shape
follow = with_compare (with_summary (with_partial (with_after (with_page (with_blocks (with_bays (with_size follow_files)))))))

-- absent YARD MOVINS, without its options
abbrev pub absent_files : Shape
absent_files = command (codes "absent") (file_rule (codes "yard") ∷ file_rule (codes "movins") ∷ [])

-- absent, with its options: the size of the bays, and the order of leaving
abbrev pub absent : Shape
absent = with_orders (with_size absent_files)

-- rewrite, which takes a FILE, and no option
abbrev pub rewrite : Shape
rewrite = leaf (codes "rewrite")

-- crp itself, with a version, and a command that is required
abbrev pub top_command : Shape
top_command = record (new_shape (codes "crp")) {
  has_version = true;
  no_binary_name = true;
  subcommand_required = true;
}

-- crp with the commands that take a FILE, and no option of a search
abbrev pub leaves : App
leaves = record {
  top = record top_command { is_leaf = false };
  subs = leaf (codes "replay") ∷ bound ∷ check ∷ [];
}

-- the command line of crp
abbrev pub crp : App
crp = record leaves { subs = leaves.subs ++ prove ∷ solve ∷ audit ∷ follow ∷ absent ∷ rewrite ∷ [] }

-- the argument has this rule, at its own command alone
abbrev pub IsArg : Rule → Arg → Type 0
IsArg rule arg = (rule_of arg ≡ rule) × (arg.global ≡ false)

-- the command is this one, without commands of its own, and its arguments are its own alone
abbrev pub IsCommand : Shape → Command → Type 0
IsCommand shape command = (app_of command ≡ alone shape) × ((fields_of command).has_globals ≡ false)
