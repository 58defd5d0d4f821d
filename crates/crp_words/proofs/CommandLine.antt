-- Commands with one argument more, and command lines with one command more.
use Rattle.std.proofs.Common.{◌≡◌, ◌∙◌, ◌||◌, ap, ap₂}
use Rattle.clap.specs.Words.{AddsArg, AddsSubcommand, App, Rule, Shape, app_of, with_rule, with_subcommand}
use Rattle.clap.specs.declared.builder.arg.Arg.{Arg}
use Rattle.clap.specs.declared.builder.command.Command.{Command}
use Rattle.crp_words.specs.Commands.{IsArg, IsCommand, with_option}

-- a command with one argument more has its rule last
pub more_arg : (old : Command) (arg : Arg) (new : Command) (shape : Shape) (rule : Rule) → AddsArg old arg new → IsArg rule arg
    → IsCommand shape old → IsCommand (with_option rule shape) new
more_arg old arg new shape rule adds is was =
    (adds.shape is.1 ∙ ap₂ with_rule was.0 is.0, adds.globals ∙ ap₂ (λ a b. a || b) was.1 is.1)

-- a command line with one command more has it last
pub more_command : (old sub new : Command) (line : App) (shape : Shape) → AddsSubcommand old sub new → IsCommand shape sub
    → app_of old ≡ line → app_of new ≡ with_subcommand line shape
more_command old sub new line shape adds is was = adds.shape is.1 ∙ ap₂ with_subcommand was (ap (λ (a : App). a.top) is.0)
