-- How the program ends: what its words ask for, with what it says before and behind that on the standard error.
use Rattle.std.specs.Prelude.{◌≡◌, ℕ, ◌⊎◌, Bool, true, false, ◌&&◌, List, [], ◌∷◌, Option}
use Rattle.crp_report.specs.Runs.{SinkSeen}
use Rattle.crp_jobs.specs.Opened.{IsLeftAlone}
use Rattle.crp_commands.specs.Noted.{GetsLines}
use Rattle.crp_commands.specs.Performing.{JobSeen}
use Rattle.crp_words.specs.declared.usage.Usage.TheVariants as usage
use Rattle.crp_words.specs.Endings.{EndsUntouched, ProgramEnds}
use Rattle.crp.specs.declared.program.TheConstants.{AWAITED, READER_ENDED}

-- of what a sink got there is a front and a rest
pub record InTwo (First Then : SinkSeen → Type 0) (s : SinkSeen) : Type 0 where
  pub between : Option (List ℕ)
  pub failures : ℕ
  pub front : First (record { held = s.held; holds = between; before = s.before; after = failures })
  pub rest : Then (record { held = between; holds = s.holds; before = failures; after = s.after })

-- there are no words
abbrev pub are_none : List (List ℕ) → Bool
are_none [] = true
are_none (word ∷ words) = false

-- the sink got the text where this is so, and else it was left alone
abbrev pub SaysIf : Bool → List ℕ → SinkSeen → Type 0
SaysIf true text s = GetsLines s text
SaysIf false text s = IsLeftAlone s

-- the program ends by these words, and where there are none, and somebody sits before the standard input, it says first what is awaited there; or no memory
-- was left to look at them
abbrev pub StartEnds : List (List ℕ) → Bool → JobSeen → SinkSeen → ℕ → Type 0
StartEnds words awaited seen errors status =
    InTwo (SaysIf (awaited && are_none words) AWAITED.now) (λ rest. ProgramEnds words seen rest status) errors ⊎ EndsUntouched usage.Memory seen errors status

-- this holds of what a sink got, and last it may have got that the reader of the standard output has ended
abbrev pub MaySayLast : (SinkSeen → Type 0) → SinkSeen → Type 0
MaySayLast Given = InTwo Given (λ last. IsLeftAlone last ⊎ GetsLines last READER_ENDED.now)
