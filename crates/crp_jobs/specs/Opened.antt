-- Files that a job opens by their names, and devices that a call leaves alone.
use Rattle.std.specs.Prelude.{◌≡◌, ℕ, List, [], Option, Some, None, IfSome, IsTrue}
use Rattle.crp_plan.specs.Devices.{CountsMore, CountsOne}
use Rattle.crp_files.specs.declared.roles.Role.{Role}
use Rattle.crp_files.specs.declared.roles.Shared.{Shared}
use Rattle.crp_files.specs.Known.{KnownFiles, KeepsBytes}
use Rattle.crp_files.specs.Roles.{MayBeOne, Share}
use Rattle.crp_report.specs.Runs.{SourceSeen, SinkSeen, GetsNothing}

-- what a call saw of files: what was known of them before, and is known of what it left, and the count of their failures before and after
pub record FilesSeen : Type 0 where
  pub known : KnownFiles
  pub left : KnownFiles
  pub before : ℕ
  pub after : ℕ

-- so many calls of the files have failed
abbrev pub FilesFail : FilesSeen → ℕ → Type 0
FilesFail files n = CountsMore n files.before files.after

-- one file could not be opened, and no call of another has failed
abbrev pub IsOneRefused : FilesSeen → Type 0
IsOneRefused files = CountsOne files.before files.after

-- the files are as they were
abbrev pub AreFilesKept : FilesSeen → Type 0
AreFilesKept files = files.left ≡ files.known

-- the files were left alone: they are as they were, none was refused, and no call of one has failed
abbrev pub AreFilesLeftAlone : FilesSeen → Type 0
AreFilesLeftAlone files = AreFilesKept files × (files.after ≡ files.before)

-- the source is the file of this name, as it was opened: it had the file's bytes, and none of its calls had failed before
pub record IsFileOpened (known : KnownFiles) (name : List ℕ) (s : SourceSeen) : Type 0 where
  pub bytes : s.given ≡ known.given name
  pub new : s.before ≡ 0

-- the sink is a file, as it was made: none of its calls had failed before, and where files state what is written to them, it was empty
pub record IsFileMade (known : KnownFiles) (s : SinkSeen) : Type 0 where
  pub new : s.before ≡ 0
  pub empty : IsTrue known.states → s.held ≡ Some []

-- the sink is the file of this name, which was made for the call, if one is asked for, and so often it could not be finished; where none is asked for, no
-- call fails
abbrev pub IsWanted : KnownFiles → Option (List ℕ) → ℕ → SinkSeen → Type 0
IsWanted known (Some name) unfinished s = IsFileMade known s
IsWanted known None unfinished s = (s.before ≡ 0) × (s.after ≡ 0) × (unfinished ≡ 0)

-- what the sink holds stands under this name, if one is given, where files state what is written to them, and this one could be finished
abbrev pub IsLeft : FilesSeen → Option (List ℕ) → ℕ → SinkSeen → Type 0
IsLeft files name unfinished s = IfSome name (λ n. IsTrue files.known.states → unfinished ≡ 0 → files.left.given n ≡ s.holds)

-- a file that would be written may be another one of the job too, by the names that it has for them; so none was emptied: what was known of the bytes of each
-- is so still
pub record AreUnemptied (named : Role → Option (List ℕ)) (known left : KnownFiles) (s : Shared) : Type 0 where
  pub shared : Share (MayBeOne known) named s.written s.other
  pub kept : KeepsBytes known left

-- the source was left alone: none of its calls has failed
abbrev pub IsSourceLeftAlone : SourceSeen → Type 0
IsSourceLeftAlone s = s.after ≡ s.before

-- the sink was left alone: it got nothing, and none of its calls has failed
abbrev pub IsLeftAlone : SinkSeen → Type 0
IsLeftAlone s = GetsNothing s × (s.after ≡ s.before)
