-- A list with another byte between its fields that is read from a file.
use Rattle.std.specs.Prelude.{◌≡◌, ℕ, List}
use Rattle.crp_report.specs.Runs.{SourceSeen}
use Rattle.crp_files.specs.Known.{KnownFiles}
use Rattle.crp_separated.specs.Inputs.{comma_list_of}

-- the source is the list of this name, as it was opened, with commas where the file has this byte between fields: it had the records of the file, and none of its
-- calls had failed before
pub record IsListOpened (known : KnownFiles) (separator : ℕ) (name : List ℕ) (s : SourceSeen) : Type 0 where
  pub bytes : s.given ≡ comma_list_of separator (known.given name)
  pub new : s.before ≡ 0
