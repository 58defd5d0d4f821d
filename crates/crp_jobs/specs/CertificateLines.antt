-- What is said of a certificate that is refused, where others stand before it in its file: where it begins, and whose it is. Lines end with LF.
use Rattle.std.specs.Prelude.{◌≡◌, ℕ, ◌+◌, ◌-◌, ◌==◌, nat_lt, List, [], ◌∷◌, ◌++◌, length, slice_get, Option, Some, None, option_map, if◌then◌else◌, codes}
use Rattle.std.specs.Fmt.{decimal}
use Rattle.crp_follow.specs.Lines.{pieces_of}
use Rattle.crp_jobs.specs.declared.job.FileCommand.{FileCommand}
use Rattle.crp_jobs.specs.declared.job.FileCommand.TheVariants as command
use Rattle.crp_jobs.specs.declared.job.Job.{Job}
use Rattle.crp_jobs.specs.declared.job.Job.TheVariants as job
use Rattle.crp_jobs.specs.Found.{begins}
use Rattle.crp_jobs.specs.Names.{report_name}
use Rattle.crp_jobs.specs.Placed.{shown, IsOfFront}

-- the file of a command that checks one; the standard input has no name
abbrev pub checked_name : List ℕ → FileCommand → Option (List ℕ)
checked_name file command.Replay = None
checked_name file (command.Bound chains json) = None
checked_name file (command.Check any_size workers json) = report_name file
checked_name file (command.Prove search) = None
checked_name file command.Rewrite = None

-- the certificates of a job that checks a file
abbrev pub certificates_named : Job → Option (List ℕ)
certificates_named (job.OneFile file command stop) = checked_name file.now command
certificates_named (job.Absent names settings) = None
certificates_named (job.Audit names settings) = None
certificates_named (job.Follow names settings) = None
certificates_named (job.Compare names settings) = None
certificates_named (job.Solve names settings quiet progress) = None

-- the lines behind so many that end certificates, each of which is the first that begins so
abbrev pub behind_ends : ℕ → List (List ℕ) → List (List ℕ)
behind_ends ends [] = []
behind_ends ends (line ∷ lines) =
    if ends == 0 then line ∷ lines else behind_ends (if begins (codes "end ") line then ends - 1 else ends) lines

-- the line at which lines begin that are the last ones of these
abbrev pub line_before : List (List ℕ) → List (List ℕ) → ℕ
line_before lines last = length lines - length last + 1

-- the second line of the certificate with this number, which names its bay
abbrev pub bay_line : ℕ → List (List ℕ) → Option (List ℕ)
bay_line n lines = slice_get (behind_ends (n - 1) lines) 1

-- what is said of one that begins at this line, by the line that names its bay
abbrev pub begins_text : ℕ → ℕ → List ℕ → List ℕ
begins_text n line bay = codes "certificate " ++ (decimal n ++ (codes " begins at line " ++ (decimal line ++ (codes ": " ++ bay))))

-- what is said of the certificate with this number; of the first nothing, which begins the file
abbrev pub certificate_text : ℕ → List ℕ → Option (List ℕ)
certificate_text n text = if nat_lt n 2 then None
    else option_map (begins_text n (line_before (pieces_of text) (behind_ends (n - 1) (pieces_of text)))) (bay_line n (pieces_of text))

-- the line on it
abbrev pub IsCertificateLine : Option (List ℕ) → ℕ → List ℕ → Type 0
IsCertificateLine given n line = IsOfFront given (λ text. option_map shown (certificate_text n text) ≡ Some line)
