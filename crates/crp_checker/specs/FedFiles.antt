-- What a checker of a file has read.
use Rattle.std.specs.Prelude.{◌≡◌, ◌≢◌, ◌↔◌, ℕ, ◌≤◌, List, [], ◌∷◌, ◌++◌, length, take, Bool, true, false, Option, Some, None, ◌⊎◌}
use Rattle.std.specs.List.{AllByRecursion}
use Rattle.crp_plan.specs.BayNames.{YardBay}
use Rattle.crp_checker.specs.declared.verdict.Verdict.{Verdict}
use Rattle.crp_checker.specs.declared.refused.Refused.{Refused}
use Rattle.crp_checker.specs.declared.refused.Refused.TheVariants.{Memory}
use Rattle.crp_checker.specs.declared.file_checker.FileChecker.{FileChecker}
use Rattle.crp_checker.specs.declared.file_checker.Fed.{Fed}
use Rattle.crp_checker.specs.declared.file_checker.Fed.TheVariants.{Open, Ended}
use Rattle.crp_checker.specs.Files.{IsEnded, joined_lines, ShowEach, FileShows}
use Rattle.crp_checker.specs.Fed.{HasRead}
use Rattle.crp_checker.specs.Watches.{IsUnended}

-- the file is the texts of certificates that have ended, which are accepted and show this, and then this
pub record IsEndedFront (file : List ℕ) (verdicts : List (YardBay × Verdict)) (rest : List ℕ) : Type 0 where
  pub texts : List (List ℕ)
  pub ended : AllByRecursion IsEnded texts
  pub is : file ≡ joined_lines texts ++ rest
  pub shown : ShowEach texts verdicts

-- the checker was fed the file, of which the certificates that have ended show this; none was refused
pub record HasReadFile (file : List ℕ) (verdicts : List (YardBay × Verdict)) (checker : FileChecker) : Type 0 where
  pub text : List ℕ
  pub front : IsEndedFront file verdicts text
  pub read : HasRead None text checker.checker
  pub unended : IsUnended text checker.watch
  pub none_begun : checker.has_begun ≡ false → text ≡ []
  pub some_begun : checker.has_begun ≡ true → text ≢ []
  pub none_refused : checker.refused ≡ None

-- the certificates of the file that have ended show this, and whether bytes of one more follow them
abbrev pub IsBegunBehind : List ℕ → List (YardBay × Verdict) → Bool → Type 0
IsBegunBehind file verdicts begun = (rest : List ℕ) × IsEndedFront file verdicts rest × ((begun ≡ false) ↔ (rest ≡ []))

-- the checker has refused a certificate for this, or has no memory left to say so
abbrev pub HasRefused : Refused → FileChecker → Type 0
HasRefused refused checker = (checker.refused ≡ Some refused) ⊎ (checker.refused ≡ Some Memory)

-- a piece leads to this: no certificate has ended, or one has, after so many bytes
abbrev pub LeadsOn : List ℕ → List ℕ → List (YardBay × Verdict) → FileChecker → Fed → Type 0
LeadsOn file piece verdicts checker Open = HasReadFile (file ++ piece) verdicts checker
LeadsOn file piece verdicts checker (Ended taken bay verdict) =
    (1 ≤ taken) × (taken ≤ length piece) × HasReadFile (file ++ take taken piece) (verdicts ++ (bay, verdict) ∷ []) checker

-- the file shows what those before show, and then what the last one shows, if there is one more
abbrev pub ShowsLast : List ℕ → List (YardBay × Verdict) → Option (YardBay × Verdict) → Type 0
ShowsLast file verdicts None = FileShows file verdicts
ShowsLast file verdicts (Some last) = FileShows file (verdicts ++ last ∷ [])
