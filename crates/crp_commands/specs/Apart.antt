-- What workers find in the parts of a block. Only private clauses speak of it.
use Rattle.std.specs.Prelude.{◌≡◌, ℕ, ◌+◌, ◌-◌, ◌≤◌, List, length, take, drop}
use Rattle.crp_plan.specs.BayNames.{YardBay}
use Rattle.crp_checker.specs.declared.verdict.Verdict.{Verdict}
use Rattle.crp_checker.specs.FedFiles.{HasReadFile}
use Rattle.crp_commands.specs.declared.apart.Found.{Found}
use Rattle.crp_commands.specs.Check.{verdict_lines}

-- the certificates that end in the part show this, and their lines are kept
pub record IsFoundIn (block : List ℕ) (found : Found) : Type 0 where
  pub verdicts : List (YardBay × Verdict)
  pub begins : found.from ≤ found.to
  pub ends : found.to ≤ length block
  pub read : HasReadFile (take (found.to - found.from) (drop found.from block)) verdicts found.files
  pub next : found.number ≡ length verdicts + 1
  pub few : length verdicts ≤ found.to - found.from
  pub lines : found.lines.bytes.items ≡ verdict_lines verdicts
