use Rattle.std.proofs.Common.{◌≡◌, ◌++◌, List, ℕ, length}
use Rattle.crp_checker.specs.FedFiles.{HasReadFile}
use Rattle.crp_checker.proofs.file.check_file.Given as goal

abbrev pub invariant-loop-rest : goal.invariant-loop-rest
invariant-loop-rest l = (taken : List ℕ) × (l.bytes ≡ taken ++ l.rest) × HasReadFile taken l.verdicts.items l.files

abbrev pub decreases-loop-rest : goal.decreases-loop-rest
decreases-loop-rest l = length l.rest
