use Rattle.crp_files.specs.declared.roles.Role.{Role}
use Rattle.crp_files.specs.Roles.{AreOne, Share}
use Rattle.crp_files.proofs.Sharing.{NoneBefore}
use Rattle.crp_files.proofs.roles.first_shared.Given as goal

abbrev pub invariant-loop-written : goal.invariant-loop-written
invariant-loop-written g l =
    NoneBefore (λ written. (other : Role) × Share (AreOne (g.F.Files.known l.files)) (g.N.JobNames.named l.names) written other) l.written-index
