use Rattle.crp_files.specs.Roles.{AreOne, Share}
use Rattle.crp_files.proofs.Sharing.{NoneBefore}
use Rattle.crp_files.proofs.roles.other_role.Given as goal

abbrev pub invariant-loop-other : goal.invariant-loop-other
invariant-loop-other g l = NoneBefore (Share (AreOne (g.F.Files.known l.files)) (g.N.JobNames.named l.names) l.written) l.other-index
