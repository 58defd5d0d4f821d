use Rattle.crp_files.specs.declared.roles.Role.{Role}
use Rattle.crp_files.specs.Roles.{AreOne, Share}
use Rattle.crp_files.proofs.Sharing.{none_at_all}
use Rattle.crp_files.proofs.roles.first_shared.Goals as goal

pub returns-clause-none : goal.returns-clause-none
returns-clause-none g c = λ is. none_at_all
    (λ written. (other : Role) × Share (AreOne (g.F.Files.known c.args.files.now)) (g.N.JobNames.named c.args.names.now) written other)
    c.loop-written.written-index c.loop-written-test.false c.loop-written.invariant is.0 (is.1, is.2)
