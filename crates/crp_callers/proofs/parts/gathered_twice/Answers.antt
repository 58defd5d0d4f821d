use Rattle.crp_gather.specs.Gathers.{AreWhole, IsGatherFault}
use Rattle.crp_callers.proofs.Gathered.{one_certificate, one_fault, no_fault}
use Rattle.crp_callers.proofs.parts.gathered_twice.Goals as goal

pub returns-clause-certificate : goal.returns-clause-certificate
returns-clause-certificate c =
    one_certificate c.args.problem.now _ _ _ _ c.order_changes_nothing.ensures.certificate c.requires c.gather-one.ensures.parts c.gather-one.ensures.about c.gather-other.ensures.parts c.gather-other.ensures.about

pub returns-clause-fault : goal.returns-clause-fault
returns-clause-fault c =
    one_fault _ _ _ _ (λ f g. c.order_changes_nothing.ensures.fault c.args.problem.now _ _ f g c.requires) c.gather-one.ensures.refused c.gather-other.ensures.refused

pub returns-clause-either : goal.returns-clause-either
returns-clause-either c =
    let law = c.order_changes_nothing.ensures in
    no_fault _ _ (AreWhole c.args.problem.now c.args.parts.items) (IsGatherFault c.args.problem.now c.args.others.items)
    (λ whole g. law.either c.args.problem.now c.args.others.items g (law.whole c.args.problem.now _ _ c.requires whole))
    c.gather-one.ensures.whole c.gather-other.ensures.refused
