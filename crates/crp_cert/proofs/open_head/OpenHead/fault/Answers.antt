use Rattle.std.proofs.Common.{sym, subst}
use Rattle.crp_cert.specs.Faults.{IsFirstFault}
use Rattle.crp_cert.proofs.Heading.{head_ends}
use Rattle.crp_cert.proofs.open_head.OpenHead.fault.Goals as goal

pub returns : goal.returns
returns c bytes at = subst (IsFirstFault bytes) (sym c.fault.ensures) (head_ends bytes c.args.self.now at)
