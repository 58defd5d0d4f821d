use Rattle.std.proofs.Common.{sym, subst}
use Rattle.crp_cert.specs.HeadsFed.{IsBayIn}
use Rattle.crp_cert.proofs.Heading.{head_bay}
use Rattle.crp_cert.proofs.open_head.OpenHead.bay.Goals as goal

pub returns : goal.returns
returns c bytes at = subst (IsBayIn bytes) (sym c.bay.ensures) (head_bay bytes c.args.self.now at)
