use Rattle.std.proofs.Common.{refl, rules}
use Rattle.std.specs.Option.{option_copied}
use Rattle.crp_cert.proofs.Written.{text_joined}
use Rattle.crp_report.proofs.Shares.{share_more}
use Rattle.crp_report.proofs.by_workers.text_by.Goals as goal

pub returns : goal.returns
returns g c =
    text_joined c.args.bay.now c.args.problem.now c.args.cert.now c.args.claim (option_copied c.args.plan) c.parts.result.now c.new-text.result.items c.push_head.new.text.items _ _
    c.parts.ensures.value c.new-text.ensures.items c.in_ok-push_head.ensures c.in_ok-shares.ensures
    (share_more c.in_ok-shares.shares.items c.push.new.self.items c.push_end.new.text _ _ refl (rw c.new-end.ensures.items at c.in_ok-push_end.ensures) (search rules))
