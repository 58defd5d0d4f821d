use Rattle.std.specs.Option.{option_copied}
use Rattle.crp_cert.proofs.Written.{text_joined}
use Rattle.crp_cert.proofs.writing.text_under.Goals as goal

pub returns : goal.returns
returns c =
    text_joined c.args.bay.now c.args.problem.now c.args.cert.now c.args.claim (option_copied c.args.plan) c.parts.result.now c.new-text.result.items c.push_head.new.text.items c.push_parts.new.text.items c.push_end.new.text.items
    c.parts.ensures.value c.new-text.ensures.items c.in_ok-push_head.ensures c.in_ok-push_parts.ensures c.in_ok-push_end.ensures
