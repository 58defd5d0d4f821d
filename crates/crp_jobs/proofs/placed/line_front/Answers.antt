use Rattle.std.proofs.Common.{◌∙◌, length, take, ap, sym, arith, unwrap_or}
use Rattle.std.proofs.lemmas.List.{take_all}
use Rattle.crp_jobs.proofs.placed.line_front.Goals as goal

pub returns-in-Some : goal.returns-in-Some
returns-in-Some c = ap (λ o. take (unwrap_or o (length c.args.text.now)) c.args.text.now) c.in-Some.ensures

pub returns-in-None : goal.returns-in-None
returns-in-None c = sym (take_all (length c.args.text.now) c.args.text.now (omega arith)) ∙ ap (λ o. take (unwrap_or o (length c.args.text.now)) c.args.text.now) c.in-None.ensures
