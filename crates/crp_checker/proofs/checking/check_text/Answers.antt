use Rattle.std.proofs.Common.{⊎_elim, inl, inr, None, []}
use Rattle.std.proofs.lemmas.Result.{IfOk-weaker, IfErr-weaker}
use Rattle.crp_checker.proofs.checking.check_text.Goals as goal

pub returns-clause-shown : goal.returns-clause-shown
returns-clause-shown c =
    IfOk-weaker c.finish_for.result _ _ (λ found shown. shown c.args.bytes.now (c.in_ok-feed.ensures.read None [] c.new-checker.ensures)) c.finish_for.ensures.bay

pub returns-clause-refused : goal.returns-clause-refused
returns-clause-refused c =
    IfErr-weaker c.finish_for.result _ _ (λ r why. ⊎_elim (λ memory. inl memory) (λ k. inr (k None c.args.bytes.now (c.in_ok-feed.ensures.read None [] c.new-checker.ensures))) why) c.finish_for.ensures.refused
