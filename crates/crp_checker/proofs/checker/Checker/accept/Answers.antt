use Rattle.std.proofs.Common.{subst, ⊎_elim, inl, inr}
use Rattle.std.proofs.lemmas.Result.{IfOk-weaker, IfErr-weaker}
use Rattle.crp_checker.specs.Fed.{HasComeIf}
use Rattle.crp_checker.proofs.checker.Checker.accept.Goals as goal

pub returns-in-Some-clause-states : goal.returns-in-Some-clause-states
returns-in-Some-clause-states c =
    IfOk-weaker c.finish_at.result _ _ (λ found states wanted bytes read. states wanted bytes (subst (HasComeIf wanted bytes) c.in-Some.is read.1)) c.finish_at.ensures.states

pub returns-in-Some-clause-refused : goal.returns-in-Some-clause-refused
returns-in-Some-clause-refused c =
    IfErr-weaker c.finish_at.result _ _ (λ r why. ⊎_elim (λ memory. inl memory) (λ k. inr (λ wanted bytes read. k wanted bytes (subst (HasComeIf wanted bytes) c.in-Some.is read.1))) why) c.finish_at.ensures.refused
