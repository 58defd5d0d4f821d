use Rattle.std.proofs.Common.{Some, inl, inr, ⊎_elim}
use Rattle.crp_audit.proofs.Results.{ok_by, err_by, both_by}
use Rattle.crp_audit.proofs.certified.accept_next.Goals as goal

pub returns-clause-read : goal.returns-clause-read
returns-clause-read g c =
    let (text, taken, fed) = c.in_ok-checker.ensures.fed in
    let wanted = Some c.args.problem.now in
    let read = fed wanted c.new-checker.ensures in (
      text,
      taken,
      both_by c.accept.result _ _ (ok_by c.accept.result _ _ c.accept.ensures.states (λ found states. states wanted text read))
          (err_by c.accept.result _ _ c.accept.ensures.refused (λ refused why. ⊎_elim (λ memory. inl memory) (λ k. inr (k wanted text read)) why)),
    )
