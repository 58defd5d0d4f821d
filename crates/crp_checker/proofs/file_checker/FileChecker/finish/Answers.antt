use Rattle.std.proofs.Common.{⊎_elim, inl, inr, None, [], refl, sym, subst}
use Rattle.std.proofs.lemmas.List.{append-nil}
use Rattle.std.proofs.lemmas.Result.{err_from_is_err_and}
use Rattle.crp_checker.specs.FedFiles.{IsEndedFront}
use Rattle.crp_checker.proofs.FileFed.{begins, open_text, refused_next, shown_last}
use Rattle.crp_checker.proofs.file_checker.FileChecker.finish.Goals as goal

pub returns-then-not-has_begun-clause-last : goal.returns-then-not-has_begun-clause-last
returns-then-not-has_begun-clause-last c file verdicts at =
    let front = subst (IsEndedFront file verdicts) (at.none_begun c.if-not-has_begun.true) at.front in (front.texts, begins file verdicts [] front, front.shown)

pub returns-in_err-last-clause-refused : goal.returns-in_err-last-clause-refused
returns-in_err-last-clause-refused c =
    let p = err_from_is_err_and c.from_residual.result c.from_residual.ensures.1 in
    rw (p.1, p.2) (λ file verdicts at.
    refused_next file verdicts at.text at.text [] c.in_err-last.field-0.0 at.front (sym (append-nil at.text)) (inr (open_text at.text c.args.self.watch (at.some_begun c.if-not-has_begun.false) at.unended, refl))
    (⊎_elim (λ memory. inl memory) (λ why. inr (why None at.text at.read)) c.in_err-last.ensures.refused))

pub returns-clause-last : goal.returns-clause-last
returns-clause-last c file verdicts at =
    shown_last file verdicts at.text c.in_ok-last.last at.front (open_text at.text c.args.self.watch (at.some_begun c.if-not-has_begun.false) at.unended) (c.in_ok-last.ensures.bay at.text at.read)
