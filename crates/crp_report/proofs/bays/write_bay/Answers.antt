use Rattle.std.proofs.Common.{ℕ, Vec, Global}
use Rattle.std.specs.Prelude.{flat_map}
use Rattle.std.proofs.lemmas.Result.{err_from_is_err_and}
use Rattle.crp_report.proofs.Answering.{bay_not_answered, lines_not_written, certificate_not_written, bay_written}
use Rattle.crp_report.proofs.bays.write_bay.Goals as goal

pub returns-in_err-found-clause-written : goal.returns-in_err-found-clause-written
returns-in_err-found-clause-written g c =
    let p = err_from_is_err_and c.from_residual.result c.from_residual.ensures.1 in
    rw (p.1, p.2) (bay_not_answered c.args.settings c.args.bay.now _ c.requires.passed c.requires.problem)

pub returns-in_err-write_piece-clause-written : goal.returns-in_err-write_piece-clause-written
returns-in_err-write_piece-clause-written g c =
    let p = err_from_is_err_and c.from_residual-in_err-write_piece.result c.from_residual-in_err-write_piece.ensures.1 in
    rw (p.1, p.2) (lines_not_written c.args.settings c.args.bay.now c.in_ok-found.found.solved c.in_ok-found.found.texts.report.items _ _ c.in_err-write_piece.field-0.0 c.in_ok-found.ensures.solved
    c.in_ok-found.ensures.texts.report (rw c.deref.ensures.value at c.in_err-write_piece.ensures.written))

pub returns-in_err-write_certificate-clause-written : goal.returns-in_err-write_certificate-clause-written
returns-in_err-write_certificate-clause-written g c =
    let p = err_from_is_err_and c.from_residual-in_err-write_certificate.result c.from_residual-in_err-write_certificate.ensures.1 in
    rw (p.1, p.2) (certificate_not_written c.args.settings c.args.bay.now c.in_ok-found.found.solved c.in_ok-found.found.texts.report.items (flat_map (λ (s : Vec ℕ Global). s.items) c.in_ok-found.found.texts.certificate.items) _ _ _
    c.in_err-write_certificate.field-0.0 c.in_ok-found.ensures.solved c.in_ok-found.ensures.texts.report c.in_ok-found.ensures.texts.certificate
    (rw c.deref.ensures.value at c.in_ok-write_piece.ensures.written) (rw c.as_slice-certificate.ensures.value at c.in_err-write_certificate.ensures.written))

pub returns-clause-written : goal.returns-clause-written
returns-clause-written g c =
    bay_written c.args.settings c.args.bay.now c.in_ok-found.found.solved c.in_ok-found.found.texts.report.items (flat_map (λ (s : Vec ℕ Global). s.items) c.in_ok-found.found.texts.certificate.items) _ _ _ c.in_ok-found.ensures.solved
    c.in_ok-found.ensures.texts.report c.in_ok-found.ensures.texts.certificate (rw c.deref.ensures.value at c.in_ok-write_piece.ensures.written) (rw c.as_slice-certificate.ensures.value at c.in_ok-write_certificate.ensures.written)
