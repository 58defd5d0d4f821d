use Rattle.std.proofs.Common.{◌∙◌, sym, Bor, List, ℕ, subst}
use Rattle.crp_cert.specs.Reading.{Reads}
use Rattle.crp_cert.proofs.PartFaults.{end_stops, end_reads}
use Rattle.crp_cert.proofs.certs.after_end.Goals as goal

pub returns-in_err-rest-2 : goal.returns-in_err-rest-2
returns-in_err-rest-2 c =
    rw c.from_residual-in_err-rest-2.ensures (end_stops c.args.count c.args.bytes.now c.in_ok-rest.rest.now c.as_bytes.result.now c.in_ok-rest.ensures (c.as_bytes.ensures.value ∙ c.format.ensures.text) c.in_err-rest-2.ensures)

pub returns : goal.returns
returns c =
    subst (Reads (λ (x : Bor (List ℕ)). x.now) c.after_newline.result)
    (sym (end_reads c.args.count c.args.bytes.now c.in_ok-rest.rest.now c.as_bytes.result.now c.in_ok-rest-2.rest.now c.in_ok-rest.ensures (c.as_bytes.ensures.value ∙ c.format.ensures.text) c.in_ok-rest-2.ensures))
    c.after_newline.ensures
