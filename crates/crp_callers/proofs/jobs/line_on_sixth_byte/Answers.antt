use Rattle.std.proofs.Common.{ℕ, List, Option, IfSome, subst}
use Rattle.edi_text.specs.declared.fault.EdiFault.TheVariants as edi
use Rattle.crp_jobs.specs.MessageLines.{IsInterchangeLine}
use Rattle.crp_callers.proofs.Outcomes.{some_by}
use Rattle.crp_callers.proofs.SixthByte.{said}
use Rattle.crp_callers.proofs.jobs.line_on_sixth_byte.Goals as goal

pub returns : goal.returns
returns g c = λ name named given. some_by c.found_line.result _ _ c.found_line.ensures.placed (λ line placed.
    let known = g.F.Files.known c.args.files.now in
    let at = subst (λ (o : Option (List ℕ)). IfSome o (λ n. IsInterchangeLine (known.given n) (edi.Tag 5) line.items)) named placed in
    said (known.given name) line.items given at)
