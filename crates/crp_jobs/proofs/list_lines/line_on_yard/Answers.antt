use Rattle.std.proofs.Common.{ℕ, subst, sym}
use Rattle.crp_yard.specs.declared.fault.YardFault.{YardFault}
use Rattle.crp_jobs.specs.declared.headers.ListKind.TheVariants as list
use Rattle.crp_jobs.specs.ListLines.{IsHeaderLine, IsYardLine}
use Rattle.crp_jobs.proofs.AgainSteps.{some_by}
use Rattle.crp_jobs.proofs.list_lines.line_on_yard.Goals as goal

pub returns-in-Header-clause-said : goal.returns-in-Header-clause-said
returns-in-Header-clause-said g c =
    let known = g.F.Files.known c.args.files.now in
    let given = known.given c.args.name.now in
    some_by c.line_without_header.result _ _ c.line_without_header.ensures.said (λ line is.
    subst (λ (f : YardFault). IsYardLine known c.args.job.now given f line.items) (sym c.in-Header.is)
    (subst (λ (s : ℕ). IsHeaderLine list.Yard s given line.items) c.separator-separator.ensures is))
