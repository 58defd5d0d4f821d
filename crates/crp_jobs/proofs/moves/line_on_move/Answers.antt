use Rattle.std.proofs.Common.{Bool, List, ℕ, subst}
use Rattle.crp_jobs.specs.Moves.{IsMoveLineOf}
use Rattle.crp_jobs.specs.Partial.{IsReportIn}
use Rattle.crp_jobs.proofs.AgainSteps.{some_by}
use Rattle.crp_jobs.proofs.moves.line_on_move.Goals as goal

pub returns-clause-said : goal.returns-clause-said
returns-clause-said g c =
    let known = g.F.Files.known c.args.files.now in
    let whole = c.in_ok-report.report in
    let read = c.in_ok-report.ensures in
    some_by c.line_over_yard.result _ _ c.line_over_yard.ensures.said (λ line is. (
      read.0,
      read.1,
      (
        whole.text.items,
        whole.bays,
        subst (λ (p : Bool). IsReportIn p read.0 whole.text.items whole.bays) c.is_partial.ensures read.2,
        subst (λ (r : List ℕ). IsMoveLineOf known c.args.job.now r c.args.what c.args.number line.items) c.as_slice.ensures.value is,
      ),
    ))
