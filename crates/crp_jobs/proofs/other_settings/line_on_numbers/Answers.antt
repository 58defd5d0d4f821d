use Rattle.std.proofs.Common.{◌∙◌, List, ℕ, sym, subst}
use Rattle.crp_jobs.specs.declared.job.Job.{Job}
use Rattle.crp_jobs.specs.OtherSettings.{AreInputNumbers, IsNumbersLine}
use Rattle.crp_jobs.specs.ReportLines.{IsEndedLine}
use Rattle.crp_jobs.proofs.AgainSteps.{some_by}
use Rattle.crp_jobs.proofs.other_settings.line_on_numbers.Goals as goal

pub returns-clause-said : goal.returns-clause-said
returns-clause-said g c =
    let known = g.F.Files.known c.args.files.now in
    let given = known.given c.args.name.now in
    let names = c.in-Audit.names in
    let chosen = c.in-Audit.settings in
    let numbers = c.in_ok-numbers.numbers in
    some_by c.line_on_ended.result _ _ c.line_on_ended.ensures.said (λ line is. subst (λ (j : Job). IsNumbersLine known j given line.items) (sym c.in-Audit.is) (
      numbers,
      subst (λ (j : Job). AreInputNumbers known j names chosen numbers) c.in-Audit.is c.in_ok-numbers.ensures,
      subst (λ (w : List ℕ). IsEndedLine given 1 w line.items) (c.as_slice.ensures.value ∙ c.in-Ok.ensures) is,
    ))
