use Rattle.std.proofs.Common.{List, ℕ, sym, subst}
use Rattle.crp_jobs.specs.declared.job.Job.{Job}
use Rattle.crp_jobs.specs.OtherSettings.{AreSettingWords, IsMisfitLine}
use Rattle.crp_jobs.specs.ReportLines.{IsEndedLine}
use Rattle.crp_jobs.proofs.AgainSteps.{some_by}
use Rattle.crp_jobs.proofs.other_settings.line_on_misfit.Goals as goal

pub returns-clause-said : goal.returns-clause-said
returns-clause-said g c =
    let known = g.F.Files.known c.args.files.now in
    let given = known.given c.args.name.now in
    let names = c.in-Audit.names in
    let chosen = c.in-Audit.settings in
    let words = c.in_ok-words.words.now in
    some_by c.line_on_ended.result _ _ c.line_on_ended.ensures.said (λ line is. subst (λ (j : Job). IsMisfitLine known j given c.args.number line.items) (sym c.in-Audit.is) (
      words,
      subst (λ (j : Job). AreSettingWords known j names chosen words) c.in-Audit.is c.in_ok-words.ensures,
      subst (λ (w : List ℕ). IsEndedLine given c.args.number w line.items) c.as_bytes.ensures.value is,
    ))
