use Rattle.std.proofs.Common.{◌∙◌, List, ℕ, Option, ap, option_map}
use Rattle.csv.specs.Reading.{strip_bom}
use Rattle.crp_follow.specs.Lines.{without_cr}
use Rattle.crp_jobs.specs.Placed.{shown}
use Rattle.crp_jobs.specs.ReportLines.{line_numbered, numbered_text}
use Rattle.crp_jobs.proofs.report_lines.line_on_followed.Goals as goal

pub returns-clause-said : goal.returns-clause-said
returns-clause-said g c =
    let text = c.without_mark-text.result.now in
    let n = c.args.number in
    let stripped = c.without_mark-text.ensures.stripped ∙ ap strip_bom c.as_slice.ensures.value in (
      c.in_ok-bytes.bytes.items,
      c.in_ok-bytes.ensures.front,
      c.in-Ok.ensures.said ∙ ap (λ (o : Option (List ℕ)). shown (numbered_text n text o)) c.line_without_cr.ensures
          ∙ ap (λ (t : List ℕ). shown (numbered_text n t (option_map without_cr (line_numbered t n)))) stripped,
    )
