use Rattle.std.proofs.Common.{◌∙◌, List, ℕ, ap}
use Rattle.crp_jobs.specs.Headers.{list_text}
use Rattle.crp_jobs.specs.Placed.{shown}
use Rattle.crp_jobs.proofs.list_lines.line_without_header.Goals as goal

pub returns-clause-said : goal.returns-clause-said
returns-clause-said g c = (
  c.in_ok-front.front.items,
  c.in_ok-front.ensures.front,
  c.line_on_header.ensures.said ∙ ap (λ (t : List ℕ). shown (list_text c.args.kind c.args.separator t)) (c.without_mark.ensures.stripped ∙ ap Rattle.csv.specs.Reading.strip_bom c.as_slice.ensures.value),
)
