use Rattle.std.proofs.Common.{[], ◌∷◌}
use Rattle.std.specs.Prelude.{codes, decimal}
use Rattle.crp_follow.specs.Views.{bay_followed}
use Rattle.crp_page.specs.Counts.{counts_of}
use Rattle.crp_page.specs.Words.{bay_name, verdict}
use Rattle.crp_page.specs.Summary.{cells}
use Rattle.crp_page.proofs.Chains.{regroup9}
use Rattle.crp_page.proofs.summary.push_table_row.Goals as goal

pub returns : goal.returns
returns c =
    let bay = bay_followed c.args.bay.now in
    rw (
      c.in_ok-push.ensures.items,
      c.in_ok-push_cells.ensures,
      c.in_ok-extend_from_slice-4.ensures.items,
      c.in_ok-push_verdict.ensures,
      c.in_ok-extend_from_slice-3.ensures.items,
      c.in_ok-push_bay_name.ensures,
      c.in_ok-extend_from_slice-2.ensures.items,
      c.in_ok-push_decimal.ensures,
      c.in_ok-extend_from_slice.ensures.items,
      c.counts_of.ensures.value,
    )
    (regroup9 c.args.text.now.items (codes "<tr><th scope=\"row\"><a href=\"#b") (decimal c.args.number) (codes "\">") (bay_name bay.stated.bay) (codes "</a></th><td>") (verdict bay.stated.said)
    (codes "</td>") (cells (counts_of bay)) (10 ∷ []))
