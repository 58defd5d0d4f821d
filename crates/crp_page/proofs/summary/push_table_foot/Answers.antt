use Rattle.std.proofs.Common.{length, map}
use Rattle.std.specs.Prelude.{codes, decimal}
use Rattle.std.proofs.lemmas.List.{length-map}
use Rattle.crp_follow.specs.Views.{bay_followed}
use Rattle.crp_page.specs.Counts.{decided_in, sums_of}
use Rattle.crp_page.specs.Words.{counted}
use Rattle.crp_page.specs.Summary.{cells}
use Rattle.crp_page.proofs.Chains.{regroup7}
use Rattle.crp_page.proofs.summary.push_table_foot.Goals as goal

pub returns : goal.returns
returns c =
    let bays = map bay_followed c.args.bays.now in
    rw (
      c.in_ok-extend_from_slice-4.ensures.items,
      c.in_ok-push_cells.ensures,
      c.in_ok-extend_from_slice-3.ensures.items,
      c.in_ok-push_decimal.ensures,
      c.in_ok-extend_from_slice-2.ensures.items,
      c.in_ok-push_counted.ensures,
      c.in_ok-extend_from_slice.ensures.items,
      c.decided_in.ensures,
      c.sums_of.ensures.value,
      length-map c.args.bays.now bay_followed,
    )
    (regroup7 c.args.text.now.items (codes "</tbody><tfoot><tr><th scope=\"row\">") (counted (length c.args.bays.now) (codes "bay")) (codes "</th><td>") (decimal (decided_in bays))
    (codes " decided, as the report says</td>") (cells (sums_of bays)) (codes "</tfoot></table>\n"))
