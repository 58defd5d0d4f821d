use Rattle.std.proofs.Common.{ℕ, List, ◌++◌, ap, ◌∙◌, subst}
use Rattle.crp_plan.specs.Faults.{stacks_of}
use Rattle.crp_cert.specs.Text.{title_line, bay_line, size_line, stated_heights, row_line}
use Rattle.crp_cert.specs.Faults.{IsNextStack}
use Rattle.crp_cert.proofs.Settled.{row_is_short}
use Rattle.crp_cert.proofs.LinesOfHead.{row_added}
use Rattle.crp_cert.proofs.reading.read_row.Goals as goal

pub returns-clause-found : goal.returns-clause-found
returns-clause-found c =
    let rows = c.args.rows in
    let old : List (List ℕ) = stacks_of rows.stacks.items in
    let found = rw c.in-Some.is at c.in_ok-rest.ensures.found in
    let stack : List ℕ = found.0 in
    let next : IsNextStack rows.size rows.heights.items old stack = subst (λ h. IsNextStack rows.size h old stack) c.as_slice.ensures.value found.1 in
    record {
      line = row_line stack;
      ends = row_is_short rows.size rows.heights.items old stack rows.is_size rows.are_heights next;
      is = found.2;
      rows = tt;
      leads = λ before has. (
        has.0,
        ap (λ l. l ++ row_line stack) has.1
            ∙ row_added (title_line rows.version) (bay_line rows.bay) (size_line rows.size) (stated_heights rows.version rows.heights.items) old (stacks_of c.next_stack.new.stacks.items) stack found.3,
      );
    }
