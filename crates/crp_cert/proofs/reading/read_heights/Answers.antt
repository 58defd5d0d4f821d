use Rattle.std.proofs.Common.{ℕ, List}
use Rattle.crp_cert.specs.Text.{heights_line}
use Rattle.crp_cert.proofs.Settled.{heights_short}
use Rattle.crp_cert.proofs.Heights.{line_reader}
use Rattle.crp_cert.proofs.Readers.{none_stands}
use Rattle.crp_cert.proofs.LinesOfHead.{stated_rows}
use Rattle.crp_cert.proofs.reading.read_heights.Goals as goal

pub returns-in_err-heights-clause-none : goal.returns-in_err-heights-clause-none
returns-in_err-heights-clause-none c = rw c.from_residual.ensures (none_stands (line_reader c.args.sized.size c.args.sized.is_size) c.args.bytes.now c.in_err-heights.ensures)

pub no_rows-requires-clause-heights : goal.no_rows-requires-clause-heights
no_rows-requires-clause-heights c = ((line_reader c.args.sized.size c.args.sized.is_size).takes c.args.bytes.now c.in_ok-heights.heights.items c.in_ok-heights.rest.now c.in_ok-heights.ensures).0

pub returns-clause-found : goal.returns-clause-found
returns-clause-found c =
    let sized = c.args.sized in
    let heights : List ℕ = c.in_ok-heights.heights.items in
    let t = (line_reader sized.size sized.is_size).takes c.args.bytes.now heights c.in_ok-heights.rest.now c.in_ok-heights.ensures in
    let made = c.no_rows.ensures in
    record {
      line = heights_line heights;
      ends = heights_short sized.size heights sized.is_size t.0;
      is = t.1;
      rows = tt;
      leads = λ before has. stated_rows before c.no_rows.result sized.version sized.bay sized.size heights sized.with_heights made.version made.bay made.size made.heights made.stacks t.0 has.0 has.1;
    }
