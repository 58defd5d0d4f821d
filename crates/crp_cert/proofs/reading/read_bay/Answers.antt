use Rattle.std.proofs.Common.{◌++◌, ap}
use Rattle.crp_cert.specs.Text.{bay_line}
use Rattle.crp_cert.proofs.Settled.{bay_short}
use Rattle.crp_cert.proofs.reading.read_bay.Goals as goal

pub returns-clause-found : goal.returns-clause-found
returns-clause-found c =
    let found = c.in_ok-bay.ensures.found in
    record {
      line = bay_line c.in_ok-bay.bay;
      ends = bay_short c.in_ok-bay.bay found.0;
      is = found.1;
      rows = tt;
      leads = λ before has. (found.0, ap (λ l. l ++ bay_line c.in_ok-bay.bay) has);
    }
