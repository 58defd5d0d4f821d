use Rattle.std.proofs.Common.{◌++◌, ap}
use Rattle.crp_cert.specs.Text.{title_line}
use Rattle.crp_cert.proofs.Settled.{title_short}
use Rattle.crp_cert.proofs.Readers.{title_reader}
use Rattle.crp_cert.proofs.reading.read_title.Goals as goal

pub returns-clause-found : goal.returns-clause-found
returns-clause-found c =
    let version = c.in_ok-version.version in
    record {
      line = title_line version;
      ends = title_short version;
      is = (title_reader.takes c.args.bytes.now version c.in_ok-version.rest.now c.in_ok-version.ensures).1;
      rows = tt;
      leads = λ before has. ap (λ l. l ++ title_line version) has;
    }
