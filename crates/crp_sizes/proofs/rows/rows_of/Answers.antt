use Rattle.std.proofs.Common.{◌∙◌, inr}
use Rattle.crp_sizes.proofs.rows.rows_of.Goals as goal

pub returns : goal.returns
returns c =
    let fr = c.from_reader-reader.ensures in
    let h = c.has_headers.ensures in
    let e = c.flexible.ensures in
    let rdr = c.into_byte_records.ensures.rdr in
    rw rdr (record {
      trim = rw (e, h) at fr.trim ∙ c.new.ensures.trim;
      ready = inr (inr (rw (e, h) at fr.has_headers, fr.headers));
      left = c.into_byte_records.ensures.left;
      config = rw (e, h) at fr.config ∙ c.new.ensures.config;
      flexible = rw e at fr.flexible;
      source = fr.source;
      state = fr.state;
    })
