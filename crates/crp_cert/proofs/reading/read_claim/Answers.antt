use Rattle.std.proofs.Common.{◌++◌, ap, arith}
use Rattle.crp_cert.specs.Text.{claim_line}
use Rattle.crp_cert.specs.Faults.{most_claimed}
use Rattle.crp_cert.proofs.Settled.{claim_short}
use Rattle.crp_cert.proofs.Stacks.{few_claimed}
use Rattle.crp_cert.proofs.Readers.{claim_reader, none_stands}
use Rattle.crp_cert.proofs.reading.read_claim.Goals as goal

pub returns-in_err-claim-clause-none : goal.returns-in_err-claim-clause-none
returns-in_err-claim-clause-none c =
    let rows = c.args.rows in
    rw c.from_residual.ensures (
      λ more. absurd (let all = c.requires in omega arith),
      λ all. none_stands (claim_reader rows.version (most_claimed rows.size) (few_claimed rows.size rows.is_size)) c.args.bytes.now (rw c.most_claimed.ensures at c.in_err-claim.ensures),
    )

pub returns-clause-found : goal.returns-clause-found
returns-clause-found c =
    let rows = c.args.rows in
    let claim = c.in_ok-claim.claim in
    let low = few_claimed rows.size rows.is_size in
    let t = (claim_reader rows.version (most_claimed rows.size) low).takes c.args.bytes.now claim c.in_ok-claim.rest.now (rw c.most_claimed.ensures at c.in_ok-claim.ensures) in
    record {
      line = claim_line claim;
      ends = claim_short (most_claimed rows.size) claim low t.0.within;
      is = t.1;
      rows = tt;
      leads = λ before has. (has.0, t.0, ap (λ l. l ++ claim_line claim) has.1);
    }
