use Rattle.crp_loading.proofs.SameRecords.{columns_same, counts_same}
use Rattle.crp_loading.proofs.laws.same_records.Goals as goal

pub returns : goal.returns
returns c = record { columns = columns_same; each = counts_same }
