use Rattle.std.proofs.Common.{refl}
use Rattle.crp_follow.proofs.table.Table.empty.Goals as goal

pub returns : goal.returns
returns c = rw (c.from_writer.ensures.wtr, c.new-2.ensures.items, c.from_writer.ensures.empty) refl
