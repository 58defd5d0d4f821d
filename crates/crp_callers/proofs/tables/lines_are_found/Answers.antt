use Rattle.std.proofs.Common.{◌++◌}
use Rattle.crp_callers.proofs.tables.lines_are_found.Goals as goal

pub returns : goal.returns
returns c = λ text before later line is. let stands = c.lines_are_numbered.ensures text before later line is in (stands.front, stands.cr ++ stands.rest, stands.bytes_are, stands.number_is)
