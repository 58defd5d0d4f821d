use Rattle.std.proofs.Common.{refl}
use Rattle.std.specs.Fmt.{digits}
use Rattle.csv.specs.Writing.{fields_text, is_blank, escaped}
use Rattle.crp_callers.specs.TwoBays.{quoted_yard}
use Rattle.crp_callers.proofs.yards.quoted_name.Goals as goal

pub returns-clause-written : goal.returns-clause-written
unfolding digits fields_text is_blank escaped
returns-clause-written c = refl

pub returns-clause-read : goal.returns-clause-read
unfolding digits fields_text is_blank escaped
returns-clause-read c = c.text_reads_back.ensures quoted_yard
