use Rattle.std.proofs.lemmas.List.{take-replicate}
use Rattle.crp_yard.proofs.reading.all_of.Goals as goal

pub returns : goal.returns
returns c = rw (take-replicate c.args.rows 12 c.args.tiers c.requires.few_rows) at c.of_heights.ensures
