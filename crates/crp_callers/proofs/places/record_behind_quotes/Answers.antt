use Rattle.csv.specs.Machine.{next_record}
use Rattle.csv.specs.Reading.{strip_bom}
use Rattle.crp_callers.proofs.places.record_behind_quotes.Goals as goal

pub returns : goal.returns
unfolding next_record strip_bom
returns c = c.record_at.ensures.place
