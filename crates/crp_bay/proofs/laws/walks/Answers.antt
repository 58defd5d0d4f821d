use Rattle.crp_bay.proofs.Walked.{begins_at, at_reads, at_means, target_goes_on, every_target, row_is_target}
use Rattle.crp_bay.proofs.Reaching.{targets_rise, can_from_target}
use Rattle.crp_bay.proofs.laws.walks.Goals as goal

pub returns : goal.returns
returns c = record {
  begins = begins_at;
  sound = at_reads;
  complete = at_means;
  goes_on = target_goes_on;
  every_row = every_target;
  rising = targets_rise;
  row_test = λ s row. (can_from_target s row, row_is_target s row);
}
