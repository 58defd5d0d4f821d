use Rattle.crp_bay.proofs.Reaching.{reached_sound, reached_settled, reached_rows, reached_same_rows, reached_low, reached_ordered, reached_next}
use Rattle.crp_bay.proofs.laws.reached_positions.Goals as goal

pub returns : goal.returns
returns c = record {
  sound = reached_sound;
  settled = reached_settled;
  rows = reached_rows;
  same_rows = reached_same_rows;
  heights = reached_low;
  ordered = reached_ordered;
  next = reached_next;
}
