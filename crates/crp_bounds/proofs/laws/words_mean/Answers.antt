use Rattle.crp_bounds.proofs.BlockingPlaces.{blocking_counts}
use Rattle.crp_bounds.proofs.Meaning.{no_place_elsewhere, elsewhere_no_place, cut_reads}
use Rattle.crp_bounds.proofs.Turns.{summed, absent_reads}
use Rattle.crp_bounds.proofs.laws.words_mean.Goals as goal

pub returns : goal.returns
returns c = record {
  blocking = λ s. blocking_counts s.ordered s.stacks;
  no_place = λ ordered k own heights stacks stack x here held once. (
    no_place_elsewhere ordered k own heights stacks stack x here held once,
    elsewhere_no_place ordered k own heights stacks stack x here held,
  );
  cut = cut_reads;
  look_ahead = summed;
  absent = absent_reads;
}
