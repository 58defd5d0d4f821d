use Rattle.crp_sizes.proofs.Cases.{listed, empty, nine, again, zero_bay, thirteen, bare}
use Rattle.crp_sizes.proofs.laws.worked_cases.Goals as goal

pub returns : goal.returns
returns c = record { listed = listed; empty = empty; nine = nine; again = again; zero = zero_bay; thirteen = thirteen; bare = bare }
