use Rattle.std.proofs.Common.{◌≡◌, false, length}
use Rattle.crp_solve.specs.Deepening.{distance}
use Rattle.crp_solve.proofs.Rising.{IsRising}
use Rattle.crp_solve.proofs.alone.found_alone.Given as goal

abbrev pub invariant-loop-left : goal.invariant-loop-left
invariant-loop-left l = record {
  rising : IsRising l.problem l.settings l.known;
  one_part : length l.known.cert.parts ≡ 1;
  goes_on : l.known.stopped ≡ false;
}

abbrev pub decreases-loop-left : goal.decreases-loop-left
decreases-loop-left l = distance l.problem l.settings.budget l.known

abbrev pub ghosts-search_all : goal.ghosts-search_all
ghosts-search_all a = record { first = a.first }
