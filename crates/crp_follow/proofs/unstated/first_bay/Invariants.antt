-- The report has the bays so far.
use Rattle.std.proofs.Common.{◌≡◌, ◌+◌, map, drop}
use Rattle.std.specs.Prelude.{not}
use Rattle.std.specs.List.{position_from}
use Rattle.crp_follow.specs.Unstated.{has_bay}
use Rattle.crp_follow.specs.Views.{bay_followed}
use Rattle.crp_follow.proofs.unstated.first_bay.Given as goal

abbrev pub invariant-loop-i : goal.invariant-loop-i
invariant-loop-i l = position_from (λ name. not (has_bay (map bay_followed l.bays) name)) 1 l.names
    ≡ position_from (λ name. not (has_bay (map bay_followed l.bays) name)) (1 + l.i) (drop l.i l.names)
